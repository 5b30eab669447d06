use Rattle.domino_check.proofs.RefusedLemmas.{accepted, refused_by, one_refusal}
use Rattle.domino_check.proofs.all_checks.check.Goals as goal

pub returns-clause-accepts : goal.returns-clause-accepts
returns-clause-accepts c = accepted c.args.program c.check_all.result c.check_all.ensures.refused

pub returns-clause-refuses : goal.returns-clause-refuses
returns-clause-refuses c = refused_by c.args.program c.check_all.result c.check_all.ensures.passes c.check_all.ensures.refused

pub returns-clause-one_refusal : goal.returns-clause-one_refusal
returns-clause-one_refusal c = one_refusal c.args.program
