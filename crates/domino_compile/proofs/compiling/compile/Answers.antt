use Rattle.domino_compile.proofs.AcceptedLemmas as accepted
use Rattle.domino_compile.proofs.compiling.compile.Goals as goal

pub returns-clause-accepts : goal.returns-clause-accepts
returns-clause-accepts c = accepted.accepts c.args.text.now c.compile_text.result (c.compile_text.ensures.read, c.compile_text.ensures.refused)

pub returns-clause-refuses : goal.returns-clause-refuses
returns-clause-refuses c = accepted.refuses c.args.text.now c.compile_text.result (c.compile_text.ensures.read, c.compile_text.ensures.refused)

pub returns-clause-decides : goal.returns-clause-decides
returns-clause-decides c = accepted.decides

pub returns-clause-one_answer : goal.returns-clause-one_answer
returns-clause-one_answer c = accepted.accepted_or_not

pub returns-clause-one_program : goal.returns-clause-one_program
returns-clause-one_program c = accepted.one_accepted

pub returns-clause-one_refusal : goal.returns-clause-one_refusal
returns-clause-one_refusal c = accepted.one_fault
