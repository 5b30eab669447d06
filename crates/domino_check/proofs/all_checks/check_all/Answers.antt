use Rattle.std.proofs.Common.{sym, ◌∙◌, subst}
use Rattle.std.proofs.lemmas.Result.{err_from_is_err_and}
use Rattle.domino_check.specs.Refused.{Refused}
use Rattle.domino_check.proofs.all_checks.check_all.Goals as goal

pub returns-in_err-parts-clause-refused : goal.returns-in_err-parts-clause-refused
returns-in_err-parts-clause-refused c =
    let e = err_from_is_err_and c.from_residual.result c.from_residual.ensures.1 in
    rw e.1 (λ n. subst (Refused c.args.program) (sym e.2) (c.in_err-parts.ensures.refused (λ m. n (e.2 ∙ m))))

pub returns-clause-passes : goal.returns-clause-passes
returns-clause-passes c = c.in_ok-parts.ensures.parts.passes
