use Rattle.std.proofs.Common.{inl, inr, sym, ◌∙◌, subst}
use Rattle.std.proofs.lemmas.Result.{err_from_is_err_and, IfErr-weaker}
use Rattle.domino_names.specs.NamesRefused.{RefusedNames, RefusedSizes}
use Rattle.domino_check.proofs.PartsLemmas.{numbers_of}
use Rattle.domino_check.proofs.all_checks.checked_parts.Goals as goal

pub returns-in_err-symbols-clause-refused : goal.returns-in_err-symbols-clause-refused
returns-in_err-symbols-clause-refused c =
    let e = err_from_is_err_and c.from_residual.result c.from_residual.ensures.1 in
    rw e.1 (λ n. inl (subst (RefusedNames c.args.program.now) (sym e.2) (c.in_err-symbols.ensures.refuses (λ m. n (e.2 ∙ m)))))

pub returns-in_err-check_sizes-clause-refused : goal.returns-in_err-check_sizes-clause-refused
returns-in_err-check_sizes-clause-refused c =
    let e = err_from_is_err_and c.from_residual-in_err-check_sizes.result c.from_residual-in_err-check_sizes.ensures.1 in
    rw e.1 (λ n. inr (c.in_ok-symbols.ensures.passes, inl (subst (RefusedSizes c.args.program.now) (sym e.2) (c.in_err-check_sizes.ensures.refuses (λ m. n (e.2 ∙ m))))))

pub check_sizes-requires : goal.check_sizes-requires
check_sizes-requires c = numbers_of c.args.program.now c.in_ok-symbols.symbols c.in_ok-symbols.ensures.symbols c.in_ok-symbols.ensures.passes.once

pub returns-clause-refused : goal.returns-clause-refused
returns-clause-refused c =
    IfErr-weaker c.parts_of.result _ _ (λ f h n. inr (c.in_ok-symbols.ensures.passes, inr (c.in_ok-check_sizes.ensures.passes, h n))) c.parts_of.ensures.refuses
