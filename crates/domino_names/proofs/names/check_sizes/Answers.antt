use Rattle.std.proofs.Common.{inl, inr, sym, ◌∙◌, subst}
use Rattle.std.proofs.lemmas.Result.{err_from_is_err_and, on_ok_weaker, IfErr-weaker}
use Rattle.domino_names.specs.Checks.{FirstBadLength}
use Rattle.domino_names.proofs.names.check_sizes.Goals as goal

pub returns-in_err-check_lengths-clause-refuses : goal.returns-in_err-check_lengths-clause-refuses
returns-in_err-check_lengths-clause-refuses c =
    let e = err_from_is_err_and c.from_residual.result c.from_residual.ensures.1 in
    rw e.1 (λ n. inl (subst (FirstBadLength c.args.program.now) (sym e.2) (c.in_err-check_lengths.ensures.refuses (λ m. n (e.2 ∙ m)))))

pub returns-clause-passes : goal.returns-clause-passes
returns-clause-passes c = on_ok_weaker c.check_counts.result (λ h. record { lengths = c.in_ok-check_lengths.ensures.passes; few = h }) c.check_counts.ensures.passes

pub returns-clause-refuses : goal.returns-clause-refuses
returns-clause-refuses c = IfErr-weaker c.check_counts.result _ _ (λ f h n. inr (c.in_ok-check_lengths.ensures.passes, h n)) c.check_counts.ensures.refuses
