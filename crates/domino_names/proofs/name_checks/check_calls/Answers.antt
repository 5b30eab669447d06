use Rattle.std.proofs.Common.{sym, ap, ◌∙◌, true≢false}
use Rattle.domino_names.specs.declared.fault.CheckFault.TheVariants as fault
use Rattle.domino_names.specs.Checks.{ArityAt, is_miscalled}
use Rattle.domino_names.proofs.FirstLemmas.{none_at_start, none_more, first_at}
use Rattle.domino_names.proofs.name_checks.check_calls.Goals as goal

pub loop-used-init : goal.loop-used-init
loop-used-init c = none_at_start ArityAt

pub returns-then-is_miscalled-clause-refuses : goal.returns-then-is_miscalled-clause-refuses
returns-then-is_miscalled-clause-refuses c = λ _.
    first_at ArityAt c.args.uses.now c.loop-used.used-index c.used-item.result _ c.loop-used-test.true c.used-item.is c.loop-used.invariant (
      (λ i. is_miscalled (sym c.name.ensures i) (sym c.role.ensures i)) ∙ sym c.is_miscalled.ensures ∙ c.if-is_miscalled.true,
      ap fault.Arity (c.in_ok-copy_name.ensures ∙ c.name-then-is_miscalled.ensures),
    )

pub loop-used-preserved : goal.loop-used-preserved
loop-used-preserved c =
    none_more ArityAt c.args.uses.now c.loop-used.used-index c.used-item.result c.loop-used-test.true c.used-item.is c.loop-used.invariant
    (λ g a. true≢false (sym a.0 ∙ (λ i. is_miscalled (sym c.name.ensures i) (sym c.role.ensures i)) ∙ sym c.is_miscalled.ensures ∙ c.if-is_miscalled.false))
