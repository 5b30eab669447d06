use Rattle.std.proofs.Common.{sym, ap, ◌∙◌, true≢false}
use Rattle.domino_names.specs.declared.fault.CheckFault.TheVariants as fault
use Rattle.domino_names.specs.Checks.{WrongKindAt, is_misused}
use Rattle.domino_names.specs.Symbols.{kinds_at}
use Rattle.domino_names.proofs.FirstLemmas.{none_at_start, none_more, first_at}
use Rattle.domino_names.proofs.name_checks.check_kinds.Goals as goal

pub loop-used-init : goal.loop-used-init
loop-used-init c = none_at_start (WrongKindAt (kinds_at c.args.symbols.now))

pub returns-then-is_misused-clause-refuses : goal.returns-then-is_misused-clause-refuses
returns-then-is_misused-clause-refuses c = λ _.
    first_at (WrongKindAt (kinds_at c.args.symbols.now)) c.args.uses.now c.loop-used.used-index c.used-item.result _ c.loop-used-test.true c.used-item.is c.loop-used.invariant (
      (λ i. is_misused (sym c.role.ensures i) (sym c.kind_for.ensures i)) ∙ sym c.is_misused.ensures ∙ c.if-is_misused.true,
      ap fault.WrongKind (c.in_ok-copy_name.ensures ∙ c.name.ensures),
    )

pub loop-used-preserved : goal.loop-used-preserved
loop-used-preserved c =
    none_more (WrongKindAt (kinds_at c.args.symbols.now)) c.args.uses.now c.loop-used.used-index c.used-item.result c.loop-used-test.true c.used-item.is c.loop-used.invariant
    (λ g a. true≢false (sym a.0 ∙ (λ i. is_misused (sym c.role.ensures i) (sym c.kind_for.ensures i)) ∙ sym c.is_misused.ensures ∙ c.if-is_misused.false))
