use Rattle.std.proofs.Common.{sym, ap, ◌∙◌, true≢false, is_none}
use Rattle.domino_names.specs.declared.fault.CheckFault.TheVariants as fault
use Rattle.domino_names.specs.Checks.{UnknownAt}
use Rattle.domino_names.specs.Symbols.{kinds_at}
use Rattle.domino_names.proofs.FirstLemmas.{none_at_start, none_more, first_at, tests_none}
use Rattle.domino_names.proofs.name_checks.check_known.Goals as goal

pub loop-used-init : goal.loop-used-init
loop-used-init c = none_at_start (UnknownAt (kinds_at c.args.symbols.now))

pub returns-then-is_none-clause-refuses : goal.returns-then-is_none-clause-refuses
returns-then-is_none-clause-refuses c = λ _.
    first_at (UnknownAt (kinds_at c.args.symbols.now)) c.args.uses.now c.loop-used.used-index c.used-item.result _ c.loop-used-test.true c.used-item.is c.loop-used.invariant (
      ap is_none (sym c.kind_for.ensures) ∙ tests_none c.kind_for.result c.is_none.result c.is_none.ensures ∙ c.if-is_none.true,
      ap fault.Unknown (c.in_ok-copy_name.ensures ∙ c.name.ensures),
    )

pub loop-used-preserved : goal.loop-used-preserved
loop-used-preserved c =
    none_more (UnknownAt (kinds_at c.args.symbols.now)) c.args.uses.now c.loop-used.used-index c.used-item.result c.loop-used-test.true c.used-item.is c.loop-used.invariant
    (λ g a. true≢false (sym a.0 ∙ ap is_none (sym c.kind_for.ensures) ∙ tests_none c.kind_for.result c.is_none.result c.is_none.ensures ∙ c.if-is_none.false))
