use Rattle.std.proofs.Common.{rules, w32, to_z, of_z, FitsSigned, Some, sym, ap, ◌∙◌}
use Rattle.std.proofs.lemmas.Int.{to_z-of_z}
use Rattle.domino_names.specs.declared.fault.CheckFault.TheVariants as fault
use Rattle.domino_names.specs.Checks.{BadLengthAt}
use Rattle.domino_names.specs.Symbols.{defines_in}
use Rattle.domino_names.proofs.FirstLemmas.{none_at_start, none_more, none_at_end, first_at}
use Rattle.domino_names.proofs.size_checks.check_items.Goals as goal

pub loop-item-init : goal.loop-item-init
loop-item-init c = none_at_start (BadLengthAt (defines_in c.args.symbols.now))

pub returns-in-Some-clause-refuses : goal.returns-in-Some-clause-refuses
returns-in-Some-clause-refuses c = λ _.
    let fits : FitsSigned w32 c.in-Some.length = search rules in
    first_at (BadLengthAt (defines_in c.args.symbols.now)) c.args.items.now c.loop-item.item-index c.item-item.result _ c.loop-item-test.true c.item-item.is c.loop-item.invariant
    (to_z w32 (of_z w32 c.in-Some.length), sym c.bad_length.ensures ∙ c.in-Some.is ∙ ap Some (sym (to_z-of_z w32 c.in-Some.length fits)), (λ i. fault.BadLength ((c.in_ok-name.ensures ∙ c.item_name.ensures) i) (to_z w32 (of_z w32 c.in-Some.length))))

pub loop-item-preserved : goal.loop-item-preserved
loop-item-preserved c =
    none_more (BadLengthAt (defines_in c.args.symbols.now)) c.args.items.now c.loop-item.item-index c.item-item.result c.loop-item-test.true c.item-item.is c.loop-item.invariant
    (λ g a. c.in_default.not-Some a.0 (c.bad_length.ensures ∙ a.1))

pub returns-clause-passes : goal.returns-clause-passes
returns-clause-passes c = none_at_end (BadLengthAt (defines_in c.args.symbols.now)) c.args.items.now c.loop-item.item-index c.loop-item-test.false c.loop-item.invariant
