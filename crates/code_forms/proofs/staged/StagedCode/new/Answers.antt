use Rattle.std.proofs.Common.{◌≡◌, ◌∙◌, map, flat_map, sym, subst}
use Rattle.code_forms.specs.Staged.{Staged, staged_of, in_parts}
use Rattle.code_forms.specs.Needed.{IsKept, numbered_step, steps_of, group_slots, Leaves, GivesPlaces}
use Rattle.code_forms.proofs.NeededLemmas.{gives_places}
use Rattle.code_forms.proofs.staged.StagedCode.new.Goals as goal

pub invariant_of-result : goal.invariant_of-result
invariant_of-result c =
    let code : Staged = in_parts c.args.code.now c.args.parts in
    let arrays : c.in_ok-copy_of.field-0 ≡ code.arrays = c.in_ok-copy_of.ensures ∙ c.as_slice-flat.ensures in
    let instrs : c.in_ok-from_slice.field-0 ≡ code.instrs = c.in_ok-from_slice.ensures ∙ c.as_slice-instrs.ensures in
    let last : c.in_ok-from_slice-2.field-0 ≡ code.last = c.in_ok-from_slice-2.ensures ∙ c.as_slice-5.ensures in
    let same : staged_of code.fields c.in_ok-copy_of.field-0 c.in_ok-from_slice.field-0 c.in_ok-from_slice-2.field-0 c.args.parts ≡ code =
    (λ j. staged_of code.fields (arrays j) (instrs j) (last j) c.args.parts) in
    let steps : c.in_ok-steps.steps ≡ steps_of code =
    c.in_ok-steps.ensures ∙ (λ j. map (numbered_step code.fields (c.as_slice-instrs.ensures j)) (c.as_slice.ensures j)) in
    let slots : c.in_ok-slots.slots ≡ flat_map (group_slots code.arrays c.in_ok-spots.spots) code.groups =
    c.in_ok-slots.ensures ∙ (λ j. flat_map (group_slots (c.as_slice-flat.ensures j) (c.as_slice-3.ensures j)) (c.as_slice-2.ensures j)) in
    let leaves = subst (Leaves c.in_ok-slots.slots c.in_ok-needed.needed) c.as_slice-4.ensures c.in_ok-needed.ensures in
    let needed : GivesPlaces code c.in_ok-needed.needed = gives_places code c.in_ok-spots.spots c.in_ok-needed.needed c.in_ok-slots.slots c.requires.staged c.in_ok-spots.ensures slots leaves in
    subst (λ (s : Staged). IsKept s c.in_ok-spots.spots c.in_ok-steps.steps c.in_ok-needed.needed) (sym same)
    (record { staged = c.requires.staged; places = c.requires.places; spots = c.in_ok-spots.ensures; steps = steps; needed = needed })
