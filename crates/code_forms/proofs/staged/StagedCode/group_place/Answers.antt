use Rattle.std.proofs.Common.{◌≡◌, ◌∙◌, ℕ, true, slice_index, sym, ap, subst}
use Rattle.std.specs.List.{list_any}
use Rattle.code_forms.specs.declared.parts.StagedGroup.{StagedGroup}
use Rattle.code_forms.specs.declared.spot.Spot.{Spot}
use Rattle.code_forms.specs.Staged.{Staged, group_at, guards_of, slot_of_index, first_array}
use Rattle.code_forms.specs.StagedMeaning.{is_open, is_touching}
use Rattle.code_forms.specs.Spots.{AreSpots, spot_at}
use Rattle.mp5_words.specs.Cells.{word_at, natural}
use Rattle.code_forms.proofs.PlaceLemmas.{sharded_place, first_slot}
use Rattle.code_forms.proofs.staged.StagedCode.group_place.Goals as goal

pub returns-then-group : goal.returns-then-group
returns-then-group c =
    let code : Staged = c.args.self.now in
    let group : StagedGroup = group_at code c.args.g in
    let arrays : c.as_slice-arrays.result.now ≡ group.arrays = c.as_slice-arrays.ensures ∙ ap (λ (g : StagedGroup). g.arrays) c.group-group.ensures.group in
    let flat : c.as_slice.result.now ≡ code.arrays = c.as_slice.ensures ∙ ap (λ (s : Staged). s.arrays) c.self.view_is in
    let table = subst (λ (s : Staged). AreSpots s c.self.inside.spots) c.self.view_is c.self.invariant.spots in
    let touched : list_any (is_touching code c.args.room.now) group.arrays ≡ true =
    (λ j. list_any (λ (a : ℕ). is_open c.args.room.now (guards_of (sym flat j) a)) (sym arrays j)) ∙ sym c.some_touched.ensures ∙ c.if-not-some_touched.false in
    let sharded : group.sharded ≡ true = sym (ap (λ (g : StagedGroup). g.sharded) c.group-group.ensures.group) ∙ c.if-group.true in
    let slot : c.spot_of-index.result.index ≡ slot_of_index code (first_array group) =
    ap (λ (s : Spot). s.index) c.spot_of-index.ensures
    ∙ (λ j. (spot_at (c.as_slice-then-group.ensures j) (slice_index (arrays j) 0)).index)
    ∙ first_slot code c.self.inside.spots c.args.g table c.group-group.ensures.laws in
    sharded_place code c.args.room.now group c.index_at.result touched sharded (c.index_at.ensures.value ∙ ap (λ n. natural (word_at c.args.room.now n)) slot)
