use Rattle.std.proofs.Common.{◌≡◌, ◌<◌, ◌∙◌, ℕ, List, length, subst, sym, ap}
use Rattle.code_forms.specs.declared.parts.StagedGroup.{StagedGroup}
use Rattle.code_forms.specs.Staged.{group_at, first_array}
use Rattle.code_forms.proofs.StagedLemmas.{first_member}
use Rattle.code_forms.proofs.staged.StagedCode.units.Goals as goal

pub bounds-as_slice-0 : goal.bounds-as_slice-0
bounds-as_slice-0 c =
    let arrays : c.as_slice.result.now ≡ (group_at c.args.self.now c.args.g).arrays = c.as_slice.ensures ∙ ap (λ (g : StagedGroup). g.arrays) c.group-group.ensures.group in
    subst (λ (l : List ℕ). 0 < length l) (sym arrays) c.group-group.ensures.laws.some

pub length-requires : goal.length-requires
length-requires c =
    let arrays : c.as_slice.result.now ≡ (group_at c.args.self.now c.args.g).arrays = c.as_slice.ensures ∙ ap (λ (g : StagedGroup). g.arrays) c.group-group.ensures.group in
    let first = first_member (group_at c.args.self.now c.args.g).arrays c.group-group.ensures.laws.some in
    subst (λ (l : List ℕ). first_array record { arrays = l; sharded = c.group-group.result.now.sharded; depth = 0 } < length c.args.self.now.arrays) (sym arrays) (c.group-group.ensures.laws.there (first_array (group_at c.args.self.now c.args.g)) first).0
