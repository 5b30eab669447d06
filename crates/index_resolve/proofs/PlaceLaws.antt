-- What places tell, whatever is loaded.
use Rattle.std.proofs.Common.{◌≡◌, inl, inr, ℕ, ◌+◌, ◌<◌, ℤ, pos, Bool, true, false, ◌||◌, if◌then◌else◌, List, [], ◌∷◌, length, None, Some, refl, sym, ap, subst, ◌∙◌, arith}
use Rattle.std.specs.List.{list_any}
use Rattle.mp5_words.specs.Domain.{Mark, marks, Loads, words}
use Rattle.mp5_words.specs.Words.{truth, cell}
use Rattle.mp5_words.specs.Cells.{word_at, natural}
use Rattle.code_forms.specs.declared.flat.Operand.{Operand}
use Rattle.code_forms.specs.declared.flat.Operand.TheVariants as operand
use Rattle.code_forms.specs.declared.flat.Instr.TheVariants as instr
use Rattle.code_forms.specs.FlatMeaning.{flat_length, instr_value}
use Rattle.code_forms.specs.FlatValid.{is_touched, header_slots, after_all, is_life, events}
use Rattle.code_forms.specs.SameIndexes.{SameWords, index_word}
use Rattle.code_forms.specs.Staged.{Staged, Member, slot_of_index, operand_word, guards_of, group_at, first_array, IsStaged}
use Rattle.code_forms.specs.StagedMeaning.{is_touching, is_open, place, code_values, staged_loads, PlacesAreIndexes}
use Rattle.code_forms.proofs.StagedLemmas.{first_member, valued}
use Rattle.index_resolve.specs.Clean.{clean_slots}
use Rattle.index_resolve.specs.HeaderRun.{CanShard, code_marks, mark_at, operand_mark, is_reserved, unit_on, flat_place}
use Rattle.index_resolve.specs.HeaderSteps.{header_steps}
use Rattle.index_resolve.specs.Places.{HasPlaces, NoneTouched}
use Rattle.index_resolve.proofs.Related.{Tells, marks_tell, related_at}
use Rattle.index_resolve.proofs.CleanLemmas.{sources_are, tell_words}
use Rattle.index_resolve.proofs.IndexLemmas.{life_at, life_first, IsIndex, index_of}
use Rattle.index_resolve.proofs.PlaceLemmas.{arrays_fitting, IsClear, place_same}

-- an open one of these is none
any_false : {A : Type 0} (f : A → Bool) (b : Bool) (xs : List A) → (b || list_any f xs) ≡ false → (b ≡ false) × (list_any f xs ≡ false)
any_false f true xs e = absurd cc
any_false f false xs e = (refl, e)

-- where a test takes none of a list, it takes no member
pub no_member : (f : ℕ → Bool) (xs : List ℕ) (a : ℕ) → list_any f xs ≡ false → Member a xs → f a ≡ false
no_member f [] a e m = elim m [ ]
no_member f (x ∷ xs) a e (inl same) = ap f same ∙ (any_false f (f x) xs e).0
no_member f (x ∷ xs) a e (inr m) = no_member f xs a (any_false f (f x) xs e).1 m

some_place : (b : Bool) (u v : ℕ) → (if b then Some v else None) ≡ Some u → v ≡ u
some_place true u v e = cc
some_place false u v e = absurd cc

no_place : (b : Bool) (v : ℕ) → (if b then Some v else None) ≡ None → b ≡ false
no_place true v e = absurd cc
no_place false v e = refl

module _ (c : Staged) (staged : IsStaged c) (steps : c.header ≡ header_steps (clean_slots c.fields c.arrays c.instrs) c.fields c.instrs)
    (touched : (g a : ℕ) → g < length c.groups → Member a (group_at c g).arrays → is_touched c.arrays a ≡ true)
    (shards : (g : ℕ) → g < length c.groups → (group_at c g).sharded ≡ true → CanShard c.fields c.arrays c.instrs (group_at c g).arrays) where
  index_at : (g a : ℕ) → g < length c.groups → Member a (group_at c g).arrays → (k : ℕ) × (x : Operand) × IsIndex c.instrs a k x
  index_at g a less m =
      let there : a < length c.arrays = ((staged.groups g less).there a m).0 in
      let life : is_life (is_touched c.arrays a) (events (0 + a) c.instrs) ≡ true = life_at c.instrs (after_all (header_slots c.fields) c.instrs) 0 c.arrays a there (arrays_fitting c staged.code) in
      let first = life_first (is_touched c.arrays a) (events a c.instrs) (touched g a less m) (subst (λ n. is_life (is_touched c.arrays a) (events n c.instrs) ≡ true) (omega arith) life) in
      index_of c.instrs a first.0 first.1

  first_in : (g : ℕ) → g < length c.groups → Member (first_array (group_at c g)) (group_at c g).arrays
  first_in g less = first_member (group_at c g).arrays (staged.groups g less).some

  clear : (header : List ℤ) (long : length header ≡ c.fields) (g a : ℕ) → g < length c.groups → (group_at c g).sharded ≡ true → Member a (group_at c g).arrays → IsClear c staged.code steps header long a
  clear header long g a less sharded m =
      let at = index_at g a less m in
      let is : IsIndex c.instrs a at.0 at.1 = at.2 in (
        omega (arith, is.slot c.fields, is.within),
        sym (sources_are c.fields c.arrays c.instrs header long (slot_of_index c a)) ∙ (shards g less sharded).clean a m,
      )

  same_place : (header : List ℤ) → length header ≡ c.fields → (g : ℕ) → g < length c.groups
      → place c header g ≡ flat_place c.fields c.arrays c.instrs header (group_at c g).sharded (group_at c g).arrays
  same_place header long g less = place_same c staged.code steps header long (group_at c g) (λ sharded. clear header long g (first_array (group_at c g)) less sharded (first_in g less))

  pub has_places : HasPlaces c
  has_places = same_place

  -- ---- what marks tell of words

  module _ (loads : Loads) (header : List ℤ) (long : length header ≡ c.fields) where
    abbrev ms : List Mark
    ms = code_marks c.fields c.arrays c.instrs header

    abbrev vals : List ℤ
    vals = code_values c loads header

    tells : (k : ℕ) → Tells (mark_at ms k) (word_at vals k)
    tells k = related_at Mark ℤ (marks (flat_length c.arrays)) (words (flat_length c.arrays) loads) Tells (marks_tell (flat_length c.arrays) loads) ms vals k (tell_words c.fields c.arrays c.instrs header long loads)

    shut : (x : Operand) → (operand_mark ms x).is_open ≡ false → truth (operand_word vals x) ≡ false
    shut (operand.Slot k) e = ap truth ((tells k).closed e)
    shut (operand.Number n) e = absurd cc

    all_shut : (guards : List Operand) → list_any (λ x. (operand_mark ms x).is_open) guards ≡ false → is_open vals guards ≡ false
    all_shut [] e = refl
    all_shut (x ∷ guards) e =
        let parts = any_false (λ x. (operand_mark ms x).is_open) (operand_mark ms x).is_open guards e in
        let here : truth (operand_word vals x) ≡ false = shut x parts.0 in
        let rest : is_open vals guards ≡ false = all_shut guards parts.1 in
        (λ i. here i || rest i)

    untouched : (g a : ℕ) → g < length c.groups → place c header g ≡ None → Member a (group_at c g).arrays → is_touching c vals a ≡ false
    untouched g a less none m =
        all_shut (guards_of c.arrays a) (no_member (is_reserved c.arrays ms) (group_at c g).arrays a
        (no_place _ (unit_on c.fields c.instrs ms (group_at c g).sharded (group_at c g).arrays) (sym (same_place header long g less) ∙ none)) m)

    -- the value of an Index
    index_value : (g a : ℕ) → g < length c.groups → Member a (group_at c g).arrays → word_at vals (slot_of_index c a) ≡ pos (cell (index_word c.fields c.arrays c.instrs loads header a) (flat_length c.arrays a))
    index_value g a less m =
        let at = index_at g a less m in
        let is : IsIndex c.instrs a at.0 at.1 = at.2 in
        ap (word_at vals) (is.slot c.fields) ∙ valued c loads header at.0 staged long is.within
        ∙ ap (instr_value ℤ (words (flat_length c.arrays) loads) (slot_of_index c) vals) is.instruction
        ∙ ap (λ x. instr_value ℤ (words (flat_length c.arrays) loads) (slot_of_index c) vals (instr.Index a x)) (sym is.reduces)

    unit_is : SameWords c.fields c.arrays c.instrs → (g u a : ℕ) → g < length c.groups → (group_at c g).sharded ≡ true → place c header g ≡ Some u → Member a (group_at c g).arrays
        → word_at vals (slot_of_index c a) ≡ pos u
    unit_is same g u a less sharded placed m =
        let b : ℕ = first_array (group_at c g) in
        let inside : Member b (group_at c g).arrays = first_in g less in
        let can : CanShard c.fields c.arrays c.instrs (group_at c g).arrays = shards g less sharded in
        let word_b : ℤ = index_word c.fields c.arrays c.instrs loads header b in
        let one : index_word c.fields c.arrays c.instrs loads header a ≡ word_b = same loads header long a b (touched g a less m) (touched g b less inside) (can.same a b m inside) in
        let of_b : word_at vals (slot_of_index c b) ≡ pos (cell word_b (flat_length c.arrays b)) = index_value g b less inside in
        let mark_word : (mark_at ms (slot_of_index c b)).word ≡ word_at vals (slot_of_index c b) = (tells (slot_of_index c b)).clean (clear header long g b less sharded inside).1 in
        let unit : unit_on c.fields c.instrs ms (group_at c g).sharded (group_at c g).arrays ≡ u = some_place _ u _ (sym (same_place header long g less) ∙ placed) in
        let number : cell word_b (flat_length c.arrays b) ≡ u =
        sym (ap natural (mark_word ∙ of_b)) ∙ ap (λ s. if s then natural (mark_at ms (slot_of_index c b)).word else 0) (sym sharded) ∙ unit in
        index_value g a less m ∙ (λ i. pos (cell (one i) (can.even a b m inside i))) ∙ ap pos number

  pub none_touched : NoneTouched c
  none_touched loads header long g a less none m = untouched loads header long g a less none m

  pub are_indexes : SameWords c.fields c.arrays c.instrs → PlacesAreIndexes c
  are_indexes same header units long g u less sharded placed a m = unit_is (staged_loads c units header) header long same g u a less sharded placed m
