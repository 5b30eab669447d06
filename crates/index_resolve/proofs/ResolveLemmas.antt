-- Code in the parts of its layout is valid staged code with the places of its header run.
use Rattle.std.proofs.Common.{◌≡◌, inl, inr, ℕ, zero, suc, ◌+◌, ◌*◌, ◌<◌, ◌≤◌, nat_lt, nat_le, ◌==◌, ◌&&◌, pos, Bool, true, List, [], ◌∷◌, ◌++◌, length, map, All, replicate, get_or, Option, None, Some, Result, Ok, Err, IfOk, refl, sym, ap, subst, ◌∙◌, arith}
use Rattle.std.specs.Prelude.{◌↔◌, slice_index}
use Rattle.std.specs.List.{list_all}
use Rattle.std.proofs.lemmas.Bool.Decides.{nat_tests}
use Rattle.std.proofs.lemmas.List.{length-map, length-append}
use Rattle.mp5_words.specs.Domain.{sources}
use Rattle.mp5_words.specs.Copies.{at}
use Rattle.code_forms.specs.declared.flat.FlatArray.{FlatArray}
use Rattle.code_forms.specs.declared.flat.FlatCode.{FlatCode}
use Rattle.code_forms.specs.declared.flat.Instr.{Instr}
use Rattle.code_forms.specs.declared.layout.Layout.{Layout}
use Rattle.code_forms.specs.declared.layout.Spot.{Spot}
use Rattle.code_forms.specs.declared.layout.Spot.TheVariants as spot
use Rattle.code_forms.specs.declared.parts.HeaderStep.{HeaderStep}
use Rattle.code_forms.specs.declared.parts.StagedGroup.{StagedGroup}
use Rattle.code_forms.specs.declared.parts.StagedParts.{StagedParts}
use Rattle.code_forms.specs.FlatMeaning.{index_slot, flat_length}
use Rattle.code_forms.specs.FlatValid.{is_touched}
use Rattle.code_forms.specs.LayoutValid.{spot_fits}
use Rattle.code_forms.specs.SameIndexes.{same_of}
use Rattle.code_forms.specs.Staged.{Staged, Member, slot_count, group_at, in_parts, IsStaged}
use Rattle.code_forms.specs.StagedMeaning.{PlacesAreIndexes}
use Rattle.code_forms.proofs.ValidLemmas.{and_front, and_back, and_both}
use Rattle.code_forms.proofs.OrderLemmas.{length_replicate}
use Rattle.code_forms.proofs.RunningLemmas.{below_or_past}
use Rattle.code_forms.proofs.StagedLemmas.{first_member}
use Rattle.dependence.specs.Groups.{AreGroups}
use Rattle.flat_graph.specs.Nodes.{nodes}
use Rattle.flat_graph.specs.Layouts.{IsTouched, ArrayReaches, is_of, spot_at, part_of}
use Rattle.index_resolve.specs.Clean.{is_none, clean_slots, code_sources}
use Rattle.index_resolve.specs.Groups.{marked, is_like, can_shard}
use Rattle.index_resolve.specs.HeaderRun.{CanShard}
use Rattle.index_resolve.specs.HeaderSteps.{clean_at, header_instr, step_of, header_steps}
use Rattle.index_resolve.specs.Order.{part_at, running, part_ends}
use Rattle.index_resolve.specs.Places.{HasPlaces, NoneTouched}
use Rattle.index_resolve.specs.Resolve.{IsPacked, part_count, group_in, ArePartsOf, IsMade, AreMade}
use Rattle.index_resolve.proofs.CleanLemmas.{is_empty, clean_is, sources_are}
use Rattle.index_resolve.proofs.OrderFacts.{are_parts, is_order}
use Rattle.index_resolve.proofs.OrderPlaces.{same_of as same_number, is_same}
use Rattle.index_resolve.proofs.StagedFacts.{all_touched, is_group, are_accesses}
use Rattle.index_resolve.proofs.PlaceLaws.{has_places, none_touched, are_indexes}

le_is : (a b : ℕ) → nat_le a b ≡ true → a ≤ b
le_is a b e = grind (arith, nat_tests, e)

lt_is : (a b : ℕ) → nat_lt a b ≡ true → a < b
lt_is a b e = grind (arith, nat_tests, e)

-- ---- whether a group is sharded

all_member : (f : ℕ → Bool) (xs : List ℕ) (a : ℕ) → list_all f xs ≡ true → Member a xs → f a ≡ true
all_member f [] a all m = elim m [ ]
all_member f (x ∷ xs) a all (inl e) = ap f e ∙ and_front (f x) _ all
all_member f (x ∷ xs) a all (inr m) = all_member f xs a (and_back (f x) _ all) m

each_true : (f : ℕ → Bool) (xs : List ℕ) → ((a : ℕ) → Member a xs → f a ≡ true) → list_all f xs ≡ true
each_true f [] all = refl
each_true f (x ∷ xs) all = and_both (f x) (list_all f xs) (all x (inl refl)) (each_true f xs (λ a m. all a (inr m)))

some_member : (a : ℕ) (xs : List ℕ) → Member a xs → 0 < length xs
some_member a [] m = elim m [ ]
some_member a (x ∷ xs) m = omega arith

module _ (fields : ℕ) (arrays : List FlatArray) (instrs : List Instr) where
  abbrev clean : List Bool
  clean = clean_slots fields arrays instrs

  clean_sources : (j : ℕ) → clean_at clean j ≡ is_none (at (List ℕ) sources.ops (code_sources fields arrays instrs) j)
  clean_sources j =
      let long = length_replicate fields (pos 0) in
      clean_is fields arrays instrs (replicate fields (pos 0)) long j ∙ ap is_none (sym (sources_are fields arrays instrs (replicate fields (pos 0)) long j))

  -- the test tells whether arrays can be sharded
  pub shard_is : (group : List ℕ) → (can_shard clean fields arrays instrs group ≡ true) ↔ CanShard fields arrays instrs group
  shard_is group = (to, from) where
    first : ℕ
    first = slice_index group 0

    like : ℕ → Bool
    like a = is_like clean fields arrays instrs first a

    to : can_shard clean fields arrays instrs group ≡ true → CanShard fields arrays instrs group
    to e = record {
      clean = λ a m. is_empty _ (sym (clean_sources (index_slot instrs fields a)) ∙ and_front _ _ (all_member like group a e m));
      same = λ a b m n. same a m ∙ sym (same b n);
      even = λ a b m n. even a m ∙ sym (even b n);
    } where
      both : (a : ℕ) → Member a group → ((same_of arrays a == same_of arrays first) && (flat_length arrays a == flat_length arrays first)) ≡ true
      both a m = and_back (clean_at clean (index_slot instrs fields a)) _ (all_member like group a e m)

      same : (a : ℕ) → Member a group → same_of arrays a ≡ same_of arrays first
      same a m = same_number _ _ (and_front (same_of arrays a == same_of arrays first) _ (both a m))

      even : (a : ℕ) → Member a group → flat_length arrays a ≡ flat_length arrays first
      even a m = same_number _ _ (and_back (same_of arrays a == same_of arrays first) _ (both a m))

    from : CanShard fields arrays instrs group → can_shard clean fields arrays instrs group ≡ true
    from can = each_true like group (λ a m.
        let f : Member first group = first_member group (some_member a group m) in
        and_both _ _ (clean_sources (index_slot instrs fields a) ∙ ap is_none (can.clean a m))
        (and_both _ _ (is_same _ _ (can.same a first m f)) (is_same _ _ (can.even a first m f))))

-- ---- the groups that are made

-- one group more
pub made_more : (code : FlatCode) (l : Layout) (clean : List Bool) (classes : List ℕ) (n : ℕ) (old new : List StagedGroup) (group : StagedGroup) → length old ≡ n
    → ((g : ℕ) → g < n → IsMade code l clean classes g (group_in old g)) → IsMade code l clean classes n group → new ≡ old ++ group ∷ []
    → (g : ℕ) → g < n + 1 → IsMade code l clean classes g (group_in new g)
made_more code l clean classes n old new group long each made is g less = elim (below_or_past g n) [
  | inl before ↦ subst (IsMade code l clean classes g) (sym (ap (λ gs. group_in gs g) is ∙ left old g (omega (arith, before, long)))) (each g before)
  | inr past ↦ (
      let same : g ≡ length old = omega (arith, less, past, long) in
      subst (IsMade code l clean classes g) (sym (ap (λ gs. group_in gs g) is ∙ ap (λ k. group_in (old ++ group ∷ []) k) same ∙ right old))
      (subst (λ k. IsMade code l clean classes k group) (sym (same ∙ long)) made))
] where
  left : (xs : List StagedGroup) (k : ℕ) → k < length xs → group_in (xs ++ group ∷ []) k ≡ group_in xs k
  left [] k less = absurd (omega (arith, less))
  left (x ∷ xs) zero less = refl
  left (x ∷ xs) (suc k) less = left xs k (omega (arith, less))

  right : (xs : List StagedGroup) → group_in (xs ++ group ∷ []) (length xs) ≡ group
  right [] = refl
  right (x ∷ xs) = right xs

pub made_length : (old new : List StagedGroup) (group : StagedGroup) (n : ℕ) → length old ≡ n → new ≡ old ++ group ∷ [] → length new ≡ n + 1
made_length old new group n long is = ap (λ (l : List StagedGroup). length l) is ∙ length-append old (group ∷ []) ∙ ap (λ k. k + 1) long

-- groups as they are made are those of the layout
pub parts_are : (code : FlatCode) (l : Layout) (parts : StagedParts) (count : ℕ) → AreMade code l (clean_slots code.fields code.arrays code.instrs) parts.groups → count ≡ part_count l
    → parts.order ≡ running l.spot code.instrs count → parts.ends ≡ part_ends l.spot code.instrs count → parts.stages ≡ l.stages → ArePartsOf code l parts
parts_are code l parts count made is order_is ends_are stages_are = record {
  order_is = order_is ∙ ap (running l.spot code.instrs) is;
  ends_are = ends_are ∙ ap (part_ends l.spot code.instrs) is;
  count = made.count;
  arrays_are = λ g less. (made.each g less).arrays_are;
  shards = λ g less.
      let can = shard_is code.fields code.arrays code.instrs (group_in parts.groups g).arrays in
      let same = (made.each g less).sharded_is in
      ((λ e. can.0 (sym same ∙ e)), (λ h. same ∙ can.1 h));
  classes = made.classes;
  codelets = made.codelets;
  depths = λ g less. (made.each g less).depth_is;
  stages_are = stages_are;
}

-- ---- the slots of the header run

pub header_slots_in : (clean : List Bool) (slot : ℕ) (instrs : List Instr) (k : ℕ) (d : HeaderStep) → k < length (header_steps clean slot instrs) → (get_or (header_steps clean slot instrs) k d).slot < slot + length instrs
header_slots_in clean slot [] k d less = absurd (omega (arith, less))
header_slots_in clean slot (i ∷ instrs) k d less = by (header_instr clean (clean_at clean slot) i) k less (header_slots_in clean (suc slot) instrs) where
  by : (o : Option Instr) (k : ℕ) → k < length (step_of slot o ++ header_steps clean (suc slot) instrs)
      → ((k : ℕ) (d : HeaderStep) → k < length (header_steps clean (suc slot) instrs) → (get_or (header_steps clean (suc slot) instrs) k d).slot < suc slot + length instrs)
      → (get_or (step_of slot o ++ header_steps clean (suc slot) instrs) k d).slot < slot + length (i ∷ instrs)
  by None k less next = omega (arith, next k d less)
  by (Some x) zero less next = omega arith
  by (Some x) (suc k) less next = omega (arith, next k d (omega (arith, less)))

-- ---- the parts of a layout

part_low : (count : ℕ) (s : Spot) → spot_fits count s ≡ true → part_of s < 2 * count + 1
part_low count (spot.Group g) e = omega (arith, lt_is g count e)
part_low count (spot.Block b) e = omega (arith, le_is b count e)

fits_at : (count : ℕ) (spots : List Spot) (i : ℕ) → list_all (spot_fits count) spots ≡ true → spot_fits count (spot_at spots i) ≡ true
fits_at count [] i all = grind (arith, nat_tests)
fits_at count (s ∷ spots) zero all = and_front (spot_fits count s) _ all
fits_at count (s ∷ spots) (suc i) all = fits_at count spots i (and_back (spot_fits count s) _ all)

module _ (code : FlatCode) (l : Layout) (packed : IsPacked code l) (parts : StagedParts) (are : ArePartsOf code l parts) where
  abbrev pub c : Staged
  c = in_parts code parts

  limits : (nat_le (length l.arrays) 16 && (list_all (spot_fits (length l.arrays)) l.spot && (nat_le l.stages 1024 && list_all (λ d. nat_lt d l.stages) l.depth))) ≡ true
  limits = and_back (nat_le (length l.spot) 1024) _ l.valid

  few : length c.groups ≤ 16
  few = omega (arith, are.count, le_is (length l.arrays) 16 (and_front (nat_le (length l.arrays) 16) _ limits))

  low : (i : ℕ) → i < length c.instrs → part_at l.spot i < part_count l
  low i less = part_low (length l.arrays) (spot_at l.spot i) (fits_at (length l.arrays) l.spot i (and_front _ _ (and_back (nat_le (length l.arrays) 16) _ limits)))

  abbrev pub of : List (Option ℕ)
  of = packed.layout.of

  -- the groups of the layout
  pub groups : AreGroups (IsTouched (nodes code)) (ArrayReaches (nodes code)) (length c.groups) of
  groups = subst (λ n. AreGroups (IsTouched (nodes code)) (ArrayReaches (nodes code)) n of) (sym are.count) packed.layout.groups

  -- a group has the arrays whose number is its own
  pub arrays_are : (g : ℕ) → g < length c.groups → (group_at c g).arrays ≡ marked 0 (map (is_of g) of)
  arrays_are g less =
      let inside : g < length l.arrays = omega (arith, less, are.count) in
      are.arrays_are g inside (map (is_of g) of) (length-map of (is_of g) ∙ packed.layout.wide) (packed.layout.sets_are g inside)

  shards : (g : ℕ) → g < length c.groups → (group_at c g).sharded ≡ true → CanShard c.fields c.arrays c.instrs (group_at c g).arrays
  shards g less = (are.shards g (omega (arith, less, are.count))).0

  module _ (header : parts.header ≡ header_steps (clean_slots code.fields code.arrays code.instrs) code.fields code.instrs) where
    slots : All (λ (s : HeaderStep). s.slot < slot_count c) c.header
    slots = λ k d less. subst (λ steps. (get_or steps k d).slot < slot_count c) (sym header)
        (header_slots_in (clean_slots code.fields code.arrays code.instrs) code.fields code.instrs k d (subst (λ (steps : List HeaderStep). k < length steps) header less))

    pub is_staged : IsStaged c
    is_staged = record {
      code = code.valid;
      parts = are_parts c code.valid l.spot (part_count l) low packed.ordered are.order_is are.ends_are few (ap (λ n. 2 * n + 1) (sym are.count));
      order = is_order c code.valid l.spot (part_count l) low packed.ordered are.order_is are.ends_are;
      accesses = are_accesses c code.valid l.spot (part_count l) low packed.ordered are.order_is are.ends_are of packed.layout.wide groups packed.layout.placed arrays_are;
      groups = λ g less. is_group c code.valid l.spot (part_count l) low packed.ordered are.order_is are.ends_are of packed.layout.wide groups packed.layout.placed arrays_are g less (shards g less);
      header = slots;
    }

    touched : (g a : ℕ) → g < length c.groups → Member a (group_at c g).arrays → is_touched c.arrays a ≡ true
    touched = all_touched c code.valid l.spot (part_count l) low packed.ordered are.order_is are.ends_are of packed.layout.wide groups packed.layout.placed arrays_are

    pub places : HasPlaces c
    places = has_places c is_staged header touched shards

    pub untouched : NoneTouched c
    untouched = none_touched c is_staged header touched shards

    pub indexes : PlacesAreIndexes c
    indexes = are_indexes c is_staged header touched shards code.words

-- what holds of code holds of a result that is this code
pub if_it_is : {T E : Type 0} (P : T → Type 0) (r : Result T E) (t : T) → IfOk r (λ s. s ≡ t) → P t → IfOk r P
if_it_is P (Ok s) t is holds = subst P (sym is) holds
if_it_is P (Err e) t is holds = tt
