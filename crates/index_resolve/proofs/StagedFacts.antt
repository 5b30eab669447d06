-- Flat code in the order and the groups of its layout is valid staged code.
use Rattle.std.proofs.Common.{◌≡◌, ℕ, zero, suc, ◌+◌, ◌*◌, ◌<◌, ◌≤◌, nat_lt, nat_le, Bool, true, false, List, [], ◌∷◌, length, map, Option, None, Some, refl, sym, ap, subst, ◌∙◌, arith}
use Rattle.std.proofs.lemmas.Bool.Decides.{nat_tests}
use Rattle.code_forms.specs.declared.flat.Instr.{Instr}
use Rattle.code_forms.specs.declared.flat.Instr.TheVariants as instr
use Rattle.code_forms.specs.declared.layout.Spot.{Spot}
use Rattle.code_forms.specs.declared.layout.Spot.TheVariants as spot
use Rattle.code_forms.specs.FlatMeaning.{copy_in}
use Rattle.code_forms.specs.FlatValid.{Loads, Stores, is_flat_code, is_limited, instr_fits, header_slots, after_all, instr_at, events, event_of, is_life, is_touched, ascends}
use Rattle.code_forms.specs.Staged.{Staged, Member, number_at, runs, accessed, stored_operand, group_at, first_array, InPart, AreAccesses, IsGroup}
use Rattle.code_forms.specs.Staged.{group_of as staged_group}
use Rattle.code_forms.proofs.ValidLemmas.{and_front, and_back}
use Rattle.code_forms.proofs.FitLemmas.{load_here, store_here}
use Rattle.code_forms.proofs.StagedLemmas.{first_member}
use Rattle.dependence.specs.Reach.{here}
use Rattle.dependence.specs.Uses.{Node, node_at}
use Rattle.dependence.specs.Groups.{AreGroups, group_of}
use Rattle.flat_graph.specs.Nodes.{nodes_in, owner}
use Rattle.flat_graph.specs.Orders.{copies_in}
use Rattle.flat_graph.specs.Layouts.{IsTouched, ArrayReaches, IsSpot, is_of, spot_at, part_of, RunsBehind}
use Rattle.flat_graph.proofs.Ordered.{node_length, node_there}
use Rattle.index_resolve.specs.HeaderRun.{CanShard}
use Rattle.index_resolve.specs.Order.{part_at, is_kind, running, part_ends}
use Rattle.index_resolve.specs.Groups.{marked}
use Rattle.index_resolve.proofs.OrderPlaces.{place}
use Rattle.index_resolve.proofs.OrderFacts.{life_some, some_event, life_of, each, found}
use Rattle.index_resolve.proofs.PlaceLemmas.{arrays_fitting}
use Rattle.index_resolve.proofs.UseLemmas.{before, fit_at}
use Rattle.index_resolve.proofs.GroupFacts.{set_group, group_set, marks_rise, first_group, copy_is, copy_events, touched_there, store_of, life_stores}

lt_is : (a b : ℕ) → nat_lt a b ≡ true → a < b
lt_is a b e = grind (arith, nat_tests, e)

some_is : {m n : ℕ} → Some m ≡ Some n → m ≡ n
some_is e = cc

none_some : {A : Type 0} {n : ℕ} → None ≡ Some n → A
none_some e = absurd cc

true_false : {A : Type 0} → true ≡ false → A
true_false e = absurd cc

-- a group is one of an array that has a place in the list
pub within_of : (of : List (Option ℕ)) (a g : ℕ) → group_of of a ≡ Some g → a < length of
within_of [] a g e = absurd cc
within_of (o ∷ of) zero g e = omega arith
within_of (o ∷ of) (suc a) g e = omega (arith, within_of of a g e)

is_some_member : (a : ℕ) (xs : List ℕ) → Member a xs → 0 < length xs
is_some_member a [] m = elim m [ ]
is_some_member a (x ∷ xs) m = omega arith

accessed_owner : (i : Instr) (copy : Option ℕ) (a : ℕ) → accessed i ≡ Some a → owner i copy ≡ Some a
accessed_owner (instr.Load b) copy a e = e
accessed_owner (instr.Store b x) copy a e = e
accessed_owner (instr.One op x) copy a e = none_some e
accessed_owner (instr.Two op x y) copy a e = none_some e
accessed_owner (instr.Pick c x y) copy a e = none_some e
accessed_owner (instr.Hash kind x y z) copy a e = none_some e
accessed_owner (instr.Move x) copy a e = none_some e
accessed_owner (instr.Yes g x) copy a e = none_some e
accessed_owner (instr.No g x) copy a e = none_some e
accessed_owner (instr.Index b x) copy a e = none_some e

le_is : (a b : ℕ) → nat_le a b ≡ true → a ≤ b
le_is a b e = grind (arith, nat_tests, e)

module _ (c : Staged) (valid : is_flat_code c.fields c.arrays c.instrs c.last ≡ true) where
  abbrev ns : List Node
  ns = nodes_in c.fields c.arrays c.instrs

  few_arrays : (a : ℕ) → a < length c.arrays → a < 16
  few_arrays a less =
      let limits : is_limited c.fields c.arrays c.instrs ≡ true = and_front _ _ valid in
      omega (arith, less, le_is (length c.arrays) 16 (and_front (nat_le (length c.arrays) 16) _ (and_back (nat_le c.fields 32) _ limits)))

  -- an array is there, and something is done to it
  abbrev Lived : ℕ → Type 0
  Lived a = (a < length c.arrays) × (events a c.instrs ≡ [] → ⊥)

  fits : (k : ℕ) → k < length c.instrs → instr_fits (length c.arrays) (before c.fields c.instrs k) (instr_at c.instrs k) ≡ true
  fits k less = fit_at (length c.arrays) (header_slots c.fields) c.instrs k less (and_front _ _ (and_back (is_limited c.fields c.arrays c.instrs) _ valid))

  of_copy : (k a : ℕ) → copy_in (copies_in c.arrays) 0 k ≡ Some a → Lived a
  of_copy k a e =
      let is = copy_is c.instrs (after_all (header_slots c.fields) c.instrs) 0 c.arrays k a (arrays_fitting c valid) e in
      (omega (arith, is.0), copy_events a k c.instrs is.1)

  by_owner : (k a : ℕ) (i : Instr) → k < length c.instrs → instr_at c.instrs k ≡ i → owner i (copy_in (copies_in c.arrays) 0 k) ≡ Some a → Lived a
  by_owner k a (instr.Load b) less is e =
      let same : b ≡ a = some_is e in
      let fit = subst (λ i. instr_fits (length c.arrays) (before c.fields c.instrs k) i ≡ true) is (fits k less) in (
        subst (λ n. n < length c.arrays) same (lt_is b (length c.arrays) fit),
        (λ none. shown (sym (load_here a) ∙ ap (λ n. event_of a (instr.Load n)) (sym same) ∙ ap (event_of a) (sym is) ∙ some_event a c.instrs k less none)),
      ) where
        shown : (Loads ∷ []) ≡ [] → ⊥
        shown e = absurd cc
  by_owner k a (instr.Store b x) less is e =
      let same : b ≡ a = some_is e in
      let fit = subst (λ i. instr_fits (length c.arrays) (before c.fields c.instrs k) i ≡ true) is (fits k less) in (
        subst (λ n. n < length c.arrays) same (lt_is b (length c.arrays) (and_front _ _ fit)),
        (λ none. shown (sym (store_here a x) ∙ ap (λ n. event_of a (instr.Store n x)) (sym same) ∙ ap (event_of a) (sym is) ∙ some_event a c.instrs k less none)),
      ) where
        shown : (Stores ∷ []) ≡ [] → ⊥
        shown e = absurd cc
  by_owner k a (instr.One op x) less is e = of_copy k a e
  by_owner k a (instr.Two op x y) less is e = of_copy k a e
  by_owner k a (instr.Pick z x y) less is e = of_copy k a e
  by_owner k a (instr.Hash kind x y z) less is e = of_copy k a e
  by_owner k a (instr.Move x) less is e = of_copy k a e
  by_owner k a (instr.Yes g x) less is e = of_copy k a e
  by_owner k a (instr.No g x) less is e = of_copy k a e
  by_owner k a (instr.Index b x) less is e = of_copy k a e

  count_of : length ns ≡ length c.instrs
  count_of = node_length c.fields c.arrays c.instrs

  array_is : (k : ℕ) → k < length c.instrs → (node_at ns k).array ≡ owner (instr_at c.instrs k) (copy_in (copies_in c.arrays) 0 k)
  array_is k less = ap (λ (n : Node). n.array) (node_there c.fields c.arrays c.instrs k less)

  lived : (a : ℕ) → IsTouched ns a → Lived a
  lived a t = let less : t.0 < length c.instrs = omega (arith, t.1, count_of) in by_owner t.0 a (instr_at c.instrs t.0) less refl (sym (array_is t.0 less) ∙ t.2)

  touched : (a : ℕ) → IsTouched ns a → is_touched c.arrays a ≡ true
  touched a t = let l = lived a t in (life_some (is_touched c.arrays a) (events a c.instrs) (life_of c valid a l.0) l.1).0

  module _ (spots : List Spot) (parts : ℕ) (low : (i : ℕ) → i < length c.instrs → part_at spots i < parts) (behind : RunsBehind ns spots)
      (order_is : c.order ≡ running spots c.instrs parts) (ends_are : c.ends ≡ part_ends spots c.instrs parts)
      (of : List (Option ℕ)) (wide : length of ≡ 16) (groups : AreGroups (IsTouched ns) (ArrayReaches ns) (length c.groups) of)
      (placed : (i : ℕ) → i < length ns → IsSpot ns of i (spot_at spots i))
      (arrays_are : (g : ℕ) → g < length c.groups → (group_at c g).arrays ≡ marked 0 (map (is_of g) of)) where
    -- an array of a group is touched
    pub group_touched : (a g : ℕ) → group_of of a ≡ Some g → is_touched c.arrays a ≡ true
    group_touched a g e = by (is_touched c.arrays a) refl where
      by : (t : Bool) → is_touched c.arrays a ≡ t → is_touched c.arrays a ≡ true
      by true is = is
      by false is = none_some (sym (groups.untouched a (within_of of a g e) (λ t. true_false (sym (touched a t) ∙ is))) ∙ e)

    member_group : (g a : ℕ) → g < length c.groups → Member a (group_at c g).arrays → group_of of a ≡ Some g
    member_group g a less m = set_group g of a (subst (Member a) (arrays_are g less) m)

    group_member : (g a : ℕ) → g < length c.groups → group_of of a ≡ Some g → Member a (group_at c g).arrays
    group_member g a less e = subst (Member a) (sym (arrays_are g less)) (group_set g of a e)

    pub all_touched : (g a : ℕ) → g < length c.groups → Member a (group_at c g).arrays → is_touched c.arrays a ≡ true
    all_touched g a less m = group_touched a g (member_group g a less m)

    -- the group of an array among the staged groups
    is_group_of : (g a : ℕ) → g < length c.groups → group_of of a ≡ Some g → staged_group c a ≡ Some g
    is_group_of g a less e = first_group c.groups 0 g a less (group_member g a less e) (λ l w m. some_is (sym (member_group l a w m) ∙ e)) ∙ ap Some (omega arith)

    pub is_group : (g : ℕ) → g < length c.groups → ((group_at c g).sharded ≡ true → CanShard c.fields c.arrays c.instrs (group_at c g).arrays) → IsGroup c g
    is_group g less can = record {
      some = some;
      rising = subst (λ l. ascends 0 l ≡ true) (sym (arrays_are g less)) (marks_rise 0 0 (map (is_of g) of) (omega arith));
      there = λ a m. let e = member_group g a less m in (touched_there c.arrays a (group_touched a g e), is_group_of g a less e);
      even = λ sharded a m. (can sharded).even a (first_array (group_at c g)) m (first_member (group_at c g).arrays some);
    } where
      some : 0 < length (group_at c g).arrays
      some = let u = groups.used g less in is_some_member u.0 (group_at c g).arrays (group_member g u.0 less u.3)

    -- ---- where cells are read and written

    -- an instruction of an array runs in the array's group
    spot_is : (i a g : ℕ) → i < length c.instrs → (node_at ns i).array ≡ Some a → group_of of a ≡ Some g → spot_at spots i ≡ spot.Group g
    spot_is i a g less is e = by (spot_at spots i) (placed i wide_i) where
      wide_i : i < length ns
      wide_i = omega (arith, less, count_of)

      by : (s : Spot) → IsSpot ns of i s → s ≡ spot.Group g
      by (spot.Block b) h = elim (h.outside g (a, i, wide_i, is, e, (here, here))) [ ]
      by (spot.Group f) h =
          let same : group_of of a ≡ group_of of h.0 = (groups.same a h.0 (i, wide_i, is) (h.1, h.2, h.3)).1 ((i, wide_i, is, (h.1, h.2, h.3, h.5.0)), (h.1, h.2, h.3, (i, wide_i, is, h.5.1))) in
          ap spot.Group (some_is (sym h.4 ∙ sym same ∙ e))

    in_group_part : (i a g : ℕ) → i < length c.instrs → (node_at ns i).array ≡ Some a → group_of of a ≡ Some g → part_at spots i ≡ 2 * g + 1
    in_group_part i a g less is e = ap part_of (spot_is i a g less is e) ∙ twice g where
      twice : (g : ℕ) → suc (g + g) ≡ 2 * g + 1
      twice g = omega arith

    pub are_accesses : AreAccesses c
    are_accesses = record { inside = inside; stored = stored } where
      inside : (p a : ℕ) → p < length c.order → accessed (runs c p) ≡ Some a → (g : ℕ) × (g < length c.groups) × (staged_group c a ≡ Some g) × InPart c (2 * g + 1) p
      inside p a less e =
          let at = each c valid spots parts low behind order_is ends_are p less in
          let i = number_at c p in
          let is : (node_at ns i).array ≡ Some a = array_is i at.below ∙ accessed_owner (runs c p) (copy_in (copies_in c.arrays) 0 i) a e in
          let t : IsTouched ns a = (i, omega (arith, at.below, count_of), is) in
          let l = lived a t in
          let few : a < length of = omega (arith, few_arrays a l.0, wide) in
          let grp = groups.touched a few t in
          let part = in_group_part i a grp.0 at.below is grp.2 in
          let f = found c valid spots parts low behind order_is ends_are at.stores i at.below at.of_kind in (
            grp.0,
            grp.1,
            is_group_of grp.0 a grp.1 grp.2,
            subst (λ q. InPart c (2 * grp.0 + 1) q) (sym at.at_place) (subst (λ k. InPart c k (place spots c.instrs at.stores i)) part f.1),
          )

      stored : (g a : ℕ) → g < length c.groups → Member a (group_at c g).arrays → (p : ℕ) × InPart c (2 * g + 1) p × (runs c p ≡ instr.Store a (stored_operand c.instrs a))
      stored g a less m =
          let e = member_group g a less m in
          let is_t = group_touched a g e in
          let life : is_life true (events a c.instrs) ≡ true = subst (λ t. is_life t (events a c.instrs) ≡ true) is_t (life_of c valid a (touched_there c.arrays a is_t)) in
          let s = store_of c.instrs a (life_stores (events a c.instrs) life) in
          let is : (node_at ns s.0).array ≡ Some a = array_is s.0 s.1 ∙ ap (λ i. owner i (copy_in (copies_in c.arrays) 0 s.0)) s.2 in
          let part = in_group_part s.0 a g s.1 is e in
          let kind : is_kind true (instr_at c.instrs s.0) ≡ true = ap (is_kind true) s.2 in
          let f = found c valid spots parts low behind order_is ends_are true s.0 s.1 kind in
          (place spots c.instrs true s.0, subst (λ k. InPart c k (place spots c.instrs true s.0)) part f.1, ap (instr_at c.instrs) f.0 ∙ s.2)
