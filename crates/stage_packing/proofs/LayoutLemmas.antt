-- The parts of a layout are a valid layout.
use Rattle.std.proofs.Common.{◌≡◌, ℕ, zero, suc, ◌+◌, ◌*◌, ◌<◌, ◌≤◌, Bool, true, false, ◌&&◌, nat_lt, nat_le, refl, sym, ◌∙◌, subst, arith, inl, inr, List, [], ◌∷◌, length, slice_index, Option, Some, None}
use Rattle.std.specs.Prelude.{max}
use Rattle.std.specs.List.{list_all, slice_index_or}
use Rattle.std.proofs.lemmas.Bool.Decides.{nat_tests}
use Rattle.code_forms.specs.declared.layout.Spot.{Spot}
use Rattle.code_forms.specs.declared.layout.Spot.TheVariants as spot
use Rattle.code_forms.specs.LayoutValid.{spot_fits, is_layout}
use Rattle.dependence.specs.Reach.{here, AreClasses, InOrder}
use Rattle.dependence.specs.Uses.{Node, node_at, Depends}
use Rattle.dependence.specs.Groups.{AreGroups, group_of}
use Rattle.flat_graph.specs.Orders.{IsOrdered}
use Rattle.flat_graph.specs.Layouts.{IsTouched, ArrayReaches, IsSpot, spot_at, part_of, AreStages, AreSets, AreDepths, IsLayoutOf}
use Rattle.stage_packing.specs.Members.{IsMember, AreMembers, member_of}
use Rattle.stage_packing.specs.Depths.{IsHead, Runs}
use Rattle.stage_packing.proofs.SpotLemmas.{grouped, in_group, in_spot, one_codelet, in_parts}

some_is : {m n : ℕ} → Some m ≡ Some n → m ≡ n
some_is e = cc

pub and_both : (x y : Bool) → x ≡ true → y ≡ true → (x && y) ≡ true
and_both true y h k = k
and_both false y h k = h

pub le_true : (a b : ℕ) → a ≤ b → nat_le a b ≡ true
le_true a b le = grind (arith, nat_tests)

pub lt_true : (a b : ℕ) → a < b → nat_lt a b ≡ true
lt_true a b less = grind (arith, nat_tests)

all_pass : {A : Type 0} (test : A → Bool) (d : A) (xs : List A) → ((i : ℕ) → i < length xs → test (slice_index_or xs i d) ≡ true) → list_all test xs ≡ true
all_pass test d [] h = refl
all_pass test d (x ∷ xs) h = and_both (test x) (list_all test xs) (h 0 (omega arith)) (all_pass test d xs (λ i w. h (suc i) (omega (arith, w))))

module _ (nodes : List Node) (ordered : IsOrdered nodes) (classes : List ℕ) (are : AreClasses (Depends nodes) (length nodes) classes)
    (count : ℕ) (of : List (Option ℕ)) (wide : length of ≡ 16) (groups : AreGroups (IsTouched nodes) (ArrayReaches nodes) count of)
    (members : List (Option ℕ)) (ms : AreMembers nodes members) where
  -- the number of a group is below their count
  pub group_low : (a g : ℕ) → a < 16 → group_of of a ≡ Some g → g < count
  group_low a g wa e = go (member_of members a) (ms a wa) where
    go : (o : Option ℕ) → IsMember nodes (length nodes) a o → g < count
    go None h = absurd (let n : None ≡ Some g = sym (groups.untouched a (omega (arith, wa, wide)) (λ t. h t.0 t.1 t.2)) ∙ e in cc)
    go (Some m) h =
        let k = grouped nodes ordered classes are count of wide groups m a h.0 h.1 in
        let s : k.0 ≡ g = some_is (sym k.2 ∙ e) in
        omega (arith, k.1, s)

  module _ (spots : List Spot) (long : length spots ≡ length nodes) (placed : (i : ℕ) → i < length nodes → IsSpot nodes of i (spot_at spots i)) where
    pub spot_low : (i : ℕ) → i < length nodes → spot_fits count (spot_at spots i) ≡ true
    spot_low i wi = go (spot_at spots i) (placed i wi) where
      go : (s : Spot) → IsSpot nodes of i s → spot_fits count s ≡ true
      go (spot.Group g) h = lt_true g count (group_low h.0 g (ordered.arrays h.1 h.0 h.2 h.3) h.4)
      go (spot.Block b) h = le_true b count (elim h.least [
        | inl z ↦ omega (arith, z)
        | inr l ↦ (let r = l.2 in let less : l.0 < count = group_low r.0 l.0 (ordered.arrays r.2.0 r.0 r.2.1 r.2.2) r.1 in omega (arith, less, l.1))
      ])

    low : (s : Spot) → spot_fits count s ≡ true → part_of s < 2 * count + 1
    low (spot.Group g) e = let l : g < count = lt_is g count e in omega (arith, l) where
      lt_is : (a b : ℕ) → nat_lt a b ≡ true → a < b
      lt_is a b e = grind (arith, nat_tests)
    low (spot.Block b) e = let l : b ≤ count = le_is b count e in omega (arith, l) where
      le_is : (a b : ℕ) → nat_le a b ≡ true → a ≤ b
      le_is a b e = grind (arith, nat_tests)

    pub runs : Runs nodes classes members of spots (2 * count + 1)
    runs = record {
      in_parts = in_parts nodes ordered classes are count of wide groups spots long placed;
      low = λ i wi. low (spot_at spots i) (spot_low i wi);
      heads = λ g m h. head g m h;
      headed = λ i g wi e. (let p = in_group nodes ordered classes are count of wide groups spots long placed i g wi e in named p.0 g p.1 p.2 p.3 p.4 (member_of members p.0) refl);
      one_codelet = λ i j g wi wj ei ej. (are.same i j wi wj).1 (one_codelet nodes ordered classes are count of wide groups spots long placed i j g wi wj ei ej);
    } where
      head : (g m : ℕ) → IsHead members of g m → (m < length nodes) × (spot_at spots m ≡ spot.Group g)
      head g m h =
          let is = subst (IsMember nodes (length nodes) h.0) h.2 (ms h.0 h.1) in
          (is.0, in_spot nodes ordered classes are count of wide groups spots long placed m g is.0 (h.0, m, is.0, is.1, h.3, (here, here)))

      named : (a g m : ℕ) → m < length nodes → (node_at nodes m).array ≡ Some a → group_of of a ≡ Some g → (o : Option ℕ) → member_of members a ≡ o → (k : ℕ) × IsHead members of g k
      named a g m wm em eg None e = absurd (subst (IsMember nodes (length nodes) a) e (ms a (ordered.arrays m a wm em)) m wm em)
      named a g m wm em eg (Some k) e = (k, (a, ordered.arrays m a wm em, e, eg))

    pub valid : (depths sets : List ℕ) (stages : ℕ) → length nodes ≤ 1024 → length sets ≡ count → count ≤ 16
        → ((c : ℕ) → c < length depths → slice_index depths c < length nodes) → AreStages depths stages → is_layout spots depths sets stages ≡ true
    valid depths sets stages few many most small are_stages =
        and_both (nat_le (length spots) 1024) _ (le_true (length spots) 1024 (omega (arith, long, few)))
        (and_both (nat_le (length sets) 16) _ (le_true (length sets) 16 (omega (arith, many, most)))
        (and_both (list_all (spot_fits (length sets)) spots) _
        (subst (λ k. list_all (spot_fits k) spots ≡ true) (sym many) (all_pass (spot_fits count) (spot.Block 0) spots (λ i w. spot_low i (omega (arith, w, long)))))
        (and_both (nat_le stages 1024) _ (le_true stages 1024 top)
        (all_pass (λ d. nat_lt d stages) 0 depths (λ c w. lt_true (slice_index depths c) stages (are_stages.above c w)))))) where
          top : stages ≤ 1024
          top = elim are_stages.least [
            | inl z ↦ omega (arith, z)
            | inr l ↦ (let s : slice_index depths l.0 < length nodes = small l.0 l.1 in omega (arith, s, few, l.2))
          ]

    pub layout_is : (depths sets : List ℕ) (stages : ℕ) → length sets ≡ count → AreSets of sets → AreDepths nodes classes spots depths → AreStages depths stages → IsLayoutOf nodes classes spots depths sets stages
    layout_is depths sets stages many are_sets are_depths are_stages = record {
      of = of;
      wide = wide;
      groups = subst (λ n. AreGroups (IsTouched nodes) (ArrayReaches nodes) n of) (sym many) groups;
      sets_are = are_sets;
      long = long;
      placed = placed;
      depths_are = are_depths;
      stages_are = are_stages;
    }

-- numbers in order are no more than there are
pub numbers_low : (n : ℕ) (xs : List ℕ) (i : ℕ) → InOrder n xs → slice_index xs i ≤ n + length xs
numbers_low n [] i h = omega arith
numbers_low n (x ∷ xs) zero h = let le : x ≤ n = h.0 in omega (arith, le)
numbers_low n (x ∷ xs) (suc i) h = let le : x ≤ n = h.0 in let r : slice_index xs i ≤ max n (x + 1) + length xs = numbers_low (max n (x + 1)) xs i h.1 in omega (arith, le, r)
