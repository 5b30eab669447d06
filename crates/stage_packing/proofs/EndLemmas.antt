-- The depths at the end are the longest paths.
use Rattle.std.proofs.Common.{◌≡◌, ℕ, suc, ◌<◌, refl, sym, ap, ◌∙◌, subst, arith, inl, inr, ◌⊎◌, List, length, slice_index}
use Rattle.code_forms.specs.declared.layout.Spot.{Spot}
use Rattle.dependence.specs.Reach.{here, step, AreClasses}
use Rattle.dependence.specs.Numbering.{next_after}
use Rattle.dependence.specs.Uses.{Node, Depends, using as uses, shared}
use Rattle.dependence.proofs.ClassLemmas.{below, is_there}
use Rattle.dependence.proofs.PathLemmas.{depths as depths_are}
use Rattle.flat_graph.specs.Layouts.{class_at, IsCodelet, CodeletOn, using as on_using, chained, AreDepths}
use Rattle.stage_packing.specs.Depths.{part_at, Needs, using, behind, depth_at, Done, seen, Deep}
use Rattle.stage_packing.proofs.DepthLemmas.{seen_few}

module _ (nodes : List Node) (classes : List ℕ) (are : AreClasses (Depends nodes) (length nodes) classes) (spots : List Spot) (count : ℕ)
    (low : (i : ℕ) → i < length nodes → part_at spots i < count) (depths : List ℕ) (deep : Deep nodes classes spots count 0 depths) where
  done : (i : ℕ) → i < length nodes → Done nodes spots count 0 i
  done i wi = (wi, inl (low i wi))

  within : (i : ℕ) → i < length classes → i < length nodes
  within i w = omega (arith, w, are.long)

  among : (i : ℕ) → i < length nodes → i < length classes
  among i w = omega (arith, w, are.long)

  above : (c d : ℕ) → CodeletOn nodes classes spots c d → slice_index depths d < slice_index depths c
  above c d (on_using i j wi wj ci cj ne (uses w u)) =
      let less : depth_at depths classes j < depth_at depths classes i = deep.above i j (done i wi) (using wi wj (u, λ e. ne (sym ci ∙ e ∙ cj))) in
      subst (λ x. slice_index depths d < slice_index depths x) ci (subst (λ x. slice_index depths x < depth_at depths classes i) cj less)
  above c d (on_using i j wi wj ci cj ne (shared w v ei ej)) =
      absurd (ne (sym ci ∙ (are.same i j wi wj).1 (step (shared w v ei ej) here, step (shared v w ej ei) here) ∙ cj))
  above c d (chained g i j) =
      let less : depth_at depths classes j.0 < depth_at depths classes i.0 = deep.above i.0 j.0 (done i.0 (within i.0 i.1)) (behind (within i.0 i.1) (within j.0 j.1) (g, i.3, j.3)) in
      subst (λ x. slice_index depths d < slice_index depths x) i.2 (subst (λ x. slice_index depths x < depth_at depths classes i.0) j.2 less)

  least : (c : ℕ) → (slice_index depths c ≡ 0) ⊎ ((d : ℕ) × CodeletOn nodes classes spots c d × (slice_index depths c ≡ suc (slice_index depths d)))
  least c = elim (deep.least c) [ inl z ↦ inl z | inr l ↦ inr (class_at classes l.1, on l.0 l.1 l.3 l.4, l.5) ] where
    on : (i j : ℕ) → Needs nodes classes spots i j → class_at classes i ≡ c → CodeletOn nodes classes spots c (class_at classes j)
    on i j (using wi wj u) ci = on_using i j wi wj ci refl (λ e. u.1 (ci ∙ e)) (uses wi u.0)
    on i j (behind wi wj n) ci = chained n.0 (i, among i wi, ci, n.1) (j, among j wj, refl, n.2)

  module _ (long : length depths ≡ next_after 0 classes) where
    used : (c : ℕ) → c < length depths → IsCodelet classes c
    used c w = is_there 0 classes c are.ordered (omega arith) (omega (arith, w, long))

    pub are_depths : AreDepths nodes classes spots depths
    are_depths = record {
      all = λ c k. (let b : slice_index classes k.0 < next_after 0 classes = below 0 classes k.0 k.1 in omega (arith, b, k.2, long));
      used = used;
      longest = λ c w. depths_are (CodeletOn nodes classes spots) (slice_index depths) above least c;
    }

    pub depths_small : (c : ℕ) → c < length depths → slice_index depths c < length nodes
    depths_small c w =
        let u = used c w in
        let d : depth_at depths classes u.0 < seen nodes spots count 0 = deep.done u.0 (done u.0 (within u.0 u.1)) in
        let s = seen_few nodes spots count 0 in
        let e : depth_at depths classes u.0 ≡ slice_index depths c = ap (slice_index depths) u.2 in
        omega (arith, d, s, e)
