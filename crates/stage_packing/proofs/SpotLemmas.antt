-- The places of instructions, and the order of running.
use Rattle.std.proofs.Common.{◌≡◌, ℕ, zero, suc, ◌+◌, ◌<◌, ◌≤◌, Bool, refl, sym, ap, ◌∙◌, subst, arith, inl, inr, ◌⊎◌, List, [], ◌∷◌, length, Option, Some, None}
use Rattle.std.proofs.lemmas.Bool.{cases_lt}
use Rattle.std.proofs.lemmas.Bool.Decides.{eqb_tells}
use Rattle.code_forms.specs.declared.layout.Spot.{Spot}
use Rattle.code_forms.specs.declared.layout.Spot.TheVariants as spot
use Rattle.dependence.specs.Reach.{Reaches, here, step, Mutual, AreClasses}
use Rattle.dependence.specs.Uses.{Node, node_at, Depends, using, shared}
use Rattle.dependence.specs.Groups.{AreGroups, group_of}
use Rattle.dependence.proofs.ReachLemmas.{join}
use Rattle.dependence.proofs.CycleLemmas.{through_array}
use Rattle.dependence.proofs.GroupLemmas.{no_later, uses_before, part, part_of as group_part}
use Rattle.flat_graph.specs.Orders.{IsOrdered}
use Rattle.flat_graph.specs.ReachedArrays.{MarksReached}
use Rattle.flat_graph.specs.Layouts.{IsTouched, ArrayReaches, InGroup, IsBlock, IsSpot, spot_at, class_at, part_of, RunsBehind}
use Rattle.stage_packing.specs.Members.{IsMember, AreMembers, member_of}
use Rattle.stage_packing.specs.Spots.{IsSpotBy}
use Rattle.stage_packing.specs.Depths.{part_at, Needs, using as needs_use, behind, InParts}
use Rattle.stage_packing.proofs.DepthLemmas.{later_part}
use Rattle.stage_packing.proofs.NodeLemmas.{one_array, array_reach, array_trans}

some_is : {m n : ℕ} → Some m ≡ Some n → m ≡ n
some_is e = cc

abbrev group_in : Spot → Option ℕ
group_in (spot.Group g) = Some g
group_in (spot.Block b) = None

abbrev block_in : Spot → ℕ
block_in (spot.Group g) = 0
block_in (spot.Block b) = b

is_group : (s : Spot) (g : ℕ) → group_in s ≡ Some g → s ≡ spot.Group g
is_group (spot.Group h) g e = ap spot.Group (some_is e)
is_group (spot.Block b) g e = absurd (let f : None ≡ Some g = e in cc)

is_block : (s : Spot) → group_in s ≡ None → s ≡ spot.Block (block_in s)
is_block (spot.Block b) e = refl
is_block (spot.Group g) e = absurd (let f : Some g ≡ None = e in cc)

past : (spots : List Spot) (i : ℕ) → length spots ≤ i → spot_at spots i ≡ spot.Block 0
past [] i le = refl
past (s ∷ spots) zero le = absurd (omega arith)
past (s ∷ spots) (suc i) le = past spots i (omega (arith, le))

inside : (spots : List Spot) (i g : ℕ) → group_in (spot_at spots i) ≡ Some g → i < length spots
inside spots i g e = elim (cases_lt i (length spots)) [ inl lt ↦ lt | inr le ↦ absurd (let f : None ≡ Some g = sym (ap group_in (past spots i le)) ∙ e in cc) ]

module _ (nodes : List Node) (ordered : IsOrdered nodes) where
  starts : {i m : ℕ} → Reaches (Depends nodes) i m → m < length nodes → i < length nodes
  starts here w = w
  starts (step (using wi u) rest) w = wi
  starts (step (shared wi wj ei ej) rest) w = wi

  module _ (classes : List ℕ) (are : AreClasses (Depends nodes) (length nodes) classes) (count : ℕ) (of : List (Option ℕ)) (wide : length of ≡ 16)
      (groups : AreGroups (IsTouched nodes) (ArrayReaches nodes) count of) where
    -- an instruction of an array is in its group
    pub grouped : (m a : ℕ) → m < length nodes → (node_at nodes m).array ≡ Some a → (g : ℕ) × (g < count) × (group_of of a ≡ Some g)
    grouped m a wm e = groups.touched a (omega (arith, ordered.arrays m a wm e, wide)) (m, wm, e)

    -- a place by codelets and marks is a place by what is reached
    pub spot_right : (members : List (Option ℕ)) → AreMembers nodes members → (rows : List (List Bool)) → MarksReached nodes rows
        → (i : ℕ) → i < length nodes → (s : Spot) → IsSpotBy classes members rows of i s → IsSpot nodes of i s
    spot_right members ms rows marks i wi (spot.Group g) h =
        let k = member_is h.0 h.1 h.2.0 h.2.1 in
        (h.0, h.2.0, k.0, k.1, h.2.3, (are.same i h.2.0 wi k.0).0 (sym h.2.2)) where
          member_is : (a : ℕ) → a < 16 → (m : ℕ) → member_of members a ≡ Some m → (m < length nodes) × ((node_at nodes m).array ≡ Some a)
          member_is a w m e = subst (IsMember nodes (length nodes) a) e (ms a w)
    spot_right members ms rows marks i wi (spot.Block b) h = record {
      outside = λ g inside_it. out g inside_it (member_of members inside_it.0) refl;
      above = λ g r. h.1.above r.0 g (low r.2.0 r.0 r.2.1 r.2.2, (marks.marks i r.0 wi (low r.2.0 r.0 r.2.1 r.2.2)).1 r.2, r.1);
      least = elim h.1.least [ inl z ↦ inl z | inr l ↦ inr (l.1, l.2, (l.0, l.3.2, (marks.marks i l.0 wi l.3.0).0 l.3.1)) ];
    } where
      low : (m a : ℕ) → m < length nodes → (node_at nodes m).array ≡ Some a → a < 16
      low m a wm e = ordered.arrays m a wm e

      out : (g : ℕ) (k : InGroup nodes of i g) (o : Option ℕ) → member_of members k.0 ≡ o → ⊥
      out g k None e = subst (IsMember nodes (length nodes) k.0) e (ms k.0 (low k.1 k.0 k.2 k.3)) k.1 k.2 k.3
      out g k (Some m) e =
          let wa : k.0 < 16 = low k.1 k.0 k.2 k.3 in
          let is = subst (IsMember nodes (length nodes) k.0) e (ms k.0 wa) in
          let reach : Mutual (Depends nodes) m i = (join (one_array nodes ordered m k.1 k.0 is.0 k.2 is.1 k.3) k.5.1, join k.5.0 (one_array nodes ordered k.1 m k.0 k.2 is.0 k.3 is.1)) in
          h.0 k.0 g wa (m, e, (are.same m i is.0 wi).1 reach, k.4)

    module _ (spots : List Spot) (long : length spots ≡ length nodes) (placed : (i : ℕ) → i < length nodes → IsSpot nodes of i (spot_at spots i)) where
      one_group : (i j g h : ℕ) → Mutual (Depends nodes) i j → InGroup nodes of i g → InGroup nodes of j h → g ≡ h
      one_group i j g h m p q =
          let to : ArrayReaches nodes p.0 q.0 = (p.1, p.2, p.3, (q.1, q.2, q.3, join p.5.1 (join m.0 q.5.0))) in
          let from : ArrayReaches nodes q.0 p.0 = (q.1, q.2, q.3, (p.1, p.2, p.3, join q.5.1 (join m.1 p.5.0))) in
          some_is (sym p.4 ∙ (groups.same p.0 q.0 (p.1, p.2, p.3) (q.1, q.2, q.3)).1 (to, from) ∙ q.4)

      pub in_group : (i g : ℕ) → i < length nodes → spot_at spots i ≡ spot.Group g → InGroup nodes of i g
      in_group i g wi e = subst (IsSpot nodes of i) e (placed i wi)

      pub in_spot : (i g : ℕ) → i < length nodes → InGroup nodes of i g → spot_at spots i ≡ spot.Group g
      in_spot i g wi p = go (spot_at spots i) refl where
        go : (s : Spot) → spot_at spots i ≡ s → spot_at spots i ≡ spot.Group g
        go (spot.Block b) e = absurd (let k : IsBlock nodes of i b = subst (IsSpot nodes of i) e (placed i wi) in k.outside g p)
        go (spot.Group h) e = e ∙ ap spot.Group (one_group i i h g (here, here) (in_group i h wi e) p)

      -- instructions of one group are of one codelet
      pub one_codelet : (i j g : ℕ) → i < length nodes → j < length nodes → spot_at spots i ≡ spot.Group g → spot_at spots j ≡ spot.Group g → Mutual (Depends nodes) i j
      one_codelet i j g wi wj ei ej =
          let p = in_group i g wi ei in
          let q = in_group j g wj ej in
          let r = (groups.same p.0 q.0 (p.1, p.2, p.3) (q.1, q.2, q.3)).0 (p.4 ∙ sym q.4) in
          (join p.5.0 (join (array_reach nodes ordered p.0 q.0 p.1 q.1 r.0 p.2 q.2 p.3 q.3) q.5.1), join q.5.0 (join (array_reach nodes ordered q.0 p.0 q.1 p.1 r.1 q.2 p.2 q.3 p.3) p.5.1))

      along : (i j g : ℕ) → i < length nodes → j < length nodes → spot_at spots i ≡ spot.Group g → Mutual (Depends nodes) i j → spot_at spots j ≡ spot.Group g
      along i j g wi wj e m =
          let p = in_group i g wi e in
          in_spot j g wj (p.0, p.1, p.2, p.3, p.4, (join m.1 p.5.0, join p.5.1 m.0))

      -- ---- the order of running

      abbrev group_at : ℕ → Option ℕ
      group_at i = group_in (spot_at spots i)

      abbrev block_at : ℕ → ℕ
      block_at i = block_in (spot_at spots i)

      within : (i g : ℕ) → group_at i ≡ Some g → i < length nodes
      within i g e = let w : i < length spots = inside spots i g e in omega (arith, w, long)

      spot_is : (i g : ℕ) → group_at i ≡ Some g → spot_at spots i ≡ spot.Group g
      spot_is i g e = is_group (spot_at spots i) g e

      no_later_reached : (i j g h : ℕ) → Reaches (Depends nodes) i j → group_at i ≡ Some g → group_at j ≡ Some h → h ≤ g
      no_later_reached i j g h r ei ej =
          let p = in_group i g (within i g ei) (spot_is i g ei) in
          let q = in_group j h (within j h ej) (spot_is j h ej) in
          let to : ArrayReaches nodes p.0 q.0 = (p.1, p.2, p.3, (q.1, q.2, q.3, join p.5.1 (join r q.5.0))) in
          elim (cases_lt g h) [
            | inl lt ↦ absurd (no_later (IsTouched nodes) (ArrayReaches nodes) (array_trans nodes ordered) count of groups p.0 q.0 g h (p.1, p.2, p.3) (q.1, q.2, q.3) p.4 q.4 to lt)
            | inr le ↦ le
          ]

      one_class : (i j g : ℕ) → group_at i ≡ Some g → group_at j ≡ Some g → Reaches (Depends nodes) i j
      one_class i j g ei ej = (one_codelet i j g (within i g ei) (within j g ej) (spot_is i g ei) (spot_is j g ej)).0

      closed : (i j g : ℕ) → group_at i ≡ Some g → Reaches (Depends nodes) i j → Reaches (Depends nodes) j i → group_at j ≡ Some g
      closed i j g ei r s = let wi : i < length nodes = within i g ei in ap group_in (along i j g wi (starts s wi) (spot_is i g ei) (r, s))

      block_is : (i : ℕ) → i < length nodes → group_at i ≡ None → IsBlock nodes of i (block_at i)
      block_is i wi e = subst (IsSpot nodes of i) (is_block (spot_at spots i) e) (placed i wi)

      above : (i m g : ℕ) → group_at i ≡ None → Reaches (Depends nodes) i m → group_at m ≡ Some g → g < block_at i
      above i m g ei r em =
          let wm : m < length nodes = within m g em in
          let q = in_group m g wm (spot_is m g em) in
          (block_is i (starts r wm) ei).above g (q.0, q.4, (q.1, q.2, q.3, join r q.5.0))

      least : (i : ℕ) → group_at i ≡ None → (block_at i ≡ 0) ⊎ ((g : ℕ) × (m : ℕ) × (block_at i ≡ suc g) × Reaches (Depends nodes) i m × (group_at m ≡ Some g))
      least i e = elim (cases_lt i (length nodes)) [
        | inl wi ↦ elim (block_is i wi e).least [
          | inl z ↦ inl z
          | inr l ↦
              let r = l.2 in
              inr (l.0, r.2.0, l.1, r.2.3, ap group_in (in_spot r.2.0 l.0 r.2.1 (r.0, r.2.0, r.2.1, r.2.2, r.1, (here, here))))
        ]
        | inr le ↦ inl (ap block_in (past spots i (omega (arith, le, long))))
      ]

      part_is : (i : ℕ) → part (Depends nodes) group_at block_at no_later_reached one_class closed above least i ≡ part_at spots i
      part_is i = go (spot_at spots i) where
        go : (s : Spot) → group_part (Depends nodes) group_at block_at no_later_reached one_class closed above least (group_in s) (block_in s) ≡ part_of s
        go (spot.Group g) = refl
        go (spot.Block b) = refl

      -- what an instruction uses is in no later part
      in_order : (i j : ℕ) → Depends nodes i j → part_at spots j ≤ part_at spots i
      in_order i j d =
          let le = uses_before (Depends nodes) group_at block_at no_later_reached one_class closed above least i j d in
          omega (arith, le, part_is i, part_is j)

      pub runs_behind : RunsBehind nodes spots
      runs_behind i j wi u =
          let le : part_at spots j ≤ part_at spots i = in_order i j (using wi u) in
          elim (eqb_tells (part_at spots j) (part_at spots i)) [
            | inl s ↦ inr (s.1, λ none. ordered.earlier i j wi none u)
            | inr s ↦ let ne : part_at spots j ≡ part_at spots i → ⊥ = s.1 in inl (omega arith)
          ]

      -- ---- codelets are in one part

      -- a group's part is no block's, and no other group's
      part_group : (s : Spot) (g : ℕ) → part_of s ≡ suc (g + g) → s ≡ spot.Group g
      part_group (spot.Group h) g e = let f : h ≡ g = omega (arith, e) in ap spot.Group f
      part_group (spot.Block b) g e = absurd (omega (arith, e))

      -- two instructions of one codelet that differ are of one group
      both : (i j : ℕ) → i < length nodes → j < length nodes → class_at classes i ≡ class_at classes j → (i ≡ j) ⊎ ((g : ℕ) × (spot_at spots i ≡ spot.Group g) × (spot_at spots j ≡ spot.Group g))
      both i j wi wj e = elim (through_array nodes ordered.earlier i j ((are.same i j wi wj).0 e)) [
        | inl s ↦ inl s
        | inr t ↦
            let g = grouped t.1 t.0 t.2 t.3 in
            inr (g.0, in_spot i g.0 wi (t.0, t.1, t.2, t.3, g.2, t.4), in_spot j g.0 wj (t.0, t.1, t.2, t.3, g.2, t.5))
      ]

      no_array : (i : ℕ) → i < length nodes → (b : ℕ) → spot_at spots i ≡ spot.Block b → (o : Option ℕ) → (node_at nodes i).array ≡ o → (node_at nodes i).array ≡ None
      no_array i wi b e None f = f
      no_array i wi b e (Some a) f =
          let g = grouped i a wi f in
          let p : spot_at spots i ≡ spot.Group g.0 = in_spot i g.0 wi (a, i, wi, f, g.2, (here, here)) in
          absurd (let q : None ≡ Some g.0 = sym (ap group_in e) ∙ ap group_in p in cc)

      needs_before : (i j : ℕ) → Needs nodes classes spots i j → (part_at spots j < part_at spots i) ⊎ ((part_at spots j ≡ part_at spots i) × (j < i))
      needs_before i j (behind wi wj n) = inl (later_part spots i j n)
      needs_before i j (needs_use wi wj u) = elim (runs_behind i j wi u.0) [
        | inl less ↦ inl less
        | inr s ↦ inr (s.0, go s.0 (spot_at spots i) refl s.1)
      ] where
        go : part_at spots j ≡ part_at spots i → (t : Spot) → spot_at spots i ≡ t → ((node_at nodes i).array ≡ None → j < i) → j < i
        go same (spot.Block b) e less = less (no_array i wi b e (node_at nodes i).array refl)
        go same (spot.Group g) e less =
            let ej : spot_at spots j ≡ spot.Group g = part_group (spot_at spots j) g (same ∙ ap part_of e) in
            absurd (u.1 ((are.same i j wi wj).1 (one_codelet i j g wi wj e ej)))

      pub in_parts : InParts nodes classes spots
      in_parts = record {
        before = needs_before;
        one_part = λ i j wi wj e. elim (both i j wi wj e) [ inl s ↦ ap (part_at spots) s | inr g ↦ ap part_of (g.1 ∙ sym g.2) ];
        whole = λ i j k wi wj wk e ne p. elim (both i j wi wj (sym e)) [
          | inl s ↦ absurd (ne (sym s))
          | inr g ↦
              let ek : spot_at spots k ≡ spot.Group g.0 = part_group (spot_at spots k) g.0 (p ∙ ap part_of g.1) in
              (are.same k i wk wi).1 (one_codelet k i g.0 wk wi ek g.1)
        ];
      }
