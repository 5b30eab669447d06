-- What groups, places and codelets say of each other.
use Rattle.std.proofs.Common.{◌≡◌, ℕ, ◌<◌, Bool, true, refl, sym, ◌∙◌, subst, inl, inr, List, length, Option, Some, None}
use Rattle.std.specs.Prelude.{is_some}
use Rattle.std.proofs.lemmas.Bool.{false≢true}
use Rattle.dependence.specs.Reach.{Reaches, here, step}
use Rattle.dependence.specs.Tables.{has, at, Marked}
use Rattle.dependence.specs.Uses.{Node, node_at, Depends, shared}
use Rattle.dependence.specs.Groups.{AreGroups, RestsOn, Before, Linked, IsClosed, IsOn}
use Rattle.dependence.proofs.ReachLemmas.{join}
use Rattle.dependence.proofs.PathLemmas.{depth_along}
use Rattle.flat_graph.specs.Orders.{IsOrdered}
use Rattle.flat_graph.specs.ReachedArrays.{MarksReached}
use Rattle.flat_graph.specs.Layouts.{IsTouched, ArrayReaches}
use Rattle.stage_packing.specs.Members.{IsMember, AreMembers, member_of, reaches}

-- ---- arrays

module _ (nodes : List Node) (ordered : IsOrdered nodes) where
  -- instructions of one array reach each other
  pub one_array : (i j a : ℕ) → i < length nodes → j < length nodes → (node_at nodes i).array ≡ Some a → (node_at nodes j).array ≡ Some a → Reaches (Depends nodes) i j
  one_array i j a wi wj ei ej = step (shared wi wj ei ej) here

  -- so an array reaches another exactly where any of its instructions reaches any of the other's
  pub array_reach : (a b i j : ℕ) → ArrayReaches nodes a b → i < length nodes → j < length nodes → (node_at nodes i).array ≡ Some a → (node_at nodes j).array ≡ Some b → Reaches (Depends nodes) i j
  array_reach a b i j q wi wj ei ej = join (one_array i q.0 a wi q.1 ei q.2) (join q.3.3 (one_array q.3.0 j b q.3.1 wj q.3.2 ej))

  pub array_trans : (a b c : ℕ) → ArrayReaches nodes a b → ArrayReaches nodes b c → ArrayReaches nodes a c
  array_trans a b c p q = (p.0, p.1, p.2, (q.3.0, q.3.1, q.3.2, join p.3.3 (join (one_array p.3.0 q.0 b p.3.1 q.1 p.3.2 q.2) q.3.3)))

  -- the table of what the arrays' instructions reach
  module _ (members : List (Option ℕ)) (are : AreMembers nodes members) (rows : List (List Bool)) (marks : MarksReached nodes rows)
      (table : List (List Bool)) (is : (a b : ℕ) → a < 16 → b < 16 → at table a b ≡ reaches rows (member_of members a) b) where
    marked_reaches : (a b : ℕ) → Marked table a b → ArrayReaches nodes a b
    marked_reaches a b m = go (member_of members a) (are a m.0) (sym (is a b m.0 m.1) ∙ m.2) where
      go : (o : Option ℕ) → IsMember nodes (length nodes) a o → reaches rows o b ≡ true → ArrayReaches nodes a b
      go None h e = absurd (false≢true e)
      go (Some k) h e = (k, h.0, h.1, (marks.marks k b h.0 m.1).0 e)

    reaches_marked : (a b : ℕ) → ArrayReaches nodes a b → Marked table a b
    reaches_marked a b q =
        let wa : a < 16 = ordered.arrays q.0 a q.1 q.2 in
        let wb : b < 16 = ordered.arrays q.3.0 b q.3.1 q.3.2 in
        (wa, wb, is a b wa wb ∙ go wb (member_of members a) (are a wa)) where
          go : b < 16 → (o : Option ℕ) → IsMember nodes (length nodes) a o → reaches rows o b ≡ true
          go wb None h = absurd (h q.0 q.1 q.2)
          go wb (Some k) h = (marks.marks k b h.0 wb).1 (q.3.0, q.3.1, q.3.2, join (one_array k q.0 a h.0 q.1 h.1 q.2) q.3.3)

    pub table_closed : IsClosed table
    table_closed a b c (inl e) l = subst (λ x. Linked table x c) (sym e) l
    table_closed a b c (inr m) (inl e) = subst (Linked table a) e (inr m)
    table_closed a b c (inr m) (inr n) = inr (reaches_marked a c (array_trans a b c (marked_reaches a b m) (marked_reaches b c n)))

    -- the groups by the table are those of the code
    module _ (touched : List Bool) (on : (a : ℕ) → a < 16 → has touched a ≡ is_some (member_of members a)) where
      on_touched : (a : ℕ) → IsOn touched a → IsTouched nodes a
      on_touched a t = go (member_of members a) (are a t.0) (sym (on a t.0) ∙ t.1) where
        go : (o : Option ℕ) → IsMember nodes (length nodes) a o → is_some o ≡ true → IsTouched nodes a
        go None h e = absurd (false≢true e)
        go (Some k) h e = (k, h.0, h.1)

      touched_on : (a : ℕ) → IsTouched nodes a → IsOn touched a
      touched_on a t =
          let wa : a < 16 = ordered.arrays t.0 a t.1 t.2 in
          (wa, on a wa ∙ go (member_of members a) (are a wa)) where
            go : (o : Option ℕ) → IsMember nodes (length nodes) a o → is_some o ≡ true
            go None h = absurd (h t.0 t.1 t.2)
            go (Some k) h = refl

      itself : (a : ℕ) → IsTouched nodes a → ArrayReaches nodes a a
      itself a t = (t.0, t.1, t.2, (t.0, t.1, t.2, here))

      linked_reaches : (a b : ℕ) → IsTouched nodes a → Linked table a b → ArrayReaches nodes a b
      linked_reaches a b t (inl e) = subst (ArrayReaches nodes a) e (itself a t)
      linked_reaches a b t (inr m) = marked_reaches a b m

      rests_to : (a b : ℕ) → RestsOn (Linked table) a b → RestsOn (ArrayReaches nodes) a b
      rests_to a b h = (go h.0, λ q. h.1 (inr (reaches_marked b a q))) where
        go : Linked table a b → ArrayReaches nodes a b
        go (inl e) = absurd (h.1 (inl (sym e)))
        go (inr m) = marked_reaches a b m

      rests_from : (a b : ℕ) → RestsOn (ArrayReaches nodes) a b → RestsOn (Linked table) a b
      rests_from a b h = (inr (reaches_marked a b h.0), λ l. go l) where
        go : Linked table b a → ⊥
        go (inl e) = h.1 (subst (λ x. ArrayReaches nodes x a) (sym e) (subst (ArrayReaches nodes a) e h.0))
        go (inr m) = h.1 (marked_reaches b a m)

      before_to : (of : List (Option ℕ)) (a b : ℕ) → Before (Linked table) of a b → Before (ArrayReaches nodes) of a b
      before_to of a b h = (h.0, h.1, depth_along (RestsOn (Linked table)) (RestsOn (ArrayReaches nodes)) rests_to rests_from a h.0 h.2, depth_along (RestsOn (Linked table)) (RestsOn (ArrayReaches nodes)) rests_to rests_from b h.1 h.3, h.4)

      pub groups_right : (count : ℕ) (of : List (Option ℕ)) → AreGroups (IsOn touched) (Linked table) count of → AreGroups (IsTouched nodes) (ArrayReaches nodes) count of
      groups_right count of h = record {
        touched = λ a w t. h.touched a w (touched_on a t);
        untouched = λ a w out. h.untouched a w (λ t. out (on_touched a t));
        same = λ a b ta tb. (
          λ e. (let l = (h.same a b (touched_on a ta) (touched_on b tb)).0 e in (linked_reaches a b ta l.0, linked_reaches b a tb l.1)),
          λ q. (h.same a b (touched_on a ta) (touched_on b tb)).1 (inr (reaches_marked a b q.0), inr (reaches_marked b a q.1)),
        );
        used = λ g less. (let u = h.used g less in (u.0, u.1, on_touched u.0 u.2, u.3));
        ordered = λ a b g k ea eb less. before_to of a b (h.ordered a b g k ea eb less);
      }
