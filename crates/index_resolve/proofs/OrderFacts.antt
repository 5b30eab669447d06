-- In the running order each instruction stands behind what it uses.
use Rattle.std.proofs.Common.{◌≡◌, ◌⊎◌, inl, inr, ℕ, zero, suc, ◌+◌, ◌*◌, ◌<◌, ◌≤◌, nat_lt, ◌==◌, not, Bool, true, false, List, [], ◌∷◌, ◌++◌, length, flat_map, take, get_or, refl, sym, ap, subst, ◌∙◌, arith}
use Rattle.std.specs.List.{list_all}
use Rattle.std.proofs.lemmas.Bool.Decides.{nat_tests}
use Rattle.code_forms.specs.declared.flat.Operand.{Operand}
use Rattle.code_forms.specs.declared.flat.Operand.TheVariants as operand
use Rattle.code_forms.specs.declared.flat.Instr.{Instr}
use Rattle.code_forms.specs.declared.flat.Instr.TheVariants as instr
use Rattle.code_forms.specs.declared.layout.Spot.{Spot}
use Rattle.code_forms.specs.FlatMeaning.{Slots, steps_in, index_slot}
use Rattle.code_forms.specs.FlatValid.{Event, Indexes, Loads, Stores, is_flat_code, is_limited, is_written, is_guard, instr_fits, instrs_fit, arrays_fit, sames_fit, after_all, header_slots, writes, instr_at, events, event_of, is_life, is_touched}
use Rattle.code_forms.specs.FlatValid.{at as slot_mark}
use Rattle.code_forms.specs.Staged.{Staged, Member, operand_slots, slot_of_index, uses, last_slots, guards_of, number_at, runs, point, InPart, IsWritten, of_header, of_instr, AreParts, IsOrder}
use Rattle.code_forms.proofs.ValidLemmas.{and_front, and_back, and_both}
use Rattle.code_forms.proofs.StagedLemmas.{member_front}
use Rattle.code_forms.proofs.FlatLemmas.{UsesBelow, InOrder}
use Rattle.code_forms.proofs.OrderLemmas.{Lives, in_order}
use Rattle.code_forms.proofs.FitLemmas.{load_here, store_here}
use Rattle.dependence.specs.Uses.{Node, node_at, Member as Uses}
use Rattle.flat_graph.specs.Nodes.{nodes_in, used_by, writer, writers}
use Rattle.flat_graph.specs.Layouts.{RunsBehind}
use Rattle.flat_graph.specs.Orders.{copies_in}
use Rattle.flat_graph.proofs.Ordered.{node_length, node_there}
use Rattle.index_resolve.specs.Order.{part_at, is_kind, is_in, chosen, running, part_ends}
use Rattle.index_resolve.proofs.OrderPlaces.{Stands, at_each, stands, place, inner, in_part, order_grows, order_up, ends_length, ends_at, earlier, is_same}
use Rattle.index_resolve.proofs.PlaceLemmas.{arrays_fitting}
use Rattle.index_resolve.proofs.IndexLemmas.{life_at, guards_at, IsIndex, index_of}
use Rattle.index_resolve.proofs.UseLemmas.{Good, before, fit_at, more_wrote, in_back, one_op, all_guards, plain_uses, word_wrote}

member_cases : (v : ℕ) (xs ys : List ℕ) → Member v (xs ++ ys) → Member v xs ⊎ Member v ys
member_cases v [] ys m = inr m
member_cases v (x ∷ xs) ys (inl e) = inl (inl e)
member_cases v (x ∷ xs) ys (inr m) = elim (member_cases v xs ys m) [ inl t ↦ inl (inr t) | inr t ↦ inr t ]

-- ---- the life of an array

-- an array that something is done to is touched, and its Index comes first
pub life_some : (t : Bool) (es : List Event) → is_life t es ≡ true → (es ≡ [] → ⊥) → (t ≡ true) × ((fs : List Event) × (es ≡ Indexes ∷ fs))
life_some false [] life some = elim (some refl) [ ]
life_some false (e ∷ es) life some = absurd cc
life_some true [] life some = elim (some refl) [ ]
life_some true (Indexes ∷ es) life some = (refl, (es, refl))
life_some true (Loads ∷ es) life some = absurd cc
life_some true (Stores ∷ es) life some = absurd cc

no_events : (a : ℕ) (i : Instr) (es : List Event) → event_of a i ++ es ≡ [] → (event_of a i ≡ []) × (es ≡ [])
no_events a i es e = by (event_of a i) refl e where
  by : (l : List Event) → event_of a i ≡ l → l ++ es ≡ [] → (event_of a i ≡ []) × (es ≡ [])
  by [] is e = (is, e)
  by (x ∷ l) is e = absurd cc

pub some_event : (a : ℕ) (instrs : List Instr) (k : ℕ) → k < length instrs → events a instrs ≡ [] → event_of a (instr_at instrs k) ≡ []
some_event a [] k less e = absurd (omega arith)
some_event a (i ∷ instrs) zero less e = (no_events a i (events a instrs) e).0
some_event a (i ∷ instrs) (suc k) less e = some_event a instrs k (omega (arith, less)) (no_events a i (events a instrs) e).1

no_item : (x : Event) (l : List Event) → (x ∷ l) ≡ [] → ⊥
no_item x l e = absurd cc

lt_is : (a b : ℕ) → nat_lt a b ≡ true → a < b
lt_is a b e = grind (arith, nat_tests, e)

order_at : (slots : Slots) (later : List (List ℕ)) (instrs : List Instr) (at m k : ℕ) → k < length instrs → InOrder slots at (steps_in later m instrs) → UsesBelow slots (at + k) (instr_at instrs k)
order_at slots later [] at m k less order = absurd (omega arith)
order_at slots later (i ∷ instrs) at m zero less order = subst (λ n. UsesBelow slots n i) (omega arith) order.0
order_at slots later (i ∷ instrs) at m (suc k) less order = subst (λ n. UsesBelow slots n (instr_at instrs k)) (omega arith) (order_at slots later instrs (suc at) (suc m) k (omega (arith, less)) order.2)

take_all : (l : List Instr) → take (length l) l ≡ l
take_all [] = refl
take_all (x ∷ l) = ap (λ m. x ∷ m) (take_all l)

module _ (c : Staged) (valid : is_flat_code c.fields c.arrays c.instrs c.last ≡ true) where
  fitting : instrs_fit (length c.arrays) (header_slots c.fields) c.instrs ≡ true
  fitting = and_front _ _ (and_back (is_limited c.fields c.arrays c.instrs) _ valid)

  pub life_of : (a : ℕ) → a < length c.arrays → is_life (is_touched c.arrays a) (events a c.instrs) ≡ true
  life_of a less = subst (λ n. is_life (is_touched c.arrays a) (events n c.instrs) ≡ true) (omega arith) (life_at c.instrs (after_all (header_slots c.fields) c.instrs) 0 c.arrays a less (arrays_fitting c valid))

  lives : Lives (length c.arrays) c.instrs
  lives a less = (is_touched c.arrays a, life_of a less)

  -- the Index of an array that an instruction does something to
  pub index_at : (a k : ℕ) → a < length c.arrays → k < length c.instrs → (event_of a (instr_at c.instrs k) ≡ [] → ⊥) → (m : ℕ) × (x : Operand) × IsIndex c.instrs a m x
  index_at a k there less does =
      let first = life_some (is_touched c.arrays a) (events a c.instrs) (life_of a there) (λ e. does (some_event a c.instrs k less e)) in
      index_of c.instrs a first.1.0 first.1.1

  below : (k : ℕ) → k < length c.instrs → UsesBelow (slot_of_index c) (c.fields + k) (instr_at c.instrs k)
  below k less = order_at (slot_of_index c) (copies_in c.arrays) c.instrs c.fields 0 k less (in_order c.fields (length c.arrays) c.instrs lives (copies_in c.arrays) fitting)

  fits : (k : ℕ) → k < length c.instrs → instr_fits (length c.arrays) (before c.fields c.instrs k) (instr_at c.instrs k) ≡ true
  fits k less = fit_at (length c.arrays) (header_slots c.fields) c.instrs k less fitting

  -- an Index that a Load or a Store uses
  index_good : (a k v bound : ℕ) (rest : List ℕ) (used : (m : ℕ) × (x : Operand) × IsIndex c.instrs a m x) → slot_of_index c a < c.fields + bound → v ≡ slot_of_index c a
      → Good c.fields c.instrs bound (index_slot c.instrs 0 a ∷ rest) v
  index_good a k v bound rest used less e =
      let is : IsIndex c.instrs a used.0 used.1 = used.2 in (
        inr (used.0, e ∙ is.slot c.fields, omega (arith, less, is.slot c.fields), ap writes is.instruction),
        (λ j f. inl (omega (arith, f, e, is.slot c.fields, is.slot 0))),
      )

  abbrev pub bound : Bool → ℕ → ℕ
  bound false k = k
  bound true k = length c.instrs

  not_both : (b : Bool) → b ≡ true → not b ≡ true → ⊥
  not_both true e f = absurd cc
  not_both false e f = absurd cc

  others : (k v : ℕ) (i : Instr) (stores : Bool) → k < length c.instrs → instr_at c.instrs k ≡ i → is_kind stores i ≡ true → ((a : ℕ) → i ≡ instr.Load a → ⊥) → writes i ≡ true → Member v (uses c i)
      → Good c.fields c.instrs (bound stores k) (used_by c.fields c.arrays c.instrs i) v
  others k v i true less is kind load does m = elim (not_both (writes i) does kind) [ ]
  others k v i false less is kind load does m =
      plain_uses c.fields c.instrs k c (length c.arrays) i v refl refl load does (subst (λ i. instr_fits (length c.arrays) (before c.fields c.instrs k) i ≡ true) is (fits k less)) m

  -- what an instruction uses is written before it, or for a Store anywhere, and is what its node uses
  pub uses_good : (k v : ℕ) (i : Instr) (stores : Bool) → k < length c.instrs → instr_at c.instrs k ≡ i → is_kind stores i ≡ true → Member v (uses c i)
      → Good c.fields c.instrs (bound stores k) (used_by c.fields c.arrays c.instrs i) v
  uses_good k v (instr.Load a) true less is kind m = absurd cc
  uses_good k v (instr.Load a) false less is kind (inr m) = elim m [ ]
  uses_good k v (instr.Load a) false less is kind (inl e) =
      let there : a < length c.arrays = lt_is a (length c.arrays) (subst (λ i. instr_fits (length c.arrays) (before c.fields c.instrs k) i ≡ true) is (fits k less)) in
      index_good a k v k [] (index_at a k there less (λ n. no_item Loads [] (sym (load_here a) ∙ ap (event_of a) (sym is) ∙ n))) (subst (λ i. UsesBelow (slot_of_index c) (c.fields + k) i) is (below k less)) e
  uses_good k v (instr.Store a x) false less is kind m = absurd cc
  uses_good k v (instr.Store a x) true less is kind m =
      let fit : instr_fits (length c.arrays) (before c.fields c.instrs k) (instr.Store a x) ≡ true = subst (λ i. instr_fits (length c.arrays) (before c.fields c.instrs k) i ≡ true) is (fits k less) in
      let there : a < length c.arrays = lt_is a (length c.arrays) (and_front _ _ fit) in
      let used = index_at a k there less (λ n. no_item Stores [] (sym (store_here a x) ∙ ap (event_of a) (sym is) ∙ n)) in
      let index : IsIndex c.instrs a used.0 used.1 = used.2 in
      let n = length c.instrs in
      let gs = guards_of c.arrays a in
      elim (member_cases v (operand_slots x) (slot_of_index c a ∷ flat_map operand_slots gs) m) [
        | inl t ↦ (
            let good = one_op c.fields c.instrs k x v (and_back (nat_lt a (length c.arrays)) _ fit) t in
            let used_x : (j : ℕ) → v ≡ c.fields + j → Member j (writers c.fields (x ∷ [])) = good.1 in (
              more_wrote c.fields c.instrs k n v (omega (arith, less)) good.0,
              (λ j e. inr (widen c.fields x gs j (used_x j e))),
            ))
        | inr t ↦ elim t [
          | inl e ↦ index_good a k v n (writers c.fields (x ∷ gs)) used (omega (arith, index.slot c.fields, index.within)) e
          | inr g ↦ in_back c.fields c.instrs n (index_slot c.instrs 0 a ∷ []) (writers c.fields (x ∷ gs)) v
              (in_back c.fields c.instrs n (writer c.fields x) (writers c.fields gs) v (all_guards c.fields c.instrs n gs v
              (subst (λ l. list_all (is_guard (after_all (header_slots c.fields) l)) gs ≡ true) (sym (take_all c.instrs)) (guards_at c.instrs (after_all (header_slots c.fields) c.instrs) 0 c.arrays a (arrays_fitting c valid))) g))
        ]
      ] where
        widen : (fields : ℕ) (x : Operand) (gs : List Operand) (j : ℕ) → Member j (writers fields (x ∷ [])) → Member j (writers fields (x ∷ gs))
        widen fields x gs j m = elim (member_cases j (writer fields x) [] m) [ inl t ↦ member_front j (writer fields x) (writers fields gs) t | inr t ↦ elim t [ ] ]
  uses_good k v (instr.One op a) stores less is kind m = others k v (instr.One op a) stores less is kind (λ l e. absurd cc) refl m
  uses_good k v (instr.Two op a b) stores less is kind m = others k v (instr.Two op a b) stores less is kind (λ l e. absurd cc) refl m
  uses_good k v (instr.Pick x a b) stores less is kind m = others k v (instr.Pick x a b) stores less is kind (λ l e. absurd cc) refl m
  uses_good k v (instr.Hash kd a b x) stores less is kind m = others k v (instr.Hash kd a b x) stores less is kind (λ l e. absurd cc) refl m
  uses_good k v (instr.Move a) stores less is kind m = others k v (instr.Move a) stores less is kind (λ l e. absurd cc) refl m
  uses_good k v (instr.Yes g x) stores less is kind m = others k v (instr.Yes g x) stores less is kind (λ l e. absurd cc) refl m
  uses_good k v (instr.No g x) stores less is kind m = others k v (instr.No g x) stores less is kind (λ l e. absurd cc) refl m
  uses_good k v (instr.Index n a) stores less is kind m = others k v (instr.Index n a) stores less is kind (λ l e. absurd cc) refl m

  -- ---- the order

  module _ (spots : List Spot) (parts : ℕ) (low : (i : ℕ) → i < length c.instrs → part_at spots i < parts)
      (behind : RunsBehind (nodes_in c.fields c.arrays c.instrs) spots)
      (order_is : c.order ≡ running spots c.instrs parts) (ends_are : c.ends ≡ part_ends spots c.instrs parts) where
    pub point_is : (k : ℕ) → k ≤ parts → point c k ≡ length (running spots c.instrs k)
    point_is zero le = refl
    point_is (suc k) le = ap (λ l. get_or l k 0) ends_are ∙ ends_at spots c.instrs parts k le

    pub ends_count : length c.ends ≡ parts
    ends_count = ap (λ (l : List ℕ). length l) ends_are ∙ ends_length spots c.instrs parts

    pub are_parts : length c.groups ≤ 16 → parts ≡ 2 * length c.groups + 1 → AreParts c
    are_parts few is = record {
      few = few;
      count = ends_count ∙ is;
      rising = λ k less. rises k (omega (arith, less, ends_count));
      whole = ap (point c) ends_count ∙ point_is parts (omega arith) ∙ ap (λ (l : List ℕ). length l) (sym order_is);
    } where
      rises : (k : ℕ) → k < parts → point c k ≤ point c (k + 1)
      rises k less =
          let next : k + 1 ≡ suc k = omega arith in
          let one = point_is k (omega (arith, less)) in
          let two : point c (k + 1) ≡ length (running spots c.instrs (suc k)) = ap (point c) next ∙ point_is (suc k) less in
          omega (arith, one, two, order_grows spots c.instrs k)

    pub each : (p : ℕ) → p < length c.order → Stands spots c.instrs parts p (number_at c p)
    each p less = subst (λ l. Stands spots c.instrs parts p (get_or l p 0)) (sym order_is) (at_each spots c.instrs parts p (subst (λ l. p < length l) order_is less))

    -- an instruction has a place in its part
    pub found : (stores : Bool) (i : ℕ) → i < length c.instrs → is_kind stores (instr_at c.instrs i) ≡ true
        → (number_at c (place spots c.instrs stores i) ≡ i) × InPart c (part_at spots i) (place spots c.instrs stores i)
    found stores i less kind =
        let inside = in_part spots c.instrs stores i less kind in
        let k = part_at spots i in
        let one = point_is k (omega (arith, low i less)) in
        let next : k + 1 ≡ suc k = omega arith in
        let two : point c (k + 1) ≡ length (running spots c.instrs (suc k)) = ap (point c) next ∙ point_is (suc k) (low i less) in (
          ap (λ l. get_or l (place spots c.instrs stores i) 0) order_is ∙ stands spots c.instrs stores i parts less (low i less) kind,
          (omega (arith, one, inside.0), omega (arith, two, inside.1)),
        )

    pub within : (stores : Bool) (i : ℕ) → i < length c.instrs → is_kind stores (instr_at c.instrs i) ≡ true → place spots c.instrs stores i < length c.order
    within stores i less kind =
        let up = order_up spots c.instrs (suc (part_at spots i)) parts (low i less) in
        let all = ap (λ (l : List ℕ). length l) order_is in
        omega (arith, (in_part spots c.instrs stores i less kind).1, up, all)

    -- what comes first in the order: by parts, and in one part what is no Store, by number
    comes_first : (stores : Bool) (j i : ℕ) → j < length c.instrs → i < length c.instrs → writes (instr_at c.instrs j) ≡ true → is_kind stores (instr_at c.instrs i) ≡ true
        → (part_at spots j < part_at spots i) ⊎ ((part_at spots j ≡ part_at spots i) × (j < bound stores i)) → place spots c.instrs false j < place spots c.instrs stores i
    comes_first stores j i wj wi does kind (inl less) =
        omega (arith, (in_part spots c.instrs false j wj does).1, order_up spots c.instrs (suc (part_at spots j)) (part_at spots i) less, (in_part spots c.instrs stores i wi kind).0)
    comes_first false j i wj wi does kind (inr t) =
        let same : part_at spots j ≡ part_at spots i = t.0 in
        let e = earlier (is_in spots c.instrs (part_at spots i) false) j i t.1 (is_in_part j i same does) in
        let one : length (running spots c.instrs (part_at spots j)) ≡ length (running spots c.instrs (part_at spots i)) = ap (λ p. length (running spots c.instrs p)) same in
        let two : inner spots c.instrs false j ≡ length (chosen (is_in spots c.instrs (part_at spots i) false) j) = ap (λ p. length (chosen (is_in spots c.instrs p false) j)) same in
        omega (arith, e, one, two) where
          is_in_part : (j i : ℕ) → part_at spots j ≡ part_at spots i → writes (instr_at c.instrs j) ≡ true → is_in spots c.instrs (part_at spots i) false j ≡ true
          is_in_part j i same does = and_both _ _ (is_same (part_at spots j) (part_at spots i) same) does
    comes_first true j i wj wi does kind (inr t) =
        let same : part_at spots j ≡ part_at spots i = t.0 in
        let e = earlier (is_in spots c.instrs (part_at spots i) false) j (length c.instrs) wj (is_in_part j i same does) in
        let one : length (running spots c.instrs (part_at spots j)) ≡ length (running spots c.instrs (part_at spots i)) = ap (λ p. length (running spots c.instrs p)) same in
        let two : inner spots c.instrs false j ≡ length (chosen (is_in spots c.instrs (part_at spots i) false) j) = ap (λ p. length (chosen (is_in spots c.instrs p false) j)) same in
        omega (arith, e, one, two) where
          is_in_part : (j i : ℕ) → part_at spots j ≡ part_at spots i → writes (instr_at c.instrs j) ≡ true → is_in spots c.instrs (part_at spots i) false j ≡ true
          is_in_part j i same does = and_both _ _ (is_same (part_at spots j) (part_at spots i) same) does

    to_uses : (x : ℕ) (l : List ℕ) → Member x l → Uses x l
    to_uses x [] m = elim m [ ]
    to_uses x (y ∷ l) (inl e) = inl e
    to_uses x (y ∷ l) (inr m) = inr (to_uses x l m)

    -- an instruction runs behind what it uses
    written : (p v : ℕ) → p < length c.order → Member v (uses c (runs c p)) → IsWritten c p v
    written p v less m =
        let i = number_at c p in
        let at = each p less in
        let good = uses_good i v (runs c p) at.stores at.below refl at.of_kind m in
        elim good.0 [
          | inl t ↦ of_header t
          | inr t ↦ (
              let j : ℕ = t.0 in
              let is : v ≡ c.fields + j = t.1 in
              let bounded : j < bound at.stores i = t.2 in
              let does : writes (instr_at c.instrs j) ≡ true = t.3 in
              let wj : j < length c.instrs = in_code at.stores i j at.below bounded in
              let count = node_length c.fields c.arrays c.instrs in
              let used : Uses j (node_at (nodes_in c.fields c.arrays c.instrs) i).uses =
              subst (λ (n : Node). Uses j n.uses) (sym (node_there c.fields c.arrays c.instrs i at.below)) (to_uses j _ (good.1 j is)) in
              let first : (part_at spots j < part_at spots i) ⊎ ((part_at spots j ≡ part_at spots i) × (j < bound at.stores i)) = elim (behind i j (omega (arith, count, at.below)) used) [
                | inl l ↦ inl l
                | inr l ↦ inr (l.0, bounded)
              ] in
              let q = place spots c.instrs false j in
              let before_p : q < p = omega (arith, comes_first at.stores j i wj at.below does at.of_kind first, at.at_place) in
              of_instr q before_p (is ∙ ap (λ n. c.fields + n) (sym (found false j wj does).0)))
        ] where
          in_code : (stores : Bool) (i j : ℕ) → i < length c.instrs → j < bound stores i → j < length c.instrs
          in_code false i j less b = omega (arith, less, b)
          in_code true i j less b = b

    of_slot : (s : ℕ) → slot_mark (after_all (header_slots c.fields) c.instrs).words s ≡ true → IsWritten c (length c.order) s
    of_slot s e = elim (word_wrote c.fields c.instrs (length c.instrs) s (subst (λ l. slot_mark (after_all (header_slots c.fields) l).words s ≡ true) (sym (take_all c.instrs)) e)) [
      | inl t ↦ of_header t
      | inr t ↦ (
          let j : ℕ = t.0 in
          let is : s ≡ c.fields + j = t.1 in
          of_instr (place spots c.instrs false j) (within false j t.2 t.3) (is ∙ ap (λ n. c.fields + n) (sym (found false j t.2 t.3).0)))
    ]

    of_operand : (v : ℕ) (x : Operand) → is_written (after_all (header_slots c.fields) c.instrs) x ≡ true → Member v (operand_slots x) → IsWritten c (length c.order) v
    of_operand v (operand.Slot s) fit (inl e) = of_slot v (ap (λ n. slot_mark (after_all (header_slots c.fields) c.instrs).words n) e ∙ fit)
    of_operand v (operand.Slot s) fit (inr m) = elim m [ ]
    of_operand v (operand.Number n) fit m = elim m [ ]

    of_list : (v : ℕ) (xs : List Operand) → list_all (is_written (after_all (header_slots c.fields) c.instrs)) xs ≡ true → Member v (flat_map operand_slots xs) → IsWritten c (length c.order) v
    of_list v [] all m = elim m [ ]
    of_list v (x ∷ xs) all m = elim (member_cases v (operand_slots x) (flat_map operand_slots xs) m) [
      | inl t ↦ of_operand v x (and_front (is_written (after_all (header_slots c.fields) c.instrs) x) _ all) t
      | inr t ↦ of_list v xs (and_back (is_written (after_all (header_slots c.fields) c.instrs) x) _ all) t
    ]

    last_written : (v : ℕ) → Member v (last_slots c) → IsWritten c (length c.order) v
    last_written v m = of_list v c.last (and_back (length c.last == c.fields) _ (and_back (sames_fit c.arrays 0 c.arrays) _ (and_back (arrays_fit c.instrs (after_all (header_slots c.fields) c.instrs) 0 c.arrays) _
        (and_back (instrs_fit (length c.arrays) (header_slots c.fields) c.instrs) _ (and_back (is_limited c.fields c.arrays c.instrs) _ valid))))) m

    pub is_order : IsOrder c
    is_order = record {
      known = λ p less. (each p less).below;
      ordered = written;
      ended = last_written;
    }
