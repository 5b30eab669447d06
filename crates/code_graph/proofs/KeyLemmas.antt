-- Instructions of one class have one key, and those of others have another or none.
use Rattle.std.proofs.Common.{◌≡◌, ℕ, zero, suc, ◌+◌, ◌<◌, ◌≤◌, nat_lt, nat_le, inl, inr, Bool, true, All, List, [], ◌∷◌, ◌++◌, length, get_or, max, Option, Some, None, refl, sym, ap, subst, ◌∙◌, arith, length-append}
use Rattle.std.specs.List.{list_all}
use Rattle.std.proofs.lemmas.List.{get_or_append_left}
use Rattle.std.proofs.Math.Seq.{get_or-append_seam}
use Rattle.std.proofs.lemmas.Bool.Decides.{eqb_tells, nat_tests}
use Rattle.dependence.specs.Reach.{Reaches, here, step, Mutual, InOrder, AreClasses}
use Rattle.dependence.specs.Classes.{IsKey, key_at, SameKey, AreNumbers}
use Rattle.dependence.specs.Tables.{has}
use Rattle.dependence.specs.Uses.{Node, Depends, shared}
use Rattle.dependence.proofs.ReachLemmas.{join}
use Rattle.dependence.proofs.CycleLemmas.{through_array}
use Rattle.code_forms.specs.LayoutValid.{are_codelets}
use Rattle.flat_graph.specs.Orders.{IsOrdered}
use Rattle.flat_graph.specs.ReachedArrays.{ReachesArray, ReachedFrom, row, MarksReached, MarksReachedFrom}
use Rattle.flat_graph.proofs.MarkLemmas.{and_both, and_cases}
use Rattle.code_graph.specs.Keys.{both, IsKeyIn, AreKeysIn}

-- one key more
pub keys_more : (to from : List (List Bool)) (k : ℕ) (keys : List (Option ℕ)) (x : Option ℕ) → AreKeysIn to from k keys → IsKeyIn to from k x → AreKeysIn to from (k + 1) (keys ++ x ∷ [])
keys_more to from k keys x old is = record {
  long = length-append keys (x ∷ []) ∙ ap (λ n. n + 1) old.long;
  keys_are = λ i less. elim (eqb_tells i k) [
    | inl t ↦ subst (λ n. IsKeyIn to from n (key_at (keys ++ x ∷ []) n)) (sym t.1)
        (subst (IsKeyIn to from k) (sym (subst (λ n. key_at (keys ++ x ∷ []) n ≡ x) old.long (get_or-append_seam keys x [] None))) is)
    | inr t ↦
        let other : i ≡ k → ⊥ = t.1 in
        let before : i < k = omega arith in
        subst (IsKeyIn to from i) (sym (get_or_append_left keys (x ∷ []) None i (omega (arith, before, old.long)))) (old.keys_are i before)
  ];
}

-- a key is the number of an array
is_key : (to from : List (List Bool)) (i : ℕ) (o : Option ℕ) → IsKeyIn to from i o → IsKey o
is_key to from i None h = tt
is_key to from i (Some k) h = h.0

pub all_keys : (to from : List (List Bool)) (count : ℕ) (keys : List (Option ℕ)) → AreKeysIn to from count keys → All IsKey keys
all_keys to from count keys h k d less = subst IsKey (same keys k less) (is_key to from k (key_at keys k) (h.keys_are k (omega (arith, less, h.long)))) where
  same : (l : List (Option ℕ)) (k : ℕ) → k < length l → key_at l k ≡ get_or l k d
  same [] k less = absurd (omega arith)
  same (x ∷ l) zero less = refl
  same (x ∷ l) (suc k) less = same l k (omega (arith, less))

-- numbers in order are below their count
below : (m n : ℕ) (xs : List ℕ) → n + length xs ≤ m → InOrder n xs → list_all (λ c. nat_lt c m) xs ≡ true
below m n [] le h = refl
below m n (x ∷ xs) le h =
    let least : x ≤ n = h.0 in
    and_both (nat_lt x m) (list_all (λ c. nat_lt c m) xs) (let less : x < m = omega (arith, le, least) in grind (arith, nat_tests, less)) (below m (max n (x + 1)) xs (omega (arith, le, least)) h.1)

pub numbers_valid : (of : List ℕ) → length of ≤ 1024 → InOrder 0 of → are_codelets of ≡ true
numbers_valid of few h = and_both (nat_le (length of) 1024) (list_all (λ c. nat_lt c (length of)) of) (grind (arith, nat_tests, few)) (below (length of) 0 of (omega arith) h)

-- two least ones are one
one_key : (to from : List (List Bool)) (i j : ℕ) → ((a : ℕ) → a < 16 → both to from i a ≡ true → both to from j a ≡ true) → ((a : ℕ) → a < 16 → both to from j a ≡ true → both to from i a ≡ true)
    → (a : ℕ) → a < 16 → both to from i a ≡ true → (x y : Option ℕ) → IsKeyIn to from i x → IsKeyIn to from j y → (k : ℕ) × (x ≡ Some k) × (y ≡ Some k)
one_key to from i j there back a wa at None y h g = let no = h a wa in absurd cc
one_key to from i j there back a wa at (Some k) None h g = let no = g k h.0 in let yes = there k h.0 h.1 in absurd cc
one_key to from i j there back a wa at (Some k) (Some l) h g =
    let not_less : l < k → ⊥ = (λ less. let no = h.2 l less in let yes = back l g.0 g.1 in absurd cc) in
    let not_more : k < l → ⊥ = (λ less. let no = g.2 k less in let yes = there k h.0 h.1 in absurd cc) in
    let same : l ≡ k = omega (arith, not_less, not_more) in
    (k, refl, ap Some same)

module _ (nodes : List Node) (ordered : IsOrdered nodes) (to from : List (List Bool)) (reached : MarksReached nodes to) (reached_from : MarksReachedFrom nodes from)
    (keys : List (Option ℕ)) (are : AreKeysIn to from (length nodes) keys) where
  -- each depends on the array, and the array on it
  abbrev Around : ℕ → ℕ → Type 0
  Around i a = ReachesArray nodes i a × ReachedFrom nodes i a

  around : (i a : ℕ) → i < length nodes → a < 16 → both to from i a ≡ true → Around i a
  around i a w wa e = let h = and_cases (has (row to i) a) (has (row from i) a) e in ((reached.marks i a w wa).0 h.0, (reached_from.marks i a w wa).0 h.1)

  is_both : (i a : ℕ) → i < length nodes → a < 16 → Around i a → both to from i a ≡ true
  is_both i a w wa h = and_both (has (row to i) a) (has (row from i) a) ((reached.marks i a w wa).1 h.0) ((reached_from.marks i a w wa).1 h.1)

  -- through an array that is around both
  around_both : (i j a : ℕ) → Around i a → Around j a → Reaches (Depends nodes) i j
  around_both i j a p q = let r = p.0 in let s = q.1 in join r.3 (step (shared r.1 s.1 r.2 s.2) s.3)

  key_around : (i k : ℕ) → i < length nodes → key_at keys i ≡ Some k → (k < 16) × Around i k
  key_around i k w e = let h = subst (IsKeyIn to from i) e (are.keys_are i w) in (h.0, around i k w h.0 h.1)

  pub both_ways : (i j : ℕ) → i < length nodes → j < length nodes → SameKey keys i j → Mutual (Depends nodes) i j
  both_ways i j wi wj (inl e) = (subst (Reaches (Depends nodes) i) e here, subst (λ k. Reaches (Depends nodes) k i) e here)
  both_ways i j wi wj (inr s) =
      let p = key_around i s.0 wi s.1 in
      let q = key_around j s.0 wj s.2 in
      (around_both i j s.0 p.1 q.1, around_both j i s.0 q.1 p.1)

  -- what is around one of a class is around the other
  moves : (i j a : ℕ) → Mutual (Depends nodes) i j → Around i a → Around j a
  moves i j a m p = let r = p.0 in let s = p.1 in ((r.0, r.1, r.2, join m.1 r.3), (s.0, s.1, s.2, join s.3 m.0))

  pub same_key : (i j : ℕ) → i < length nodes → j < length nodes → Mutual (Depends nodes) i j → SameKey keys i j
  same_key i j wi wj m = elim (through_array nodes ordered.earlier i j m) [
    | inl e ↦ inl e
    | inr h ↦
        let a : ℕ = h.0 in
        let wa : a < 16 = ordered.arrays h.1 a h.2 h.3 in
        let p : Around i a = ((h.1, h.2, h.3, h.4.0), (h.1, h.2, h.3, h.4.1)) in
        inr (one_key to from i j
        (λ b wb e. is_both j b wj wb (moves i j b m (around i b wi wb e)))
        (λ b wb e. is_both i b wi wb (moves j i b (m.1, m.0) (around j b wj wb e)))
        a wa (is_both i a wi wa p) (key_at keys i) (key_at keys j) (are.keys_are i wi) (are.keys_are j wj))
  ]

  -- so the numbers of keys are those of classes
  pub classes : (numbers : List ℕ) → AreNumbers keys numbers → AreClasses (Depends nodes) (length nodes) numbers
  classes numbers h = record {
    long = h.long ∙ are.long;
    same = λ i j wi wj. (
      λ e. both_ways i j wi wj ((h.same i j (omega (arith, wi, are.long)) (omega (arith, wj, are.long))).0 e),
      λ m. (h.same i j (omega (arith, wi, are.long)) (omega (arith, wj, are.long))).1 (same_key i j wi wj m),
    );
    ordered = h.ordered;
  }
