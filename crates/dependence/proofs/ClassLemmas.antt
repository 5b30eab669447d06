-- The numbers of the first places, and one place more.
use Rattle.std.proofs.Common.{◌≡◌, ℕ, zero, suc, ◌+◌, ◌<◌, ◌≤◌, refl, sym, ap, ◌∙◌, subst, arith, inl, inr, List, [], ◌∷◌, ◌++◌, length, slice_index, slice_set, Option, Some, None, length-set}
use Rattle.std.specs.Prelude.{max, ◌↔◌}
use Rattle.std.specs.List.{slice_index_or}
use Rattle.std.proofs.lemmas.List.{length-append, get_or-set_same, get_or-set_other}
use Rattle.std.proofs.lemmas.Bool.Decides.{eqb_tells}
use Rattle.dependence.specs.Reach.{InOrder}
use Rattle.dependence.specs.Classes.{SameKey, key_at}
use Rattle.dependence.specs.Numbering.{next_after, has_next, HasFirst, Numbered}
use Rattle.dependence.specs.declared.classes.Numbering.{Numbering}

ordered : (n x : ℕ) (xs : List ℕ) → InOrder n xs → x ≤ next_after n xs → InOrder n (xs ++ x ∷ [])
ordered n x [] h le = (le, tt)
ordered n x (y ∷ xs) h le = (h.0, ordered (max n (y + 1)) x xs h.1 le)

next_push : (n x : ℕ) (xs : List ℕ) → next_after n (xs ++ x ∷ []) ≡ max (next_after n xs) (x + 1)
next_push n x [] = refl
next_push n x (y ∷ xs) = next_push (max n (y + 1)) x xs

next_least : (n : ℕ) (xs : List ℕ) → n ≤ next_after n xs
next_least n [] = omega arith
next_least n (y ∷ xs) = let h : max n (y + 1) ≤ next_after (max n (y + 1)) xs = next_least (max n (y + 1)) xs in omega (arith, h)

pub below : (n : ℕ) (xs : List ℕ) (a : ℕ) → a < length xs → slice_index xs a < next_after n xs
below n [] a w = absurd (omega arith)
below n (x ∷ xs) zero w = let h : max n (x + 1) ≤ next_after (max n (x + 1)) xs = next_least (max n (x + 1)) xs in omega (arith, h)
below n (x ∷ xs) (suc a) w = below (max n (x + 1)) xs a (omega arith)

-- each number below the next one is there
pub is_there : (n : ℕ) (xs : List ℕ) (c : ℕ) → InOrder n xs → n ≤ c → c < next_after n xs → (i : ℕ) × (i < length xs) × (slice_index xs i ≡ c)
is_there n [] c h le less = absurd (omega arith)
is_there n (x ∷ xs) c h le less =
    elim (eqb_tells x c) [
      | inl s ↦ (zero, omega arith, s.1)
      | inr s ↦
          let other : x ≡ c → ⊥ = s.1 in
          let r = is_there (max n (x + 1)) xs c h.1 (omega (arith, h.0)) less in
          (suc r.0, omega (arith, r.1), r.2)
    ]

front : (xs : List ℕ) (x a : ℕ) → a < length xs → slice_index (xs ++ x ∷ []) a ≡ slice_index xs a
front [] x a w = absurd (omega arith)
front (y ∷ xs) x zero w = refl
front (y ∷ xs) x (suc a) w = front xs x a (omega arith)

end : (xs : List ℕ) (x a : ℕ) → length xs ≡ a → slice_index (xs ++ x ∷ []) a ≡ x
end xs x a e = subst (λ k. slice_index (xs ++ x ∷ []) k ≡ x) e (at_end xs) where
  at_end : (xs : List ℕ) → slice_index (xs ++ x ∷ []) (length xs) ≡ x
  at_end [] = refl
  at_end (y ∷ xs) = at_end xs

flip : (keys : List (Option ℕ)) (a b : ℕ) → SameKey keys a b → SameKey keys b a
flip keys a b (inl e) = inl (sym e)
flip keys a b (inr k) = inr (k.0, k.2, k.1)

-- what holds ns each place below i against i, and ns the places below i, holds below i + 1
all_same : (keys : List (Option ℕ)) (i : ℕ) (ns : List ℕ) (x : ℕ) → length ns ≡ i
    → ((a b : ℕ) → a < i → b < i → (slice_index ns a ≡ slice_index ns b) ↔ SameKey keys a b)
    → ((a : ℕ) → a < i → (slice_index ns a ≡ x) ↔ SameKey keys a i)
    → (a b : ℕ) → a < i + 1 → b < i + 1 → (slice_index (ns ++ x ∷ []) a ≡ slice_index (ns ++ x ∷ []) b) ↔ SameKey keys a b
all_same keys i ns x long old new a b wa wb =
    elim (eqb_tells a i) [
      | inl s ↦ elim (eqb_tells b i) [
        | inl t ↦ (λ e. inl (s.1 ∙ sym t.1), λ k. ap (slice_index (ns ++ x ∷ [])) (s.1 ∙ sym t.1))
        | inr t ↦
            let other : b ≡ i → ⊥ = t.1 in
            let lb : b < i = omega arith in
            let ea : slice_index (ns ++ x ∷ []) a ≡ x = end ns x a (long ∙ sym s.1) in
            let eb : slice_index (ns ++ x ∷ []) b ≡ slice_index ns b = front ns x b (omega (arith, long)) in (
              λ e. subst (λ c. SameKey keys c b) (sym s.1) (flip keys b i ((new b lb).0 (sym eb ∙ sym e ∙ ea))),
              λ k. ea ∙ sym ((new b lb).1 (subst (λ c. SameKey keys b c) s.1 (flip keys a b k))) ∙ sym eb,
            )
      ]
      | inr s ↦
          let other : a ≡ i → ⊥ = s.1 in
          let la : a < i = omega arith in
          let ea : slice_index (ns ++ x ∷ []) a ≡ slice_index ns a = front ns x a (omega (arith, long)) in
          elim (eqb_tells b i) [
            | inl t ↦
                let eb : slice_index (ns ++ x ∷ []) b ≡ x = end ns x b (long ∙ sym t.1) in (
                  λ e. subst (λ c. SameKey keys a c) (sym t.1) ((new a la).0 (sym ea ∙ e ∙ eb)),
                  λ k. ea ∙ (new a la).1 (subst (λ c. SameKey keys a c) t.1 k) ∙ sym eb,
                )
            | inr t ↦
                let another : b ≡ i → ⊥ = t.1 in
                let lb : b < i = omega arith in
                let eb : slice_index (ns ++ x ∷ []) b ≡ slice_index ns b = front ns x b (omega (arith, long)) in
                (λ e. (old a b la lb).0 (sym ea ∙ e ∙ eb), λ k. ea ∙ (old a b la lb).1 k ∙ sym eb)
          ]
    ]

some_is : {m n : ℕ} → Some m ≡ Some n → m ≡ n
some_is e = cc

-- the first place of a key stays where a place behind it has another key, or the key had a first place
grows : (keys : List (Option ℕ)) (numbers : List ℕ) (x k : ℕ) (o : Option ℕ) → HasFirst keys numbers k o
    → (o ≡ None → key_at keys (length numbers) ≡ Some k → ⊥) → HasFirst keys (numbers ++ x ∷ []) k o
grows keys numbers x k None h other = λ j w e.
    elim (eqb_tells j (length numbers)) [
      | inl t ↦ other refl (ap (key_at keys) (sym t.1) ∙ e)
      | inr t ↦ let not : j ≡ length numbers → ⊥ = t.1 in let l : length (numbers ++ x ∷ []) ≡ length numbers + 1 = length-append numbers (x ∷ []) in h j (omega (arith, l, w)) e
    ]
grows keys numbers x k (Some n) h other =
    (h.0, (let l : length (numbers ++ x ∷ []) ≡ length numbers + 1 = length-append numbers (x ∷ []) in omega (arith, l, h.1)), h.2, h.3 ∙ sym (front numbers x h.0 h.1))

-- a place whose key came before
pub again : (keys : List (Option ℕ)) (numbers : List ℕ) (n : Numbering) (k x : ℕ) → Numbered keys numbers n
    → key_at keys (length numbers) ≡ Some k → k < 16 → slice_index_or n.firsts k None ≡ Some x → Numbered keys (numbers ++ x ∷ []) n
again keys numbers n k x h key w first =
    let f = subst (HasFirst keys numbers k) first (h.firsts k w) in
    let j : ℕ = f.0 in
    let lj : j < length numbers = f.1 in
    let small : slice_index numbers j < next_after 0 numbers = below 0 numbers j lj in
    let lt : x < n.next = omega (arith, small, f.3, h.next) in
    let long : length (numbers ++ x ∷ []) ≡ length numbers + 1 = length-append numbers (x ∷ []) in
    record {
      same = λ a b wa wb. all_same keys (length numbers) numbers x refl h.same (λ c lc. (
        λ e. to j f.2 c ((h.same c j lc lj).0 (e ∙ f.3)),
        λ s. (h.same c j lc lj).1 (from j f.2 c s) ∙ sym f.3,
      )) a b (omega (arith, wa, long)) (omega (arith, wb, long));
      ordered = ordered 0 x numbers h.ordered (omega (arith, lt, h.next));
      next = let p = next_push 0 x numbers in omega (arith, p, lt, h.next);
      few = omega (arith, h.few, long);
      long = h.long;
      firsts = λ l wl. grows keys numbers x l _ (h.firsts l wl) (λ none e. absurd (differ (sym none ∙ ap (λ m. slice_index_or n.firsts m None) (some_is (sym e ∙ key)) ∙ first)));
    } where
      differ : {m : ℕ} → None ≡ Some m → ⊥
      differ e = cc

      to : (j : ℕ) → key_at keys j ≡ Some k → (a : ℕ) → SameKey keys a j → SameKey keys a (length numbers)
      to j kj a (inl e) = inr (k, ap (key_at keys) e ∙ kj, key)
      to j kj a (inr s) = inr (s.0, s.1, key ∙ sym kj ∙ s.2)

      from : (j : ℕ) → key_at keys j ≡ Some k → (a : ℕ) → SameKey keys a (length numbers) → SameKey keys a j
      from j kj a (inl e) = inr (k, ap (key_at keys) e ∙ key, kj)
      from j kj a (inr s) = inr (s.0, s.1, kj ∙ sym key ∙ s.2)

-- what a place with a new number keeps, but for the first places
module _ (keys : List (Option ℕ)) (numbers : List ℕ) (n : Numbering) (h : Numbered keys numbers n)
    (new : (j k : ℕ) → j < length numbers → key_at keys j ≡ Some k → key_at keys (length numbers) ≡ Some k → ⊥) where
  long : length (numbers ++ n.next ∷ []) ≡ length numbers + 1
  long = length-append numbers (n.next ∷ [])

  apart : (a : ℕ) → a < length numbers → SameKey keys a (length numbers) → ⊥
  apart a la (inl e) = absurd (omega arith)
  apart a la (inr s) = new a s.0 la s.1 s.2

  with_firsts : (firsts : List (Option ℕ)) → length firsts ≡ 16
      → ((k : ℕ) → k < 16 → HasFirst keys (numbers ++ n.next ∷ []) k (slice_index_or firsts k None))
      → Numbered keys (numbers ++ n.next ∷ []) (record { firsts = firsts; next = n.next + 1 })
  with_firsts firsts many first = record {
    same = λ a b wa wb. all_same keys (length numbers) numbers n.next refl h.same (λ c lc.
        let small : slice_index numbers c < next_after 0 numbers = below 0 numbers c lc in
        (λ e. absurd (omega (arith, small, e, h.next)), λ s. absurd (apart c lc s))) a b (omega (arith, wa, long)) (omega (arith, wb, long));
    ordered = ordered 0 n.next numbers h.ordered (omega (arith, h.next));
    next = let p = next_push 0 n.next numbers in omega (arith, p, h.next);
    few = omega (arith, h.few, long);
    long = many;
    firsts = first;
  }

-- a place without a key
pub alone : (keys : List (Option ℕ)) (numbers : List ℕ) (n : Numbering) → Numbered keys numbers n
    → key_at keys (length numbers) ≡ None → Numbered keys (numbers ++ n.next ∷ []) (has_next n (n.next + 1))
alone keys numbers n h none =
    with_firsts keys numbers n h (λ j k w e f. differ (sym none ∙ f)) n.firsts h.long
    (λ k w. grows keys numbers n.next k _ (h.firsts k w) (λ e f. differ (sym none ∙ f))) where
      differ : {m : ℕ} → None ≡ Some m → ⊥
      differ e = cc

-- a place whose key is new
pub first : (keys : List (Option ℕ)) (numbers : List ℕ) (n : Numbering) (k : ℕ) → Numbered keys numbers n
    → key_at keys (length numbers) ≡ Some k → k < 16 → slice_index_or n.firsts k None ≡ None
    → Numbered keys (numbers ++ n.next ∷ []) (record { firsts = slice_set n.firsts k (Some n.next); next = n.next + 1 })
first keys numbers n k h key w none =
    with_firsts keys numbers n h (λ j l wj e f. none_before j wj (e ∙ sym f ∙ key)) (slice_set n.firsts k (Some n.next)) (simp length-set h.long)
    (λ l wl. elim (eqb_tells l k) [
      | inl t ↦ subst (λ m. HasFirst keys (numbers ++ n.next ∷ []) m (slice_index_or (slice_set n.firsts k (Some n.next)) m None)) (sym t.1) here
      | inr t ↦ let not : l ≡ k → ⊥ = t.1 in
          subst (HasFirst keys (numbers ++ n.next ∷ []) l) (sym (get_or-set_other n.firsts k l (Some n.next) None not))
          (grows keys numbers n.next l _ (h.firsts l wl) (λ e f. absurd (not (some_is (sym f ∙ key)))))
    ]) where
      none_before : (j : ℕ) → j < length numbers → key_at keys j ≡ Some k → ⊥
      none_before = subst (HasFirst keys numbers k) none (h.firsts k w)

      here : HasFirst keys (numbers ++ n.next ∷ []) k (slice_index_or (slice_set n.firsts k (Some n.next)) k None)
      here = subst (HasFirst keys (numbers ++ n.next ∷ []) k) (sym (get_or-set_same n.firsts k (Some n.next) None (omega (arith, w, h.long))))
          (length numbers, (let l : length (numbers ++ n.next ∷ []) ≡ length numbers + 1 = length-append numbers (n.next ∷ []) in omega (arith, l)), key, sym (end numbers n.next (length numbers) refl))
