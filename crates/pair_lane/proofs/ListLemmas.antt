-- Lists that are taken apart, and lists of views in which one is set or added.
use Rattle.std.proofs.Common.{◌≡◌, ◌≢◌, ℕ, zero, suc, ◌⊎◌, inl, inr, ⊎_elim, List, [], ◌∷◌, ◌++◌, length, length-append, set, sym, refl, ap, ◌∙◌, subst, arith}
use mathlib.Core.Option.{some, some-ne-none}
use lib.ListN.{get_elem?}
use Rattle.crossbeam_queue.proofs.Lists.{at_set}

module _ {A : Type 0} where
  -- the first item, or this one
  abbrev pub first_or : A → List A → A
  first_or d [] = d
  first_or d (x ∷ xs) = x

  -- all but the first item
  abbrev pub rest_of : List A → List A
  rest_of [] = []
  rest_of (x ∷ xs) = xs

  pub head_same : (x y : A) (xs ys : List A) → x ∷ xs ≡ y ∷ ys → x ≡ y
  head_same x y xs ys e = ap (first_or x) e

  pub tail_same : (x y : A) (xs ys : List A) → x ∷ xs ≡ y ∷ ys → xs ≡ ys
  tail_same x y xs ys e = ap rest_of e

  -- a list with an item isn't empty
  pub not_empty : (earlier later : List A) (x : A) → [] ≡ earlier ++ x ∷ later → ⊥
  not_empty earlier later x e = let n : 0 ≡ length (earlier ++ x ∷ later) = ap length e in omega (arith, n, length-append earlier (x ∷ later))

  -- an item of a list and one more is the last, or one of the list
  pub cut : (xs earlier later : List A) (x y : A) → xs ++ x ∷ [] ≡ earlier ++ y ∷ later
      → ((earlier ≡ xs) × (y ≡ x)) ⊎ ((others : List A) × (xs ≡ earlier ++ y ∷ others))
  cut [] [] later x y e = inl (refl, sym (head_same x y [] later e))
  cut [] (a ∷ earlier) later x y e = absurd (not_empty earlier later y (tail_same x a [] (earlier ++ y ∷ later) e))
  cut (s ∷ xs) [] later x y e = inr (xs, ap (λ z. z ∷ xs) (head_same s y (xs ++ x ∷ []) later e))
  cut (s ∷ xs) (a ∷ earlier) later x y e =
      let same : s ≡ a = head_same s a (xs ++ x ∷ []) (earlier ++ y ∷ later) e in
      ⊎_elim (λ last. inl (ap (λ l. a ∷ l) last.0 ∙ ap (λ z. z ∷ xs) (sym same), last.1))
      (λ within. inr (within.0, ap (λ l. s ∷ l) within.1 ∙ ap (λ z. z ∷ (earlier ++ y ∷ within.0)) same))
      (cut xs earlier later x y (tail_same s a (xs ++ x ∷ []) (earlier ++ y ∷ later) e))

  -- what is new at the end stands there
  pub at_end : (l : List A) (a b : A) (j : ℕ) → get_elem? l j ≢ some b → get_elem? (l ++ a ∷ []) j ≡ some b → j ≡ length l
  at_end [] a b zero n e = refl
  at_end [] a b (suc j) n e = absurd (some-ne-none b (sym e))
  at_end (x ∷ xs) a b zero n e = absurd (n e)
  at_end (x ∷ xs) a b (suc j) n e = ap suc (at_end xs a b j n e)

  -- a fact of each view and its place
  abbrev pub Each : (ℕ → A → Type 0) → List A → Type 0
  Each F views = (port : ℕ) (v : A) → get_elem? views port ≡ some v → F port v

  -- it holds of all where it holds of the one that is set and of the others
  pub each_set : (F : ℕ → A → Type 0) (views : List A) (port : ℕ) (w : A) → F port w
      → ((j : ℕ) (u : A) → j ≢ port → get_elem? views j ≡ some u → F j u) → Each F (set views port w)
  each_set F views port w mine others j u e =
      ⊎_elim (λ (x : (j ≡ port) × (w ≡ u)). subst (λ (y : ℕ × A). F y.0 y.1) (λ i. (sym x.0 i, x.1 i)) mine)
      (λ (x : (j ≢ port) × (get_elem? views j ≡ some u)). others j u x.0 x.1) (at_set views port j w u e)
