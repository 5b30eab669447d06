-- The arrays of a group, and the first of a list that is of it.
use Rattle.std.proofs.Common.{◌≡◌, ℕ, zero, suc, ◌+◌, ◌<◌, List, [], ◌∷◌, ◌++◌, length, take, drop, drop-cons, get_or, Option, sym, ap, subst, ◌∙◌, arith}
use Rattle.std.proofs.lemmas.List.{take_more, take-append-drop}
use Rattle.domino_check.specs.Place.{NoneOf}
use Rattle.source_rows.specs.Members.{IsOf, IsFirst}

-- an array of a group is one of those whose groups are known
pub of_below : (of : List (Option ℕ)) (g a : ℕ) → IsOf of g a → a < length of
of_below [] g a h = absurd cc
of_below (x ∷ of) g zero h = omega arith
of_below (x ∷ of) g (suc a) h = let k : a < length of = of_below of g a h in omega arith

module _ (of : List (Option ℕ)) (g : ℕ) where
  -- none of these, and not the next
  none_more : (xs : List ℕ) (x : ℕ) → NoneOf of g xs → ¬ IsOf of g x → NoneOf of g (xs ++ x ∷ [])
  none_more [] x none other = (other, tt)
  none_more (y ∷ xs) x none other = (none.0, none_more xs x none.1 other)

  pub none_next : (xs : List ℕ) (i : ℕ) → i < length xs → NoneOf of g (take i xs) → ¬ IsOf of g (get_or xs i 0) → NoneOf of g (take (i + 1) xs)
  none_next xs i within none other = subst (NoneOf of g) (sym (take_more xs i 0 within)) (none_more (take i xs) (get_or xs i 0) none other)

  -- the next is the first
  pub first_at : (xs : List ℕ) (i : ℕ) → i < length xs → NoneOf of g (take i xs) → IsOf of g (get_or xs i 0) → IsFirst of g xs (get_or xs i 0)
  first_at xs i within none is =
      (take i xs, drop (suc i) xs, sym (take-append-drop i xs) ∙ ap (λ l. take i xs ++ l) (drop-cons xs i 0 within), is, none)

  none_within : (before after : List ℕ) (a : ℕ) → NoneOf of g (before ++ a ∷ after) → ¬ IsOf of g a
  none_within [] after a none = none.0
  none_within (x ∷ before) after a none = none_within before after a none.1

  one_place : (xs ys xs_after ys_after : List ℕ) (a b : ℕ) → xs ++ a ∷ xs_after ≡ ys ++ b ∷ ys_after
      → IsOf of g a → IsOf of g b → NoneOf of g xs → NoneOf of g ys → a ≡ b
  one_place [] [] xs_after ys_after a b e is_a is_b none_a none_b = ap (λ l. get_or l 0 a) e
  one_place [] (y ∷ ys) xs_after ys_after a b e is_a is_b none_a none_b = absurd (none_b.0 (subst (IsOf of g) (ap (λ l. get_or l 0 a) e) is_a))
  one_place (x ∷ xs) [] xs_after ys_after a b e is_a is_b none_a none_b = absurd (none_a.0 (subst (IsOf of g) (sym (ap (λ l. get_or l 0 x) e)) is_b))
  one_place (x ∷ xs) (y ∷ ys) xs_after ys_after a b e is_a is_b none_a none_b = one_place xs ys xs_after ys_after a b (ap (drop 1) e) is_a is_b none_a.1 none_b.1

  -- there is one first array of the group, and none where none is of it
  pub one_first : (xs : List ℕ) (a b : ℕ) → IsFirst of g xs a → IsFirst of g xs b → a ≡ b
  one_first xs a b first other = one_place first.0 other.0 first.1 other.1 a b (sym first.2 ∙ other.2) first.3 other.3 first.4 other.4

  pub no_first : (xs : List ℕ) (a : ℕ) → NoneOf of g xs → ¬ IsFirst of g xs a
  no_first xs a none first = none_within first.0 first.1 a (subst (NoneOf of g) first.2 none) first.3
