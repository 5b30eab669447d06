-- One row of a table more.
use Rattle.std.proofs.Common.{◌≡◌, ℕ, zero, suc, ◌+◌, ◌<◌, ◌≤◌, Bool, refl, ap, ◌∙◌, arith, inl, inr, List, [], ◌∷◌, length, slice_set}
use Rattle.std.specs.Prelude.{◌&&◌, ◌||◌}
use Rattle.std.proofs.lemmas.Bool.Decides.{eqb_tells}
use Rattle.dependence.specs.Tables.{has, at}

at_set : (rows : List (List Bool)) (i a b : ℕ) (row : List Bool) → i < length rows → (a ≡ i → ⊥) → at (slice_set rows i row) a b ≡ at rows a b
at_set [] i a b row w o = absurd (omega arith)
at_set (r ∷ rows) zero zero b row w o = absurd (o refl)
at_set (r ∷ rows) zero (suc a) b row w o = refl
at_set (r ∷ rows) (suc i) zero b row w o = refl
at_set (r ∷ rows) (suc i) (suc a) b row w o = at_set rows i a b row (omega arith) (λ e. o (ap suc e))

at_here : (rows : List (List Bool)) (i b : ℕ) (row : List Bool) → i < length rows → at (slice_set rows i row) i b ≡ has row b
at_here [] i b row w = absurd (omega arith)
at_here (r ∷ rows) zero b row w = refl
at_here (r ∷ rows) (suc i) b row w = at_here rows i b row (omega arith)

-- one row more is passed
pub row_done : (old rows : List (List Bool)) (i node a b : ℕ) (row : List Bool) (through : List Bool) → i < length rows
    → ((a b : ℕ) → a < i → b < 16 → at rows a b ≡ (at old a b || (at old a node && has through b)))
    → ((a b : ℕ) → i ≤ a → at rows a b ≡ at old a b)
    → ((b : ℕ) → b < 16 → has row b ≡ (at rows i b || (at rows i node && has through b)))
    → a < i + 1 → b < 16 → at (slice_set rows i row) a b ≡ (at old a b || (at old a node && has through b))
row_done old rows i node a b row through w done left is below wb =
    elim (eqb_tells a i) [
      | inl t ↦ rw t.1 (at_here rows i b row w ∙ is b wb ∙ (λ j. left i b (omega arith) j || (left i node (omega arith) j && has through b)))
      | inr t ↦ let other : a ≡ i → ⊥ = t.1 in at_set rows i a b row w other ∙ done a b (omega arith) wb
    ]

pub row_left : (old rows : List (List Bool)) (i a b : ℕ) (row : List Bool) → i < length rows
    → ((a b : ℕ) → i ≤ a → at rows a b ≡ at old a b) → i + 1 ≤ a → at (slice_set rows i row) a b ≡ at old a b
row_left old rows i a b row w left above = at_set rows i a b row w (λ e. absurd (omega arith)) ∙ left a b (omega arith)
