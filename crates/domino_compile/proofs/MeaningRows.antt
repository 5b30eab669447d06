-- Facts on lists of cells and of what is known of arrays.
use Rattle.std.proofs.Common.{◌≡◌, ℕ, zero, suc, ◌+◌, ◌<◌, ◌||◌, ℤ, pos, Bool, true, false, if◌then◌else◌, List, [], ◌∷◌, length, map, flat_map, fold, replicate, slice_set, Option, Some, None, refl, sym, ap, subst, ◌∙◌, arith}
use Rattle.std.specs.List.{list_any, slice_index_or}
use Rattle.std.proofs.lemmas.List.{get_or-set_same}
use Rattle.mp5_words.specs.Words.{truth}
use Rattle.mp5_words.specs.Cells.{word_at, cells_at}
use Rattle.mp5_words.specs.Copies.{Copy}
use Rattle.code_forms.specs.declared.flat.Operand.{Operand}
use Rattle.code_forms.specs.declared.flat.FlatArray.{FlatArray}
use Rattle.code_forms.specs.Staged.{Member, cells_before}
use Rattle.branch_removal.specs.Kept.{is_touched}
use Rattle.ssa_flatten.specs.Flattened.{under_of}
use Rattle.domino_compile.proofs.UnitsLemmas.{Distinct, word_in, stores, flat_same}

pub zeros : (n i : ℕ) → word_at (replicate n (pos 0)) i ≡ pos 0
zeros zero i = refl
zeros (suc n) zero = refl
zeros (suc n) (suc i) = zeros n i

-- how long an array's cells are
pub row_long : (rows : List (List ℤ)) (a : ℕ) → a < length rows → length (cells_at rows a) ≡ slice_index_or (map (λ (r : List ℤ). length r) rows) a 1
row_long [] a w = absurd (omega (arith, w))
row_long (r ∷ rows) zero w = refl
row_long (r ∷ rows) (suc a) w = row_long rows a (omega (arith, w))

-- ---- some cells are 0

abbrev pub kept_row : Bool → List ℤ → List ℤ
kept_row true row = replicate (length row) (pos 0)
kept_row false row = row

-- 0 in all cells of the arrays of a set
abbrev pub kept_rows : (ℕ → Bool) → List (List ℤ) → List (List ℤ)
kept_rows T [] = []
kept_rows T (row ∷ rows) = kept_row (T 0) row ∷ kept_rows (λ n. T (suc n)) rows

pub kept_at : (T : ℕ → Bool) (rows : List (List ℤ)) (a : ℕ) → cells_at (kept_rows T rows) a ≡ kept_row (T a) (cells_at rows a)
kept_at T [] a = empty (T a) where
  empty : (b : Bool) → [] ≡ kept_row b []
  empty true = refl
  empty false = refl
kept_at T (row ∷ rows) zero = refl
kept_at T (row ∷ rows) (suc a) = kept_at (λ n. T (suc n)) rows a

pub kept_long : (T : ℕ → Bool) (rows : List (List ℤ)) → length (kept_rows T rows) ≡ length rows
kept_long T [] = refl
kept_long T (row ∷ rows) = ap suc (kept_long (λ n. T (suc n)) rows)

pub kept_counts : (T : ℕ → Bool) (rows : List (List ℤ)) → map (λ (r : List ℤ). length r) (kept_rows T rows) ≡ map (λ (r : List ℤ). length r) rows
kept_counts T [] = refl
kept_counts T (row ∷ rows) = λ i. same (T 0) row i ∷ kept_counts (λ n. T (suc n)) rows i where
  many : (n : ℕ) → length (replicate n (pos 0)) ≡ n
  many zero = refl
  many (suc n) = ap suc (many n)

  same : (b : Bool) (row : List ℤ) → length (kept_row b row) ≡ length row
  same true row = many (length row)
  same false row = refl

-- ---- what is known of an array

pub touched_any : (o : Option (Copy ℤ)) → is_touched o ≡ list_any truth (under_of o)
touched_any None = refl
touched_any (Some c) = refl

pub any_mapped : (value : Operand → ℤ) (xs : List Operand) → list_any truth (map value xs) ≡ list_any (λ x. truth (value x)) xs
any_mapped value [] = refl
any_mapped value (x ∷ xs) = ap (λ b. truth (value x) || b) (any_mapped value xs)

pub guards_at : (value : Operand → ℤ) (arrays : List FlatArray) (a : ℕ)
    → slice_index_or (map (λ (f : FlatArray). map value f.touched) arrays) a [] ≡ map value (slice_index_or (map (λ (f : FlatArray). f.touched) arrays) a [])
guards_at value [] a = refl
guards_at value (f ∷ arrays) zero = refl
guards_at value (f ∷ arrays) (suc a) = guards_at value arrays a

pub under_at : (copies : List (Option (Copy ℤ))) (a : ℕ) → slice_index_or (map under_of copies) a [] ≡ under_of (slice_index_or copies a None)
under_at [] a = refl
under_at (o ∷ copies) zero = refl
under_at (o ∷ copies) (suc a) = under_at copies a

-- ---- the cells of a unit, where its group is sharded or not

module _ (rows : ℕ → List ℤ) (lengths : ℕ → ℕ) (arrays : List ℕ) (long : (a : ℕ) → Member a arrays → length (rows a) ≡ lengths a) where
  -- the word of an array's cell in a unit
  pub unit_word : (s : Bool) (u i a : ℕ) → Member a arrays → (s ≡ true → i ≡ u) → i < lengths a
      → word_at (flat_map (λ a. if s then word_at (rows a) u ∷ [] else rows a) arrays) (cells_before (λ a. if s then 1 else lengths a) arrays a + (if s then 0 else i)) ≡ word_at (rows a) i
  unit_word true u i a m own less = word_in (λ a. word_at (rows a) u ∷ []) (λ a. 1) arrays a 0 m (λ b h. refl) (omega arith) ∙ ap (word_at (rows a)) (sym (own refl))
  unit_word false u i a m own less = word_in rows lengths arrays a i m long less

  -- what Stores leave in a unit
  pub unit_stores : (s : Bool) (u : ℕ) (index : ℕ → ℕ) (value : ℕ → ℤ) → Distinct arrays → ((a : ℕ) → Member a arrays → s ≡ true → index a ≡ u) → ((a : ℕ) → Member a arrays → index a < lengths a)
      → fold (λ (cells : List ℤ) (a : ℕ). slice_set cells (cells_before (λ a. if s then 1 else lengths a) arrays a + (if s then 0 else index a)) (value a)) (flat_map (λ a. if s then word_at (rows a) u ∷ [] else rows a) arrays) arrays
      ≡ flat_map (λ a. if s then word_at (slice_set (rows a) (index a) (value a)) u ∷ [] else slice_set (rows a) (index a) (value a)) arrays
  unit_stores true u index value apart own less =
      stores (λ a. word_at (rows a) u ∷ []) (λ a. 1) (λ a. cells_before (λ a. 1) arrays a + 0) (λ a. 0) value arrays [] apart (λ b h. refl) (λ a m. omega arith) (λ a m. omega arith)
      ∙ flat_same (λ a. value a ∷ []) (λ a. word_at (slice_set (rows a) (index a) (value a)) u ∷ []) arrays
      (λ a m.
      let within : index a < length (rows a) = subst (λ n. index a < n) (sym (long a m)) (less a m) in
      ap (λ z. z ∷ []) (sym (get_or-set_same (rows a) (index a) (value a) (pos 0) within) ∙ ap (word_at (slice_set (rows a) (index a) (value a))) (own a m refl)))
  unit_stores false u index value apart own less =
      stores rows lengths (λ a. cells_before lengths arrays a + index a) index value arrays [] apart long less (λ a m. omega arith)
