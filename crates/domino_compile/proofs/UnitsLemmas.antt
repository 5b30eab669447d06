-- The cells of arrays one after another: where a cell stands, and what Stores in each of them leave.
use Rattle.std.proofs.Common.{◌≡◌, ℕ, zero, suc, ◌+◌, ◌<◌, ◌≤◌, nat_le, ℤ, pos, Bool, true, if◌then◌else◌, List, [], ◌∷◌, ◌++◌, length, flat_map, fold, slice_set, refl, sym, ap, subst, ◌∙◌, inl, inr, append_assoc, length-append, arith}
use Rattle.std.proofs.lemmas.Bool.Decides.{eqb_tells, nat_tests}
use Rattle.std.proofs.lemmas.List.{get_or_append_left, length-set}
use Rattle.mp5_words.specs.Cells.{word_at}
use Rattle.code_forms.specs.FlatValid.{ascends}
use Rattle.code_forms.specs.Staged.{Member, cells_before}
use Rattle.code_forms.proofs.ValidLemmas.{and_front, and_back}

-- ---- numbers that go up

-- no item of the list stands in it twice
abbrev pub Distinct : List ℕ → Type 0
Distinct [] = Unit {0}
Distinct (x ∷ xs) = (Member x xs → ⊥) × Distinct xs

above : (n : ℕ) (xs : List ℕ) → ascends n xs ≡ true → (a : ℕ) → Member a xs → n ≤ a
above n [] up a m = elim m [ ]
above n (x ∷ xs) up a (inl e) = let h : nat_le n x ≡ true = and_front (nat_le n x) (ascends (suc x) xs) up in grind (arith, nat_tests, h, e)
above n (x ∷ xs) up a (inr m) =
    let h : nat_le n x ≡ true = and_front (nat_le n x) (ascends (suc x) xs) up in
    let r : suc x ≤ a = above (suc x) xs (and_back (nat_le n x) (ascends (suc x) xs) up) a m in
    grind (arith, nat_tests, h, r)

pub distinct : (n : ℕ) (xs : List ℕ) → ascends n xs ≡ true → Distinct xs
distinct n [] up = tt
distinct n (x ∷ xs) up =
    let rest : ascends (suc x) xs ≡ true = and_back (nat_le n x) (ascends (suc x) xs) up in
    (λ m. let h : suc x ≤ x = above (suc x) xs rest x m in omega (arith, h), distinct (suc x) xs rest)

-- ---- lists one behind another

word_past : (xs ys : List ℤ) (k : ℕ) → word_at (xs ++ ys) (length xs + k) ≡ word_at ys k
word_past [] ys k = ap (word_at ys) (omega arith)
word_past (x ∷ xs) ys k =
    let place : length (x ∷ xs) + k ≡ suc (length xs + k) = omega arith in
    ap (word_at (x ∷ (xs ++ ys))) place ∙ word_past xs ys k

set_past : (xs ys : List ℤ) (k : ℕ) (x : ℤ) → slice_set (xs ++ ys) (length xs + k) x ≡ xs ++ slice_set ys k x
set_past [] ys k x = ap (λ n. slice_set ys n x) (omega arith)
set_past (y ∷ xs) ys k x =
    let place : length (y ∷ xs) + k ≡ suc (length xs + k) = omega arith in
    ap (λ n. slice_set (y ∷ (xs ++ ys)) n x) place ∙ ap (λ l. y ∷ l) (set_past xs ys k x)

set_front : (xs ys : List ℤ) (k : ℕ) (x : ℤ) → k < length xs → slice_set (xs ++ ys) k x ≡ slice_set xs k x ++ ys
set_front [] ys k x within = absurd (omega (arith, within))
set_front (y ∷ xs) ys zero x within = refl
set_front (y ∷ xs) ys (suc k) x within = ap (λ l. y ∷ l) (set_front xs ys k x (omega (arith, within)))

pub flat_same : (f h : ℕ → List ℤ) (arrays : List ℕ) → ((a : ℕ) → Member a arrays → f a ≡ h a) → flat_map f arrays ≡ flat_map h arrays
flat_same f h [] same = refl
flat_same f h (a ∷ arrays) same =
    let first : f a ≡ h a = same a (inl refl) in
    let rest : flat_map f arrays ≡ flat_map h arrays = flat_same f h arrays (λ b m. same b (inr m)) in
    λ i. first i ++ rest i

-- ---- the cells of arrays

module _ (piece : ℕ → List ℤ) (shares : ℕ → ℕ) where
  -- each array has as many cells as its share
  abbrev pub Fit : List ℕ → Type 0
  Fit arrays = (a : ℕ) → Member a arrays → length (piece a) ≡ shares a

  before_here : (b : ℕ) (arrays : List ℕ) (a : ℕ) → b ≡ a → cells_before shares (b ∷ arrays) a ≡ 0
  before_here b arrays a is = elim (eqb_tells b a) [ inl t ↦ ap (λ (x : Bool). if x then 0 else shares b + cells_before shares arrays a) t.0 | inr t ↦ absurd (t.1 is) ]

  before_past : (b : ℕ) (arrays : List ℕ) (a : ℕ) → (b ≡ a → ⊥) → cells_before shares (b ∷ arrays) a ≡ shares b + cells_before shares arrays a
  before_past b arrays a is = elim (eqb_tells b a) [ inl t ↦ absurd (is t.1) | inr t ↦ ap (λ (x : Bool). if x then 0 else shares b + cells_before shares arrays a) t.0 ]

  -- the word of an array's cell
  pub word_in : (arrays : List ℕ) (a i : ℕ) → Member a arrays → Fit arrays → i < shares a → word_at (flat_map piece arrays) (cells_before shares arrays a + i) ≡ word_at (piece a) i
  word_in [] a i m fit less = elim m [ ]
  word_in (b ∷ arrays) a i m fit less = elim (eqb_tells b a) [ inl t ↦ here t.1 | inr t ↦ past t.1 m (λ k. word_in arrays a i k (λ n h. fit n (inr h)) less) ] where
    here : b ≡ a → word_at (flat_map piece (b ∷ arrays)) (cells_before shares (b ∷ arrays) a + i) ≡ word_at (piece a) i
    here is =
        let long : length (piece a) ≡ shares a = fit a m in
        let within : i < length (piece b) = subst (λ n. i < length (piece n)) (sym is) (subst (λ n. i < n) (sym long) less) in
        let none : cells_before shares (b ∷ arrays) a ≡ 0 = before_here b arrays a is in
        let place : cells_before shares (b ∷ arrays) a + i ≡ i = omega (arith, none) in
        ap (word_at (piece b ++ flat_map piece arrays)) place
        ∙ get_or_append_left (piece b) (flat_map piece arrays) (pos 0) i within
        ∙ ap (λ n. word_at (piece n) i) is

    past : (b ≡ a → ⊥) → Member a (b ∷ arrays) → (Member a arrays → word_at (flat_map piece arrays) (cells_before shares arrays a + i) ≡ word_at (piece a) i)
        → word_at (flat_map piece (b ∷ arrays)) (cells_before shares (b ∷ arrays) a + i) ≡ word_at (piece a) i
    past other (inl e) rest = absurd (other (sym e))
    past other (inr k) rest =
        let long : length (piece b) ≡ shares b = fit b (inl refl) in
        let at : cells_before shares (b ∷ arrays) a ≡ shares b + cells_before shares arrays a = before_past b arrays a other in
        let place : cells_before shares (b ∷ arrays) a + i ≡ length (piece b) + (cells_before shares arrays a + i) = omega (arith, long, at) in
        ap (λ n. word_at (piece b ++ flat_map piece arrays) n) place
        ∙ word_past (piece b) (flat_map piece arrays) (cells_before shares arrays a + i)
        ∙ rest k

  -- a Store in a cell of each array, one after another
  pub stores : (spot index : ℕ → ℕ) (value : ℕ → ℤ) (arrays : List ℕ) (before : List ℤ) → Distinct arrays → Fit arrays → ((a : ℕ) → Member a arrays → index a < shares a)
      → ((a : ℕ) → Member a arrays → spot a ≡ length before + (cells_before shares arrays a + index a))
      → fold (λ (cells : List ℤ) (a : ℕ). slice_set cells (spot a) (value a)) (before ++ flat_map piece arrays) arrays
      ≡ before ++ flat_map (λ a. slice_set (piece a) (index a) (value a)) arrays
  stores spot index value [] before apart_all fit less at = refl
  stores spot index value (b ∷ arrays) before apart_all fit less at =
      let new : List ℤ = slice_set (piece b) (index b) (value b) in
      let rest : List ℤ = flat_map piece arrays in
      let long : length (piece b) ≡ shares b = fit b (inl refl) in
      let same_long : length new ≡ length (piece b) = length-set (piece b) (index b) (value b) in
      let within : index b < length (piece b) = subst (λ n. index b < n) (sym long) (less b (inl refl)) in
      let none : cells_before shares (b ∷ arrays) b ≡ 0 = before_here b arrays b refl in
      let was_here : spot b ≡ length before + (cells_before shares (b ∷ arrays) b + index b) = at b (inl refl) in
      let here : spot b ≡ length before + index b = omega (arith, was_here, none) in
      let all : length (before ++ new) ≡ length before + length new = length-append before new in
      ap (λ l. fold (λ (cells : List ℤ) (a : ℕ). slice_set cells (spot a) (value a)) l arrays) (
      ap (λ n. slice_set (before ++ (piece b ++ rest)) n (value b)) here
      ∙ set_past before (piece b ++ rest) (index b) (value b)
      ∙ ap (λ l. before ++ l) (set_front (piece b) rest (index b) (value b) within)
      ∙ sym (append_assoc before new rest))
      ∙ stores spot index value arrays (before ++ new) apart_all.1 (λ a m. fit a (inr m)) (λ a m. less a (inr m)) (λ a m.
      let past : cells_before shares (b ∷ arrays) a ≡ shares b + cells_before shares arrays a = before_past b arrays a (λ e. apart_all.0 (subst (λ n. Member n arrays) (sym e) m)) in
      let was : spot a ≡ length before + (cells_before shares (b ∷ arrays) a + index a) = at a (inr m) in
      omega (arith, past, was, all, same_long, long))
      ∙ append_assoc before new (flat_map (λ a. slice_set (piece a) (index a) (value a)) arrays)
