-- Staged code as plain data: what is written, what is used, and the values of instructions.
use Rattle.std.proofs.Common.{◌≡◌, ℕ, zero, suc, ◌+◌, ◌<◌, ◌≤◌, nat_lt, nat_le, ℤ, Bool, true, false, cond, List, [], ◌∷◌, ◌++◌, length, map, get_or, Option, None, Some, refl, ap, subst, ◌∙◌, ◌⊎◌, inl, inr, arith}
use Rattle.std.proofs.lemmas.Bool.Decides.{eqb_tells, nat_tests}
use Rattle.code_forms.specs.declared.flat.Instr.{Instr}
use Rattle.code_forms.specs.declared.flat.FlatArray.{FlatArray}
use Rattle.code_forms.specs.FlatValid.{Written, is_limited, instrs_fit, arrays_fit, array_fits, is_life, is_some, events, instr_at, header_slots, after_all}
use Rattle.code_forms.specs.FlatMeaning.{Slots, instr_value, covered, copy_in, steps_in, steps_of, flat_length}
use Rattle.code_forms.specs.Staged.{Staged, Member, group_at, first_array, HasSizes, slot_of_index, number_at, IsWritten, of_header, of_instr, IsUsed, by_instr, at_end, IsStaged}
use Rattle.code_forms.specs.StagedMeaning.{code_values}
use Rattle.mp5_words.specs.Domain.{Loads, words}
use Rattle.mp5_words.specs.Cells.{word_at}
use Rattle.code_forms.proofs.ValidLemmas.{and_front, and_back}
use Rattle.code_forms.proofs.FlatLemmas.{AllHold, runs_hold}
use Rattle.code_forms.proofs.OrderLemmas.{Lives, in_order}

-- ---- members

-- the first item of a list that has some
pub first_member : (xs : List ℕ) → 0 < length xs → Member (get_or xs 0 0) xs
first_member [] some = absurd (omega arith)
first_member (x ∷ xs) some = inl refl

pub member_front : (v : ℕ) (xs ys : List ℕ) → Member v xs → Member v (xs ++ ys)
member_front v [] ys m = elim m [ ]
member_front v (x ∷ xs) ys (inl e) = inl e
member_front v (x ∷ xs) ys (inr m) = inr (member_front v xs ys m)

pub member_back : (v : ℕ) (xs ys : List ℕ) → Member v ys → Member v (xs ++ ys)
member_back v [] ys m = m
member_back v (x ∷ xs) ys m = inr (member_back v xs ys m)

-- ---- what valid flat code says of its arrays

pub limited : (c : Staged) → IsStaged c → is_limited c.fields c.arrays c.instrs ≡ true
limited c staged = and_front _ _ staged.code

pub fitting : (c : Staged) → IsStaged c → instrs_fit (length c.arrays) (header_slots c.fields) c.instrs ≡ true
fitting c staged = and_front _ _ (and_back (is_limited c.fields c.arrays c.instrs) _ staged.code)

pub arrays_fitting : (c : Staged) → IsStaged c → arrays_fit c.instrs (after_all (header_slots c.fields) c.instrs) 0 c.arrays ≡ true
arrays_fitting c staged =
    and_front _ _ (and_back (instrs_fit (length c.arrays) (header_slots c.fields) c.instrs) _ (and_back (is_limited c.fields c.arrays c.instrs) _ staged.code))

-- each array, by its number, has from 1 to 65,536 cells and a life
pub array_fits_at : (instrs : List Instr) (w : Written) (n : ℕ) (arrays : List FlatArray) (j : ℕ) → j < length arrays → arrays_fit instrs w n arrays ≡ true
    → (1 ≤ flat_length arrays j) × (flat_length arrays j ≤ 65536) × ((t : Bool) × (is_life t (events (n + j) instrs) ≡ true))
array_fits_at instrs w n [] j within fit = absurd (omega arith)
array_fits_at instrs w n (f ∷ arrays) zero within fit =
    let here : array_fits instrs w n f ≡ true = and_front (array_fits instrs w n f) _ fit in
    let first : nat_lt 0 f.length ≡ true = and_front (nat_lt 0 f.length) _ here in
    let rest = and_back (nat_lt 0 f.length) _ here in
    let second : nat_le f.length 65536 ≡ true = and_front (nat_le f.length 65536) _ rest in
    let life : is_life (is_some f.touched) (events n instrs) ≡ true = and_front (is_life (is_some f.touched) (events n instrs)) _ (and_back (nat_le f.length 65536) _ rest) in
    (grind (arith, nat_tests, first), grind (arith, nat_tests, second), (is_some f.touched, subst (λ m. is_life (is_some f.touched) (events m instrs) ≡ true) (omega arith) life))
array_fits_at instrs w n (f ∷ arrays) (suc j) within fit =
    let rest = array_fits_at instrs w (suc n) arrays j (omega (arith, within)) (and_back (array_fits instrs w n f) _ fit) in
    (rest.0, rest.1, (rest.2.0, subst (λ m. is_life rest.2.0 (events m instrs) ≡ true) (omega arith) rest.2.1))

pub array_at : (c : Staged) → IsStaged c → (a : ℕ) → a < length c.arrays
    → (1 ≤ flat_length c.arrays a) × (flat_length c.arrays a ≤ 65536) × ((t : Bool) × (is_life t (events (0 + a) c.instrs) ≡ true))
array_at c staged a below = array_fits_at c.instrs (after_all (header_slots c.fields) c.instrs) 0 c.arrays a below (arrays_fitting c staged)

-- there are few arrays
pub few_arrays : (c : Staged) → IsStaged c → length c.arrays ≤ 16
few_arrays c staged =
    let few : nat_le (length c.arrays) 16 ≡ true = and_front (nat_le (length c.arrays) 16) _ (and_back (nat_le c.fields 32) _ (limited c staged)) in
    grind (arith, nat_tests, few)

-- there are few fields
pub few_fields : (c : Staged) → IsStaged c → c.fields ≤ 32
few_fields c staged =
    let few : nat_le c.fields 32 ≡ true = and_front (nat_le c.fields 32) _ (limited c staged) in
    grind (arith, nat_tests, few)

-- a group has as many units as its first array has cells, or one
pub has_sizes : (c : Staged) → IsStaged c → HasSizes c
has_sizes c staged g less = by (group_at c g).sharded
  where
    first : first_array (group_at c g) < length c.arrays
    first = ((staged.groups g less).there (first_array (group_at c g)) (first_member (group_at c g).arrays (staged.groups g less).some)).0

    by : (b : Bool) → (1 ≤ cond b (flat_length c.arrays (first_array (group_at c g))) 1) × (cond b (flat_length c.arrays (first_array (group_at c g))) 1 ≤ 65536)
    by true = let all = array_at c staged (first_array (group_at c g)) first in (all.0, all.1)
    by false = (omega arith, omega arith)

pub lives : (c : Staged) → IsStaged c → Lives (length c.arrays) c.instrs
lives c staged a below =
    let life = (array_at c staged a below).2 in
    (life.0, subst (λ n. is_life life.0 (events n c.instrs) ≡ true) (omega arith) life.1)

-- ---- the value of each instruction

-- a later copy counts as what it is
covered_word : (lengths : ℕ → ℕ) (loads : Loads) (o : Option ℕ) (v : ℤ) → covered ℤ (words lengths loads) o v ≡ v
covered_word lengths loads None v = refl
covered_word lengths loads (Some a) v = refl

value_at : (lengths : ℕ → ℕ) (loads : Loads) (slots : Slots) (env : List ℤ) (later : List (List ℕ)) (m start k : ℕ) (instrs : List Instr) → k < length instrs
    → AllHold ℤ (words lengths loads) slots env start (steps_in later m instrs)
    → word_at env (start + k) ≡ instr_value ℤ (words lengths loads) slots env (instr_at instrs k)
value_at lengths loads slots env later m start k [] within held = absurd (omega arith)
value_at lengths loads slots env later m start zero (i ∷ instrs) within held =
    ap (word_at env) (omega arith) ∙ held.0 ∙ covered_word lengths loads (copy_in later 0 m) (instr_value ℤ (words lengths loads) slots env i)
value_at lengths loads slots env later m start (suc k) (i ∷ instrs) within held =
    ap (word_at env) (omega arith) ∙ value_at lengths loads slots env later (suc m) (suc start) k instrs (omega (arith, within)) held.2

-- the value of an instruction, from the values of all slots
pub valued : (c : Staged) (loads : Loads) (header : List ℤ) (k : ℕ) → IsStaged c → length header ≡ c.fields → k < length c.instrs
    → word_at (code_values c loads header) (c.fields + k)
    ≡ instr_value ℤ (words (flat_length c.arrays) loads) (slot_of_index c) (code_values c loads header) (instr_at c.instrs k)
valued c loads header k staged long within =
    let later : List (List ℕ) = map (λ (f : FlatArray). f.copies) c.arrays in
    value_at (flat_length c.arrays) loads (slot_of_index c) (code_values c loads header) later 0 c.fields k c.instrs within
    (runs_hold ℤ (words (flat_length c.arrays) loads) (slot_of_index c) (steps_of c.arrays c.instrs) header c.fields long
    (in_order c.fields (length c.arrays) c.instrs (lives c staged) later (fitting c staged)))

-- ---- places of the order

-- what is used later on is used from here on
pub later : (c : Staged) (from p v : ℕ) → from ≤ p → IsUsed c p v → IsUsed c from v
later c from p v less (by_instr q le lt m) = by_instr q (omega (arith, less, le)) lt m
later c from p v less (at_end m) = at_end m

-- written before the next place: before this one, or here
pub written_cases : (c : Staged) (p v : ℕ) → IsWritten c (suc p) v → IsWritten c p v ⊎ (v ≡ c.fields + number_at c p)
written_cases c p v (of_header h) = inl (of_header h)
written_cases c p v (of_instr q less e) =
    elim (eqb_tells q p) [ inl t ↦ inr (e ∙ ap (λ n. c.fields + number_at c n) t.1) | inr t ↦ let other : q ≡ p → ⊥ = t.1 in inl (of_instr q (omega arith) e) ]
