-- An instruction that makes a later copy moves or picks.
use Rattle.std.proofs.Common.{◌≡◌, ℕ, zero, suc, ◌+◌, ◌<◌, nat_lt, nat_le, inl, inr, ◌==◌, ◌||◌, if◌then◌else◌, Bool, true, false, List, [], ◌∷◌, length, get_or, Some, refl, sym, ap, ◌∙◌, arith}
use Rattle.std.specs.List.{list_any, list_all}
use Rattle.std.proofs.lemmas.Bool.Decides.{eqb_tells}
use Rattle.code_forms.specs.declared.flat.FlatArray.{FlatArray}
use Rattle.code_forms.specs.declared.flat.Operand.{Operand}
use Rattle.code_forms.specs.declared.flat.Instr.{Instr}
use Rattle.code_forms.specs.FlatMeaning.{Step, copy_in, steps_in, steps_of}
use Rattle.code_forms.specs.FlatValid.{Written, header_slots, after_all, instrs_fit, makes_copy, instr_at, is_life, is_some, is_guard, events, is_copy, array_fits, arrays_fit, is_limited, is_flat_code}
use Rattle.code_forms.proofs.ValidLemmas.{and_front, and_back}
use Rattle.flat_graph.specs.Orders.{copies_in}

one_copy : (a : ℕ) (instrs : List Instr) (k : ℕ) (l : List ℕ) → list_all (is_copy a instrs) l ≡ true → list_any (λ n. k == n) l ≡ true → makes_copy (instr_at instrs k) ≡ true
one_copy a instrs k [] all any = absurd cc
one_copy a instrs k (n ∷ l) all any = elim (eqb_tells k n) [
  | inl same ↦ ap (λ m. makes_copy (instr_at instrs m)) same.1 ∙ and_front (makes_copy (instr_at instrs n)) _ (and_front (is_copy a instrs n) _ all)
  | inr other ↦ one_copy a instrs k l (and_back (is_copy a instrs n) _ all) (ap (λ b. b || list_any (λ m. k == m) l) (sym other.0) ∙ any)
]

copies_fit : (instrs : List Instr) (w : Written) (a : ℕ) (f : FlatArray) → array_fits instrs w a f ≡ true → list_all (is_copy a instrs) f.copies ≡ true
copies_fit instrs w a f e =
    and_front (list_all (is_copy a instrs) f.copies) _
    (and_back (list_all (is_guard w) f.touched) _
    (and_back (is_life (is_some f.touched) (events a instrs)) _
    (and_back (nat_le f.length 65536) _ (and_back (nat_lt 0 f.length) _ e))))

copy_of : (instrs : List Instr) (w : Written) (from : ℕ) (arrays : List FlatArray) (k a : ℕ) → arrays_fit instrs w from arrays ≡ true → copy_in (copies_in arrays) from k ≡ Some a → makes_copy (instr_at instrs k) ≡ true
copy_of instrs w from [] k a fit e = absurd cc
copy_of instrs w from (f ∷ arrays) k a fit e = by_any (copy_of instrs w (suc from) arrays k a (and_back (array_fits instrs w from f) _ fit)) (list_any (λ n. k == n) f.copies) refl where
  by_any : (copy_in (copies_in arrays) (suc from) k ≡ Some a → makes_copy (instr_at instrs k) ≡ true) → (b : Bool) → list_any (λ n. k == n) f.copies ≡ b → makes_copy (instr_at instrs k) ≡ true
  by_any rest true any = one_copy from instrs k f.copies (copies_fit instrs w from f (and_front (array_fits instrs w from f) _ fit)) any
  by_any rest false none = rest (ap (λ (t : Bool). if t then Some from else copy_in (copies_in arrays) (suc from) k) (sym none) ∙ e)

-- one that makes a later copy moves or picks
pub copy_makes : (fields : ℕ) (arrays : List FlatArray) (instrs : List Instr) (last : List Operand) → is_flat_code fields arrays instrs last ≡ true → (k a : ℕ) → copy_in (copies_in arrays) 0 k ≡ Some a → makes_copy (instr_at instrs k) ≡ true
copy_makes fields arrays instrs last valid k a e =
    copy_of instrs (after_all (header_slots fields) instrs) 0 arrays k a
    (and_front (arrays_fit instrs (after_all (header_slots fields) instrs) 0 arrays) _
    (and_back (instrs_fit (length arrays) (header_slots fields) instrs) _ (and_back (is_limited fields arrays instrs) _ valid))) e

-- the step of an instruction
pub step_there : (arrays : List FlatArray) (instrs : List Instr) (i : ℕ) (none : Step) → i < length instrs → get_or (steps_of arrays instrs) i none ≡ record { instr = instr_at instrs i; copy = copy_in (copies_in arrays) 0 i }
step_there arrays instrs i none less = go 0 instrs i less ∙ (λ j. record { instr = instr_at instrs i; copy = copy_in (copies_in arrays) 0 (first i j) }) where
  first : (i : ℕ) → 0 + i ≡ i
  first i = omega arith

  go : (k : ℕ) (is : List Instr) (i : ℕ) → i < length is → get_or (steps_in (copies_in arrays) k is) i none ≡ record { instr = instr_at is i; copy = copy_in (copies_in arrays) 0 (k + i) }
  go k [] i less = absurd (omega arith)
  go k (x ∷ is) zero less = let e : k ≡ k + 0 = omega arith in ap (λ n. record { instr = x; copy = copy_in (copies_in arrays) 0 n }) e
  go k (x ∷ is) (suc i) less = let e : suc k + i ≡ k + suc i = omega arith in go (suc k) is i (omega (arith, less)) ∙ ap (λ n. record { instr = instr_at is i; copy = copy_in (copies_in arrays) 0 n }) e

pub steps_long : (arrays : List FlatArray) (instrs : List Instr) → length (steps_of arrays instrs) ≡ length instrs
steps_long arrays instrs = go 0 instrs where
  go : (k : ℕ) (is : List Instr) → length (steps_in (copies_in arrays) k is) ≡ length is
  go k [] = refl
  go k (x ∷ is) = ap suc (go (suc k) is)
