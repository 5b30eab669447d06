-- The code before the first line, and the stores.
use Rattle.std.proofs.Common.{◌≡◌, ℕ, zero, suc, ◌+◌, ◌<◌, pos, List, [], ◌∷◌, ◌++◌, length, map, drop, get_or, replicate, Option, None, Some, refl, ap, ◌∙◌, arith}
use Rattle.code_forms.specs.declared.guard.ArrayShape.{ArrayShape}
use Rattle.code_forms.specs.declared.flat.Operand.{Operand}
use Rattle.code_forms.specs.declared.flat.Operand.TheVariants as operand
use Rattle.code_forms.specs.declared.flat.Instr.TheVariants as instr
use Rattle.mp5_words.specs.Copies.{Copy}
use Rattle.ssa_flatten.specs.Flattening.{slots_from, latest_operand, flat_start}
use Rattle.ssa_flatten.specs.Flattened.{under_of}
use Rattle.ssa_flatten.specs.Views.{view, no_array, touched_lists, copy_lists, store_of, stores_of}
use Rattle.ssa_flatten.specs.declared.sofar.Touches.{Touches}
use Rattle.ssa_flatten.proofs.Outcome.{store_instrs}

pub slots_more : (at n : ℕ) → slots_from at (n + 1) ≡ slots_from at n ++ operand.Slot (at + n) ∷ []
slots_more at n = ap (slots_from at) (by_suc n) ∙ more at n where
  by_suc : (n : ℕ) → n + 1 ≡ suc n
  by_suc n = omega arith

  more : (at n : ℕ) → slots_from at (suc n) ≡ slots_from at n ++ operand.Slot (at + n) ∷ []
  more at zero = λ i. operand.Slot (at_is i) ∷ [] where
    at_is : at ≡ at + 0
    at_is = omega arith
  more at (suc n) = ap (λ l. operand.Slot at ∷ l) (more (suc at) n ∙ (λ i. slots_from (suc at) n ++ operand.Slot (moved i) ∷ [])) where
    moved : suc at + n ≡ at + suc n
    moved = omega arith

pub slots_next : (n : ℕ) → slots_from 0 (n + 1) ≡ slots_from 0 n ++ operand.Slot n ∷ []
slots_next n = slots_more 0 n ∙ (λ i. slots_from 0 n ++ operand.Slot (plain i) ∷ []) where
  plain : 0 + n ≡ n
  plain = omega arith

no_copies : (n : ℕ) → replicate n None ≡ map latest_operand (replicate n None)
no_copies zero = refl
no_copies (suc n) = ap (λ l. None ∷ l) (no_copies n)

no_guards : (n : ℕ) → touched_lists (replicate n no_array) ≡ map under_of (replicate n None)
no_guards zero = refl
no_guards (suc n) = ap (λ l. [] ∷ l) (no_guards n)

no_later : (n : ℕ) → copy_lists (replicate n no_array) ≡ replicate n []
no_later zero = refl
no_later (suc n) = ap (λ l. [] ∷ l) (no_later n)

-- the lists before the first line
pub start_view : (header : ℕ) (shapes : List ArrayShape) (fields guards : List Operand) (copies : List (Option Operand)) (touches : List Touches)
    → fields ≡ slots_from 0 header → copies ≡ replicate (length shapes) None → guards ≡ operand.Number (pos 1) ∷ [] → touches ≡ replicate (length shapes) no_array
    → record { instrs = []; next = header; fields = fields; copies = copies; guards = guards; touched = touched_lists touches; later = copy_lists touches } ≡ view (flat_start header shapes)
start_view header shapes fields guards copies touches a b c d = λ i. record {
  instrs = [];
  next = header;
  fields = a i;
  copies = (b ∙ no_copies (length shapes)) i;
  guards = c i;
  touched = (ap touched_lists d ∙ no_guards (length shapes)) i;
  later = (ap copy_lists d ∙ no_later (length shapes)) i;
}

-- ---- stores

-- the stores of the latest copies
pub stores_are : (a : ℕ) (copies : List (Option (Copy Operand))) → stores_of a (map latest_operand copies) ≡ store_instrs a copies
stores_are a [] = refl
stores_are a (None ∷ copies) = stores_are (suc a) copies
stores_are a (Some c ∷ copies) = ap (λ l. instr.Store a c.latest ∷ l) (stores_are (suc a) copies)

-- the stores that are left begin with that of the next array
pub stores_left : (copies : List (Option Operand)) (k : ℕ) → k < length copies → stores_of k (drop k copies) ≡ store_of k (get_or copies k None) ++ stores_of (k + 1) (drop (k + 1) copies)
stores_left copies k there = general copies k k there ∙ (λ i. store_of k (get_or copies k None) ++ stores_of (by_suc k i) (drop (by_suc k i) copies)) where
  by_suc : (n : ℕ) → suc n ≡ n + 1
  by_suc n = omega arith

  general : (copies : List (Option Operand)) (k a : ℕ) → k < length copies → stores_of a (drop k copies) ≡ store_of a (get_or copies k None) ++ stores_of (suc a) (drop (suc k) copies)
  general [] k a there = absurd (omega arith)
  general (c ∷ copies) zero a there = refl
  general (c ∷ copies) (suc k) a there = general copies k a (omega (arith, there))
