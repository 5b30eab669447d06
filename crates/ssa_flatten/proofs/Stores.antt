-- The stores behind the lines.
use Rattle.std.proofs.Common.{◌≡◌, ℕ, zero, suc, ◌+◌, ◌<◌, ◌≤◌, nat_lt, true, ◌&&◌, List, [], ◌∷◌, ◌++◌, length, get_or, Option, None, Some, refl, subst, arith}
use Rattle.std.proofs.lemmas.Bool.Decides.{nat_tests}
use Rattle.mp5_words.specs.Copies.{Copy}
use Rattle.code_forms.specs.declared.flat.Operand.{Operand}
use Rattle.code_forms.specs.declared.flat.Instr.TheVariants as instr
use Rattle.code_forms.specs.FlatValid.{Written, Event, Stores, is_written, instrs_fit, after, events}
use Rattle.code_forms.proofs.ValidLemmas.{and_both}
use Rattle.code_forms.proofs.FitLemmas.{kept, store_here, store_other}
use Rattle.ssa_flatten.proofs.Outcome.{store_instrs}

-- the copies of touched arrays are slots that hold words
abbrev pub AllWritten : Written → List (Option (Copy Operand)) → Type 0
AllWritten w copies = (j : ℕ) (c : Copy Operand) → get_or copies j None ≡ Some c → is_written w c.latest ≡ true

pub stores_fit : (arrays : ℕ) (w : Written) (a : ℕ) (copies : List (Option (Copy Operand))) → AllWritten w copies → a + length copies ≤ arrays → instrs_fit arrays w (store_instrs a copies) ≡ true
stores_fit arrays w a [] written below = refl
stores_fit arrays w a (None ∷ copies) written below = stores_fit arrays w (suc a) copies (λ j c e. written (suc j) c e) (omega (arith, below))
stores_fit arrays w a (Some c ∷ copies) written below =
    and_both (nat_lt a arrays && is_written w c.latest) _ (and_both (nat_lt a arrays) _ here (written 0 c refl))
    (stores_fit arrays (after w (instr.Store a c.latest)) (suc a) copies (λ j d e. kept w (instr.Store a c.latest ∷ []) d.latest (written (suc j) d e)) (omega (arith, below))) where
      here : nat_lt a arrays ≡ true
      here = let less : a < arrays = omega (arith, below) in grind (arith, nat_tests, less)

-- no store of an array before the first
none_before : (b a : ℕ) (copies : List (Option (Copy Operand))) → b < a → events b (store_instrs a copies) ≡ []
none_before b a [] less = refl
none_before b a (None ∷ copies) less = none_before b (suc a) copies (omega (arith, less))
none_before b a (Some c ∷ copies) less = λ i. store_other a b c.latest (λ e. absurd (omega (arith, e, less))) i ++ none_before b (suc a) copies (omega (arith, less)) i

-- what the stores do to an array
abbrev pub stored : Option (Copy Operand) → List Event
stored None = []
stored (Some c) = Stores ∷ []

pub store_events : (a j : ℕ) (copies : List (Option (Copy Operand))) → events (a + j) (store_instrs a copies) ≡ stored (get_or copies j None)
store_events a j [] = refl
store_events a zero (None ∷ copies) = none_before (a + 0) (suc a) copies (omega arith)
store_events a (suc j) (None ∷ copies) = subst (λ n. events n (store_instrs (suc a) copies) ≡ stored (get_or copies j None)) (omega arith) (store_events (suc a) j copies)
store_events a zero (Some c ∷ copies) =
    subst (λ n. events n (instr.Store a c.latest ∷ store_instrs (suc a) copies) ≡ Stores ∷ []) (omega arith)
    (λ i. store_here a c.latest i ++ none_before a (suc a) copies (omega arith) i)
store_events a (suc j) (Some c ∷ copies) =
    let rest : events (a + suc j) (store_instrs (suc a) copies) ≡ stored (get_or copies j None) =
    subst (λ n. events n (store_instrs (suc a) copies) ≡ stored (get_or copies j None)) (omega arith) (store_events (suc a) j copies) in
    λ i. store_other a (a + suc j) c.latest (λ e. absurd (omega (arith, e))) i ++ rest i
