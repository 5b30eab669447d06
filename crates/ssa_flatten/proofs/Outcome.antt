-- What the public meaning of flat code, read from its instructions and its arrays, says of the lines.
use Rattle.std.proofs.Common.{◌≡◌, ℕ, zero, suc, List, [], ◌∷◌, ◌++◌, length, map, replicate, Option, None, Some, refl, sym, ap, subst, ◌∙◌, arith}
use Rattle.code_forms.proofs.EachLemmas.{Each}
use Rattle.code_forms.specs.declared.guard.GuardLine.{GuardLine}
use Rattle.code_forms.specs.declared.guard.ArrayShape.{ArrayShape}
use Rattle.code_forms.specs.declared.flat.Operand.{Operand}
use Rattle.code_forms.specs.declared.flat.Instr.{Instr}
use Rattle.code_forms.specs.declared.flat.Instr.TheVariants as instr
use Rattle.code_forms.specs.declared.flat.FlatArray.{FlatArray}
use Rattle.mp5_words.specs.Domain.{Domain}
use Rattle.mp5_words.specs.Copies.{Copy}
use Rattle.code_forms.specs.GuardMeaning.{indexes_of, guard_lines, guard_start}
use Rattle.code_forms.specs.FlatMeaning.{plain_step, operand_value, run_from, index_slot, steps_in, steps_of, flat_values}
use Rattle.code_forms.proofs.FlatLemmas.{InOrder}
use Rattle.ssa_flatten.specs.Flattening.{Sofar, flat_start, flat_lines, flat_steps, flat_instrs, stores_from}
use Rattle.ssa_flatten.proofs.FlatLines.{Stands}
use Rattle.ssa_flatten.proofs.FlatKeeps.{PlainIndexes, keeps}
use Rattle.ssa_flatten.proofs.StepsLemmas.{NumbersBelow, Numbered, ArrayBelow, instrs_of, behind, lines_numbered}

abbrev pub store_instrs : ℕ → List (Option (Copy Operand)) → List Instr
store_instrs a [] = []
store_instrs a (None ∷ copies) = store_instrs (suc a) copies
store_instrs a (Some c ∷ copies) = instr.Store a c.latest ∷ store_instrs (suc a) copies

pub stores_plain : (a : ℕ) (copies : List (Option (Copy Operand))) → stores_from a copies ≡ map plain_step (store_instrs a copies)
stores_plain a [] = refl
stores_plain a (None ∷ copies) = stores_plain (suc a) copies
stores_plain a (Some c ∷ copies) = ap (λ l. plain_step (instr.Store a c.latest) ∷ l) (stores_plain (suc a) copies)

pub length_replicate : {A : Type 0} (n : ℕ) (x : A) → length (replicate n x) ≡ n
length_replicate zero x = refl
length_replicate (suc n) x = ap suc (length_replicate n x)

none_below : (n : ℕ) → NumbersBelow 0 (replicate n [])
none_below zero = tt
none_below (suc n) = (tt, none_below n)

module _ (fields : ℕ) (shapes : List ArrayShape) (lines : List GuardLine) where
  abbrev pub done : Sofar
  done = flat_lines fields shapes lines (flat_start fields shapes)

  numbered : Each (ArrayBelow shapes fields (length shapes)) lines → Numbered fields (length shapes) done
  numbered there = lines_numbered shapes fields (length shapes) lines (flat_start fields shapes) there (record { steps = refl; below = none_below (length shapes); next = omega arith; later = length_replicate (length shapes) [] })

  -- the steps are those of the instructions and of the arrays' later copies
  pub steps_back : Each (ArrayBelow shapes fields (length shapes)) lines → (arrays : List FlatArray) → map (λ (f : FlatArray). f.copies) arrays ≡ done.later → steps_of arrays (flat_instrs fields shapes lines) ≡ flat_steps fields shapes lines
  steps_back there arrays later =
      let h = numbered there in
      let same : done.steps ++ stores_from 0 done.copies ≡ done.steps ++ map plain_step (store_instrs 0 done.copies) = ap (λ l. done.steps ++ l) (stores_plain 0 done.copies) in
      (λ i. steps_in (later i) 0 (instrs_of (same i))) ∙ behind done.later done.steps (store_instrs 0 done.copies) h.steps h.below ∙ sym same

  -- the values of the code's slots stand for what the lines leave, over values of any kind
  pub outcome : (V : Type 0) (d : Domain V) (arrays : List FlatArray) (header : List V) → length header ≡ fields → (plain : PlainIndexes shapes)
      → Each (ArrayBelow shapes fields (length shapes)) lines → map (λ (f : FlatArray). f.copies) arrays ≡ done.later
      → InOrder (index_slot (flat_instrs fields shapes lines) fields) fields (flat_steps fields shapes lines)
      → Stands V (operand_value V d (flat_values V d fields arrays (flat_instrs fields shapes lines) header)) done (guard_lines V d (indexes_of V d.ops shapes) lines (guard_start V d (length shapes) header))
  outcome V d arrays header long plain there later order =
      let slots = index_slot (flat_instrs fields shapes lines) fields in
      subst (λ steps. Stands V (operand_value V d (run_from V d slots steps header)) done (guard_lines V d (indexes_of V d.ops shapes) lines (guard_start V d (length shapes) header))) (sym (steps_back there arrays later))
      (keeps V d fields shapes lines slots header long plain order)
