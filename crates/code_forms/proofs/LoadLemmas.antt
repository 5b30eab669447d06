-- Arrays that are touched stay touched, and guards stay as they are.
use Rattle.std.proofs.Common.{◌≡◌, ℕ, zero, suc, ◌<◌, pos, List, [], ◌∷◌, ◌++◌, length, get_or, Option, None, Some, refl, ◌∙◌, arith}
use Rattle.std.specs.List.{fold}
use Rattle.std.proofs.lemmas.List.{length-set, get_or_append_left}
use Rattle.code_forms.specs.declared.guard.GuardLine.{GuardLine}
use Rattle.code_forms.specs.declared.guard.GuardLine.TheVariants as line
use Rattle.code_forms.specs.GuardValid.{arrays_in}
use Rattle.mp5_words.specs.Domain.{Domain}
use Rattle.mp5_words.specs.Copies.{Copy, Indexes, at, touched, touch}
use Rattle.code_forms.specs.GuardMeaning.{Guarded, guard_line}

module _ (V : Type 0) (d : Domain V) (indexes : Indexes V) where
  touch_length : (fields : List V) (guard : V) (copies : List (Option (Copy V))) (b : ℕ) → length (touch V d indexes fields guard copies b) ≡ length copies
  touch_length fields guard copies b = length-set copies b (Some (touched V d b (indexes b fields) guard (get_or copies b None)))

  pub length-touches : (fields : List V) (guard : V) (bs : List ℕ) (copies : List (Option (Copy V))) → length (fold (touch V d indexes fields guard) copies bs) ≡ length copies
  length-touches fields guard [] copies = refl
  length-touches fields guard (b ∷ bs) copies = length-touches fields guard bs (touch V d indexes fields guard copies b) ∙ touch_length fields guard copies b

  pub copies_length : (l : GuardLine) (g : Guarded V) → length (guard_line V d indexes l g).copies ≡ length g.copies
  copies_length (line.Test cond under holds fails) g = length-touches g.fields (at V d.ops g.guards under) (arrays_in cond) g.copies
  copies_length (line.SetField f guard e) g = length-touches g.fields (at V d.ops g.guards guard) (arrays_in e) g.copies
  copies_length (line.SetCell a guard e) g = length-set (fold (touch V d indexes g.fields (at V d.ops g.guards guard)) g.copies (a ∷ arrays_in e)) a _ ∙ length-touches g.fields (at V d.ops g.guards guard) (a ∷ arrays_in e) g.copies

  -- what is there of the guards stays
  pub guards_grow : (l : GuardLine) (g : Guarded V) (k : ℕ) → k < length g.guards → (at V d.ops (guard_line V d indexes l g).guards k ≡ at V d.ops g.guards k) × (k < length (guard_line V d indexes l g).guards)
  guards_grow (line.Test cond under holds fails) g k within = (get_or_append_left g.guards _ (d.ops.number (pos 0)) k within, longer g.guards _ k within) where
    longer : (xs ys : List V) (k : ℕ) → k < length xs → k < length (xs ++ ys)
    longer [] ys k w = absurd (omega arith)
    longer (x ∷ xs) ys zero w = omega arith
    longer (x ∷ xs) ys (suc k) w = omega (arith, longer xs ys k (omega (arith, w)))
  guards_grow (line.SetField f guard e) g k within = (refl, within)
  guards_grow (line.SetCell a guard e) g k within = (refl, within)
