-- Where a touched array's Index stands, and its guards.
use Rattle.std.proofs.Common.{◌≡◌, inl, inr, ℕ, zero, suc, ◌+◌, ◌<◌, ◌&&◌, nat_lt, nat_le, Bool, true, false, List, [], ◌∷◌, ◌++◌, length, refl, ap, subst, ◌∙◌, arith}
use Rattle.std.specs.List.{list_all}
use Rattle.code_forms.specs.declared.flat.FlatArray.{FlatArray}
use Rattle.code_forms.specs.declared.flat.Operand.{Operand}
use Rattle.code_forms.specs.declared.flat.Instr.{Instr}
use Rattle.code_forms.specs.declared.flat.Instr.TheVariants as instr
use Rattle.code_forms.specs.FlatMeaning.{index_slot, index_operand}
use Rattle.code_forms.specs.FlatValid.{Written, Event, Indexes, Loads, Stores, events, event_of, is_life, is_touched, is_some, arrays_fit, array_fits, is_guard, is_copy, ascends, instr_at}
use Rattle.code_forms.specs.Staged.{guards_of}
use Rattle.code_forms.proofs.ValidLemmas.{and_front, and_back}
use Rattle.code_forms.proofs.OrderLemmas.{first_event, slot_here, operand_here, slot_past, operand_behind}
use Rattle.std.proofs.lemmas.List.{append-nil}

-- ---- arrays of valid code

module _ (whole : List Instr) (w : Written) where
  abbrev tail2 : FlatArray → ℕ → Bool
  tail2 f n = list_all (is_copy n whole) f.copies && ascends 0 f.copies

  abbrev tail1 : FlatArray → ℕ → Bool
  tail1 f n = list_all (is_guard w) f.touched && tail2 f n

  abbrev tail0 : FlatArray → ℕ → Bool
  tail0 f n = is_life (is_some f.touched) (events n whole) && tail1 f n

  life_on : (n : ℕ) (f : FlatArray) → array_fits whole w n f ≡ true → tail0 f n ≡ true
  life_on n f fit = and_back (nat_le f.length 65536) (tail0 f n) (and_back (nat_lt 0 f.length) (nat_le f.length 65536 && tail0 f n) fit)

  -- an array's life is by whether it is touched
  pub life_at : (n : ℕ) (arrays : List FlatArray) (j : ℕ) → j < length arrays → arrays_fit whole w n arrays ≡ true → is_life (is_touched arrays j) (events (n + j) whole) ≡ true
  life_at n [] j less fit = absurd (omega arith)
  life_at n (f ∷ arrays) zero less fit =
      subst (λ m. is_life (is_some f.touched) (events m whole) ≡ true) (omega arith)
      (and_front (is_life (is_some f.touched) (events n whole)) (tail1 f n) (life_on n f (and_front (array_fits whole w n f) _ fit)))
  life_at n (f ∷ arrays) (suc j) less fit =
      subst (λ m. is_life (is_touched arrays j) (events m whole) ≡ true) (omega arith)
      (life_at (suc n) arrays j (omega (arith, less)) (and_back (array_fits whole w n f) _ fit))

  -- guards under which arrays are touched are guards
  pub guards_at : (n : ℕ) (arrays : List FlatArray) (j : ℕ) → arrays_fit whole w n arrays ≡ true → list_all (is_guard w) (guards_of arrays j) ≡ true
  guards_at n [] j fit = refl
  guards_at n (f ∷ arrays) zero fit =
      and_front (list_all (is_guard w) f.touched) (tail2 f n) (and_back (is_life (is_some f.touched) (events n whole)) (tail1 f n) (life_on n f (and_front (array_fits whole w n f) _ fit)))
  guards_at n (f ∷ arrays) (suc j) fit = guards_at (suc n) arrays j (and_back (array_fits whole w n f) _ fit)

-- ---- the Index

-- a touched array is indexed first
pub life_first : (t : Bool) (es : List Event) → t ≡ true → is_life t es ≡ true → (fs : List Event) × (es ≡ Indexes ∷ fs)
life_first false es is life = absurd cc
life_first true [] is life = absurd cc
life_first true (Indexes ∷ es) is life = (es, refl)
life_first true (Loads ∷ es) is life = absurd cc
life_first true (Stores ∷ es) is life = absurd cc

-- the array's Index: its number, and what it reduces
pub record IsIndex (instrs : List Instr) (a k : ℕ) (x : Operand) : Type 0 where
  pub within : k < length instrs
  pub instruction : instr_at instrs k ≡ instr.Index a x
  pub slot : (at : ℕ) → index_slot instrs at a ≡ at + k
  pub reduces : index_operand instrs a ≡ x

pub index_of : (instrs : List Instr) (a : ℕ) (fs : List Event) → events a instrs ≡ Indexes ∷ fs → (k : ℕ) × (x : Operand) × IsIndex instrs a k x
index_of [] a fs e = absurd cc
index_of (i ∷ instrs) a fs e = elim (first_event i a (events a instrs) fs e) [
  | inl t ↦ (
    0,
    t.0,
    record {
      within = omega arith;
      instruction = t.1;
      slot = λ at. ap (λ j. index_slot (j ∷ instrs) at a) t.1 ∙ slot_here a t.0 instrs at ∙ add_none at;
      reduces = ap (λ j. index_operand (j ∷ instrs) a) t.1 ∙ operand_here a t.0 instrs;
    },
  )
  | inr t ↦ (
      let rest = index_of instrs a fs (subst (λ l. l ++ events a instrs ≡ Indexes ∷ fs) t e) in
      let is : IsIndex instrs a rest.0 rest.1 = rest.2 in (
        suc rest.0,
        rest.1,
        record {
          within = omega (arith, is.within);
          instruction = is.instruction;
          slot = λ at. slot_past i instrs at a t ∙ is.slot (suc at) ∙ add_one at rest.0;
          reduces = operand_behind (i ∷ []) instrs a (append-nil (event_of a i) ∙ t) ∙ is.reduces;
        },
      ))
] where
  add_none : (n : ℕ) → n ≡ n + 0
  add_none n = omega arith

  add_one : (n k : ℕ) → suc n + k ≡ n + suc k
  add_one n k = omega arith
