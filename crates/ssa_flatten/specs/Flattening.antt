-- Guarded code as instructions, in their exact order.
use Rattle.std.specs.Prelude.{ℕ, zero, suc, ◌-◌, pos, List, [], ◌∷◌, ◌++◌, length, map, replicate, slice_set, Option, Some, None}
use Rattle.std.specs.List.{fold, slice_index_or}
use Rattle.code_forms.specs.declared.guard.GuardExpr.{GuardExpr, fold-GuardExpr}
use Rattle.code_forms.specs.declared.guard.GuardExpr.TheOpen.{GuardExpr-F}
use Rattle.code_forms.specs.declared.guard.GuardLine.{GuardLine}
use Rattle.code_forms.specs.declared.guard.GuardLine.TheVariants as line
use Rattle.code_forms.specs.declared.guard.ArrayShape.{ArrayShape}
use Rattle.code_forms.specs.declared.flat.Operand.{Operand}
use Rattle.code_forms.specs.declared.flat.Operand.TheVariants as operand
use Rattle.code_forms.specs.declared.flat.Instr.{Instr}
use Rattle.code_forms.specs.declared.flat.Instr.TheVariants as instr
use Rattle.code_forms.specs.GuardValid.{line_arrays}
use Rattle.mp5_words.specs.Copies.{Copy}
use Rattle.code_forms.specs.GuardMeaning.{index_at, line_guard}
use Rattle.code_forms.specs.FlatMeaning.{Step, plain_step}

-- ---- expressions

-- the operand of each field's last value, and of each loaded array's last copy
pub record Latest : Type 0 where
  pub fields : List Operand
  pub copies : List (Option Operand)

-- instructions, the operand that they give, and the slot behind them
pub record Code : Type 0 where
  pub instrs : List Instr
  pub result : Operand
  pub next : ℕ

-- the instructions from a slot on
abbrev pub Emits : Type 0
Emits = Latest → ℕ → Code

-- several operands, one after another
pub record Codes : Type 0 where
  pub instrs : List Instr
  pub results : List Operand
  pub next : ℕ

-- expressions in turn
abbrev pub in_turn : List Emits → Latest → ℕ → Codes
in_turn [] latest at = record { instrs = []; results = []; next = at }
in_turn (x ∷ xs) latest at = record {
  instrs = (x latest at).instrs ++ (in_turn xs latest (x latest at).next).instrs;
  results = (x latest at).result ∷ (in_turn xs latest (x latest at).next).results;
  next = (in_turn xs latest (x latest at).next).next;
}

-- no instruction
abbrev pub plain : Operand → ℕ → Code
plain x at = record { instrs = []; result = x; next = at }

-- one more instruction, whose slot is the result
abbrev pub closing : List Instr → ℕ → Instr → Code
closing instrs at i = record { instrs = instrs ++ i ∷ []; result = operand.Slot at; next = suc at }

-- the operand at a place; 0 past them all
abbrev pub operand_at : List Operand → ℕ → Operand
operand_at xs k = slice_index_or xs k (operand.Number (pos 0))

-- the operand of a copy; 0 where there is none
abbrev pub copy_operand : Option Operand → Operand
copy_operand None = operand.Number (pos 0)
copy_operand (Some x) = x

-- the instructions of a form, from those of its operands
abbrev pub flattening : GuardExpr-F Emits → Emits
flattening (GuardExpr-F.Number n) latest at = plain (operand.Number n) at
flattening (GuardExpr-F.Field f) latest at = plain (operand_at latest.fields f) at
flattening (GuardExpr-F.Cell a) latest at = plain (copy_operand (slice_index_or latest.copies a None)) at
flattening (GuardExpr-F.One op a) latest at = closing (a latest at).instrs (a latest at).next (instr.One op (a latest at).result)
flattening (GuardExpr-F.Two op a b) latest at =
    let left : Code = a latest at in
    let right : Code = b latest left.next in
    closing (left.instrs ++ right.instrs) right.next (instr.Two op left.result right.result)
flattening (GuardExpr-F.Pick c a b) latest at =
    let cond : Code = c latest at in
    let left : Code = a latest cond.next in
    let right : Code = b latest left.next in
    closing (cond.instrs ++ (left.instrs ++ right.instrs)) right.next (instr.Pick cond.result left.result right.result)
flattening (GuardExpr-F.Hash kind args) latest at =
    let all : Codes = in_turn args latest at in
    closing all.instrs all.next (instr.Hash kind (operand_at all.results 0) (operand_at all.results 1) (operand_at all.results 2))

-- the instructions of an expression
abbrev pub flat : GuardExpr → Emits
flat = fold-GuardExpr Emits flattening

-- ---- lines

-- the code so far: its steps, the slot behind them, the operand of each field's last value, what is known of each
-- touched array, the guards' operands, and for each array the numbers of its later copies
pub record Sofar : Type 0 where
  pub steps : List Step
  pub next : ℕ
  pub fields : List Operand
  pub copies : List (Option (Copy Operand))
  pub guards : List Operand
  pub later : List (List ℕ)

-- the operand of the last copy, where the array is loaded
abbrev pub latest_operand : Option (Copy Operand) → Option Operand
latest_operand None = None
latest_operand (Some c) = Some c.latest

-- the latest operands of the code so far
abbrev pub latest_in : Sofar → Latest
latest_in s = record { fields = s.fields; copies = map latest_operand s.copies }

-- the index of an array as steps; a valid index is there
abbrev pub flat_index : Option GuardExpr → Emits
flat_index None latest at = plain (operand.Number (pos 0)) at
flat_index (Some index) latest at = flat index latest at

-- an array is touched under a guard; one that isn't loaded yet is loaded: the steps of its index, its Index and its
-- Load
abbrev pub touch_new : List ArrayShape → Operand → Sofar → ℕ → Option (Copy Operand) → Sofar
touch_new shapes guard s array (Some c) = record s {
  copies = slice_set s.copies array (Some (record { index = c.index; latest = c.latest; under = c.under ++ guard ∷ []; stored = c.stored }));
}
touch_new shapes guard s array None =
    let index : Code = flat_index (index_at shapes array) (latest_in s) s.next in
    record s {
      steps = s.steps ++ (map plain_step index.instrs ++ (plain_step (instr.Index array index.result) ∷ plain_step (instr.Load array) ∷ []));
      next = suc (suc index.next);
      copies = slice_set s.copies array (Some (record { index = index.result; latest = operand.Slot (suc index.next); under = guard ∷ []; stored = [] }));
    }

-- an array is touched under a guard
abbrev pub touch_array : List ArrayShape → Operand → Sofar → ℕ → Sofar
touch_array shapes guard s array = touch_new shapes guard s array (slice_index_or s.copies array None)

-- an assignment's last instruction
abbrev pub assigning : ℕ → Operand → Operand → Operand → Instr
assigning zero guard value old = instr.Move value
assigning (suc g) guard value old = instr.Pick guard value old

-- a copy with another operand, which stands for the value that is assigned
abbrev pub rewritten : Operand → Operand → Option (Copy Operand) → Option (Copy Operand)
rewritten latest value None = None
rewritten latest value (Some c) = Some (record { index = c.index; latest = latest; under = c.under; stored = c.stored ++ value ∷ [] })

-- a line whose arrays are touched
abbrev pub flat_done : ℕ → GuardLine → Sofar → Sofar
flat_done fields (line.Test cond under first second) s =
    let c : Code = flat cond (latest_in s) s.next in
    let g : Operand = operand_at s.guards under in
    record s {
      steps = s.steps ++ (map plain_step c.instrs ++ (plain_step (instr.Yes g c.result) ∷ plain_step (instr.No g c.result) ∷ []));
      next = suc (suc c.next);
      guards = s.guards ++ (operand.Slot c.next ∷ operand.Slot (suc c.next) ∷ []);
    }
flat_done fields (line.SetField field guard value) s =
    let v : Code = flat value (latest_in s) s.next in
    record s {
      steps = s.steps ++ (map plain_step v.instrs ++ plain_step (assigning guard (operand_at s.guards guard) v.result (operand_at s.fields field)) ∷ []);
      next = suc v.next;
      fields = slice_set s.fields field (operand.Slot v.next);
    }
flat_done fields (line.SetCell array guard value) s =
    let v : Code = flat value (latest_in s) s.next in
    let old : Option (Copy Operand) = slice_index_or s.copies array None in
    record s {
      steps = s.steps ++ (map plain_step v.instrs ++ record { instr = assigning guard (operand_at s.guards guard) v.result (copy_operand (latest_operand old)); copy = Some array } ∷ []);
      next = suc v.next;
      copies = slice_set s.copies array (rewritten (operand.Slot v.next) v.result old);
      later = slice_set s.later array (slice_index_or s.later array [] ++ (v.next - fields) ∷ []);
    }

-- a line: its arrays are touched under its guard, and then it does what it says
abbrev pub flat_line : ℕ → List ArrayShape → Sofar → GuardLine → Sofar
flat_line fields shapes s l = flat_done fields l (fold (touch_array shapes (operand_at s.guards (line_guard l))) s (line_arrays l))

-- lines in text order
abbrev pub flat_lines : ℕ → List ArrayShape → List GuardLine → Sofar → Sofar
flat_lines fields shapes lines s = fold (flat_line fields shapes) s lines

-- ---- the whole

-- the header's slots
abbrev pub slots_from : ℕ → ℕ → List Operand
slots_from at zero = []
slots_from at (suc n) = operand.Slot at ∷ slots_from (suc at) n

-- the code before the first line
abbrev pub flat_start : ℕ → List ArrayShape → Sofar
flat_start fields shapes = record {
  steps = [];
  next = fields;
  fields = slots_from 0 fields;
  copies = replicate (length shapes) None;
  guards = operand.Number (pos 1) ∷ [];
  later = replicate (length shapes) [];
}

-- one Store for each touched array, of its last copy, in order of declaration
abbrev pub stores_from : ℕ → List (Option (Copy Operand)) → List Step
stores_from array [] = []
stores_from array (None ∷ copies) = stores_from (suc array) copies
stores_from array (Some c ∷ copies) = plain_step (instr.Store array c.latest) ∷ stores_from (suc array) copies

-- the steps of all lines and the stores
abbrev pub flat_steps : ℕ → List ArrayShape → List GuardLine → List Step
flat_steps fields shapes lines =
    let s : Sofar = flat_lines fields shapes lines (flat_start fields shapes) in
    s.steps ++ stores_from 0 s.copies

-- the instructions of all lines and the stores
abbrev pub flat_instrs : ℕ → List ArrayShape → List GuardLine → List Instr
flat_instrs fields shapes lines = map (λ (s : Step). s.instr) (flat_steps fields shapes lines)
