-- How many instructions indexes and loads make.
use Rattle.std.specs.Prelude.{ℕ, ◌+◌, List, [], ◌∷◌, Option, Some, None}
use Rattle.code_forms.specs.declared.guard.GuardExpr.{GuardExpr}
use Rattle.code_forms.specs.declared.guard.ArrayShape.{ArrayShape}
use Rattle.code_forms.specs.declared.flat.Operand.{Operand}
use Rattle.code_forms.specs.GuardValid.{operators_in}

-- how many operators stand in an index, where there is one
abbrev pub index_operators : Option GuardExpr → ℕ
index_operators None = 0
index_operators (Some index) = operators_in index

-- how many instructions the loads of the arrays would make that aren't loaded yet
abbrev pub unloaded : List ArrayShape → List (Option Operand) → ℕ
unloaded [] copies = 0
unloaded (s ∷ shapes) [] = 0
unloaded (s ∷ shapes) (None ∷ copies) = (2 + index_operators s.index) + unloaded shapes copies
unloaded (s ∷ shapes) (Some x ∷ copies) = unloaded shapes copies
