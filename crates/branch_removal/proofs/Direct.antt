-- Guarded lines that work on the cells themselves.
use Rattle.std.specs.Prelude.{ℕ, ℤ, Bool, false, not, ◌&&◌, if◌then◌else◌, List, [], ◌∷◌, ◌++◌, slice_set}
use Rattle.std.specs.List.{slice_index_or}
use Rattle.mp5_words.specs.Words.{truth}
use Rattle.domino_tree.specs.Value.{Store}
use Rattle.mp5_words.specs.Cells.{word_at, cells_at}
use Rattle.mp5_words.specs.Cells.{touching, cell_set}
use Rattle.domino_tree.specs.Execution.{State, touch}
use Rattle.code_forms.specs.declared.guard.GuardExpr.{GuardExpr}
use Rattle.code_forms.specs.declared.guard.GuardLine.{GuardLine}
use Rattle.code_forms.specs.declared.guard.GuardLine.TheVariants as line
use Rattle.code_forms.specs.GuardValid.{arrays_in}
use Rattle.mp5_words.specs.Domain.{word_ops}
use Rattle.code_forms.specs.GuardMeaning as any
use Rattle.mp5_words.specs.Copies.{Seen}

-- what an expression is evaluated on, and its value, over words
abbrev pub Words : Type 0
Words = Seen ℤ

abbrev pub guard_value : GuardExpr → Words → ℤ
guard_value = any.guard_value ℤ word_ops

-- the place in each array that its index names, on these fields
abbrev pub Places : Type 0
Places = ℕ → List ℤ → ℕ

abbrev pub seen : Places → Store → Words
seen places s = record { fields = s.fields; array = λ a. word_at (cells_at s.cells a) (places a s.fields) }

pub record Direct : Type 0 where
  pub state : State
  pub guards : List Bool

abbrev pub on : List Bool → ℕ → Bool
on guards guard = slice_index_or guards guard false

abbrev pub assign_field : Places → ℕ → GuardExpr → State → State
assign_field places f e s = record {
  store = record { fields = slice_set s.store.fields f (guard_value e (seen places s.store)); cells = s.store.cells };
  touched = touching (arrays_in e) s.touched;
}

abbrev pub assign_cell : Places → ℕ → GuardExpr → State → State
assign_cell places a e s = record {
  store = record { fields = s.store.fields; cells = cell_set s.store.cells a (places a s.store.fields) (guard_value e (seen places s.store)) };
  touched = touching (a ∷ arrays_in e) s.touched;
}

abbrev pub direct_line : Places → GuardLine → Direct → Direct
direct_line places (line.Test cond under holds fails) d = record {
  state = if on d.guards under then touch (arrays_in cond) d.state else d.state;
  guards = d.guards ++ ((on d.guards under && truth (guard_value cond (seen places d.state.store))) ∷ (on d.guards under && not (truth (guard_value cond (seen places d.state.store)))) ∷ []);
}
direct_line places (line.SetField f guard e) d = record { state = if on d.guards guard then assign_field places f e d.state else d.state; guards = d.guards }
direct_line places (line.SetCell a guard e) d = record { state = if on d.guards guard then assign_cell places a e d.state else d.state; guards = d.guards }

abbrev pub direct_lines : Places → List GuardLine → Direct → Direct
direct_lines places [] d = d
direct_lines places (l ∷ lines) d = direct_lines places lines (direct_line places l d)
