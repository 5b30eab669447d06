-- What running a part of staged code keeps, whatever is loaded.
use Rattle.std.specs.Prelude.{◌≡◌, ℕ, ◌+◌, ◌<◌, ◌≤◌, ℤ, List, length}
use Rattle.code_forms.specs.declared.flat.Instr.{Instr}
use Rattle.code_forms.specs.declared.flat.Instr.TheVariants as instr
use Rattle.code_forms.specs.Staged.{Staged, slot_count, runs, point, unit_cell, IsWritten, IsUsed, InPart}
use Rattle.code_forms.specs.StagedMeaning.{code_values}
use Rattle.code_forms.specs.Spots.{home}
use Rattle.mp5_words.specs.Domain.{Loads}
use Rattle.mp5_words.specs.Cells.{word_at}

-- each value that is written before a place of the order, and used at an earlier place or behind it, stands in its slot
pub record Holds (c : Staged) (vals : List ℤ) (from p : ℕ) (env : List ℤ) : Type 0 where
  pub long : length env ≡ slot_count c
  pub held : (v : ℕ) → IsWritten c p v → IsUsed c from v → word_at env v ≡ word_at vals v

-- where an instruction loads, its array is there, and what is loaded is its cell among these
abbrev pub Reads : Staged → Loads → List ℤ → Instr → Type 0
Reads c loads cells i = (a : ℕ) → i ≡ instr.Load a
    → (a < length c.arrays) × ((index : ℕ) → loads a index ≡ word_at cells (unit_cell c (home c a) a index))

-- the instruction at a place of the order ran on such cells
abbrev pub Steps : Staged → ℕ → List ℤ → List ℤ → List ℤ → Type 0
Steps c p cells old new = (from : ℕ) (loads : Loads) (header : List ℤ) → length header ≡ c.fields → from ≤ p
    → Reads c loads cells (runs c p) → Holds c (code_values c loads header) from p old
    → Holds c (code_values c loads header) from (p + 1) new

-- the instructions of a part ran on such cells, up to a place of the order
abbrev pub RunsTo : Staged → ℕ → ℕ → List ℤ → List ℤ → List ℤ → Type 0
RunsTo c k p cells old new = (loads : Loads) (header : List ℤ) → length header ≡ c.fields
    → ((q : ℕ) → InPart c k q → Reads c loads cells (runs c q))
    → Holds c (code_values c loads header) (point c k) (point c k) old
    → Holds c (code_values c loads header) (point c k) p new

-- all of them did
abbrev pub RunsPart : Staged → ℕ → List ℤ → List ℤ → List ℤ → Type 0
RunsPart c k cells old new = RunsTo c k (point c (k + 1)) cells old new
