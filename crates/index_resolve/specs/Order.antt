-- The order in which the instructions of a layout run.
use Rattle.std.specs.Prelude.{ℕ, zero, suc, ◌==◌, ◌&&◌, not, Bool, true, false, if◌then◌else◌, List, [], ◌∷◌, ◌++◌, length}
use Rattle.code_forms.specs.declared.flat.Instr.{Instr}
use Rattle.code_forms.specs.declared.layout.Spot.{Spot}
use Rattle.code_forms.specs.FlatValid.{writes, instr_at}
use Rattle.flat_graph.specs.Layouts.{spot_at, part_of}

-- the part in which an instruction runs
abbrev pub part_at : List Spot → ℕ → ℕ
part_at spots i = part_of (spot_at spots i)

-- whether an instruction is a Store, or is none
abbrev pub is_kind : Bool → Instr → Bool
is_kind true i = not (writes i)
is_kind false i = writes i

-- whether an instruction runs in a part, and is a Store, or is none
abbrev pub is_in : List Spot → List Instr → ℕ → Bool → ℕ → Bool
is_in spots instrs part stores i = (part_at spots i == part) && is_kind stores (instr_at instrs i)

-- a number, where it is chosen
abbrev pub one_if : Bool → ℕ → List ℕ
one_if chosen i = if chosen then i ∷ [] else []

-- the numbers below one that a test chooses, in order
abbrev pub chosen : (ℕ → Bool) → ℕ → List ℕ
chosen test zero = []
chosen test (suc n) = chosen test n ++ one_if (test n) n

-- the instructions of a part, in order, but Stores behind all others
abbrev pub part_order : List Spot → List Instr → ℕ → List ℕ
part_order spots instrs part = chosen (is_in spots instrs part false) (length instrs) ++ chosen (is_in spots instrs part true) (length instrs)

-- the instructions of so many parts, one part after another
abbrev pub running : List Spot → List Instr → ℕ → List ℕ
running spots instrs zero = []
running spots instrs (suc part) = running spots instrs part ++ part_order spots instrs part

-- for each of so many parts how many instructions have run at its end
abbrev pub part_ends : List Spot → List Instr → ℕ → List ℕ
part_ends spots instrs zero = []
part_ends spots instrs (suc part) = part_ends spots instrs part ++ length (running spots instrs (suc part)) ∷ []
