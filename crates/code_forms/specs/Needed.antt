-- The steps of staged code with their slots filled in, and those of the header run on which the places depend.
use Rattle.std.specs.Prelude.{◌≡◌, ℕ, ◌+◌, ℤ, if◌then◌else◌, List, [], ◌∷◌, ◌++◌, length, map, flat_map}
use Rattle.std.specs.List.{fold}
use Rattle.code_forms.specs.declared.flat.Instr.{Instr}
use Rattle.code_forms.specs.declared.flat.Instr.TheVariants as instr
use Rattle.code_forms.specs.declared.flat.FlatArray.{FlatArray}
use Rattle.code_forms.specs.declared.parts.HeaderStep.{HeaderStep}
use Rattle.code_forms.specs.declared.parts.StagedGroup.{StagedGroup}
use Rattle.code_forms.specs.declared.spot.Spot.{Spot}
use Rattle.code_forms.specs.FlatValid.{instr_at}
use Rattle.code_forms.specs.Staged.{Staged, Member, operand_slots, guards_of, group_at, first_array, IsStaged}
use Rattle.code_forms.specs.StagedMeaning.{header_step, place_on, PlacesAreIndexes}
use Rattle.code_forms.specs.Spots.{spot_at, spot_step, AreSpots}
use Rattle.mp5_words.specs.Cells.{word_at}

-- an instruction by its number, and the slot that it writes
abbrev pub numbered_step : ℕ → List Instr → ℕ → HeaderStep
numbered_step fields instrs n = record { instr = instr_at instrs n; slot = fields + n }

-- those of the code, in the order in which they run
abbrev pub steps_of : Staged → List HeaderStep
steps_of c = map (numbered_step c.fields c.instrs) c.order

-- the same words stand in these slots
abbrev pub Agrees : List ℤ → List ℤ → List ℕ → Type 0
Agrees env vals slots = (v : ℕ) → Member v slots → word_at env v ≡ word_at vals v

-- the slots that an instruction reads in the header run; a Load gives 0 there, whatever its index is
abbrev pub read_slots : Instr → List ℕ
read_slots (instr.One op a) = operand_slots a
read_slots (instr.Two op a b) = operand_slots a ++ operand_slots b
read_slots (instr.Pick x a b) = operand_slots x ++ (operand_slots a ++ operand_slots b)
read_slots (instr.Hash kind a b x) = operand_slots a ++ (operand_slots b ++ operand_slots x)
read_slots (instr.Move a) = operand_slots a
read_slots (instr.Yes guard x) = operand_slots guard ++ operand_slots x
read_slots (instr.No guard x) = operand_slots guard ++ operand_slots x
read_slots (instr.Index array a) = operand_slots a
read_slots (instr.Load array) = []
read_slots (instr.Store array a) = operand_slots a

-- the slots of the guards under which an array is touched
abbrev pub guard_slots : List FlatArray → ℕ → List ℕ
guard_slots arrays a = flat_map operand_slots (guards_of arrays a)

-- the slot of the Index that gives a sharded group's unit
abbrev pub unit_slots : List Spot → StagedGroup → List ℕ
unit_slots spots g = if g.sharded then (spot_at spots (first_array g)).index ∷ [] else []

-- the slots on which the place at a group depends
abbrev pub group_slots : List FlatArray → List Spot → StagedGroup → List ℕ
group_slots arrays spots g = flat_map (guard_slots arrays) g.arrays ++ unit_slots spots g

-- where rooms agree in the live slots, some steps in the one leave in the slots asked for what others do in the other
abbrev pub Follows : List ℕ → List ℕ → List HeaderStep → List HeaderStep → Type 0
Follows asked live some all = (spots : List Spot) (room other : List ℤ) → length room ≡ length other → Agrees room other live
    → Agrees (fold (spot_step spots) room some) (fold (spot_step spots) other all) asked

-- some steps leave in the slots asked for what others do in the same room
abbrev pub Leaves : List ℕ → List HeaderStep → List HeaderStep → Type 0
Leaves asked some all = (spots : List Spot) (room : List ℤ) → Agrees (fold (spot_step spots) room some) (fold (spot_step spots) room all) asked

-- after these steps the places are what they are after the whole header run
abbrev pub GivesPlaces : Staged → List HeaderStep → Type 0
GivesPlaces c needed = (room : List ℤ) (g : ℕ)
    → place_on c (fold (header_step c) room needed) (group_at c g) ≡ place_on c (fold (header_step c) room c.header) (group_at c g)

-- what the type keeps: its data is valid, places are index values, the table has where each array stands, all steps are
-- those of the code, and some of the header run's give the places
pub record IsKept (c : Staged) (table : List Spot) (all some : List HeaderStep) : Type 0 where
  pub staged : IsStaged c
  pub places : PlacesAreIndexes c
  pub spots : AreSpots c table
  pub steps : all ≡ steps_of c
  pub needed : GivesPlaces c some
