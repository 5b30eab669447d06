-- The answer where a header has its place at a group.
use Rattle.std.specs.Prelude.{◌≡◌, ℕ, ℤ, Bool, IsTrue, List, slice_index, Option, Some, None}
use Rattle.dependence.specs.Tables.{has}
use Rattle.domino_tree.specs.declared.program.Program.{Program}
use Rattle.domino_check.specs.Place.{HasPlace, IsUnit}
use Rattle.source_rows.specs.Members.{IsOf, IsFirst}

-- the unit of the header's place at the group; none exactly where it has no place there
abbrev pub TellsPlace : Program → List ℤ → List (Option ℕ) → ℕ → Option ℕ → Type 0
TellsPlace p header of g None = ¬ HasPlace p header of g
TellsPlace p header of g (Some unit) = HasPlace p header of g × IsUnit p header of g unit

-- this is the place, in such a row, of the array of the group that is first among these
abbrev pub IsFirstPlace : List ℕ → List (Option ℕ) → ℕ → List ℕ → ℕ → Type 0
IsFirstPlace row of g arrays place = (a : ℕ) → IsFirst of g arrays a → place ≡ slice_index row a

-- some array of the group is open, by a row of marks
abbrev pub SomeOpen : List Bool → List (Option ℕ) → ℕ → Type 0
SomeOpen row of g = (a : ℕ) × IsOf of g a × IsTrue (has row a)
