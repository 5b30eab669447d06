-- The index of each array, which all its accesses have.
use Rattle.std.specs.Prelude.{◌≡◌, ℕ, ◌<◌, ◌==◌, if◌then◌else◌, List, [], ◌∷◌, length, map, slice_set, Option, Some, None}
use Rattle.std.specs.List.{slice_index_or, range_with_len}
use Rattle.domino_tree.specs.declared.program.Program.{Program}
use Rattle.domino_tree.specs.Value.{Array, names_of}
use Rattle.domino_names.specs.declared.fault.CheckFault.{CheckFault}
use Rattle.domino_names.specs.declared.fault.CheckFault.TheVariants as fault
use Rattle.domino_check.specs.declared.numbered.CheckedExpr.{CheckedExpr}
use Rattle.domino_check.specs.Numbering.{Access}
use Rattle.domino_names.specs.First.{FirstFault, NoFault}
use Rattle.domino_check.specs.Numbering.{accesses}

-- the index of an array: that of its first access, where it is accessed
abbrev pub index_of : List Access → ℕ → Option CheckedExpr
index_of [] array = None
index_of (x ∷ xs) array = if x.array == array then x.index else index_of xs array

-- no array stands in the index of the access, and it is the one of its array
abbrev pub Keeps : (ℕ → Option CheckedExpr) → Access → Type 0
Keeps index x = (i : CheckedExpr) × (x.index ≡ Some i) × (index x.array ≡ Some i)

-- so it is with each of these accesses
abbrev pub AllKeep : (ℕ → Option CheckedExpr) → List Access → Type 0
AllKeep index [] = Unit {0}
AllKeep index (x ∷ xs) = Keeps index x × AllKeep index xs

-- an array stands in the index, or the index of the first access before is another
abbrev pub IsOther : Option CheckedExpr → Option CheckedExpr → Type 0
IsOther first None = Unit {0}
IsOther None (Some index) = ⊥
IsOther (Some first) (Some index) = ¬ (first ≡ index)

-- no array stands in the index, and it is that of the first access before, where there is one
abbrev pub Agrees : Option CheckedExpr → Option CheckedExpr → Type 0
Agrees first None = ⊥
Agrees None (Some index) = Unit {0}
Agrees (Some first) (Some index) = first ≡ index

-- the name of an array
abbrev pub array_name : List Array → ℕ → List ℕ
array_name arrays array = slice_index_or (map (λ (d : Array). d.name) arrays) array []

abbrev pub IndexDiffersAt : List Array → List Access → Access → CheckFault → Type 0
IndexDiffersAt arrays before x f = IsOther (index_of before x.array) x.index × (f ≡ fault.IndexDiffers (array_name arrays x.array))

abbrev pub FirstIndexDiffers : Program → CheckFault → Type 0
FirstIndexDiffers p f = FirstFault (IndexDiffersAt (names_of p).arrays) (accesses p) f

abbrev pub NoIndexDiffers : Program → Type 0
NoIndexDiffers p = NoFault (IndexDiffersAt (names_of p).arrays) (accesses p)

-- the table has the index of each of n arrays
abbrev pub AreIndexes : List Access → ℕ → List (Option CheckedExpr) → Type 0
AreIndexes accesses n table = (length table ≡ n) × ((a : ℕ) → a < n → slice_index_or table a None ≡ index_of accesses a)

-- each access of the program has the one index of its array
abbrev pub HasIndexes : Program → Type 0
HasIndexes p = AllKeep (index_of (accesses p)) (accesses p)

-- the index of each of n arrays
abbrev pub indexes_of : List Access → ℕ → List (Option CheckedExpr)
indexes_of accesses n = map (index_of accesses) (range_with_len 0 n)

-- the table with the index of an access, where it is the first of its array
abbrev pub noted : Option CheckedExpr → List (Option CheckedExpr) → ℕ → Option CheckedExpr → List (Option CheckedExpr)
noted None table array index = slice_set table array index
noted (Some first) table array index = table

-- every array of these accesses is one of n
abbrev pub AreBelow : ℕ → List Access → Type 0
AreBelow n [] = Unit {0}
AreBelow n (x ∷ xs) = (x.array < n) × AreBelow n xs
