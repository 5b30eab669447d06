-- The arrays of a group, by the group of each array.
use Rattle.std.specs.Prelude.{◌≡◌, ℕ, ◌∷◌, ◌++◌, List, Option, Some}
use Rattle.dependence.specs.Groups.{group_of}
use Rattle.domino_check.specs.Place.{NoneOf}

-- an array is of the group
abbrev pub IsOf : List (Option ℕ) → ℕ → ℕ → Type 0
IsOf of g a = group_of of a ≡ Some g

-- the first of these arrays that is of the group
abbrev pub IsFirst : List (Option ℕ) → ℕ → List ℕ → ℕ → Type 0
IsFirst of g arrays a = (before : List ℕ) × (after : List ℕ) × (arrays ≡ before ++ a ∷ after) × IsOf of g a × NoneOf of g before
