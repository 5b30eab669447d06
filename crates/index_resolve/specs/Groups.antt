-- The groups of a layout as groups of staged code.
use Rattle.std.specs.Prelude.{◌≡◌, ℕ, suc, ◌<◌, ◌==◌, ◌&&◌, ◌⊎◌, Bool, true, false, List, [], ◌∷◌, length, slice_index}
use Rattle.std.specs.List.{list_all}
use Rattle.mp5_words.specs.Cells.{bits}
use Rattle.code_forms.specs.declared.flat.FlatArray.{FlatArray}
use Rattle.code_forms.specs.declared.flat.Instr.{Instr}
use Rattle.code_forms.specs.declared.layout.Spot.{Spot}
use Rattle.code_forms.specs.declared.layout.Spot.TheVariants as spot
use Rattle.code_forms.specs.FlatMeaning.{index_slot, flat_length}
use Rattle.code_forms.specs.SameIndexes.{same_of}
use Rattle.flat_graph.specs.Layouts.{spot_at}
use Rattle.index_resolve.specs.HeaderSteps.{clean_at}

-- the numbers of what is marked, where the first mark has such a number
abbrev pub marked : ℕ → List Bool → List ℕ
marked n [] = []
marked n (true ∷ marks) = n ∷ marked (suc n) marks
marked n (false ∷ marks) = marked (suc n) marks

-- these are the arrays of a set of sixteen
abbrev pub AreOfSet : ℕ → List ℕ → Type 0
AreOfSet set arrays = (marks : List Bool) → length marks ≡ 16 → set ≡ bits marks → arrays ≡ marked 0 marks

-- whether the Index of an array is clean, and it has the `same` and the length of another
abbrev pub is_like : List Bool → ℕ → List FlatArray → List Instr → ℕ → ℕ → Bool
is_like clean fields arrays instrs first a =
    clean_at clean (index_slot instrs fields a) && ((same_of arrays a == same_of arrays first) && (flat_length arrays a == flat_length arrays first))

-- whether arrays can be sharded: each is like the first
abbrev pub can_shard : List Bool → ℕ → List FlatArray → List Instr → List ℕ → Bool
can_shard clean fields arrays instrs group = list_all (is_like clean fields arrays instrs (slice_index group 0)) group

-- the depth of the codelet of an instruction
abbrev pub depth_at : List ℕ → List ℕ → ℕ → ℕ
depth_at classes depths i = slice_index depths (slice_index classes i)

-- an instruction of the group has a codelet of this depth, or there is none
abbrev pub IsDepthAt : List Spot → List ℕ → List ℕ → ℕ → ℕ → Type 0
IsDepthAt spots classes depths g depth =
    ((i : ℕ) × (i < length spots) × (spot_at spots i ≡ spot.Group g) × (depth ≡ depth_at classes depths i))
    ⊎ ((i : ℕ) → i < length spots → spot_at spots i ≡ spot.Group g → ⊥)
