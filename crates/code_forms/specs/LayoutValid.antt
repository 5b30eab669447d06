-- When codelets and a layout are valid: limits, and numbers in range.
use Rattle.std.specs.Prelude.{ℕ, Bool, ◌&&◌, nat_lt, nat_le, List, length}
use Rattle.std.specs.List.{list_all}
use Rattle.code_forms.specs.declared.layout.Spot.{Spot}
use Rattle.code_forms.specs.declared.layout.Spot.TheVariants as spot

-- a number for each of at most 1,024 instructions, below their number
abbrev pub are_codelets : List ℕ → Bool
are_codelets of = nat_le (length of) 1024 && list_all (λ c. nat_lt c (length of)) of

-- the group is there; a block stands before, between or behind so many groups
abbrev pub spot_fits : ℕ → Spot → Bool
spot_fits groups (spot.Block b) = nat_le b groups
spot_fits groups (spot.Group g) = nat_lt g groups

-- a place for each of at most 1,024 instructions; at most 16 groups; each depth is that of a stage
abbrev pub is_layout : List Spot → List ℕ → List ℕ → ℕ → Bool
is_layout spots depths sets stages =
    nat_le (length spots) 1024
    && (nat_le (length sets) 16
    && (list_all (spot_fits (length sets)) spots && (nat_le stages 1024 && list_all (λ d. nat_lt d stages) depths)))
