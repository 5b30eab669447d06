-- What staged code makes of headers, one after another.
use Rattle.std.specs.Prelude.{ℕ, ℤ, List, [], take}
use Rattle.std.specs.List.{fold, slice_index_or}
use Rattle.code_forms.specs.Staged.{Staged, group_at}
use Rattle.code_forms.specs.StagedMeaning.{Units, start_cells, staged_values, units_after}

-- the units at the start
abbrev pub start_units : Staged → Units
start_units c g u = start_cells c (group_at c g)

-- the units after headers, one after another
abbrev pub units_over : Staged → Units → List (List ℤ) → Units
units_over c units headers = fold (units_after c) units headers

-- the header of an arrival
abbrev pub header_in : List (List ℤ) → ℕ → List ℤ
header_in headers t = slice_index_or headers t []

-- the values of all slots of an arrival, over the units that those before it leave
abbrev pub values_at : Staged → Units → List (List ℤ) → ℕ → List ℤ
values_at c units headers t = staged_values c (units_over c units (take t headers)) (header_in headers t)
