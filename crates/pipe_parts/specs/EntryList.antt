-- What was done to the own arrivals of a pipe.
use Rattle.std.specs.Prelude.{ℕ, List, replicate, slice_index_or}
use Rattle.pipe_parts.specs.declared.entries.Entry.{Entry}

-- no pipe served it, and it touched nothing
abbrev pub no_entry : Entry
no_entry = record { by = replicate 16 255; touched = replicate 16 0 }

-- nothing was done to any of so many
abbrev pub untouched : ℕ → List Entry
untouched own = replicate own no_entry

-- what was done to an own arrival
abbrev pub entry_of : List Entry → ℕ → Entry
entry_of entries k = slice_index_or entries k no_entry
