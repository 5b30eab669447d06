-- The items that wait for each pipe.
use Rattle.std.specs.Prelude.{ℕ, ◌≤◌, List, [], length, replicate, slice_index_or, slice_set}
use Rattle.std.specs.List.{All}

-- how many may wait for each pipe, and those that wait, the first of each pipe first
pub record Waiting (T : Type 0) : Type 0 where
  pub room : ℕ
  pub lines : List (List T)

module _ {T : Type 0} where
  -- nothing waits for any of so many pipes
  abbrev pub none_waits : ℕ → ℕ → Waiting T
  none_waits pipes room = record { room = room; lines = replicate pipes [] }

  -- what waits for a pipe
  abbrev pub waits_for : Waiting T → ℕ → List T
  waits_for w to = slice_index_or w.lines to []

  -- these wait for a pipe, and for the others what did
  abbrev pub with_waiting : Waiting T → ℕ → List T → Waiting T
  with_waiting w to items = record { room = w.room; lines = slice_set w.lines to items }

  -- no more wait for a pipe than there is room for
  abbrev pub IsOutbox : Waiting T → Type 0
  IsOutbox w = All (λ items. length items ≤ w.room) w.lines
