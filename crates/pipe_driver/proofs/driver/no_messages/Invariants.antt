use Rattle.std.proofs.Common.{◌≡◌, ℕ, ◌≤◌, ◌<◌, length, None, slice_index_or}
use Rattle.pipe_driver.proofs.driver.no_messages.Given as goal

-- as many as turns were done, and none of them is a message
abbrev pub invariant-loop : goal.invariant-loop
invariant-loop l = (length l.hands.items ≡ l.counter) × (l.lanes ≤ l.hands.cap) × ((k : ℕ) → k < l.counter → slice_index_or l.hands.items k None ≡ None)
