-- no array so far is marked on both sides
use Rattle.std.proofs.Common.{◌≡◌, ◌<◌, ℕ, false}
use Rattle.code_graph.specs.Keys.{both}
use Rattle.code_graph.proofs.keys.key.Given as goal

abbrev pub invariant-loop-array : goal.invariant-loop-array
invariant-loop-array l = (a : ℕ) → a < l.array → both l.to.rows l.from.rows l.instruction a ≡ false
