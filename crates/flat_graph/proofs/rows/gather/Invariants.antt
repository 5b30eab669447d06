-- the marks of the instructions so far
use Rattle.std.proofs.Common.{◌≡◌, ◌<◌, ℕ, take}
use Rattle.dependence.specs.Tables.{has}
use Rattle.flat_graph.specs.Passes.{any_has}
use Rattle.flat_graph.proofs.rows.gather.Given as goal

abbrev pub invariant-loop-number : goal.invariant-loop-number
invariant-loop-number l = (b : ℕ) → b < 16 → has l.row b ≡ any_has l.rows (take l.number-index l.numbers) b
