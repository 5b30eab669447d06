use Rattle.std.proofs.Common.{◌<◌, ◌≤◌, ℕ, slice_index}
use Rattle.dependence.specs.Groups.{RestsOn, Linked}
use Rattle.dependence.specs.Paths.{IsDepth}
use Rattle.dependence.specs.Counts.{how_many}
use Rattle.dependence.specs.Levels.{links}
use Rattle.dependence.proofs.groups.levels.Given as goal

abbrev pub invariant-loop-round : goal.invariant-loop-round
invariant-loop-round l = record {
  small : (b : ℕ) → b < 16 → slice_index l.levels b ≤ l._round;
  right : (a : ℕ) → a < 16 → how_many (links l.table a) 16 ≤ l._round → IsDepth (RestsOn (Linked l.table)) a (slice_index l.levels a);
}
