use Rattle.std.proofs.Common.{◌≡◌, ◌<◌, ◌≤◌, ◌⊎◌, ℕ, suc, slice_index}
use Rattle.dependence.specs.Groups.{RestsOn, Linked}
use Rattle.dependence.proofs.groups.level_over.Given as goal

abbrev pub invariant-loop-other : goal.invariant-loop-other
invariant-loop-other l = record {
  small : l.level ≤ 17;
  above : (b : ℕ) → b < l.other → RestsOn (Linked l.table) l.array b → slice_index l.levels b < l.level;
  least : (l.level ≡ 0) ⊎ ((b : ℕ) × RestsOn (Linked l.table) l.array b × (l.level ≡ suc (slice_index l.levels b)));
}
