-- the groups so far
use Rattle.std.proofs.Common.{◌≡◌, ℕ, ◌<◌, length}
use Rattle.index_resolve.specs.Resolve.{IsMade, group_in}
use Rattle.index_resolve.proofs.parts.made_groups.Given as goal

abbrev pub invariant-loop-number : goal.invariant-loop-number
invariant-loop-number l = record {
  count : length l.groups ≡ l.number;
  each : (g : ℕ) → g < l.number → IsMade l.code l.layout l.clean l.classes g (group_in l.groups g);
}
