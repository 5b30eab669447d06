use Rattle.std.proofs.Common.{◌≡◌, ◌<◌, ◌⊎◌, ℕ, suc}
use Rattle.stage_packing.specs.Spots.{Sees}
use Rattle.stage_packing.proofs.spots.block_at.Given as goal

abbrev pub invariant-loop-array : goal.invariant-loop-array
invariant-loop-array l = record {
  above : (a g : ℕ) → a < l.array → Sees l.reached.rows l.of l.number a g → g < l.block;
  least : (l.block ≡ 0) ⊎ ((a : ℕ) × (g : ℕ) × (l.block ≡ suc g) × Sees l.reached.rows l.of l.number a g);
}
