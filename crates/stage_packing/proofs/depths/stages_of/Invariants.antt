use Rattle.std.proofs.Common.{◌≡◌, ◌<◌, ◌⊎◌, ℕ, suc, length, slice_index}
use Rattle.stage_packing.proofs.depths.stages_of.Given as goal

abbrev pub invariant-loop-depth : goal.invariant-loop-depth
invariant-loop-depth l = record {
  above : (c : ℕ) → c < l.depth-index → slice_index l.depths c < l.stages;
  least : (l.stages ≡ 0) ⊎ ((c : ℕ) × (c < length l.depths) × (l.stages ≡ suc (slice_index l.depths c)));
}
