use Rattle.std.proofs.Common.{◌≡◌, ◌≢◌, ◌<◌, ◌≤◌, ◌⊎◌, ℕ, suc, slice_index, length}
use Rattle.flat_graph.specs.Layouts.{class_at}
use Rattle.stage_packing.specs.Depths.{depth_at}
use Rattle.stage_packing.proofs.depths.over_uses.Given as goal

abbrev pub invariant-loop-used : goal.invariant-loop-used
invariant-loop-used l = record {
  own : slice_index l.depths l.class ≤ l.depth;
  above : (k : ℕ) → k < l.used-index → l.class ≢ class_at l.classes (slice_index l.uses k) → depth_at l.depths l.classes (slice_index l.uses k) < l.depth;
  least : (l.depth ≡ slice_index l.depths l.class) ⊎ ((k : ℕ) × (k < length l.uses) × (l.class ≢ class_at l.classes (slice_index l.uses k)) × (l.depth ≡ suc (depth_at l.depths l.classes (slice_index l.uses k))));
}
