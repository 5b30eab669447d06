use Rattle.std.proofs.Common.{◌≡◌, ◌<◌, ℕ, length}
use Rattle.flat_graph.specs.Layouts.{spot_at}
use Rattle.stage_packing.specs.Spots.{IsSpotBy}
use Rattle.stage_packing.proofs.spots.spots_of.Given as goal

abbrev pub invariant-loop-number : goal.invariant-loop-number
invariant-loop-number l = record {
  long : length l.spots.items ≡ l.number;
  right : (i : ℕ) → i < l.number → IsSpotBy l.classes l.members l.reached.rows l.of i (spot_at l.spots.items i);
}
