use Rattle.place_queue.proofs.Floors.{least_so_far}
use Rattle.place_queue.proofs.queue.least_of.Goals as goal

pub loop-floor-preserved : goal.loop-floor-preserved
loop-floor-preserved c =
    least_so_far _ _ _ _ c.loop-floor-test.true c.loop-floor.invariant c.min-least.ensures
