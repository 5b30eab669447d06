use Rattle.std.proofs.Common.{arith}
use Rattle.pipe_worker.proofs.LeaveLemmas.{taker_read}
use Rattle.pipe_worker.proofs.pipe.Pipe.can_leave.Goals as goal

pub count-requires : goal.count-requires
count-requires c =
    taker_read _ c.args.self.now c.args.g c.get-station.result.now c.in-Some.to c.self.view_is c.self.invariant.0 c.get-station.ensures.laws c.requires c.get-station.ensures.station
    (omega (arith, c.if-round-applied.false, c.applied.ensures, c.round.ensures.round)) c.in-Some.ensures.taker
