use Rattle.std.proofs.Common.{◌≤◌, ◌-◌, length, take}
use Rattle.switch_runner.specs.Outside.{Grew}
use Rattle.switch_runner.proofs.transfer.write_all.Given as goal

-- a front of the bytes is taken
abbrev pub invariant-loop-done : goal.invariant-loop-done
invariant-loop-done g l =
    (l.done ≤ length l.bytes) × Grew (take l.done l.bytes) (g.K.Sink.seen l.initial.out) (g.K.Sink.seen l.out)

abbrev pub decreases-loop-done : goal.decreases-loop-done
decreases-loop-done g l = length l.bytes - l.done
