use Rattle.std.proofs.Common.{◌≡◌}
use Rattle.pipe_driver.specs.Turning.{TellsAll, AreSenders}
use Rattle.pipe_driver.proofs.telling.tell_all.Given as goal

-- all lanes are as they should be, and messages alone change
abbrev pub invariant-loop-to : goal.invariant-loop-to
invariant-loop-to g l = AreSenders l.pipe l.lanes l.unsent × TellsAll l.initial.pipe l.pipe × (l.to-end ≡ l.pipe.run.settings.pipelines)
