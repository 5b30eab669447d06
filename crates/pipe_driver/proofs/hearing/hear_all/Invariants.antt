use Rattle.std.proofs.Common.{◌≡◌}
use Rattle.pipe_driver.specs.Turning.{HearsAll, AreReceivers}
use Rattle.pipe_driver.proofs.hearing.hear_all.Given as goal

-- all lanes are as they should be, and the floors alone change
abbrev pub invariant-loop-from : goal.invariant-loop-from
invariant-loop-from g l = AreReceivers l.pipe l.lanes l.held × HearsAll l.initial.pipe l.pipe × (l.from-end ≡ l.pipe.run.settings.pipelines)
