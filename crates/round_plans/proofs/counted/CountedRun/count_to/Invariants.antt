use Rattle.std.proofs.Common.{◌≡◌}
use Rattle.round_plans.specs.Counting.{Counted}
use Rattle.round_plans.proofs.counted.CountedRun.count_to.Given as goal

-- all arrivals before this one are counted
abbrev pub invariant-loop-t : goal.invariant-loop-t
invariant-loop-t l = ◌≡◌ {A = Counted} l.self record { run = l.fn.self.run; below = l.t }
