use Rattle.std.proofs.Common.{◌≡◌, length}
use Rattle.run_laws.specs.Run.{last_round}
use Rattle.switch_net.specs.Building.{ArePlanned}
use Rattle.switch_net.specs.Driving.{AreDrivers}
use Rattle.switch_net.proofs.planning.decide_due.Given as goal

-- so many plans are decided, and all pipes know them
abbrev pub invariant-loop-e : goal.invariant-loop-e
invariant-loop-e l = record {
  run : l.planner.run ≡ l.fn.planner.run;
  decided : l.e ≡ length l.planner.plans;
  drivers : AreDrivers l.planner.run l.planner.plans l.drivers;
  plans : ArePlanned l.planner.plans (last_round l.planner.run) l.plans;
}
