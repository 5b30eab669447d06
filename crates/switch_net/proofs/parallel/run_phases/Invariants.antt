use Rattle.std.proofs.Common.{◌≡◌}
use Rattle.run_laws.specs.Run.{last_round}
use Rattle.switch_net.specs.Building.{ArePlanned}
use Rattle.switch_net.specs.Driving.{AreDrivers}
use Rattle.switch_net.proofs.parallel.run_phases.Given as goal

-- all pipes know the plans that are decided
abbrev pub invariant-loop : goal.invariant-loop
invariant-loop g l = record {
  run : l.planner.run ≡ l.fn.planner.run;
  drivers : AreDrivers l.planner.run l.planner.plans l.drivers;
  plans : ArePlanned l.planner.plans (last_round l.planner.run) l.plans;
}
