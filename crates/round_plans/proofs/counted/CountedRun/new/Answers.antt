use Rattle.std.proofs.Common.{◌∙◌, ℕ, List, ap, subst, map, replicate, arith, rules}
use Rattle.shard_rounds.specs.Rounds.{AreUnits}
use Rattle.run_laws.specs.Run.{run_of, unit_counts}
use Rattle.round_plans.proofs.CountLemmas.{loads_none}
use Rattle.round_plans.proofs.counted.CountedRun.new.Goals as goal

pub invariant_of-result : goal.invariant_of-result
invariant_of-result c = record {
  well = record { wide = c.requires.wide; few = omega (arith, c.count.ensures.count, c.count.ensures.limit); units = subst AreUnits c.requires.units c.requires.sizes };
  last_is = search rules;
  within = omega arith;
  loads_are =
      c.in_ok-start.ensures ∙ ap (λ (units : List ℕ). map (λ n. replicate n 0) units) c.requires.units
      ∙ loads_none (run_of c.args.code.now c.args.capture.now c.args.settings.now) 0 (unit_counts (run_of c.args.code.now c.args.capture.now c.args.settings.now));
  room = search rules;
}
