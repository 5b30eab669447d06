use Rattle.std.proofs.Common.{◌≡◌, take}
use Rattle.round_plans.specs.Counting.{loads_with}
use Rattle.round_plans.proofs.counted.add_places.Given as goal

-- the places of the first groups are counted
abbrev pub invariant-loop-g : goal.invariant-loop-g
invariant-loop-g l = l.loads ≡ loads_with l.fn.loads (take l.g l.places)
