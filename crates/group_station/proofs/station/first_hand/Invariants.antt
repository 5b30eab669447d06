use Rattle.std.proofs.Common.{◌≡◌, vec_len, vec_capacity}
use Rattle.group_station.specs.Steps.{first_hand}
use Rattle.group_station.proofs.station.first_hand.Given as goal

-- the units with the first numbers
abbrev pub invariant-loop-u : goal.invariant-loop-u
invariant-loop-u l = record {
  units : l.hand.items ≡ first_hand l.code l.pipelines l.pipe l.group l.u;
  count : vec_len l.hand ≡ l.u;
  room : vec_capacity l.hand ≡ l.units;
}
