use Rattle.std.proofs.Common.{◌≡◌, [], vec_len, vec_capacity}
use Rattle.switch_net.specs.Building.{ArePlanned}
use Rattle.switch_net.proofs.answer.empty_plans.Given as goal

-- the first plans are empty, and there is room for the others
abbrev pub invariant-loop : goal.invariant-loop
invariant-loop l = record {
  planned : ArePlanned [] l.counter l.plans.items;
  count : vec_len l.plans ≡ l.counter;
  room : vec_capacity l.plans ≡ l.count;
}
