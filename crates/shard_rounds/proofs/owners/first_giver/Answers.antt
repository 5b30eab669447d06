use Rattle.std.proofs.Common.{sym, ap, option_map, slice_index_or}
use Rattle.shard_rounds.specs.declared.plan.Move.{Move}
use Rattle.shard_rounds.specs.Holding.{concerns}
use Rattle.shard_rounds.proofs.Moves.{find_at, find_skip, concerns_yes, concerns_no}
use Rattle.shard_rounds.proofs.owners.first_giver.Goals as goal
use Rattle.shard_rounds.proofs.owners.first_giver.Goals.{else-m-g-via-then-m-g+else-m-u, else-m-g-via-else-m-g}

pub returns-then-m-u : goal.returns-then-m-u
returns-then-m-u c =
    sym (ap (option_map (λ (m : Move). m.giver)) (find_at (concerns c.args.g c.args.u) c.args.moves.now c.loop-m.m-index record { group = 0; unit = 0; giver = 0; taker = 0 } c.loop-m-test.true c.loop-m.invariant (concerns_yes c.args.g c.args.u (slice_index_or c.args.moves.now c.loop-m.m-index record { group = 0; unit = 0; giver = 0; taker = 0 }) c.if-m-g.true c.if-m-u.true)))

pub loop-m-preserved : goal.loop-m-preserved
loop-m-preserved c =
    elim c.else-m-g.branch [
      | else-m-g-via-then-m-g+else-m-u w ↦ find_skip (concerns c.args.g c.args.u) c.args.moves.now c.loop-m.m-index record { group = 0; unit = 0; giver = 0; taker = 0 } c.loop-m-test.true c.loop-m.invariant (concerns_no c.args.g c.args.u (slice_index_or c.args.moves.now c.loop-m.m-index record { group = 0; unit = 0; giver = 0; taker = 0 }) (λ a b. w.if-m-u.false b))
      | else-m-g-via-else-m-g w ↦ find_skip (concerns c.args.g c.args.u) c.args.moves.now c.loop-m.m-index record { group = 0; unit = 0; giver = 0; taker = 0 } c.loop-m-test.true c.loop-m.invariant (concerns_no c.args.g c.args.u (slice_index_or c.args.moves.now c.loop-m.m-index record { group = 0; unit = 0; giver = 0; taker = 0 }) (λ a b. w.if-m-g.false a))
    ]
