use Rattle.std.proofs.Common.{◌≡◌, ◌==◌, List, None, subst, sym, eq-eqb, ne_eqb, take_all}
use Rattle.shard_rounds.specs.declared.plan.Move.{Move}
use Rattle.shard_rounds.proofs.Moves.{find_at, find_skip}
use Rattle.group_station.specs.Steps.{move_in}
use Rattle.group_station.proofs.station.move_in.Goals as goal

pub returns-then-found-group : goal.returns-then-found-group
returns-then-found-group c =
    sym (find_at (λ (m : Move). m.group == c.args.group) c.args.moves.now c.loop-found.found-index record { group = 0; unit = 0; giver = 0; taker = 0 } c.loop-found-test.true c.loop-found.invariant (eq-eqb _ _ c.if-found-group.true))

pub loop-found-preserved : goal.loop-found-preserved
loop-found-preserved c =
    find_skip (λ (m : Move). m.group == c.args.group) c.args.moves.now c.loop-found.found-index record { group = 0; unit = 0; giver = 0; taker = 0 } c.loop-found-test.true c.loop-found.invariant (ne_eqb _ _ c.if-found-group.false)

pub returns : goal.returns
returns c = sym (subst (λ (ms : List Move). move_in c.args.group ms ≡ None) (take_all c.loop-found.found-index c.args.moves.now c.loop-found-test.false) c.loop-found.invariant)
