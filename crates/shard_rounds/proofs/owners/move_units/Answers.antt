use Rattle.shard_rounds.proofs.Rows.{next_read, moved_more}
use Rattle.shard_rounds.proofs.owners.move_units.Goals as goal

pub set-requires : goal.set-requires
set-requires c =
    next_read c.args.rows.now c.loop-m.rows c.args.moves.now c.loop-m.m-index record { group = 0; unit = 0; giver = 0; taker = 0 } c.index-rows-m.result c.loop-m.invariant c.requires c.loop-m-test.true

pub loop-m-preserved : goal.loop-m-preserved
loop-m-preserved c =
    moved_more c.args.rows.now c.loop-m.rows c.args.moves.now c.loop-m.m-index record { group = 0; unit = 0; giver = 0; taker = 0 } c.index-rows-m.result c.set.new.self c.loop-m.invariant c.requires c.loop-m-test.true c.set.ensures
