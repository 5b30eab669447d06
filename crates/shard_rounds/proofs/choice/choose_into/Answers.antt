use Rattle.std.proofs.Common.{◌∙◌, length, slice_index, take, sym, ap, subst, arith}
use Rattle.shard_rounds.specs.Choice.{IsChoiceBelow}
use Rattle.shard_rounds.proofs.Choosing.{choice_once, choice_plan, owner_row_length, row_pipes, row_size}
use Rattle.shard_rounds.proofs.choice.choose_into.Goals as goal

pub choose_group-requires-clause-same : goal.choose_group-requires-clause-same
choose_group-requires-clause-same c =
    ap length c.row.ensures ∙ owner_row_length c.args.owners.now c.loop-g.g (slice_index c.args.owners.now.units c.loop-g.g) ∙ sym (c.requires.units c.loop-g.g (omega arith)) ∙ sym (ap length c.row-in-loop-g.ensures)

pub choose_group-requires-clause-pipes : goal.choose_group-requires-clause-pipes
choose_group-requires-clause-pipes c =
    rw (c.row.ensures, c.pipes.ensures.pipes) (λ u lt. row_pipes c.args.owners.now c.loop-g.g u c.pipes.ensures.laws lt)

pub choose_group-requires-clause-size : goal.choose_group-requires-clause-size
choose_group-requires-clause-size c = rw c.row.ensures (row_size c.args.owners.now c.loop-g.g c.pipes.ensures.laws (omega arith))

pub returns-clause-only : goal.returns-clause-only
returns-clause-only c others h =
    choice_once c.args.loads.now c.args.owners.now c.loop-g.g others (take c.loop-g.count c.loop-g.room) (subst (λ n. IsChoiceBelow c.args.loads.now c.args.owners.now n others) (omega arith) h) c.loop-g.invariant.chosen

pub returns-clause-plan : goal.returns-clause-plan
returns-clause-plan c =
    choice_plan c.args.loads.now c.args.owners.now (take c.loop-g.count c.loop-g.room) c.requires (subst (λ n. IsChoiceBelow c.args.loads.now c.args.owners.now n (take c.loop-g.count c.loop-g.room)) (omega arith) c.loop-g.invariant.chosen)
