use Rattle.std.proofs.Common.{Some, None}
use Rattle.shard_rounds.proofs.Choosing.{group_choice}
use Rattle.shard_rounds.proofs.choice.choose_group.Goals as goal

pub returns-in-Some : goal.returns-in-Some
returns-in-Some c =
    group_choice c.args.owners.now c.args.loads.now c.totals_of-totals.result c.args.pipelines c.args.group c.first_most-giver.result c.first_least-taker.result (Some c.in-Some.unit) c.requires.pipelines
    c.totals_of-totals.ensures.size c.totals_of-totals.ensures.totals c.first_most-giver.ensures c.first_least-taker.ensures c.in-Some.ensures

pub returns-in-None : goal.returns-in-None
returns-in-None c =
    group_choice c.args.owners.now c.args.loads.now c.totals_of-totals.result c.args.pipelines c.args.group c.first_most-giver.result c.first_least-taker.result None c.requires.pipelines
    c.totals_of-totals.ensures.size c.totals_of-totals.ensures.totals c.first_most-giver.ensures c.first_least-taker.ensures c.in-None.ensures
