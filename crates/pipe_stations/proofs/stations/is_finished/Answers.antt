use Rattle.std.proofs.Common.{sym, ◌∙◌}
use Rattle.pipe_stations.proofs.FinishLemmas.{at_end}
use Rattle.pipe_stations.proofs.stations.is_finished.Goals as goal

pub returns : goal.returns
returns c =
    at_end c.args.station.now _ _ c.args.count c.args.last c.floor.result c.round.result c.next.result c.has_all.result c.queue.ensures.queue c.queue-2.ensures.queue c.queue.ensures.laws c.requires.count c.requires.last c.round.ensures.round
    c.floor.ensures.least c.if-floor-count.false (sym c.is_some.ensures ∙ c.if-is_some.false) c.next.ensures.none c.if-round-last.false c.has_all.ensures.all
