use Rattle.pipe_stations.proofs.AnnounceLemmas.{full_read}
use Rattle.pipe_stations.proofs.stations.has_room.Goals as goal

pub returns-else-is_none-clause-full : goal.returns-else-is_none-clause-full
returns-else-is_none-clause-full c full =
    full_read c.args.station.now _ c.args.source c.waiting.result c.args.window c.queue-queue.ensures.queue c.queue-queue.ensures.laws.of_run c.requires.source c.requires.window c.waiting.ensures.count full
