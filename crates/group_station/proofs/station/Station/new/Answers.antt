use Rattle.std.proofs.Common.{◌≡◌, replicate, rules}
use Rattle.run_laws.specs.Run.{run_of}
use Rattle.group_station.proofs.StartLemmas.{started_at}
use Rattle.group_station.proofs.station.Station.new.Goals as goal

pub invariant_of-result : goal.invariant_of-result
invariant_of-result c =
    let zeros : c.in_ok-vec.field-0.items ≡ replicate c.units.result 0 = search rules in
    started_at (run_of c.args.code.now c.args.capture.now c.args.settings.now) c.args.pipe c.args.group c.requires.pipe c.requires.group c.requires.wide
    c.count.result c.units.result _ _ _ c.count.ensures.count c.count.ensures.limit c.in_ok-new.ensures c.in_ok-first_hand.ensures c.units.ensures zeros
