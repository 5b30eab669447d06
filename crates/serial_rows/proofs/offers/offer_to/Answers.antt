use Rattle.run_laws.specs.Run.{run_of}
use Rattle.serial_rows.proofs.OfferLemmas.{phantom_law, phantom_turn}
use Rattle.serial_rows.proofs.offers.offer_to.Goals as goal

pub offer-offered-requires-clause-law : goal.offer-offered-requires-clause-law
offer-offered-requires-clause-law c =
    phantom_law (run_of c.args.code.now c.args.capture.now c.args.settings.now) c.args.to c.args.t c.in_ok-pipe.pipe c.header.result.now c.places.new.out c.in_ok-pipe.ensures c.requires.arrival
    c.header.ensures c.places.ensures.few c.places.ensures.places c.places.ensures.rest c.places.ensures.units

pub offer-offered-requires-clause-turn : goal.offer-offered-requires-clause-turn
offer-offered-requires-clause-turn c =
    phantom_turn (run_of c.args.code.now c.args.capture.now c.args.settings.now) c.args.to c.args.t c.in_ok-pipe.pipe c.in_ok-pipe.ensures c.requires.arrival c.requires.first
