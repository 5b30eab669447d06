use Rattle.std.proofs.Common.{◌≡◌, Option, Some, sym, subst}
use Rattle.pipe_messages.specs.declared.message.Message.{Message}
use Rattle.pipe_worker.specs.Pipe.{Pipe}
use Rattle.pipe_driver.specs.Driver.{IsReceiver}
use Rattle.pipe_driver.proofs.HearLemmas.{in_hand, offer_law, offer_turn, heard}
use Rattle.pipe_driver.proofs.hearing.hear_one.Goals as goal

pub offer-requires-clause-law : goal.offer-requires-clause-law
offer-requires-clause-law g c = offer_law c.args.pipe.now c.args.from c.next_from.new.lane c.in-Some.message (in_hand _ _ _ _ _ _ c.requires.lane c.in-Some.ensures.message)

pub offer-requires-clause-turn : goal.offer-requires-clause-turn
offer-requires-clause-turn g c = offer_turn c.args.pipe.now c.args.from c.next_from.new.lane c.in-Some.message (in_hand _ _ _ _ _ _ c.requires.lane c.in-Some.ensures.message)

pub returns-in-Ok-clause-lane : goal.returns-in-Ok-clause-lane
returns-in-Ok-clause-lane g c =
    subst (λ (o : Option Message). IsReceiver c.offer.new.self c.args.from c.next_from.new.lane o) (sym c.next_from.ensures.hand)
    (heard c.args.pipe.now c.offer.new.self c.args.from c.next_from.new.lane c.in-Some.message c.requires.queues c.requires.from (in_hand _ _ _ _ _ _ c.requires.lane c.in-Some.ensures.message) c.in-Ok.ensures.ok).lane

pub returns-in-Ok-clause-queues : goal.returns-in-Ok-clause-queues
returns-in-Ok-clause-queues g c =
    (heard c.args.pipe.now c.offer.new.self c.args.from c.next_from.new.lane c.in-Some.message c.requires.queues c.requires.from (in_hand _ _ _ _ _ _ c.requires.lane c.in-Some.ensures.message) c.in-Ok.ensures.ok).queues

pub returns-in-Ok-clause-hears : goal.returns-in-Ok-clause-hears
returns-in-Ok-clause-hears g c =
    (heard c.args.pipe.now c.offer.new.self c.args.from c.next_from.new.lane c.in-Some.message c.requires.queues c.requires.from (in_hand _ _ _ _ _ _ c.requires.lane c.in-Some.ensures.message) c.in-Ok.ensures.ok).hears

pub returns-in-Err-clause-lane : goal.returns-in-Err-clause-lane
returns-in-Err-clause-lane g c =
    let same : c.offer.new.self ≡ c.args.pipe.now = c.in-Err.ensures.kept in
    let back : c.in-Err.back.message ≡ c.in-Some.message = c.in-Err.ensures.back in
    subst (λ (s : Pipe). IsReceiver s c.args.from c.next_from.new.lane (Some c.in-Err.back.message)) (sym same)
    (subst (λ (m : Message). IsReceiver c.args.pipe.now c.args.from c.next_from.new.lane (Some m)) (sym back) (in_hand _ _ _ _ _ _ c.requires.lane c.in-Some.ensures.message))
