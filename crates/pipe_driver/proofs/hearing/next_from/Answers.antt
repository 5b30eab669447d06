use Rattle.std.proofs.Common.{◌≡◌, Option, Some, None, refl, subst}
use Rattle.pipe_messages.specs.declared.message.Message.{Message}
use Rattle.pipe_driver.specs.Turning.{IsFromLane, was_held}
use Rattle.pipe_driver.proofs.HearLemmas.{got}
use Rattle.pipe_driver.proofs.hearing.next_from.Goals as goal

pub returns-in-Some-clause-message : goal.returns-in-Some-clause-message
returns-in-Some-clause-message g c =
    let e : Some c.in-Some.message ≡ c.args.held.now = cc in
    subst (λ (o : Option Message). IsFromLane c.args.lane.now c.args.lane.now c.in-Some.message o) e (was_held refl)

pub returns-in-None-clause-message : goal.returns-in-None-clause-message
returns-in-None-clause-message g c =
    let e : c.args.held.now ≡ None = cc in
    got c.receive.result c.args.lane.now c.receive.new.self c.args.held.now e c.receive.ensures.received c.receive.ensures.fits
