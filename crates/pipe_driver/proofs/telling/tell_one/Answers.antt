use Rattle.std.proofs.Common.{Option, Some, sym, subst}
use Rattle.pipe_messages.specs.declared.message.Message.{Message}
use Rattle.switch_worker.specs.Worker.{LaneEnd}
use Rattle.pipe_driver.specs.Driver.{IsSender}
use Rattle.pipe_driver.proofs.TellLemmas.{in_hand, sent}
use Rattle.pipe_driver.proofs.telling.tell_one.Goals as goal

pub send-requires : goal.send-requires
send-requires g c = record { fits = (in_hand c.args.pipe.now c.next_for.new.pipe c.args.to c.args.lane.now c.args.unsent.now c.in-Some.message c.requires.to c.requires.lane c.in-Some.ensures.message).lane.next }

pub returns-in-Ok-clause-lane : goal.returns-in-Ok-clause-lane
returns-in-Ok-clause-lane g c =
    subst (λ (x : LaneEnd × Option Message). IsSender c.next_for.new.pipe c.args.to x.0 x.1) (λ i. (sym c.in-Ok.ensures.sent i, sym c.next_for.ensures.hand i))
    (sent c.next_for.new.pipe c.args.to c.args.lane.now c.in-Some.message (in_hand c.args.pipe.now c.next_for.new.pipe c.args.to c.args.lane.now c.args.unsent.now c.in-Some.message c.requires.to c.requires.lane c.in-Some.ensures.message).lane)

pub returns-in-Ok-clause-tells : goal.returns-in-Ok-clause-tells
returns-in-Ok-clause-tells g c = (in_hand c.args.pipe.now c.next_for.new.pipe c.args.to c.args.lane.now c.args.unsent.now c.in-Some.message c.requires.to c.requires.lane c.in-Some.ensures.message).tells

pub returns-in-Err-clause-lane : goal.returns-in-Err-clause-lane
returns-in-Err-clause-lane g c =
    subst (λ (x : LaneEnd × Message). IsSender c.next_for.new.pipe c.args.to x.0 (Some x.1)) (λ i. (sym c.in-Err.ensures.unchanged i, sym c.in-Err.ensures.back i))
    (in_hand c.args.pipe.now c.next_for.new.pipe c.args.to c.args.lane.now c.args.unsent.now c.in-Some.message c.requires.to c.requires.lane c.in-Some.ensures.message).lane

pub returns-in-Err-clause-tells : goal.returns-in-Err-clause-tells
returns-in-Err-clause-tells g c = (in_hand c.args.pipe.now c.next_for.new.pipe c.args.to c.args.lane.now c.args.unsent.now c.in-Some.message c.requires.to c.requires.lane c.in-Some.ensures.message).tells
