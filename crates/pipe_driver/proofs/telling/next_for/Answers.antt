use Rattle.std.proofs.Common.{◌≡◌, Option, Some, refl, subst}
use Rattle.pipe_messages.specs.declared.message.Message.{Message}
use Rattle.pipe_driver.specs.Turning.{IsForLane, was_unsent}
use Rattle.pipe_driver.proofs.telling.next_for.Goals as goal

pub returns-in-Some-clause-message : goal.returns-in-Some-clause-message
returns-in-Some-clause-message c =
    let e : Some c.in-Some.message ≡ c.args.unsent.now = cc in
    subst (λ (o : Option Message). IsForLane c.args.pipe.now c.args.pipe.now c.args.to c.in-Some.message o) e (was_unsent refl)
