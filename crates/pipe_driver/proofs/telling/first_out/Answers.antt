use Rattle.pipe_driver.proofs.TellLemmas.{first_for}
use Rattle.pipe_driver.proofs.telling.first_out.Goals as goal

pub returns-clause-message : goal.returns-clause-message
returns-clause-message c =
    first_for c.take_out.result c.args.pipe.now c.take_out.new.self c.args.to record { laws = c.exit.ensures.laws; rest = c.take_out.ensures.rest } c.take_out.ensures.first c.take_out.ensures.law
