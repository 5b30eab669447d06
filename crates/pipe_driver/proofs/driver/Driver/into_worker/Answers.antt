use Rattle.pipe_driver.proofs.DriverLemmas.{heard_all}
use Rattle.pipe_driver.proofs.driver.Driver.into_worker.Goals as goal

pub returns-clause-heard : goal.returns-clause-heard
returns-clause-heard c = heard_all _ c.self.invariant
