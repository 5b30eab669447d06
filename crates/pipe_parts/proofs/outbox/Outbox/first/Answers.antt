use Rattle.pipe_parts.proofs.Lines.{few_wait}
use Rattle.pipe_parts.proofs.outbox.Outbox.first.Goals as goal

pub returns-clause-laws : goal.returns-clause-laws
returns-clause-laws g c = few_wait _ _ _ c.self.view_is c.self.invariant
