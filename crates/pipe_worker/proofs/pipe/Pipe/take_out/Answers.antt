use Rattle.pipe_worker.proofs.KeepLemmas.{taken_out, out_law}
use Rattle.pipe_worker.proofs.pipe.Pipe.take_out.Goals as goal

pub invariant_of-self : goal.invariant_of-self
invariant_of-self c = rw c.pop.ensures.rest (taken_out _ c.args.to c.self.invariant.0, c.self.invariant.1, c.self.invariant.2)

pub returns-clause-law : goal.returns-clause-law
returns-clause-law c = out_law _ c.args.self.now c.args.to c.pop.result _ c.self.view_is c.self.invariant.0 c.requires c.pop.ensures.first
