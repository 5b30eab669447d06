use Rattle.std.proofs.Common.{arith}
use Rattle.pipe_parts.proofs.Lines.{few_wait, short}
use Rattle.pipe_parts.proofs.outbox.Outbox.count.Goals as goal

pub returns-clause-laws : goal.returns-clause-laws
returns-clause-laws g c = few_wait _ _ _ c.self.view_is c.self.invariant

pub overflow_cast-result : goal.overflow_cast-result
overflow_cast-result g c =
    let few = short _ _ _ c.self.view_is c.args.to _ c.index.ensures c.requires c.self.invariant in
    omega (arith, c.len.ensures)
