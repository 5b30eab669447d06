use Rattle.std.proofs.Common.{arith}
use Rattle.pipe_messages.specs.declared.message.Message.TheVariants.{Phantom}
use Rattle.pipe_worker.proofs.EnterLemmas.{told_whole}
use Rattle.pipe_worker.proofs.entering.tell_all.Goals as goal

pub returns : goal.returns
returns c = told_whole c.args.outbox.now c.loop-q.outbox (Phantom c.args.t c.args.units.now) c.loop-q.q (omega arith) c.loop-q.invariant
