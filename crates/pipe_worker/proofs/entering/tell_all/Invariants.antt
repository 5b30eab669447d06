use Rattle.pipe_messages.specs.declared.message.Message.TheVariants.{Phantom}
use Rattle.pipe_worker.proofs.EnterLemmas.{ToldBelow}
use Rattle.pipe_worker.proofs.entering.tell_all.Given as goal

-- the first pipes are told
abbrev pub invariant-loop-q : goal.invariant-loop-q
invariant-loop-q l = ToldBelow l.fn.outbox l.outbox (Phantom l.t l.units) l.q
