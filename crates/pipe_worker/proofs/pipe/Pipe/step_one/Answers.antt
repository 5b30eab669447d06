use Rattle.std.proofs.Common.{sym, ◌∙◌}
use Rattle.pipe_worker.proofs.StepLemmas.{no_step_now}
use Rattle.pipe_worker.proofs.pipe.Pipe.step_one.Goals as goal

pub returns-in-None-clause-not : goal.returns-in-None-clause-not
returns-in-None-clause-not c = λ idle. no_step_now _ _ c.first.result c.self.view_is c.self.invariant.0 (sym c.is_some.ensures ∙ c.if-is_some.false) c.first.ensures.none c.in-None.ensures.none
