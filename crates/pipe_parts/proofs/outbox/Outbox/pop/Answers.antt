use Rattle.pipe_parts.proofs.Lines.{line_popped, first_out}
use Rattle.pipe_parts.proofs.outbox.Outbox.pop.Goals as goal

pub returns-clause-first : goal.returns-clause-first
returns-clause-first g c = first_out _ _ _ c.self.view_is c.args.to _ _ c.index_mut.ensures.value c.requires _ c.pop_front.ensures.items

pub returns-clause-rest : goal.returns-clause-rest
returns-clause-rest g c = line_popped _ _ _ c.self.view_is c.args.to _ _ c.index_mut.ensures.value c.requires c.pop_front.ensures.rest
