use Rattle.pipe_parts.proofs.Lines.{line_pushed}
use Rattle.pipe_parts.proofs.outbox.Outbox.push.Goals as goal

pub returns : goal.returns
returns g c = line_pushed _ _ _ c.self.view_is c.args.to _ _ c.index_mut.ensures.value c.requires.pipe c.args.item c.push_back_reserved.ensures.items
