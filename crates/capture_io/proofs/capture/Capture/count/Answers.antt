use Rattle.std.proofs.Common.{sym}
use Rattle.capture_io.proofs.PacketRows.{length-rows}
use Rattle.capture_io.proofs.capture.Capture.count.Goals as goal

pub returns-clause-count : goal.returns-clause-count
returns-clause-count c = rw (← c.self.view_is) (sym (length-rows c.self.inside.packets c.self.inside.width c.self.inside.words.items))
