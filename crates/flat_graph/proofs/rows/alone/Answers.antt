-- one mark
use Rattle.std.proofs.Common.{false, replicate}
use Rattle.flat_graph.proofs.RowLemmas.{one_mark, nothing}
use Rattle.flat_graph.proofs.rows.alone.Goals as goal

pub returns : goal.returns
returns c = λ b wb. one_mark (replicate 16 false) c.args.array b c.requires (nothing 16)
