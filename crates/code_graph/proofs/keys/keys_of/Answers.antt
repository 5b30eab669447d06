-- one key more
use Rattle.code_graph.proofs.KeyLemmas.{keys_more}
use Rattle.code_graph.proofs.keys.keys_of.Goals as goal

pub loop-instruction-preserved : goal.loop-instruction-preserved
loop-instruction-preserved c = rw c.in_ok-push.ensures.items (keys_more c.args.to.now.rows c.args.from.now.rows c.loop-instruction.instruction c.loop-instruction.keys.items c.key.result c.loop-instruction.invariant c.key.ensures)
