-- the keys so far
use Rattle.code_graph.specs.Keys.{AreKeysIn}
use Rattle.code_graph.proofs.keys.keys_of.Given as goal

abbrev pub invariant-loop-instruction : goal.invariant-loop-instruction
invariant-loop-instruction l = AreKeysIn l.to.rows l.from.rows l.instruction l.keys.items
