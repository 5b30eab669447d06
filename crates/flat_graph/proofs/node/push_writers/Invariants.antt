-- the writers that are left, behind those so far, are all of them
use Rattle.std.proofs.Common.{◌≡◌, ◌++◌, flat_map, drop}
use Rattle.flat_graph.specs.Nodes.{writer}
use Rattle.flat_graph.proofs.node.push_writers.Given as goal

abbrev pub invariant-loop-operand : goal.invariant-loop-operand
invariant-loop-operand l = l.uses.items ++ flat_map (writer l.fields) (drop l.operand-index l.operands) ≡ l.fn.uses.items ++ flat_map (writer l.fields) l.operands
