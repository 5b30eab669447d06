-- the nodes that are left, behind those so far, are all of them
use Rattle.std.proofs.Common.{◌≡◌, ◌++◌, map, drop}
use Rattle.code_forms.specs.FlatMeaning.{steps_in}
use Rattle.flat_graph.specs.Nodes.{node_of, nodes}
use Rattle.flat_graph.specs.Orders.{as_nodes, copies_in}
use Rattle.flat_graph.proofs.graph.nodes_of.Given as goal

abbrev pub invariant-loop-number : goal.invariant-loop-number
invariant-loop-number l =
    as_nodes l.made.items ++ map (node_of l.code.fields l.code.arrays l.code.instrs) (steps_in (copies_in l.code.arrays) l.number (drop l.number l.code.instrs)) ≡ nodes l.code
