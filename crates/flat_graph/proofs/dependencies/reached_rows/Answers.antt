-- the marks are spread over the closed table of what is needed
use Rattle.std.proofs.Common.{◌≡◌, ◌∙◌, List, Bool, sym, ap, subst}
use Rattle.flat_graph.specs.ReachedArrays.{MarksReached}
use Rattle.flat_graph.specs.Orders.{IsOrdered, as_nodes}
use Rattle.flat_graph.specs.Passes.{Shows, IsNeeded, Spreads}
use Rattle.flat_graph.specs.Nodes.{nodes}
use Rattle.flat_graph.proofs.PlaceLemmas.{taken}
use Rattle.flat_graph.proofs.MarkLemmas.{marks_reached}
use Rattle.flat_graph.proofs.dependencies.reached_rows.Goals as goal

pub returns : goal.returns
returns c =
    let g = c.in_ok-graph.graph in
    let rows : List (List Bool) = c.in_ok-rows.rows.items in
    let same : as_nodes g.nodes.items ≡ nodes c.args.code.now = c.in_ok-graph.ensures in
    let ordered : IsOrdered (nodes c.args.code.now) = subst IsOrdered same g.ordered in
    let shown : Shows (nodes c.args.code.now) rows = subst (λ ns. Shows ns rows) (ap as_nodes c.deref.ensures.value ∙ same) c.in_ok-rows.ensures in
    let needed : IsNeeded (nodes c.args.code.now) rows c.needed-table.result =
    subst (λ ns. IsNeeded ns rows c.needed-table.result) (ap as_nodes c.deref-2.ensures.value ∙ same)
    (subst (λ r. IsNeeded (as_nodes c.deref-2.result.now) r c.needed-table.result) c.deref-3.ensures.value c.needed-table.ensures) in
    let spreads : Spreads c.close.new.table rows c.spread_all.new.rows = subst (λ r. Spreads c.close.new.table r c.spread_all.new.rows) c.deref_mut.ensures.value c.spread_all.ensures in
    let all = taken c.in_ok-rows.rows.len c.spread_all.new.rows _ (sym c.deref_mut.ensures.len ∙ sym c.spread_all.ensures.long) in
    subst (MarksReached (nodes c.args.code.now)) (sym all) (marks_reached (nodes c.args.code.now) ordered rows shown c.needed-table.result c.close.new.table needed c.close.ensures c.spread_all.new.rows spreads)
