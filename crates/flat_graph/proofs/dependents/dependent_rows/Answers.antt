-- the first marks are handed on by all
use Rattle.std.proofs.Common.{◌≡◌, ◌∙◌, List, Bool, length, sym, ap, subst}
use Rattle.dependence.specs.Uses.{Node}
use Rattle.flat_graph.specs.ReachedArrays.{MarksReachedFrom}
use Rattle.flat_graph.specs.Orders.{IsOrdered, as_nodes}
use Rattle.flat_graph.specs.Passes.{Shows, IsNeeded, Begins, Grows, HandedBelow, SettledFrom}
use Rattle.flat_graph.specs.Nodes.{nodes}
use Rattle.flat_graph.proofs.PlaceLemmas.{taken}
use Rattle.flat_graph.proofs.RowLemmas.{nodes_long}
use Rattle.flat_graph.proofs.HandLemmas.{marks_from}
use Rattle.flat_graph.proofs.dependents.dependent_rows.Goals as goal

pub returns : goal.returns
returns c =
    let g = c.in_ok-graph.graph in
    let shows : List (List Bool) = c.in_ok-shown.shown.items in
    let same : as_nodes g.nodes.items ≡ nodes c.args.code.now = c.in_ok-graph.ensures in
    let n : List Node = nodes c.args.code.now in
    let ordered : IsOrdered n = subst IsOrdered same g.ordered in
    let shown : Shows n shows = subst (λ ns. Shows ns shows) (ap as_nodes c.deref.ensures.value ∙ same) c.in_ok-shown.ensures in
    let needed : IsNeeded n shows c.needed-table.result =
    subst (λ ns. IsNeeded ns shows c.needed-table.result) (ap as_nodes c.deref-2.ensures.value ∙ same)
    (subst (λ r. IsNeeded (as_nodes c.deref-2.result.now) r c.needed-table.result) c.deref-3.ensures.value c.needed-table.ensures) in
    let first : List (List Bool) = c.in_ok-rows.rows.items in
    let begins : Begins n c.close.new.table first = subst (λ ns. Begins ns c.close.new.table first) (ap as_nodes c.deref-4.ensures.value ∙ same) c.in_ok-rows.ensures in
    let handed : List (List Bool) = c.hand_on_arrays.new.rows in
    let seen : as_nodes c.deref-5.result.now ≡ n = ap as_nodes c.deref-5.ensures.value ∙ same in
    let one : Grows n first handed =
    subst (λ ns. Grows ns first handed) seen (subst (λ r. Grows (as_nodes c.deref-5.result.now) r handed) c.deref_mut.ensures.value c.hand_on_arrays.ensures.grows) in
    let arrays : HandedBelow (length n) n first handed =
    subst (λ ns. HandedBelow (length ns) ns first handed) seen
    (subst (λ r. HandedBelow (length (as_nodes c.deref-5.result.now)) (as_nodes c.deref-5.result.now) r handed) c.deref_mut.ensures.value
    (subst (λ k. HandedBelow k (as_nodes c.deref-5.result.now) c.deref_mut.result.now handed) (sym (nodes_long c.deref-5.result.now)) c.hand_on_arrays.ensures.handed)) in
    let long : c.in_ok-rows.rows.len ≡ length n = sym c.deref_mut.ensures.len ∙ ap length c.deref_mut.ensures.value ∙ begins.long in
    let between : c.deref_mut-2.result.now ≡ handed = c.deref_mut-2.ensures.value ∙ taken c.in_ok-rows.rows.len handed _ (long ∙ sym one.long) in
    let last : List (List Bool) = c.hand_on_others.new.rows in
    let met : as_nodes c.deref-6.result.now ≡ n = ap as_nodes c.deref-6.ensures.value ∙ same in
    let two : Grows n handed last =
    subst (λ ns. Grows ns handed last) met (subst (λ r. Grows (as_nodes c.deref-6.result.now) r last) between c.hand_on_others.ensures.grows) in
    let settled : SettledFrom 0 n last = subst (λ ns. SettledFrom 0 ns last) met c.hand_on_others.ensures.settled in
    let all = taken c.in_ok-rows.rows.len last _ (long ∙ sym two.long) in
    subst (MarksReachedFrom n) (sym all) (marks_from n ordered shows shown c.needed-table.result c.close.new.table needed c.close.ensures first handed last begins one arrays two settled)
