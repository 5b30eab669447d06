use Rattle.std.proofs.Common.{◌≡◌, ◌<◌, suc, ◌⊎◌, inl, inr, ◌∙◌, ap, sym, subst, arith, length}
use Rattle.std.proofs.lemmas.Bool.{cases_lt}
use Rattle.dependence.specs.Uses.{Member, node_at}
use Rattle.flat_graph.specs.Orders.{as_nodes}
use Rattle.flat_graph.specs.Layouts.{class_at}
use Rattle.flat_graph.proofs.RowLemmas.{node_seen, nodes_long, all_members}
use Rattle.stage_packing.specs.Depths.{IsOver, depth_at}
use Rattle.stage_packing.proofs.UseLemmas.{raised_alone, raised_behind}
use Rattle.stage_packing.proofs.depths.raised.Goals as goal

pub over_uses-depth-requires-clause-there : goal.over_uses-depth-requires-clause-there
over_uses-depth-requires-clause-there c =
    let n : length (as_nodes c.args.nodes.now) ≡ length c.args.nodes.now = nodes_long c.args.nodes.now in
    let seen = node_seen c.args.nodes.now c.args.number _ c.requires.number c.index-nodes-number.is in
    let e : c.as_slice.result.now ≡ (node_at (as_nodes c.args.nodes.now) c.args.number).uses = c.as_slice.ensures ∙ ap (λ n. n.uses) (sym c.index-nodes-number.is) ∙ sym (ap (λ n. n.uses) seen) in
    all_members (λ j. j < length c.args.classes.now) c.as_slice.result.now (λ j m.
    let w : j < length (as_nodes c.args.nodes.now) = c.requires.ordered.there c.args.number j (omega (arith, n, c.requires.number)) (subst (λ us. Member j us) e m) in
    omega (arith, w, n, c.requires.long))

pub bounds-classes-head : goal.bounds-classes-head
bounds-classes-head c =
    let n : length (as_nodes c.args.nodes.now) ≡ length c.args.nodes.now = nodes_long c.args.nodes.now in
    let h = c.in-Some.ensures in
    let w = (c.requires.runs.heads h.0 c.in-Some.head h.2).0 in
    omega (arith, w, n, c.requires.long)

pub returns-in-None : goal.returns-in-None
returns-in-None c =
    let n : length (as_nodes c.args.nodes.now) ≡ length c.args.nodes.now = nodes_long c.args.nodes.now in
    let seen = node_seen c.args.nodes.now c.args.number _ c.requires.number c.index-nodes-number.is in
    let e : c.as_slice.result.now ≡ (node_at (as_nodes c.args.nodes.now) c.args.number).uses = c.as_slice.ensures ∙ ap (λ n. n.uses) (sym c.index-nodes-number.is) ∙ sym (ap (λ n. n.uses) seen) in
    raised_alone (as_nodes c.args.nodes.now) c.args.classes.now c.args.members.now c.args.of.now c.args.spots.now 100 c.requires.runs c.requires.ordered.there c.args.depths.now c.args.number c.over_uses-depth.result (omega (arith, n, c.requires.number))
    (subst (λ us. IsOver c.args.classes.now c.args.depths.now (class_at c.args.classes.now c.args.number) us c.over_uses-depth.result) e c.over_uses-depth.ensures)
    c.in-None.ensures

pub returns-in-Some : goal.returns-in-Some
returns-in-Some c =
    let n : length (as_nodes c.args.nodes.now) ≡ length c.args.nodes.now = nodes_long c.args.nodes.now in
    let seen = node_seen c.args.nodes.now c.args.number _ c.requires.number c.index-nodes-number.is in
    let e : c.as_slice.result.now ≡ (node_at (as_nodes c.args.nodes.now) c.args.number).uses = c.as_slice.ensures ∙ ap (λ n. n.uses) (sym c.index-nodes-number.is) ∙ sym (ap (λ n. n.uses) seen) in
    let either : (c.max.result ≡ c.over_uses-depth.result) ⊎ (c.max.result ≡ suc (depth_at c.args.depths.now c.args.classes.now c.in-Some.head)) =
    elim (cases_lt c.over_uses-depth.result (suc (depth_at c.args.depths.now c.args.classes.now c.in-Some.head))) [ inl lt ↦ inr (omega (arith, lt, c.max.ensures)) | inr le ↦ inl (omega (arith, le, c.max.ensures)) ] in
    raised_behind (as_nodes c.args.nodes.now) c.args.classes.now c.args.members.now c.args.of.now c.args.spots.now 100 c.requires.runs c.requires.ordered.there c.args.depths.now c.args.number c.over_uses-depth.result (omega (arith, n, c.requires.number))
    (subst (λ us. IsOver c.args.classes.now c.args.depths.now (class_at c.args.classes.now c.args.number) us c.over_uses-depth.result) e c.over_uses-depth.ensures)
    c.in-Some.head c.max.result c.in-Some.ensures (omega (arith, c.max.ensures)) (omega (arith, c.max.ensures)) either
