use Rattle.std.proofs.Common.{◌≡◌, ◌+◌, ◌*◌, ◌∙◌, ap, sym, subst, arith, length}
use Rattle.code_forms.specs.LayoutValid.{is_layout}
use Rattle.flat_graph.specs.Orders.{as_nodes}
use Rattle.flat_graph.specs.Layouts.{IsLayoutOf, RunsBehind, AreDepths, AreStages}
use Rattle.flat_graph.proofs.RowLemmas.{nodes_long}
use Rattle.stage_packing.specs.Depths.{Runs}
use Rattle.stage_packing.proofs.LayoutLemmas.{group_low, numbers_low, runs, valid, layout_is}
use Rattle.stage_packing.proofs.SpotLemmas.{spot_right, runs_behind}
use Rattle.stage_packing.proofs.packing.layout_of.Goals as goal

pub spots_of-requires-clause-few : goal.spots_of-requires-clause-few
spots_of-requires-clause-few c = λ a g wa e.
    let ns = as_nodes c.args.nodes.now in
    let l = group_low ns c.requires.ordered c.args.classes.now c.requires.classes c.groups_of-groups.result.count c.groups_of-groups.result.of c.groups_of-groups.ensures.wide c.groups_of-groups.ensures.groups c.members_of-members.result c.members_of-members.ensures a g wa e in
    omega (arith, l, c.groups_of-groups.ensures.few)

pub depths_of-requires-clause-small : goal.depths_of-requires-clause-small
depths_of-requires-clause-small c = λ i.
    let n = nodes_long c.args.nodes.now in
    let l = numbers_low 0 c.args.classes.now i c.requires.classes.ordered in
    omega (arith, l, n, c.requires.classes.long, c.requires.few)

pub depths_of-requires-clause-runs : goal.depths_of-requires-clause-runs
depths_of-requires-clause-runs c =
    let ns = as_nodes c.args.nodes.now in
    let long : length c.in_ok-spots.spots.items ≡ length ns = c.in_ok-spots.ensures.long ∙ c.requires.classes.long in
    subst (λ s. Runs ns c.args.classes.now c.members_of-members.result c.groups_of-groups.result.of s (2 * c.groups_of-groups.result.count + 1)) (sym c.deref.ensures.value)
    (runs ns c.requires.ordered c.args.classes.now c.requires.classes c.groups_of-groups.result.count c.groups_of-groups.result.of c.groups_of-groups.ensures.wide c.groups_of-groups.ensures.groups c.members_of-members.result c.members_of-members.ensures
    c.in_ok-spots.spots.items long
    (λ i wi. spot_right ns c.requires.ordered c.args.classes.now c.requires.classes c.groups_of-groups.result.count c.groups_of-groups.result.of c.groups_of-groups.ensures.wide c.groups_of-groups.ensures.groups c.members_of-members.result c.members_of-members.ensures
    _ c.requires.reached i wi _ (c.in_ok-spots.ensures.spots i (omega (arith, wi, c.requires.classes.long)))))

pub invariant_of-result : goal.invariant_of-result
invariant_of-result c =
    let ns = as_nodes c.args.nodes.now in
    let n = nodes_long c.args.nodes.now in
    let long : length c.in_ok-spots.spots.items ≡ length ns = c.in_ok-spots.ensures.long ∙ c.requires.classes.long in
    let stages : AreStages c.in_ok-depths.depths.items c.stages_of-stages.result = subst (λ d. AreStages d c.stages_of-stages.result) c.deref-2.ensures.value c.stages_of-stages.ensures in
    let is = valid ns c.requires.ordered c.args.classes.now c.requires.classes c.groups_of-groups.result.count c.groups_of-groups.result.of c.groups_of-groups.ensures.wide c.groups_of-groups.ensures.groups c.members_of-members.result c.members_of-members.ensures
    c.in_ok-spots.spots.items long
    (λ i wi. spot_right ns c.requires.ordered c.args.classes.now c.requires.classes c.groups_of-groups.result.count c.groups_of-groups.result.of c.groups_of-groups.ensures.wide c.groups_of-groups.ensures.groups c.members_of-members.result c.members_of-members.ensures
    _ c.requires.reached i wi _ (c.in_ok-spots.ensures.spots i (omega (arith, wi, c.requires.classes.long))))
    c.in_ok-depths.depths.items c.in_ok-arrays.arrays.items c.stages_of-stages.result (omega (arith, n, c.requires.few)) c.in_ok-arrays.ensures.long c.groups_of-groups.ensures.few
    (λ k w. let s = c.in_ok-depths.ensures.small k w in omega (arith, s, n)) stages in
    record {
      valid =
          ap (λ s. is_layout s c.from_vec-2.result c.from_vec-3.result c.stages_of-stages.result) c.from_vec.ensures
          ∙ ap (λ d. is_layout c.in_ok-spots.spots.items d c.from_vec-3.result c.stages_of-stages.result) c.from_vec-2.ensures
          ∙ ap (λ s. is_layout c.in_ok-spots.spots.items c.in_ok-depths.depths.items s c.stages_of-stages.result) c.from_vec-3.ensures
          ∙ is;
    }

pub returns-clause-layout : goal.returns-clause-layout
returns-clause-layout c =
    let ns = as_nodes c.args.nodes.now in
    let long : length c.in_ok-spots.spots.items ≡ length ns = c.in_ok-spots.ensures.long ∙ c.requires.classes.long in
    let stages : AreStages c.in_ok-depths.depths.items c.stages_of-stages.result = subst (λ d. AreStages d c.stages_of-stages.result) c.deref-2.ensures.value c.stages_of-stages.ensures in
    let depths : AreDepths ns c.args.classes.now c.in_ok-spots.spots.items c.in_ok-depths.depths.items = subst (λ s. AreDepths ns c.args.classes.now s c.in_ok-depths.depths.items) c.deref.ensures.value c.in_ok-depths.ensures.depths in
    let is = layout_is ns c.requires.ordered c.args.classes.now c.requires.classes c.groups_of-groups.result.count c.groups_of-groups.result.of c.groups_of-groups.ensures.wide c.groups_of-groups.ensures.groups c.members_of-members.result c.members_of-members.ensures
    c.in_ok-spots.spots.items long
    (λ i wi. spot_right ns c.requires.ordered c.args.classes.now c.requires.classes c.groups_of-groups.result.count c.groups_of-groups.result.of c.groups_of-groups.ensures.wide c.groups_of-groups.ensures.groups c.members_of-members.result c.members_of-members.ensures
    _ c.requires.reached i wi _ (c.in_ok-spots.ensures.spots i (omega (arith, wi, c.requires.classes.long))))
    c.in_ok-depths.depths.items c.in_ok-arrays.arrays.items c.stages_of-stages.result c.in_ok-arrays.ensures.long c.in_ok-arrays.ensures.sets depths stages in
    subst (λ s. IsLayoutOf ns c.args.classes.now s c.from_vec-2.result c.from_vec-3.result c.stages_of-stages.result) (sym c.from_vec.ensures)
    (subst (λ d. IsLayoutOf ns c.args.classes.now c.in_ok-spots.spots.items d c.from_vec-3.result c.stages_of-stages.result) (sym c.from_vec-2.ensures)
    (subst (λ s. IsLayoutOf ns c.args.classes.now c.in_ok-spots.spots.items c.in_ok-depths.depths.items s c.stages_of-stages.result) (sym c.from_vec-3.ensures) is))

pub returns-clause-ordered : goal.returns-clause-ordered
returns-clause-ordered c =
    let ns = as_nodes c.args.nodes.now in
    let long : length c.in_ok-spots.spots.items ≡ length ns = c.in_ok-spots.ensures.long ∙ c.requires.classes.long in
    let is : RunsBehind ns c.in_ok-spots.spots.items = runs_behind ns c.requires.ordered c.args.classes.now c.requires.classes c.groups_of-groups.result.count c.groups_of-groups.result.of c.groups_of-groups.ensures.wide c.groups_of-groups.ensures.groups
    c.in_ok-spots.spots.items long
    (λ i wi. spot_right ns c.requires.ordered c.args.classes.now c.requires.classes c.groups_of-groups.result.count c.groups_of-groups.result.of c.groups_of-groups.ensures.wide c.groups_of-groups.ensures.groups c.members_of-members.result c.members_of-members.ensures
    _ c.requires.reached i wi _ (c.in_ok-spots.ensures.spots i (omega (arith, wi, c.requires.classes.long)))) in
    subst (RunsBehind ns) (sym c.from_vec.ensures) is
