-- the parts are those of the layout
use Rattle.std.proofs.Common.{◌∙◌, ◌+◌, ◌*◌, refl, ap, subst}
use Rattle.index_resolve.specs.Clean.{clean_slots}
use Rattle.index_resolve.specs.Order.{running, part_ends}
use Rattle.index_resolve.specs.Resolve.{AreMade}
use Rattle.index_resolve.proofs.ResolveLemmas.{parts_are}
use Rattle.index_resolve.proofs.parts.parts_of.Goals as goal

pub returns-clause-parts : goal.returns-clause-parts
returns-clause-parts c =
    let g = c.args.code.now in
    let l = c.args.layout.now in
    let made : AreMade g l (clean_slots g.fields g.arrays g.instrs) c.in_ok-groups.groups =
    subst (λ clean. AreMade g l clean c.in_ok-groups.groups) (c.deref.ensures.value ∙ c.in_ok-clean.ensures) c.in_ok-groups.ensures in
    let count = 2 * c.len.result + 1 in
    let order = c.from_vec.ensures ∙ c.in_ok-order.ensures.numbers ∙ (λ j. running (c.as_slice.ensures j) (c.as_slice-instrs.ensures j) count) in
    let ends = c.from_vec-2.ensures ∙ c.in_ok-order.ensures.ends ∙ (λ j. part_ends (c.as_slice.ensures j) (c.as_slice-instrs.ensures j) count) in
    parts_are g l _ count made (ap (λ n. 2 * n + 1) c.len.ensures) order ends refl
