use Rattle.std.proofs.Common.{◌≡◌, ◌∙◌, ◌==◌, ℕ, true, false, sym, ap}
use Rattle.std.specs.List.{list_any}
use Rattle.code_forms.specs.declared.parts.StagedGroup.{StagedGroup}
use Rattle.code_forms.proofs.TableLemmas.{group_found, group_past}
use Rattle.code_forms.proofs.table.group_of.Goals as goal

pub returns-then-contains-clause-group : goal.returns-then-contains-clause-group
returns-then-contains-clause-group c =
    let arrays : c.index-groups-g.result.arrays ≡ c.as_slice.result.now = ap (λ (g : StagedGroup). g.arrays) c.index-groups-g.is ∙ sym c.as_slice.ensures in
    let has : list_any (λ (b : ℕ). b == c.args.array) c.index-groups-g.result.arrays ≡ true = ap (list_any (λ (b : ℕ). b == c.args.array)) arrays ∙ sym c.contains.ensures.value ∙ c.if-contains.true in
    sym (group_found c.args.groups.now c.loop-g.g c.args.array c.index-groups-g.result c.loop-g-test.true c.index-groups-g.is has) ∙ c.loop-g.invariant

pub loop-g-preserved : goal.loop-g-preserved
loop-g-preserved c =
    let arrays : c.index-groups-g.result.arrays ≡ c.as_slice.result.now = ap (λ (g : StagedGroup). g.arrays) c.index-groups-g.is ∙ sym c.as_slice.ensures in
    let none : list_any (λ (b : ℕ). b == c.args.array) c.index-groups-g.result.arrays ≡ false = ap (list_any (λ (b : ℕ). b == c.args.array)) arrays ∙ sym c.contains.ensures.value ∙ c.if-contains.false in
    group_past c.args.groups.now c.loop-g.g c.args.array c.index-groups-g.result c.loop-g-test.true c.index-groups-g.is none ∙ c.loop-g.invariant
