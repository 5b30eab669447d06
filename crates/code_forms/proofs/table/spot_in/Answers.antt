use Rattle.std.proofs.Common.{List, sym, subst}
use Rattle.code_forms.specs.declared.flat.FlatArray.{FlatArray}
use Rattle.code_forms.specs.declared.parts.StagedGroup.{StagedGroup}
use Rattle.code_forms.specs.Staged.{in_parts}
use Rattle.code_forms.specs.Spots.{AreFew, AreSmall}
use Rattle.code_forms.proofs.TableLemmas.{few_cells, small_groups}
use Rattle.code_forms.proofs.table.spot_in.Goals as goal

pub place_in-start-requires-clause-lengths : goal.place_in-start-requires-clause-lengths
place_in-start-requires-clause-lengths c =
    subst (λ (l : List FlatArray). AreFew l) (sym c.as_slice-flat.ensures) (few_cells (in_parts c.args.code.now c.args.parts.now) c.requires)

pub place_in-start-requires-clause-groups : goal.place_in-start-requires-clause-groups
place_in-start-requires-clause-groups c =
    subst (λ (l : List StagedGroup). AreSmall l) (sym c.as_slice.ensures) (small_groups (in_parts c.args.code.now c.args.parts.now) c.requires)
