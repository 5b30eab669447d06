use Rattle.std.proofs.Common.{sym, subst}
use Rattle.domino_tree.specs.Value.{names_of, HasCells}
use Rattle.domino_tree.proofs.ShapeLemmas.{start_has_cells}
use Rattle.domino_eval.proofs.bench.Bench.new.Goals as goal

pub invariant_of-result : goal.invariant_of-result
invariant_of-result c = record {
  has = subst (HasCells (names_of c.args.checked.now)) (sym c.in_ok-cells.ensures) (start_has_cells (names_of c.args.checked.now));
  still = c.program-program.ensures.passes.indexes.still;
}
