use Rattle.domino_tree.specs.Value.{names_of}
use Rattle.made_bodies.proofs.CellLemmas.{declared_row}
use Rattle.made_bodies.proofs.body.has_cells.Goals as goal

pub has_row-requires-clause-declared : goal.has_row-requires-clause-declared
has_row-requires-clause-declared c = declared_row (names_of c.args.bench.now.program).arrays c.args.infos.now c.loop-array.array _ c.loop-array-test.true c.index-infos-array.is c.requires.declared
