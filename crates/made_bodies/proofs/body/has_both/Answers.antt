use Rattle.made_bodies.proofs.CellLemmas.{declared}
use Rattle.made_bodies.proofs.body.has_both.Goals as goal

pub has_cells-requires-clause-declared : goal.has_cells-requires-clause-declared
has_cells-requires-clause-declared c = declared c.args.checked.now c.args.bench.now.program c.arrays-infos.result.now c.requires c.arrays-infos.ensures.arrays

pub has_cells-requires-then-has_cells-clause-declared : goal.has_cells-requires-then-has_cells-clause-declared
has_cells-requires-then-has_cells-clause-declared c = declared c.args.checked.now c.args.bench.now.program c.arrays-infos.result.now c.requires c.arrays-infos.ensures.arrays
