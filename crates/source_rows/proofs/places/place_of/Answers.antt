use Rattle.std.proofs.Common.{arith}
use Rattle.source_rows.proofs.PlaceLemmas.{sized_at}
use Rattle.source_rows.proofs.places.place_of.Goals as goal

pub cell_of-requires-clause-least : goal.cell_of-requires-clause-least
cell_of-requires-clause-least c = (sized_at c.args.infos.now c.args.a c.index-infos-a.result c.requires.sized (omega (arith, c.requires.long, c.if-copies-a.false))).0

pub cell_of-requires-clause-most : goal.cell_of-requires-clause-most
cell_of-requires-clause-most c = (sized_at c.args.infos.now c.args.a c.index-infos-a.result c.requires.sized (omega (arith, c.requires.long, c.if-copies-a.false))).1
