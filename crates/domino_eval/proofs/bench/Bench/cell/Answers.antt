use Rattle.std.proofs.Common.{◌<◌, length, get_or, pos, w32, FitsSigned, ap, subst, ◌∙◌, arith, rules}
use Rattle.std.proofs.lemmas.Int.{to_z-of_z}
use Rattle.mp5_words.specs.Cells.{cells_at}
use Rattle.domino_tree.specs.Value.{names_of, HasCells}
use Rattle.domino_eval.specs.Parts.{Held}
use Rattle.domino_eval.proofs.EvalLemmas.{rows_there, cell_there, row_is}
use Rattle.domino_eval.proofs.bench.Bench.cell.Goals as goal

pub index-requires : goal.index-requires
index-requires c =
    let held : Held = c.args.self.now in
    let has : HasCells (names_of held.program) held.cells = subst (λ (b : Held). HasCells (names_of b.program) b.cells) c.self.view_is c.self.invariant.has in
    omega (arith, rows_there (names_of held.program) held.cells c.args.array has c.requires.array, ap (λ (b : Held). length b.cells) c.self.view_is)

pub bounds-as_slice-i : goal.bounds-as_slice-i
bounds-as_slice-i c =
    let held : Held = c.args.self.now in
    let has : HasCells (names_of held.program) held.cells = subst (λ (b : Held). HasCells (names_of b.program) b.cells) c.self.view_is c.self.invariant.has in
    let there : c.args.array < length held.cells = rows_there (names_of held.program) held.cells c.args.array has c.requires.array in
    let within : c.args.i < length (cells_at held.cells c.args.array) = cell_there (names_of held.program) held.cells c.args.array c.args.i has c.requires.array c.requires.cell in
    let row = row_is held.cells c.args.array c.index.result.now there (c.index.ensures ∙ ap (λ (b : Held). get_or b.cells c.args.array c.index.result.now) c.self.view_is) in
    omega (arith, within, ap (λ l. length l) (c.as_slice.ensures ∙ row))

pub returns : goal.returns
returns c =
    let held : Held = c.args.self.now in
    let has : HasCells (names_of held.program) held.cells = subst (λ (b : Held). HasCells (names_of b.program) b.cells) c.self.view_is c.self.invariant.has in
    let there : c.args.array < length held.cells = rows_there (names_of held.program) held.cells c.args.array has c.requires.array in
    let row = row_is held.cells c.args.array c.index.result.now there (c.index.ensures ∙ ap (λ (b : Held). get_or b.cells c.args.array c.index.result.now) c.self.view_is) in
    let fits : FitsSigned w32 (get_or c.as_slice.result.now c.args.i (pos 0)) = search rules in
    to_z-of_z w32 _ fits ∙ ap (λ l. get_or l c.args.i (pos 0)) (c.as_slice.ensures ∙ row)
