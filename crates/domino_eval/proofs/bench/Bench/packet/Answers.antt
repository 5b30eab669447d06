use Rattle.std.proofs.Common.{◌≡◌, ◌≤◌, None, length, replicate, take, ap, sym, subst, ◌∙◌, arith}
use Rattle.std.proofs.lemmas.List.{take-replicate, with_items_is}
use Rattle.domino_tree.specs.Value.{names_of, HasCells}
use Rattle.domino_tree.specs.Execution.{State}
use Rattle.domino_tree.specs.Sequential.{untouched}
use Rattle.domino_check.specs.NumberedMeaning.{indexing}
use Rattle.domino_eval.specs.Parts.{Held, state, executed}
use Rattle.domino_eval.specs.Places.{marks, BodyStays}
use Rattle.mp5_words.specs.Cells.{bits}
use Rattle.domino_tree.proofs.ShapeLemmas.{exec_has_cells}
use Rattle.domino_eval.proofs.EvalLemmas.{untouched_is, executed_is}
use Rattle.domino_eval.proofs.PlaceLemmas.{no_marks, no_places, program_moves}
use Rattle.domino_eval.proofs.bench.Bench.packet.Goals as goal

pub run_block-requires-clause-places : goal.run_block-requires-clause-places
run_block-requires-clause-places c =
    let infos = c.arrays-count.result.now in
    let few : length infos ≤ 16 = omega (arith, ap length c.arrays-count.ensures.arrays, c.body.ensures.keeps.few) in
    no_places (indexing c.self.inside.checked.now) c.args.fields.now _ (length infos) (take-replicate (length infos) 16 None few)

pub run_block-requires-clause-still : goal.run_block-requires-clause-still
run_block-requires-clause-still c =
    let checked = c.self.inside.checked.now in
    let infos = c.arrays-count.result.now in
    let few : length infos ≤ 16 = omega (arith, ap length c.arrays-count.ensures.arrays, c.body.ensures.keeps.few) in
    let marked = no_marks (take (length infos) (replicate 16 None)) (length infos) (take-replicate (length infos) 16 None few) in
    subst (BodyStays (indexing checked) (marks (take (length infos) (replicate 16 None)))) (sym c.body.ensures.body)
    (program_moves checked _ (length infos) c.self.invariant.still marked (ap length c.arrays-count.ensures.arrays))

pub returns-clause-fields : goal.returns-clause-fields
returns-clause-fields c =
    let checked = c.self.inside.checked.now in
    let infos = c.arrays-count.result.now in
    let after = state c.run_block.new.fields c.run_block.new.cells (marks c.run_block.new.places) in
    let few : length infos ≤ 16 = omega (arith, ap length c.arrays-count.ensures.arrays, c.body.ensures.keeps.few) in
    let none : take (length infos) (replicate 16 None) ≡ replicate (length infos) None = take-replicate (length infos) 16 None few in
    let marked : marks (take (length infos) (replicate 16 None)) ≡ untouched (names_of checked) = no_marks _ (length infos) none ∙ untouched_is checked infos c.arrays-count.ensures.arrays in
    ap (λ (s : State). s.store.fields)
    (executed_is checked c.args.self.now c.body.result.now c.args.fields.now c.deref_mut.result.now c.self.inside.cells.items _ after c.self.view_is c.body.ensures.meaning c.deref_mut.ensures.value marked c.run_block.ensures.state)

pub returns-clause-cells : goal.returns-clause-cells
returns-clause-cells c =
    let checked = c.self.inside.checked.now in
    let infos = c.arrays-count.result.now in
    let after = state c.run_block.new.fields c.run_block.new.cells (marks c.run_block.new.places) in
    let few : length infos ≤ 16 = omega (arith, ap length c.arrays-count.ensures.arrays, c.body.ensures.keeps.few) in
    let none : take (length infos) (replicate 16 None) ≡ replicate (length infos) None = take-replicate (length infos) 16 None few in
    let marked : marks (take (length infos) (replicate 16 None)) ≡ untouched (names_of checked) = no_marks _ (length infos) none ∙ untouched_is checked infos c.arrays-count.ensures.arrays in
    let kept : length c.run_block.new.cells ≡ c.self.inside.cells.len = omega arith in
    let program = ap (λ (b : Held). b.program) c.self.view_is in
    let cells =
    with_items_is c.self.inside.cells c.run_block.new.cells kept
    ∙ ap (λ (s : State). s.store.cells)
    (executed_is checked c.args.self.now c.body.result.now c.args.fields.now c.deref_mut.result.now c.self.inside.cells.items _ after c.self.view_is c.body.ensures.meaning c.deref_mut.ensures.value marked c.run_block.ensures.state) in
    (λ i. record { program = program i; cells = cells i })

-- the cells stay as many as are declared
pub invariant_of-self : goal.invariant_of-self
invariant_of-self c =
    let checked = c.self.inside.checked.now in
    let held : Held = c.args.self.now in
    let infos = c.arrays-count.result.now in
    let after = state c.run_block.new.fields c.run_block.new.cells (marks c.run_block.new.places) in
    let few : length infos ≤ 16 = omega (arith, ap length c.arrays-count.ensures.arrays, c.body.ensures.keeps.few) in
    let none : take (length infos) (replicate 16 None) ≡ replicate (length infos) None = take-replicate (length infos) 16 None few in
    let marked : marks (take (length infos) (replicate 16 None)) ≡ untouched (names_of checked) = no_marks _ (length infos) none ∙ untouched_is checked infos c.arrays-count.ensures.arrays in
    let kept : length c.run_block.new.cells ≡ c.self.inside.cells.len = omega arith in
    let cells =
    with_items_is c.self.inside.cells c.run_block.new.cells kept
    ∙ ap (λ (s : State). s.store.cells)
    (executed_is checked held c.body.result.now c.args.fields.now c.deref_mut.result.now c.self.inside.cells.items _ after c.self.view_is c.body.ensures.meaning c.deref_mut.ensures.value marked c.run_block.ensures.state) in
    let has : HasCells (names_of held.program) held.cells = subst (λ (b : Held). HasCells (names_of b.program) b.cells) c.self.view_is c.self.invariant.has in
    let has_after : HasCells (names_of held.program) (executed held c.args.fields.now).store.cells =
    exec_has_cells (names_of held.program) held.program.function.body (state c.args.fields.now held.cells (untouched (names_of held.program))) has in
    let same : held.program ≡ checked = sym (ap (λ (b : Held). b.program) c.self.view_is) in
    record {
      has = subst (HasCells (names_of checked)) (sym cells) (subst (λ p. HasCells (names_of p) (executed held c.args.fields.now).store.cells) same has_after);
      still = c.self.invariant.still;
    }

pub returns-clause-touched : goal.returns-clause-touched
returns-clause-touched c =
    let checked = c.self.inside.checked.now in
    let infos = c.arrays-count.result.now in
    let after = state c.run_block.new.fields c.run_block.new.cells (marks c.run_block.new.places) in
    let few : length infos ≤ 16 = omega (arith, ap length c.arrays-count.ensures.arrays, c.body.ensures.keeps.few) in
    let none : take (length infos) (replicate 16 None) ≡ replicate (length infos) None = take-replicate (length infos) 16 None few in
    let marked : marks (take (length infos) (replicate 16 None)) ≡ untouched (names_of checked) = no_marks _ (length infos) none ∙ untouched_is checked infos c.arrays-count.ensures.arrays in
    c.set_of.ensures
    ∙ ap (λ (s : State). bits s.touched)
    (executed_is checked c.args.self.now c.body.result.now c.args.fields.now c.deref_mut.result.now c.self.inside.cells.items _ after c.self.view_is c.body.ensures.meaning c.deref_mut.ensures.value marked c.run_block.ensures.state)
