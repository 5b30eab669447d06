use Rattle.std.proofs.Common.{FitsSigned, w32, rules, sym, ap, subst, ◌∙◌}
use Rattle.std.proofs.lemmas.Int.{to_z-of_z}
use Rattle.std.specs.Option.{option_copied}
use Rattle.domino_check.specs.Accepted.{AreSized}
use Rattle.domino_eval.proofs.EvalLemmas.{place_past, sized_at, place_at}
use Rattle.domino_eval.proofs.value.place_of.Goals as goal

pub returns-then-array-arrays : goal.returns-then-array-arrays
returns-then-array-arrays c = place_past c.args.checked.now c.arrays-arrays.result.now c.args.array c.args.fields.now c.arrays-arrays.ensures.arrays c.if-array-arrays.true

pub cell_named-requires-clause-least : goal.cell_named-requires-clause-least
cell_named-requires-clause-least c =
    (sized_at c.arrays-arrays.result.now c.args.array c.index-arrays-array.result (subst AreSized (sym c.arrays-arrays.ensures.arrays) c.arrays-arrays.ensures.keeps.sized) c.if-array-arrays.false).0

pub cell_named-requires-clause-most : goal.cell_named-requires-clause-most
cell_named-requires-clause-most c =
    (sized_at c.arrays-arrays.result.now c.args.array c.index-arrays-array.result (subst AreSized (sym c.arrays-arrays.ensures.arrays) c.arrays-arrays.ensures.keeps.sized) c.if-array-arrays.false).1

pub returns-in-Some : goal.returns-in-Some
returns-in-Some c =
    let fits : FitsSigned w32 c.plain_value.result = search rules in
    let found = sym c.index.ensures.index ∙ ap option_copied c.in-Some.is in
    place_at c.args.checked.now c.arrays-arrays.result.now c.args.array c.index-arrays-array.result c.in-Some.index.now _ c.args.fields.now c.cell_named.result c.arrays-arrays.ensures.arrays c.if-array-arrays.false found
    (to_z-of_z w32 c.plain_value.result fits ∙ c.plain_value.ensures) c.cell_named.ensures
