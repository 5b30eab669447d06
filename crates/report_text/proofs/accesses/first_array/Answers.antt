use Rattle.std.proofs.Common.{◌∙◌, ◌<◌, ◌≤◌, length, sym, slice_index, arith}
use Rattle.code_forms.specs.Staged.{group_at}
use Rattle.report_text.proofs.EntryLemmas.{first-is, first-member, none-below}
use Rattle.report_text.proofs.accesses.first_array.Goals as goal

pub returns-then-in_set : goal.returns-then-in_set
returns-then-in_set c =
    let laws = c.arrays-set.ensures.laws in
    first-is c.arrays-set.result (group_at c.args.code.now c.args.g).arrays c.arrays-set.ensures.set laws.some laws.rising c.loop-a.a (omega (arith, c.array_count-a-end.ensures.count, c.array_count-a-end.ensures.few, c.loop-a-test.true))
    (sym c.in_set.ensures ∙ c.if-in_set.true) c.loop-a.invariant

pub returns : goal.returns
returns c =
    let laws = c.arrays-set.ensures.laws in
    let arrays = (group_at c.args.code.now c.args.g).arrays in
    let low : slice_index arrays 0 < length c.args.code.now.arrays = (laws.there (slice_index arrays 0) (first-member arrays laws.some)).0 in
    let few : c.loop-a.a ≤ 16 = omega (arith, c.array_count-a-end.ensures.count, c.array_count-a-end.ensures.few, c.loop-a.auto.a-end) in
    let below : slice_index arrays 0 < c.loop-a.a = omega (arith, low, c.array_count-a-end.ensures.count, c.loop-a-test.false) in
    absurd (none-below c.arrays-set.result arrays c.arrays-set.ensures.set laws.some laws.rising c.loop-a.a few below c.loop-a.invariant)
