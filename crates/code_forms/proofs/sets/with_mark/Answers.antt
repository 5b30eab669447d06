use Rattle.std.proofs.Common.{◌≡◌, ◌<◌, ◌+◌, ◌*◌, ◌^◌, ◌%◌, true, slice_set, arith}
use Rattle.mp5_words.specs.Cells.{bits}
use Rattle.code_forms.proofs.SetLemmas.{added_bit, added_fits}
use Rattle.code_forms.proofs.sets.with_mark.Goals as goal

number : (c : goal.After-from) → c.args.set + (c.from.result * 2 ^ c.args.place) % 65536 ≡ bits (slice_set c.args.marks.now c.args.place true)
number c = added_bit c.args.marks.now c.args.set c.args.place c.from.result _ c.told-marks c.if-place-ge16.false c.requires c.from.ensures

pub overflow_add-result : goal.overflow_add-result
overflow_add-result c =
    let fits : c.args.set + (c.from.result * 2 ^ c.args.place) % 65536 < 65536 = added_fits c.args.marks.now _ c.args.place c.told-marks (number c) in
    omega (arith, fits)

pub returns-clause-set : goal.returns-clause-set
returns-clause-set c = added_bit c.args.marks.now c.args.set c.args.place c.from.result _ c.told-marks c.if-place-ge16.false c.requires c.from.ensures
