use Rattle.std.proofs.Common.{sym, ◌∙◌, true≢false, arith}
use Rattle.source_rows.proofs.MemberLemmas.{of_below}
use Rattle.source_rows.proofs.group_places.place.Goals as goal

pub returns-in_ok-unit : goal.returns-in_ok-unit
returns-in_ok-unit c =
    let told = c.some_open.ensures.told.0 c.if-some_open.true in
    let here = c.in_ok-marks.ensures told.0 (omega (arith, of_below c.args.groups.now.of c.args.group told.0 told.1, c.some_open.ensures.wide)) in
    ((told.0, told.1, sym here ∙ told.2), c.in_ok-unit.ensures)

pub returns-else-some_open : goal.returns-else-some_open
returns-else-some_open c = λ has.
    let here = c.in_ok-marks.ensures has.0 (omega (arith, of_below c.args.groups.now.of c.args.group has.0 has.1, c.some_open.ensures.wide)) in
    true≢false (sym (c.some_open.ensures.told.1 (has.0, has.1, here ∙ has.2)) ∙ c.if-some_open.false)
