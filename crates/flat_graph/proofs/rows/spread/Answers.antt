-- all arrays are passed
use Rattle.std.proofs.Common.{◌≡◌, ◌∙◌, ap, arith}
use Rattle.flat_graph.specs.Passes.{spread_to}
use Rattle.flat_graph.proofs.rows.spread.Goals as goal

pub returns : goal.returns
returns c = λ b wb.
    let all : c.loop-array.array ≡ 16 = omega arith in
    c.loop-array.invariant b wb ∙ ap (λ n. spread_to c.args.marks.now c.args.table.now n b) all
