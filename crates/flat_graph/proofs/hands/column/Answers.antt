-- one array more, and the array itself
use Rattle.std.proofs.Common.{◌≡◌, length-set, refl, arith}
use Rattle.flat_graph.proofs.HandLemmas.{column_more, column_marked}
use Rattle.flat_graph.proofs.hands.column.Goals as goal

pub loop-other-preserved : goal.loop-other-preserved
loop-other-preserved c = record {
  long = simp length-set c.loop-other.invariant.long;
  marks = λ b wb. column_more c.loop-other.row c.args.table.now c.args.array c.loop-other.other _ (omega (arith, c.loop-other.invariant.long, c.loop-other-test.true)) refl c.loop-other.invariant.marks b wb;
}

pub returns : goal.returns
returns c = λ b wb.
    let all : c.loop-other.other ≡ 16 = omega arith in
    column_marked c.loop-other.row c.args.table.now c.args.array b (omega (arith, c.loop-other.invariant.long, c.requires)) (c.loop-other.invariant.marks b (omega (arith, all, wb)))
