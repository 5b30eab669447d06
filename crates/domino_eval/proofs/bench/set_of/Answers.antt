use Rattle.std.proofs.Common.{◌<◌, arith}
use Rattle.std.proofs.lemmas.List.{length-map}
use Rattle.std.specs.Prelude.{is_some}
use Rattle.domino_eval.specs.Places.{marks}
use Rattle.domino_eval.proofs.EvalLemmas.{bits_fit, bit_le}
use Rattle.domino_eval.proofs.PlaceLemmas.{bits_more}
use Rattle.domino_eval.proofs.bench.set_of.Goals as goal

pub overflow_mul-set : goal.overflow_mul-set
overflow_mul-set c =
    let small : c.loop-k.set < 32768 = bits_fit (marks c.args.places.now) c.loop-k.k c.loop-k.set (omega (arith, length-map c.args.places.now is_some, c.requires)) (omega (arith, length-map c.args.places.now is_some, c.loop-k-test.true)) c.loop-k.invariant in
    omega arith

pub overflow_add-set : goal.overflow_add-set
overflow_add-set c =
    let small : c.loop-k.set < 32768 = bits_fit (marks c.args.places.now) c.loop-k.k c.loop-k.set (omega (arith, length-map c.args.places.now is_some, c.requires)) (omega (arith, length-map c.args.places.now is_some, c.loop-k-test.true)) c.loop-k.invariant in
    omega (arith, bit_le c.is_some.result, c.from.ensures)

pub loop-k-preserved : goal.loop-k-preserved
loop-k-preserved c = bits_more c.args.places.now c.loop-k.k c.loop-k.set c.from.result c.is_some.result c.loop-k-test.true c.loop-k.invariant c.is_some.ensures c.from.ensures
