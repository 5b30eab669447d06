use Rattle.std.proofs.Common.{◌<◌, arith, map, drop}
use Rattle.mp5_words.specs.Cells.{bits}
use Rattle.flat_graph.specs.Layouts.{is_of}
use Rattle.stage_packing.proofs.SetLemmas.{few_bits}
use Rattle.stage_packing.proofs.groups.set_of.Goals as goal

pub with_bit-set-requires : goal.with_bit-set-requires
with_bit-set-requires c = let h : bits (map (is_of c.args.group) (drop c.loop-array.array c.args.of.now)) < 32768 = few_bits (is_of c.args.group) c.args.of.now c.loop-array.array c.requires c.loop-array-test.true in omega (arith, h, c.loop-array.invariant)
