use Rattle.std.proofs.Common.{◌≤◌, arith}
use Rattle.dependence.specs.Counts.{how_many}
use Rattle.dependence.specs.Levels.{links}
use Rattle.dependence.proofs.CountLemmas.{at_most}
use Rattle.dependence.proofs.LevelLemmas.{next_right, next_small, some_size, zero_at}
use Rattle.dependence.proofs.groups.levels.Goals as goal

pub loop-round-init : goal.loop-round-init
loop-round-init c = record {
  small = λ b w. let z = zero_at 16 b in omega (arith, z);
  right = λ a w few. absurd (some_size c.args.table.now a w few);
}

pub loop-round-preserved : goal.loop-round-preserved
loop-round-preserved c = record {
  small = next_small c.args.table.now c.requires.closed _ _ _ c.next_levels-levels.ensures c.loop-round.invariant.small;
  right = next_right c.args.table.now c.requires.closed _ _ _ c.next_levels-levels.ensures c.loop-round.invariant.right;
}

pub returns : goal.returns
returns c = λ a w. c.loop-round.invariant.right a w (let h : how_many (links c.args.table.now a) 16 ≤ 16 = at_most (links c.args.table.now a) 16 in omega arith)
