-- chains stand less deep in a block than beside it, and an arm's block as deep as its chain
use Rattle.std.proofs.Common.{◌+◌, ◌*◌}
use Rattle.made_bodies.proofs.maker.Maker.+block.Given as goal

abbrev pub decreases-block : goal.decreases-block
decreases-block l = 2 * l.depth

abbrev pub decreases-chain : goal.decreases-chain
decreases-chain l = 2 * l.depth + 1
