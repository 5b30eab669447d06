-- the signs of each byte up to this one are found
use Rattle.std.proofs.Common.{◌≡◌, map}
use Rattle.std.specs.List.{range_with_len}
use Rattle.domino_syntax.specs.SignIndex.{signs_with}
use Rattle.domino_syntax.proofs.signs.SignIndex.new.Given as goal

abbrev pub invariant-loop-first : goal.invariant-loop-first
invariant-loop-first l = map (λ signs. signs.items) l.by_first.items ≡ map signs_with (range_with_len 0 l.first)
