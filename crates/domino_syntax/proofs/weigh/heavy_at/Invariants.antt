use Rattle.std.proofs.Common.{◌≡◌, [], take, true}
use Rattle.std.specs.List.{fold}
use Rattle.domino_tree.specs.Weight.{after_token, is_light}
use Rattle.domino_syntax.proofs.weigh.heavy_at.Given as goal

abbrev pub invariant-loop-i : goal.invariant-loop-i
invariant-loop-i l = record { light : is_light (take l.i l.tokens) ≡ true; counted : l.counters ≡ fold after_token [] (take l.i l.tokens) }
