-- the uses in the arguments so far
use Rattle.std.proofs.Common.{◌≡◌, ◌++◌, map, take}
use Rattle.domino_names.specs.Uses.{joined, expr_uses}
use Rattle.domino_names.proofs.uses.+expression.Given as goal

abbrev pub invariant-push_args-loop-arg : goal.invariant-push_args-loop-arg
invariant-push_args-loop-arg l = l.out.items ≡ l.initial.out.items ++ joined (map expr_uses (take l.arg-index l.args))
