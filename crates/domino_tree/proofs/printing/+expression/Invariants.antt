-- the arguments so far are written
use Rattle.std.proofs.Common.{◌≡◌, map, take}
use Rattle.domino_tree.specs.Text.{written}
use Rattle.domino_tree.specs.Grammar.{spelled, separated}
use Rattle.domino_tree.proofs.printing.+expression.Given as goal

abbrev pub invariant-put_args-loop-i : goal.invariant-put_args-loop-i
invariant-put_args-loop-i l = l.out.items ≡ written l.initial.out.items (separated (map spelled (take l.i l.args)))
