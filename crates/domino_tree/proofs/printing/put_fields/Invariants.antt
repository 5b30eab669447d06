-- the declarations so far are written
use Rattle.std.proofs.Common.{◌≡◌, [], take, flat_map}
use Rattle.domino_tree.specs.Text.{written}
use Rattle.domino_tree.specs.Grammar.{declaration}
use Rattle.domino_tree.proofs.printing.put_fields.Given as goal

abbrev pub invariant-loop-field : goal.invariant-loop-field
invariant-loop-field l = l.out.items ≡ written l.initial.out.items (flat_map (λ name. declaration name []) (take l.field-index l.fields))
