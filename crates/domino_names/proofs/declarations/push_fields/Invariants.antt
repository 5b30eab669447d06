-- the declarations of the fields so far
use Rattle.std.proofs.Common.{◌≡◌, ◌++◌, take}
use Rattle.domino_names.specs.Symbols.{field_symbols}
use Rattle.domino_names.proofs.declarations.push_fields.Given as goal

abbrev pub invariant-loop-place : goal.invariant-loop-place
invariant-loop-place l = l.out.items ≡ l.initial.out.items ++ field_symbols 0 (take l.place l.fields)
