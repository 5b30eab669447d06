-- the arguments so far are in numbers, and their accesses in the list
use Rattle.std.proofs.Common.{◌≡◌, ◌++◌, map, flat_map, take}
use Rattle.domino_check.specs.Numbering.{Numbered, in_numbers}
use Rattle.domino_check.proofs.translation.+number_expr.Given as goal

abbrev pub invariant-number_args-loop-arg : goal.invariant-number_args-loop-arg
invariant-number_args-loop-arg l = record {
  trees : l.trees ≡ map (λ (a : Numbered). a.tree) (map (in_numbers l.scope) (take l.arg-index l.args));
  accesses : l.accesses.items ≡ l.initial.accesses.items ++ flat_map (λ (a : Numbered). a.accesses) (map (in_numbers l.scope) (take l.arg-index l.args));
}
