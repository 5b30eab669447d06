-- the declarations so far stand in the table, and nothing is amiss at them
use Rattle.std.proofs.Common.{◌≡◌, ◌++◌, map, take}
use Rattle.domino_names.specs.First.{NoFault}
use Rattle.domino_names.specs.Checks.{TwiceAt}
use Rattle.domino_names.specs.Symbols.{hash_symbols, declaration_of}
use Rattle.domino_names.proofs.name_checks.symbols_of.Given as goal

abbrev pub invariant-loop-declaration : goal.invariant-loop-declaration
invariant-loop-declaration l = record {
  held : l.symbols ≡ hash_symbols ++ take l.declaration-index l.declarations;
  fine : NoFault TwiceAt (take l.declaration-index (map declaration_of l.declarations));
}
