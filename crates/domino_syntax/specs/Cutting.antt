-- What cutting a text into tokens ensures.
use Rattle.std.specs.Prelude.{ℕ, List, Result, Ok, Err}
use Rattle.domino_tree.specs.declared.token.Token.{Token}
use Rattle.domino_syntax.specs.declared.fault.TextFault.{TextFault}
use Rattle.domino_syntax.specs.declared.fault.TextFault.TheVariants as fault
use Rattle.domino_syntax.specs.Pieces.{ArePieces, IsBadAt}

-- the tokens of a text, seen by view, or the place up to which it is pieces, unless memory ran out
abbrev pub Cuts : {A : Type 0} → (A → List Token) → List ℕ → Result A TextFault → Type 0
Cuts view text (Ok list) = ArePieces text (view list)
Cuts view text (Err (fault.BadToken at)) = IsBadAt text at
Cuts view text (Err (fault.TooLong n)) = ⊥
Cuts view text (Err (fault.TooDeep n)) = ⊥
Cuts view text (Err (fault.Syntax n)) = ⊥
Cuts view text (Err fault.NoMemory) = Unit {0}
