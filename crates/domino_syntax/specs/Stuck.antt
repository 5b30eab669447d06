-- The place of a syntax error.
use Rattle.std.specs.Prelude.{◌≡◌, ◌<◌, ◌≤◌, ℕ, ◌+◌, List, length, take}
use Rattle.domino_tree.specs.declared.token.Token.{Token}
use Rattle.domino_tree.specs.declared.program.Item.{Item}
use Rattle.domino_tree.specs.declared.program.PacketDecl.{PacketDecl}
use Rattle.domino_tree.specs.declared.program.Function.{Function}
use Rattle.domino_tree.specs.Derives.{Parts, Begins}
use Rattle.domino_syntax.specs.declared.fault.TextFault.{TextFault}
use Rattle.domino_syntax.specs.declared.fault.TextFault.TheVariants as fault

-- the first n tokens begin some list that the grammar derives, and with the next one they begin none; where
-- there is no next one, they are no whole list
pub record IsStuckAt (tokens : List Token) (n : ℕ) : Type 0 where
  pub within : n ≤ length tokens
  pub begins : Begins (take n tokens)
  pub stuck : n < length tokens → ¬ Begins (take (n + 1) tokens)
  pub unfinished : n ≡ length tokens → (before : List Item) (packet : PacketDecl) (after : List Item) (function : Function) → ¬ Parts tokens before packet after function

-- the tokens are refused at their place, unless memory ran out
abbrev pub Sticks : List Token → TextFault → Type 0
Sticks tokens (fault.Syntax n) = IsStuckAt tokens n
Sticks tokens (fault.TooLong n) = ⊥
Sticks tokens (fault.BadToken at) = ⊥
Sticks tokens (fault.TooDeep n) = ⊥
Sticks tokens fault.NoMemory = Unit {0}
