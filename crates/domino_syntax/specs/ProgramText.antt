-- Which texts are read, and to which program; and which are refused, and why.
use Rattle.std.specs.Prelude.{◌≡◌, ◌≢◌, ◌<◌, ◌≤◌, ℕ, true, List, length, Result, Ok, Err}
use Rattle.domino_tree.specs.declared.token.Token.{Token}
use Rattle.domino_tree.specs.declared.program.Program.{Program}
use Rattle.domino_tree.specs.Derives.{Derives}
use Rattle.domino_tree.specs.Weight.{is_light}
use Rattle.domino_syntax.specs.declared.limits.TheConstants.{MAX_TEXT}
use Rattle.domino_syntax.specs.declared.fault.TextFault.{TextFault}
use Rattle.domino_syntax.specs.declared.fault.TextFault.TheVariants as fault
use Rattle.domino_syntax.specs.Pieces.{ArePieces, IsBadAt}
use Rattle.domino_syntax.specs.Weighing.{IsHeavyAt}
use Rattle.domino_syntax.specs.Stuck.{IsStuckAt}

-- the text has at most 65,536 bytes, and is white space, comments and these tokens to its end
pub record HasTokens (text : List ℕ) (tokens : List Token) : Type 0 where
  pub short : length text ≤ MAX_TEXT
  pub pieces : ArePieces text tokens

-- the text has tokens whose weight never exceeds 64, and the grammar derives them to the program
pub record IsProgramText (text : List ℕ) (program : Program) : Type 0 where
  pub tokens : List Token
  pub cuts : HasTokens text tokens
  pub light : is_light tokens ≡ true
  pub derived : Derives tokens program

-- the text has tokens, and the first n weigh at most 64 throughout, but not with the next one
pub record IsHeavyText (text : List ℕ) (n : ℕ) : Type 0 where
  pub tokens : List Token
  pub cuts : HasTokens text tokens
  pub heavy : IsHeavyAt tokens n

-- the text has tokens whose weight never exceeds 64, and the grammar gets as far as the first n
pub record IsStuckText (text : List ℕ) (n : ℕ) : Type 0 where
  pub tokens : List Token
  pub cuts : HasTokens text tokens
  pub light : is_light tokens ≡ true
  pub stuck : IsStuckAt tokens n

-- the text is refused for this, and for nothing that is judged before it; want of memory is no refusal of a
-- text
abbrev pub Refuses : List ℕ → TextFault → Type 0
Refuses text (fault.TooLong n) = (n ≡ length text) × (MAX_TEXT < n)
Refuses text (fault.BadToken at) = (length text ≤ MAX_TEXT) × IsBadAt text at
Refuses text (fault.TooDeep n) = IsHeavyText text n
Refuses text (fault.Syntax n) = IsStuckText text n
Refuses text fault.NoMemory = ⊥

-- the answer is this program, or memory ran out
abbrev pub IsReadAs : Result Program TextFault → Program → Type 0
IsReadAs (Ok q) p = q ≡ p
IsReadAs (Err e) p = e ≡ fault.NoMemory

-- the answer is this refusal, or memory ran out
abbrev pub IsRefusedFor : Result Program TextFault → TextFault → Type 0
IsRefusedFor (Ok q) f = ⊥
IsRefusedFor (Err e) f = e ≢ fault.NoMemory → e ≡ f
