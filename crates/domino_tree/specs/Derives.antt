-- The grammar as a relation between a token list and the four parts of a program. Only a value in an item has
-- two spellings: a number, or `-` and a number. All else has the tokens of its forms, one after another. The
-- weight has no part in it: the type of programs keeps the parts whose canonical tokens are light and whose
-- numbers have 32 bits.
use Rattle.std.specs.Prelude.{◌≡◌, ◌⊎◌, ℕ, ℤ, true, Option, List, [], ◌∷◌, ◌++◌}
use Rattle.mp5_words.specs.Words.{op1}
use Rattle.mp5_words.specs.declared.op.Op1.TheVariants.{Neg}
use Rattle.domino_tree.specs.declared.token.Token.{Token}
use Rattle.domino_tree.specs.declared.token.Token.TheVariants as token
use Rattle.domino_tree.specs.declared.token.Sign.TheVariants as sign
use Rattle.domino_tree.specs.declared.program.Size.{Size}
use Rattle.domino_tree.specs.declared.program.Size.TheVariants as size
use Rattle.domino_tree.specs.declared.program.Start.{Start}
use Rattle.domino_tree.specs.declared.program.Start.TheVariants as start
use Rattle.domino_tree.specs.declared.program.Item.{Item}
use Rattle.domino_tree.specs.declared.program.Item.TheVariants as item
use Rattle.domino_tree.specs.declared.program.PacketDecl.{PacketDecl}
use Rattle.domino_tree.specs.declared.program.Function.{Function}
use Rattle.domino_tree.specs.declared.program.Program.{Program}
use Rattle.domino_tree.specs.Grammar.{declaration, length_tokens, in_curly, packet_tokens, function_tokens, is_program}

-- `-` and a number, which stand for the negated word
pub record IsNegated (tokens : List Token) (value : ℤ) : Type 0 where
  pub number : ℤ
  pub spells : tokens ≡ token.Sign sign.Minus ∷ token.Number number ∷ []
  pub negates : value ≡ op1 Neg number

-- a value: a number, or a negated one
abbrev pub IsValue : List Token → ℤ → Type 0
IsValue tokens value = (tokens ≡ token.Number value ∷ []) ⊎ IsNegated tokens value

-- an entry of a start value: a value, or a name
abbrev pub IsEntry : List Token → Size → Type 0
IsEntry tokens (size.Number n) = IsValue tokens n
IsEntry tokens (size.Word w) = tokens ≡ token.Name w ∷ []

-- `=` and an entry
pub record IsPlain (tokens : List Token) (entry : Size) : Type 0 where
  pub inner : List Token
  pub spells : tokens ≡ token.Sign sign.Assign ∷ inner
  pub entered : IsEntry inner entry

-- `=` and an entry in braces
pub record IsBraced (tokens : List Token) (entry : Size) : Type 0 where
  pub inner : List Token
  pub spells : tokens ≡ token.Sign sign.Assign ∷ in_curly inner
  pub entered : IsEntry inner entry

-- the start value of a declaration, or nothing
abbrev pub IsStart : List Token → Start → Type 0
IsStart tokens start.Absent = tokens ≡ []
IsStart tokens (start.Plain entry) = IsPlain tokens entry
IsStart tokens (start.Braced entry) = IsBraced tokens entry

-- `#define`, a name, and a value
pub record IsDefine (tokens : List Token) (name : List ℕ) (value : ℤ) : Type 0 where
  pub inner : List Token
  pub spells : tokens ≡ token.Define ∷ token.Name name ∷ inner
  pub valued : IsValue inner value

-- `int`, a name, the length, the start value, `;`
pub record IsArray (tokens : List Token) (name : List ℕ) (length : Option Size) (start : Start) : Type 0 where
  pub inner : List Token
  pub spells : tokens ≡ declaration name (length_tokens length ++ inner)
  pub started : IsStart inner start

-- the tokens of one item
abbrev pub IsItem : List Token → Item → Type 0
IsItem tokens (item.Define name value) = IsDefine tokens name value
IsItem tokens (item.Array name length start) = IsArray tokens name length start

-- the tokens of items, one after another
pub data AreItems : List Token → List Item → Type 0 where
  none : AreItems [] []
  more : (front : List Token) (first : Item) (back : List Token) (others : List Item) → IsItem front first → AreItems back others → AreItems (front ++ back) (first ∷ others)

-- the grammar derives these tokens to these parts: items, the struct, items, the function, each a form that
-- may stand where it stands
pub record Parts (tokens : List Token) (before : List Item) (packet : PacketDecl) (after : List Item) (function : Function) : Type 0 where
  pub front : List Token
  pub middle : List Token
  pub spells : tokens ≡ front ++ (packet_tokens packet ++ (middle ++ function_tokens function))
  pub items_before : AreItems front before
  pub items_after : AreItems middle after
  pub stands : is_program before packet after function ≡ true

-- the four parts as one, whatever they weigh
pub record Tree : Type 0 where
  pub before : List Item
  pub packet : PacketDecl
  pub after : List Item
  pub function : Function

-- the grammar derives these tokens to this tree
abbrev pub DerivesTree : List Token → Tree → Type 0
DerivesTree tokens tree = Parts tokens tree.before tree.packet tree.after tree.function

-- the grammar derives these tokens to this program
abbrev pub Derives : List Token → Program → Type 0
Derives tokens program = Parts tokens program.before program.packet program.after program.function

-- the grammar derives some tokens that begin so
pub record Begins (start : List Token) : Type 0 where
  pub more : List Token
  pub before : List Item
  pub packet : PacketDecl
  pub after : List Item
  pub function : Function
  pub derived : Parts (start ++ more) before packet after function
