-- The parsers of statements, declarations and programs. A statement in a block is read by the same parser at
-- one depth less.
use Rattle.std.specs.Prelude.{ℕ, ℤ, zero, suc, Bool, ◌||◌, List, [], ◌∷◌, ◌++◌, length, Option, Some, None, Ok, Err}
use Rattle.mp5_words.specs.Words.{op1}
use Rattle.mp5_words.specs.declared.op.Op1.TheVariants.{Neg}
use Rattle.domino_tree.specs.declared.token.Token.{Token}
use Rattle.domino_tree.specs.declared.token.Keyword.TheVariants as keywords
use Rattle.domino_tree.specs.declared.token.Sign.TheVariants as signs
use Rattle.domino_tree.specs.declared.program.Size.{Size}
use Rattle.domino_tree.specs.declared.program.Size.TheVariants as sizes
use Rattle.domino_tree.specs.declared.program.Start.{Start}
use Rattle.domino_tree.specs.declared.program.Start.TheVariants as starts
use Rattle.domino_tree.specs.declared.program.Item.{Item}
use Rattle.domino_tree.specs.declared.program.Item.TheVariants as items_of
use Rattle.domino_tree.specs.declared.program.PacketDecl.{PacketDecl}
use Rattle.domino_tree.specs.declared.program.Target.{Target}
use Rattle.domino_tree.specs.declared.program.Target.TheVariants as targets
use Rattle.domino_tree.specs.declared.program.Stmt.{Stmt}
use Rattle.domino_tree.specs.declared.program.Stmt.TheVariants as stmt
use Rattle.domino_tree.specs.declared.program.Arm.{Arm}
use Rattle.domino_tree.specs.declared.program.Function.{Function}
use Rattle.domino_syntax.specs.Parsers.{Parser, ◌>>=◌, ◌>>◌, pure, choice, all_of, end, sign, keyword, define, name, number, sees_sign, sees_keyword, sees_define, sees_name}
use Rattle.domino_syntax.specs.ReadingExpressions.{expression}

-- ---- statements

-- a field, from the dot on
unfoldable pub dotted : List ℕ → Parser Target
dotted w = do
  sign signs.Dot
  f ← name
  pure (targets.Field w f)

-- a cell, from the square bracket on
unfoldable pub indexed : ℕ → List ℕ → Parser Target
indexed depth w = do
  sign signs.OpenSquare
  i ← expression depth
  sign signs.CloseSquare
  pure (targets.Cell w i)

-- what is written, from its first name on
unfoldable pub after_name : ℕ → List ℕ → Parser Target
after_name depth w = choice (sees_sign signs.Dot) (dotted w) (choice (sees_sign signs.OpenSquare) (indexed depth w) (pure (targets.Word w)))

-- what an assignment writes
unfoldable pub target : ℕ → Parser Target
target depth = name >>= after_name depth

-- a target, `=`, an expression, `;`
unfoldable pub assignment : ℕ → Parser Stmt
assignment depth = do
  to ← target depth
  sign signs.Assign
  value ← expression depth
  sign signs.Semicolon
  pure (stmt.Set to value)

-- whether a statement begins with the next token
abbrev pub begins_statement : Option Token → Bool
begins_statement next = sees_keyword keywords.If next || sees_name next

-- statements in braces
unfoldable pub block : Parser Stmt → Parser (List Stmt)
block statement = do
  sign signs.OpenCurly
  body ← all_of begins_statement statement
  sign signs.CloseCurly
  pure body

-- `if`, a condition in round brackets, and a block
unfoldable pub arm : ℕ → Parser Stmt → Parser Arm
arm depth statement = do
  keyword keywords.If
  sign signs.OpenRound
  cond ← expression depth
  sign signs.CloseRound
  body ← block statement
  pure (record { cond = cond; body = body })

-- a chain from the end of an arm on: nothing, or `else` and one arm more or the last block. The number bounds
-- how many arms there are.
unfoldable pub links : Parser Arm → Parser (List Stmt) → ℕ → List Arm → Parser Stmt
links another last zero arms tokens = Ok (stmt.If arms None, tokens)
links another last (suc n) arms tokens =
    choice (sees_keyword keywords.Else) (keyword keywords.Else >> choice (sees_keyword keywords.If) (another >>= (λ a. links another last n (arms ++ a ∷ []))) (last >>= (λ body. pure (stmt.If arms (Some body))))) (pure (stmt.If arms None)) tokens

-- arms with `else` between them, and the last block where there is one: each arm has a token
unfoldable pub conditional : ℕ → Parser Stmt → Parser Stmt
conditional depth statement = arm depth statement >>= (λ a tokens. links (arm depth statement) (block statement) (length tokens) (a ∷ []) tokens)

-- a chain or an assignment
unfoldable pub statement : ℕ → Parser Stmt
statement zero = λ tokens. Err tokens
statement (suc depth) = choice (sees_keyword keywords.If) (conditional depth (statement depth)) (assignment (suc depth))

-- ---- declarations

-- `-` and a number
unfoldable pub negated : Parser ℤ
negated = do
  sign signs.Minus
  n ← number
  pure (op1 Neg n)

-- a number, or a negated one
unfoldable pub value : Parser ℤ
value = choice (sees_sign signs.Minus) negated number

-- a defined name
unfoldable pub word : Parser Size
word = name >>= (λ w. pure (sizes.Word w))

-- an entry of a start value: a name, or a value
unfoldable pub entry : Parser Size
entry = choice sees_name word (value >>= (λ n. pure (sizes.Number n)))

-- a size: a name, or a number
unfoldable pub size : Parser Size
size = choice sees_name word (number >>= (λ n. pure (sizes.Number n)))

-- a length in square brackets
unfoldable pub bracketed : Parser (Option Size)
bracketed = do
  sign signs.OpenSquare
  s ← size
  sign signs.CloseSquare
  pure (Some s)

-- a length, or nothing
unfoldable pub cells : Parser (Option Size)
cells = choice (sees_sign signs.OpenSquare) bracketed (pure None)

-- an entry in braces
unfoldable pub braced : Parser Start
braced = do
  sign signs.OpenCurly
  e ← entry
  sign signs.CloseCurly
  pure (starts.Braced e)

-- an entry
unfoldable pub plain : Parser Start
plain = entry >>= (λ e. pure (starts.Plain e))

-- a start value, or nothing
unfoldable pub start : Parser Start
start = choice (sees_sign signs.Assign) (sign signs.Assign >> choice (sees_sign signs.OpenCurly) braced plain) (pure starts.Absent)

-- `#define`, a name, and a value
unfoldable pub definition : Parser Item
definition = do
  define
  w ← name
  n ← value
  pure (items_of.Define w n)

-- `int`, a name, the length, the start value, `;`
unfoldable pub register : Parser Item
register = do
  keyword keywords.Int
  w ← name
  length ← cells
  value ← start
  sign signs.Semicolon
  pure (items_of.Array w length value)

-- whether an item begins with the next token
abbrev pub begins_item : Option Token → Bool
begins_item next = sees_define next || sees_keyword keywords.Int next

-- a definition or a register
unfoldable pub item : Parser Item
item = choice sees_define definition register

-- the items before or after the struct
unfoldable pub items : Parser (List Item)
items = all_of begins_item item

-- `int`, a name, `;`
unfoldable pub field : Parser (List ℕ)
field = do
  keyword keywords.Int
  w ← name
  sign signs.Semicolon
  pure w

-- the fields of the packet
unfoldable pub fields : Parser (List (List ℕ))
fields = all_of (sees_keyword keywords.Int) field

-- `struct`, a name, the fields in braces, `;`
unfoldable pub packet : Parser PacketDecl
packet = do
  keyword keywords.Struct
  w ← name
  sign signs.OpenCurly
  names ← fields
  sign signs.CloseCurly
  sign signs.Semicolon
  pure (record { name = w; fields = names })

-- ---- programs

-- `void` and the function's names: its own, the struct's and the packet's
unfoldable pub head : Parser (List ℕ × List ℕ × List ℕ)
head = do
  keyword keywords.Void
  w ← name
  sign signs.OpenRound
  keyword keywords.Struct
  of ← name
  p ← name
  sign signs.CloseRound
  pure (w, of, p)

-- the function's head, and its statements in braces
unfoldable pub function : ℕ → Parser Function
function depth = do
  names ← head
  body ← block (statement depth)
  pure (record { name = names.0; of = names.1; packet = names.2; body = body })

-- the items, the struct, the items and the function, and no token after them
unfoldable pub parts : ℕ → Parser (List Item × PacketDecl × List Item × Function)
parts depth = do
  before ← items
  p ← packet
  after ← items
  f ← function depth
  end
  pure (before, p, after, f)
