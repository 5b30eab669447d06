-- The parser of expressions as functions on token lists. A level of operators is read by the levels below it:
-- the lowest, with none below, are the operators before an expression and the forms without operators; ten
-- levels of operators between two are above it, and `c ? a : b` above all.
use Rattle.std.specs.Prelude.{ℕ, zero, suc, ◌-◌, Bool, false, if◌then◌else◌, nat_eq, List, [], Option, Some, None, Err}
use Rattle.mp5_words.specs.declared.op.Op1.{Op1}
use Rattle.mp5_words.specs.declared.op.Op2.{Op2}
use Rattle.domino_tree.specs.declared.token.Token.{Token}
use Rattle.domino_tree.specs.declared.token.Token.TheVariants as token
use Rattle.domino_tree.specs.declared.token.Sign.{Sign}
use Rattle.domino_tree.specs.declared.token.Sign.TheVariants as signs
use Rattle.domino_tree.specs.declared.expr.Expr.{Expr}
use Rattle.domino_tree.specs.declared.expr.Expr.TheVariants as expr
use Rattle.domino_tree.specs.Operators.{level, operator_before, operator_between}
use Rattle.domino_syntax.specs.Parsers.{Parser, one, sees, ◌>>=◌, ◌>>◌, pure, choice, going_on, adding, sign, name, number, sees_sign, sees_number}

-- ---- operators

-- an operator, where it is of this level
abbrev pub of_level : ℕ → Option Op2 → Option Op2
of_level k None = None
of_level k (Some op) = if nat_eq (level op) k then Some op else None

-- an operator before an expression
abbrev pub a_unary : Token → Option Op1
a_unary (token.Name w) = None
a_unary (token.Keyword k) = None
a_unary token.Define = None
a_unary (token.Number n) = None
a_unary (token.Sign s) = operator_before s

-- an operator of this level
abbrev pub a_binary : ℕ → Token → Option Op2
a_binary k (token.Name w) = None
a_binary k (token.Keyword l) = None
a_binary k token.Define = None
a_binary k (token.Number n) = None
a_binary k (token.Sign s) = of_level k (operator_between s)

-- whether a level, where there is one, is this one
abbrev pub is_level : ℕ → Option ℕ → Bool
is_level k None = false
is_level k (Some l) = nat_eq l k

-- the level of the operator that the next token writes between two expressions
abbrev pub level_of : Option Op2 → Option ℕ
level_of None = None
level_of (Some op) = Some (level op)

abbrev pub level_at : Token → Option ℕ
level_at (token.Name w) = None
level_at (token.Keyword l) = None
level_at token.Define = None
level_at (token.Number n) = None
level_at (token.Sign s) = level_of (operator_between s)

abbrev pub next_level : Option Token → Option ℕ
next_level None = None
next_level (Some t) = level_at t

unfoldable pub unary : Parser Op1
unary = one a_unary

unfoldable pub binary : ℕ → Parser Op2
binary k = one (a_binary k)

-- ---- forms without operators

-- an expression in brackets of one kind
unfoldable pub bracketed : Parser Expr → Sign → Sign → Parser Expr
bracketed inner opening closing = do
  sign opening
  e ← inner
  sign closing
  pure e

-- one argument more, behind a `,`
unfoldable pub argument : Parser Expr → Parser Expr
argument inner = sign signs.Comma >> inner

-- arguments with `,` between them, up to the bracket that closes them
unfoldable pub arguments : Parser Expr → Parser (List Expr)
arguments inner =
    choice (sees_sign signs.CloseRound) (pure []) (adding inner [] >>= going_on (λ _. sees_sign signs.Comma) (adding (argument inner)))

-- `.`, and the field's name
unfoldable pub field : List ℕ → Parser Expr
field w = sign signs.Dot >> (name >>= (λ f. pure (expr.Field w f)))

-- an index in square brackets
unfoldable pub cell : Parser Expr → List ℕ → Parser Expr
cell inner w = bracketed inner signs.OpenSquare signs.CloseSquare >>= (λ i. pure (expr.Cell w i))

-- arguments in round brackets
unfoldable pub call : Parser Expr → List ℕ → Parser Expr
call inner w = do
  sign signs.OpenRound
  args ← arguments inner
  sign signs.CloseRound
  pure (expr.Call w args)

-- what is behind a name: a field, an index, arguments, or nothing
unfoldable pub behind_name : Parser Expr → List ℕ → Parser Expr
behind_name inner w =
    choice (sees_sign signs.Dot) (field w)
    (choice (sees_sign signs.OpenSquare) (cell inner w)
    (choice (sees_sign signs.OpenRound) (call inner w)
    (pure (expr.Word w))))

-- a name and what is behind it
unfoldable pub named : Parser Expr → Parser Expr
named inner = name >>= behind_name inner

-- a number, an expression in round brackets, or what begins with a name
unfoldable pub primary : Parser Expr → Parser Expr
primary inner =
    choice sees_number (number >>= (λ n. pure (expr.Number n)))
    (choice (sees_sign signs.OpenRound) (bracketed inner signs.OpenRound signs.CloseRound >>= (λ e. pure (expr.Group e)))
    (named inner))

-- ---- operators on expressions

-- an operator and its operand, or a form without operators
unfoldable pub operand : Parser Expr → Parser Expr → Parser Expr
operand tight inner =
    choice (sees a_unary) (unary >>= (λ op. tight >>= (λ a. pure (expr.One op a)))) (primary inner)

-- one operator of a level more, and what stands on its right
unfoldable pub joined : Parser Expr → ℕ → Expr → Parser Expr
joined right k left = binary k >>= (λ op. right >>= (λ e. pure (expr.Two op left e)))

-- goes on from an expression by operators of a level
unfoldable pub chain : Parser Expr → ℕ → Expr → Parser Expr
chain right k = going_on (λ _. sees (a_binary k)) (joined right k)

-- `?`, an expression, `:` and an expression behind a condition, or nothing
unfoldable pub pick : Parser Expr → Expr → Parser Expr
pick inner c =
    choice (sees_sign signs.Question)
    (do
      sign signs.Question
      a ← inner
      sign signs.Colon
      b ← inner
      pure (expr.Pick c a b))
    (pure c)

-- how many levels are below `c ? a : b`
abbrev pub loosest : ℕ
loosest = 11

-- what is read behind an expression with so many levels below its own, where the expression may stand one
-- level above
abbrev pub behind_level : (ℕ → Parser Expr) → Parser Expr → ℕ → Expr → Parser Expr
behind_level within same j left = if nat_eq j 10 then pick (within loosest) left else chain same (10 - j) left

-- an expression with so many levels below its own; each form within it is read as `within` says
unfoldable pub tier : (ℕ → Parser Expr) → ℕ → Parser Expr
tier within zero = operand (within 0) (within loosest)
tier within (suc j) = tier within j >>= behind_level within (tier within j) j

-- an expression with so many levels below its own, and with fewer forms within forms than the first number
-- says; each form within another has fewer tokens
unfoldable pub expression_at : ℕ → ℕ → Parser Expr
expression_at zero below = λ tokens. Err tokens
expression_at (suc depth) below = tier (expression_at depth) below

-- any expression
abbrev pub expression : ℕ → Parser Expr
expression depth = expression_at depth loosest
