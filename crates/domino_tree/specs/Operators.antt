-- The signs and the operators, each in one table: how a sign is written and what it does to the weight of tokens, which
-- sign writes an operator, and how tight an operator between two expressions binds.
use Rattle.std.specs.Prelude.{ℕ, Bool, List, [], ◌∷◌, codes, Option}
use Rattle.std.specs.List.{find}
use denote.Enum.Bare.{sameb}
use Rattle.mp5_words.specs.declared.op.Op1.{Op1}
use Rattle.mp5_words.specs.declared.op.Op1.TheVariants as one
use Rattle.mp5_words.specs.declared.op.Op2.{Op2}
use Rattle.mp5_words.specs.declared.op.Op2.TheVariants as two
use Rattle.domino_tree.specs.contracts.token.Sign.{the_type as sign_type}
use Rattle.domino_tree.specs.declared.token.Sign.{Sign}
use Rattle.domino_tree.specs.declared.token.Sign.TheVariants as sign
use Rattle.domino_tree.specs.declared.token.Effect.{Effect}
use Rattle.domino_tree.specs.declared.token.Effect.TheVariants as effect

-- `==` on signs
abbrev pub same_sign : Sign → Sign → Bool
same_sign = sameb sign_type

-- ---- signs

-- a sign's bytes, and what it does to the weight
pub record Written : Type 0 where
  pub text : List ℕ
  pub effect : Effect

abbrev pub written_as : List ℕ → Effect → Written
written_as text what = record { text = text; effect = what }

-- the table of signs
abbrev pub sign_row : Sign → Written
sign_row sign.ShiftLeft = written_as (codes "<<") effect.Counts
sign_row sign.ShiftRight = written_as (codes ">>") effect.Counts
sign_row sign.LessEqual = written_as (codes "<=") effect.Counts
sign_row sign.GreaterEqual = written_as (codes ">=") effect.Counts
sign_row sign.Equal = written_as (codes "==") effect.Counts
sign_row sign.NotEqual = written_as (codes "!=") effect.Counts
sign_row sign.AndAnd = written_as (codes "&&") effect.Counts
sign_row sign.OrOr = written_as (codes "||") effect.Counts
sign_row sign.Plus = written_as (codes "+") effect.Counts
sign_row sign.Minus = written_as (codes "-") effect.Counts
sign_row sign.Star = written_as (codes "*") effect.Counts
sign_row sign.Slash = written_as (codes "/") effect.Counts
sign_row sign.Percent = written_as (codes "%") effect.Counts
sign_row sign.Less = written_as (codes "<") effect.Counts
sign_row sign.Greater = written_as (codes ">") effect.Counts
sign_row sign.Ampersand = written_as (codes "&") effect.Counts
sign_row sign.Caret = written_as (codes "^") effect.Counts
sign_row sign.Bar = written_as (codes "|") effect.Counts
sign_row sign.Bang = written_as (codes "!") effect.Counts
sign_row sign.Tilde = written_as (codes "~") effect.Counts
sign_row sign.Assign = written_as (codes "=") effect.Keeps
sign_row sign.Question = written_as (codes "?") effect.Counts
sign_row sign.Colon = written_as (codes ":") effect.Keeps
sign_row sign.Semicolon = written_as (codes ";") effect.Clears
sign_row sign.Comma = written_as (codes ",") effect.Keeps
sign_row sign.Dot = written_as (codes ".") effect.Keeps
sign_row sign.OpenRound = written_as (codes "(") effect.Opens
sign_row sign.CloseRound = written_as (codes ")") effect.Closes
sign_row sign.OpenSquare = written_as (codes "[") effect.Opens
sign_row sign.CloseSquare = written_as (codes "]") effect.Closes
sign_row sign.OpenCurly = written_as (codes "{") effect.Opens
sign_row sign.CloseCurly = written_as (codes "}") effect.Closes

-- all signs, a longer one before each that begins it
abbrev pub signs : List Sign
signs =
    sign.ShiftLeft ∷ sign.ShiftRight ∷ sign.LessEqual ∷ sign.GreaterEqual ∷ sign.Equal ∷ sign.NotEqual ∷ sign.AndAnd ∷ sign.OrOr
    ∷ sign.Plus ∷ sign.Minus ∷ sign.Star ∷ sign.Slash ∷ sign.Percent ∷ sign.Less ∷ sign.Greater ∷ sign.Ampersand ∷ sign.Caret
    ∷ sign.Bar ∷ sign.Bang ∷ sign.Tilde ∷ sign.Assign ∷ sign.Question ∷ sign.Colon ∷ sign.Semicolon ∷ sign.Comma ∷ sign.Dot
    ∷ sign.OpenRound ∷ sign.CloseRound ∷ sign.OpenSquare ∷ sign.CloseSquare ∷ sign.OpenCurly ∷ sign.CloseCurly ∷ []

-- the bytes of a sign
abbrev pub sign_text : Sign → List ℕ
sign_text s = (sign_row s).text

-- ---- operators before an expression

-- the table of operators before an expression: the sign that writes each
abbrev pub sign_before : Op1 → Sign
sign_before one.Neg = sign.Minus
sign_before one.Not = sign.Bang
sign_before one.Flip = sign.Tilde

-- all of them
abbrev pub operators_before : List Op1
operators_before = one.Neg ∷ one.Not ∷ one.Flip ∷ []

-- the operator that a sign writes before an expression
abbrev pub operator_before : Sign → Option Op1
operator_before s = find (λ op. same_sign (sign_before op) s) operators_before

-- ---- operators between two expressions

-- the sign that writes an operator, and its level: from the loosest, 1, to the tightest, 10
pub record Infix : Type 0 where
  pub sign : Sign
  pub level : ℕ

abbrev pub infix_at : ℕ → Sign → Infix
infix_at level s = record { sign = s; level = level }

-- the table of operators between two expressions
abbrev pub operator_row : Op2 → Infix
operator_row two.Or = infix_at 1 sign.OrOr
operator_row two.And = infix_at 2 sign.AndAnd
operator_row two.BitOr = infix_at 3 sign.Bar
operator_row two.BitXor = infix_at 4 sign.Caret
operator_row two.BitAnd = infix_at 5 sign.Ampersand
operator_row two.Eq = infix_at 6 sign.Equal
operator_row two.Ne = infix_at 6 sign.NotEqual
operator_row two.Lt = infix_at 7 sign.Less
operator_row two.Le = infix_at 7 sign.LessEqual
operator_row two.Gt = infix_at 7 sign.Greater
operator_row two.Ge = infix_at 7 sign.GreaterEqual
operator_row two.Shl = infix_at 8 sign.ShiftLeft
operator_row two.Shr = infix_at 8 sign.ShiftRight
operator_row two.Add = infix_at 9 sign.Plus
operator_row two.Sub = infix_at 9 sign.Minus
operator_row two.Mul = infix_at 10 sign.Star
operator_row two.Div = infix_at 10 sign.Slash
operator_row two.Rem = infix_at 10 sign.Percent

-- all of them
abbrev pub operators : List Op2
operators =
    two.Or ∷ two.And ∷ two.BitOr ∷ two.BitXor ∷ two.BitAnd ∷ two.Eq ∷ two.Ne ∷ two.Lt ∷ two.Le ∷ two.Gt ∷ two.Ge
    ∷ two.Shl ∷ two.Shr ∷ two.Add ∷ two.Sub ∷ two.Mul ∷ two.Div ∷ two.Rem ∷ []

-- the sign that writes an operator
abbrev pub sign_of : Op2 → Sign
sign_of op = (operator_row op).sign

-- the level of an operator
abbrev pub level : Op2 → ℕ
level op = (operator_row op).level

-- the operator that a sign writes between two expressions
abbrev pub operator_between : Sign → Option Op2
operator_between s = find (λ op. same_sign (sign_of op) s) operators
