-- The grammar: which token lists it derives to which tree. A form's tokens are given by `spelled`, and
-- `stands` says where a form may stand. Levels go from the loosest to the tightest: 0 is `c ? a : b`, 1 to
-- 10 are the operators between two expressions, 11 is an operator before one, and all else stands anywhere.
-- Operators between two associate to the left: on the left stands an operand of their own level, on the
-- right one of the next.
use Rattle.std.specs.Prelude.{ℕ, suc, ℤ, pos, negsuc, Bool, true, false, not, nat_eq, nat_lt, ◌&&◌, ◌||◌, nat_le, List, [], ◌∷◌, ◌++◌, map, flat_map, codes, Option, Some, None}
use Rattle.std.specs.List.{list_all}
use Rattle.std.specs.Str.{bytes_eq}
use Rattle.std.specs.Char.{is_ascii_alphabetic, is_ascii_alphanumeric}
use Rattle.domino_tree.specs.Operators.{sign_before, sign_of, level}
use Rattle.domino_tree.specs.declared.token.Token.{Token}
use Rattle.domino_tree.specs.declared.token.Token.TheVariants as token
use Rattle.domino_tree.specs.declared.token.Keyword.TheVariants as keyword
use Rattle.domino_tree.specs.declared.token.Sign.TheVariants as sign
use Rattle.domino_tree.specs.declared.expr.Expr.{Expr, fold-Expr}
use Rattle.domino_tree.specs.declared.expr.Expr.TheOpen.{Expr-F}
use Rattle.domino_tree.specs.declared.program.Size.{Size}
use Rattle.domino_tree.specs.declared.program.Size.TheVariants as size
use Rattle.domino_tree.specs.declared.program.Start.{Start}
use Rattle.domino_tree.specs.declared.program.Start.TheVariants as start
use Rattle.domino_tree.specs.declared.program.Item.{Item}
use Rattle.domino_tree.specs.declared.program.Item.TheVariants as item
use Rattle.domino_tree.specs.declared.program.PacketDecl.{PacketDecl}
use Rattle.domino_tree.specs.declared.program.Target.{Target}
use Rattle.domino_tree.specs.declared.program.Target.TheVariants as target
use Rattle.domino_tree.specs.declared.program.Stmt.{Stmt, fold-Stmt}
use Rattle.domino_tree.specs.declared.program.Stmt.TheOpen as open_form
use Rattle.domino_tree.specs.declared.program.Arm.{Arm, fold-Arm}
use Rattle.domino_tree.specs.declared.program.Function.{Function}

-- ---- names

-- letters, digits and `_`
abbrev pub is_word_byte : ℕ → Bool
is_word_byte b = is_ascii_alphanumeric b || nat_eq b 95

-- one of the five names that the language keeps for itself
abbrev pub is_reserved : List ℕ → Bool
is_reserved name = bytes_eq name (codes "struct") || (bytes_eq name (codes "int") || (bytes_eq name (codes "void") || (bytes_eq name (codes "if") || bytes_eq name (codes "else"))))

-- a letter or `_`, then letters, digits and `_`, and no reserved name
unfoldable pub is_name : List ℕ → Bool
is_name [] = false
is_name (b ∷ bs) = (is_ascii_alphabetic b || nat_eq b 95) && (list_all is_word_byte bs && not (is_reserved (b ∷ bs)))

-- ---- numbers

-- a number of 32 bits
abbrev pub is_word : ℤ → Bool
is_word (pos n) = nat_lt n 2147483648
is_word (negsuc n) = nat_lt n 2147483648

-- where the token is a number, it has 32 bits
abbrev pub is_word_token : Token → Bool
is_word_token (token.Name w) = true
is_word_token (token.Keyword k) = true
is_word_token token.Define = true
is_word_token (token.Number n) = is_word n
is_word_token (token.Sign s) = true

-- each number among the tokens has 32 bits
abbrev pub are_words : List Token → Bool
are_words tokens = list_all is_word_token tokens

-- ---- expressions

-- tokens in a pair of brackets
abbrev pub in_round : List Token → List Token
in_round tokens = token.Sign sign.OpenRound ∷ (tokens ++ (token.Sign sign.CloseRound ∷ []))

abbrev pub in_square : List Token → List Token
in_square tokens = token.Sign sign.OpenSquare ∷ (tokens ++ (token.Sign sign.CloseSquare ∷ []))

abbrev pub in_curly : List Token → List Token
in_curly tokens = token.Sign sign.OpenCurly ∷ (tokens ++ (token.Sign sign.CloseCurly ∷ []))

-- statements in braces, from the tokens of each
abbrev pub block_tokens : List (List Token) → List Token
block_tokens statements = in_curly (flat_map (λ tokens. tokens) statements)

-- a `,` and one of the lists, for each of them
abbrev pub with_commas : List (List Token) → List Token
with_commas lists = flat_map (λ tokens. token.Sign sign.Comma ∷ tokens) lists

-- the lists with `,` between them
abbrev pub separated : List (List Token) → List Token
separated [] = []
separated (tokens ∷ lists) = tokens ++ with_commas lists

-- a name, `.`, and a name
abbrev pub field_tokens : List ℕ → List ℕ → List Token
field_tokens p f = token.Name p ∷ token.Sign sign.Dot ∷ token.Name f ∷ []

-- the tokens of a form, from those of its operands
abbrev pub spelling : Expr-F (List Token) → List Token
spelling (Expr-F.Number n) = token.Number n ∷ []
spelling (Expr-F.Word w) = token.Name w ∷ []
spelling (Expr-F.Field p f) = field_tokens p f
spelling (Expr-F.Cell a i) = token.Name a ∷ in_square i
spelling (Expr-F.One op a) = token.Sign (sign_before op) ∷ a
spelling (Expr-F.Two op a b) = a ++ (token.Sign (sign_of op) ∷ b)
spelling (Expr-F.Pick c a b) = c ++ (token.Sign sign.Question ∷ (a ++ (token.Sign sign.Colon ∷ b)))
spelling (Expr-F.Call f args) = token.Name f ∷ in_round (separated args)
spelling (Expr-F.Group a) = in_round a

-- the tokens of an expression
abbrev pub spelled : Expr → List Token
spelled = fold-Expr (List Token) spelling

-- whether a form may stand at level k, where each operand says at which levels it may stand: an index, an
-- argument and what stands in brackets is any expression
abbrev pub standing : Expr-F (ℕ → Bool) → ℕ → Bool
standing (Expr-F.Number n) k = true
standing (Expr-F.Word w) k = is_name w
standing (Expr-F.Field p f) k = is_name p && is_name f
standing (Expr-F.Cell a i) k = is_name a && i 0
standing (Expr-F.One op a) k = nat_le k 11 && a 11
standing (Expr-F.Two op a b) k = nat_le k (level op) && (a (level op) && b (suc (level op)))
standing (Expr-F.Pick c a b) k = nat_eq k 0 && (c 1 && (a 0 && b 0))
standing (Expr-F.Call f args) k = is_name f && list_all (λ a. a 0) args
standing (Expr-F.Group a) k = a 0

-- whether an expression may stand where one of a level is asked for
abbrev pub stands : Expr → ℕ → Bool
stands = fold-Expr (ℕ → Bool) standing

-- ---- statements

-- a register's name, a field, or a cell of an array
abbrev pub target_tokens : Target → List Token
target_tokens (target.Word w) = token.Name w ∷ []
target_tokens (target.Field p f) = field_tokens p f
target_tokens (target.Cell a i) = token.Name a ∷ in_square (spelled i)

-- each name in it is one, and the index is any expression
abbrev pub is_target : Target → Bool
is_target (target.Word w) = is_name w
is_target (target.Field p f) = is_name p && is_name f
is_target (target.Cell a i) = is_name a && stands i 0

-- `else` and one of the lists, for each of them
abbrev pub with_elses : List (List Token) → List Token
with_elses lists = flat_map (λ tokens. token.Keyword keyword.Else ∷ tokens) lists

-- the arms of a chain with `else` between them
abbrev pub chained : List (List Token) → List Token
chained [] = []
chained (arm ∷ arms) = arm ++ with_elses arms

-- the last block of a chain, from the tokens of its statements; nothing where there is none
abbrev pub last_block : Option (List (List Token)) → List Token
last_block None = []
last_block (Some body) = token.Keyword keyword.Else ∷ block_tokens body

-- an assignment: a target, `=`, an expression, `;`; or a chain
abbrev pub stmt_spelling : open_form.Stmt-F (List Token) (List Token) → List Token
stmt_spelling (open_form.Stmt-F.Set t e) = target_tokens t ++ (token.Sign sign.Assign ∷ (spelled e ++ (token.Sign sign.Semicolon ∷ [])))
stmt_spelling (open_form.Stmt-F.If arms last) = chained arms ++ last_block last

-- `if`, a condition in round brackets, and the statements in braces
abbrev pub arm_spelling : open_form.Arm-F (List Token) (List Token) → List Token
arm_spelling arm = token.Keyword keyword.If ∷ (in_round (spelled arm.cond) ++ block_tokens arm.body)

-- the tokens of a statement
abbrev pub stmt_tokens : Stmt → List Token
stmt_tokens = fold-Stmt (List Token) (List Token) stmt_spelling arm_spelling

-- the tokens of an arm
abbrev pub arm_tokens : Arm → List Token
arm_tokens = fold-Arm (List Token) (List Token) stmt_spelling arm_spelling

-- each of them holds
abbrev pub all_true : List Bool → Bool
all_true tests = list_all (λ test. test) tests

-- a chain has an arm
abbrev pub has_arm : List Bool → Bool
has_arm [] = false
has_arm (arm ∷ arms) = true

-- where there is a last block, each of its statements is one
abbrev pub is_last : Option (List Bool) → Bool
is_last None = true
is_last (Some body) = all_true body

-- any expression on the right of an assignment; a chain of arms that are ones
abbrev pub stmt_standing : open_form.Stmt-F Bool Bool → Bool
stmt_standing (open_form.Stmt-F.Set t e) = is_target t && stands e 0
stmt_standing (open_form.Stmt-F.If arms last) = has_arm arms && (all_true arms && is_last last)

-- any expression as the condition, and statements that are ones
abbrev pub arm_standing : open_form.Arm-F Bool Bool → Bool
arm_standing arm = stands arm.cond 0 && all_true arm.body

-- the grammar has this statement
abbrev pub is_stmt : Stmt → Bool
is_stmt = fold-Stmt Bool Bool stmt_standing arm_standing

-- the grammar has this arm
abbrev pub is_arm : Arm → Bool
is_arm = fold-Arm Bool Bool stmt_standing arm_standing

-- ---- declarations

-- a number without a sign, or a name
abbrev pub size_tokens : Size → List Token
size_tokens (size.Number n) = token.Number n ∷ []
size_tokens (size.Word w) = token.Name w ∷ []

-- a name in it is one
abbrev pub is_size : Size → Bool
is_size (size.Number n) = true
is_size (size.Word w) = is_name w

-- the length in square brackets, where there is one
abbrev pub length_tokens : Option Size → List Token
length_tokens None = []
length_tokens (Some s) = in_square (size_tokens s)

abbrev pub is_length : Option Size → Bool
is_length None = true
is_length (Some s) = is_size s

-- `=` and the start value, in braces or not, where there is one
abbrev pub start_tokens : Start → List Token
start_tokens start.Absent = []
start_tokens (start.Plain s) = token.Sign sign.Assign ∷ size_tokens s
start_tokens (start.Braced s) = token.Sign sign.Assign ∷ in_curly (size_tokens s)

abbrev pub is_start : Start → Bool
is_start start.Absent = true
is_start (start.Plain s) = is_size s
is_start (start.Braced s) = is_size s

-- `int`, a name, what follows the name, `;`
abbrev pub declaration : List ℕ → List Token → List Token
declaration name more = token.Keyword keyword.Int ∷ token.Name name ∷ (more ++ (token.Sign sign.Semicolon ∷ []))

-- `#define`, a name and its number; or a register's name with its length and its start value. Each number
-- is written without a sign: these are the canonical tokens.
abbrev pub item_tokens : Item → List Token
item_tokens (item.Define name value) = token.Define ∷ token.Name name ∷ token.Number value ∷ []
item_tokens (item.Array name length start) = declaration name (length_tokens length ++ start_tokens start)

-- each name in it is one
abbrev pub is_item : Item → Bool
is_item (item.Define name value) = is_name name
is_item (item.Array name length start) = is_name name && (is_length length && is_start start)

-- `struct`, a name, the fields in braces, `;`
abbrev pub packet_tokens : PacketDecl → List Token
packet_tokens p = token.Keyword keyword.Struct ∷ token.Name p.name ∷ (in_curly (flat_map (λ name. declaration name []) p.fields) ++ (token.Sign sign.Semicolon ∷ []))

-- the struct and each field have names
abbrev pub is_packet : PacketDecl → Bool
is_packet p = is_name p.name && list_all is_name p.fields

-- `void`, a name, `(struct T p)`, and the statements in braces
abbrev pub function_tokens : Function → List Token
function_tokens f = token.Keyword keyword.Void ∷ token.Name f.name ∷ (in_round (token.Keyword keyword.Struct ∷ token.Name f.of ∷ token.Name f.packet ∷ []) ++ block_tokens (map stmt_tokens f.body))

-- the function, its struct and its packet have names, and each statement is one
abbrev pub is_function : Function → Bool
is_function f = is_name f.name && (is_name f.of && (is_name f.packet && all_true (map is_stmt f.body)))

-- ---- programs

-- items, the struct, items, the function: the canonical tokens of a program
abbrev pub program_tokens : List Item → PacketDecl → List Item → Function → List Token
program_tokens before packet after function = flat_map item_tokens before ++ (packet_tokens packet ++ (flat_map item_tokens after ++ function_tokens function))

-- each part is one that may stand in a program
abbrev pub is_program : List Item → PacketDecl → List Item → Function → Bool
is_program before packet after function = list_all is_item before && (is_packet packet && (list_all is_item after && is_function function))
