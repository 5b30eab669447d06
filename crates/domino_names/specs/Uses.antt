-- The uses of names in a program, in text order: the target of an assignment before its right side, the
-- packet's name before the field's, and the name of an array or a hash function before what stands in the
-- brackets.
use Rattle.std.specs.Prelude.{ℕ, List, [], ◌∷◌, ◌++◌, length, flat_map, map, Option, Some, None}
use Rattle.domino_tree.specs.declared.expr.Expr.{Expr, fold-Expr}
use Rattle.domino_tree.specs.declared.expr.Expr.TheOpen.{Expr-F}
use Rattle.domino_tree.specs.declared.program.Size.{Size}
use Rattle.domino_tree.specs.declared.program.Size.TheVariants as size
use Rattle.domino_tree.specs.declared.program.Start.{Start}
use Rattle.domino_tree.specs.declared.program.Start.TheVariants as start
use Rattle.domino_tree.specs.declared.program.Item.{Item}
use Rattle.domino_tree.specs.declared.program.Item.TheVariants as item
use Rattle.domino_tree.specs.declared.program.Target.{Target}
use Rattle.domino_tree.specs.declared.program.Target.TheVariants as target
use Rattle.domino_tree.specs.declared.program.Stmt.{Stmt, fold-Stmt}
use Rattle.domino_tree.specs.declared.program.Stmt.TheOpen as open_form
use Rattle.domino_tree.specs.declared.program.Arm.{Arm, fold-Arm}
use Rattle.domino_tree.specs.declared.program.Function.{Function}
use Rattle.domino_tree.specs.declared.program.Program.{Program}
use Rattle.domino_names.specs.declared.role.Role.{Role}
use Rattle.domino_names.specs.declared.role.Role.TheVariants as role

-- a name, and what it is used as
pub record Use : Type 0 where
  pub name : List ℕ
  pub role : Role

-- these lists, one after another
abbrev pub joined : List (List Use) → List Use
joined lists = flat_map (λ (uses : List Use). uses) lists

-- a use alone
abbrev pub one_use : List ℕ → Role → List Use
one_use name role = record { name = name; role = role } ∷ []

-- the packet's name, and the field's
abbrev pub field_uses : List ℕ → List ℕ → List Use
field_uses p f = record { name = p; role = role.Packet } ∷ record { name = f; role = role.Field } ∷ []

-- the uses in a form, from those in its operands
abbrev pub using : Expr-F (List Use) → List Use
using (Expr-F.Number n) = []
using (Expr-F.Word w) = one_use w role.Value
using (Expr-F.Field p f) = field_uses p f
using (Expr-F.Cell a i) = one_use a role.Array ++ i
using (Expr-F.One op a) = a
using (Expr-F.Two op a b) = a ++ b
using (Expr-F.Pick c a b) = c ++ (a ++ b)
using (Expr-F.Call f args) = one_use f (role.Call (length args)) ++ joined args
using (Expr-F.Group a) = a

-- the uses in an expression
abbrev pub expr_uses : Expr → List Use
expr_uses = fold-Expr (List Use) using

-- the uses in a target
abbrev pub target_uses : Target → List Use
target_uses (target.Word w) = one_use w role.Target
target_uses (target.Field p f) = field_uses p f
target_uses (target.Cell a i) = one_use a role.Array ++ expr_uses i

-- the uses in the last block of a chain, from those in its statements
abbrev pub last_uses : Option (List (List Use)) → List Use
last_uses None = []
last_uses (Some body) = joined body

-- the uses in a statement, from those in its arms and blocks
abbrev pub stmt_using : open_form.Stmt-F (List Use) (List Use) → List Use
stmt_using (open_form.Stmt-F.Set t e) = target_uses t ++ expr_uses e
stmt_using (open_form.Stmt-F.If arms last) = joined arms ++ last_uses last

-- the uses in an arm, from those in its statements
abbrev pub arm_using : open_form.Arm-F (List Use) (List Use) → List Use
arm_using arm = expr_uses arm.cond ++ joined arm.body

-- the uses in a statement
abbrev pub stmt_uses : Stmt → List Use
stmt_uses = fold-Stmt (List Use) (List Use) stmt_using arm_using

-- the uses in an arm
abbrev pub arm_uses : Arm → List Use
arm_uses = fold-Arm (List Use) (List Use) stmt_using arm_using

-- a size that is a name
abbrev pub size_uses : Size → List Use
size_uses (size.Number n) = []
size_uses (size.Word w) = one_use w role.Size

-- a length that is a name
abbrev pub length_uses : Option Size → List Use
length_uses None = []
length_uses (Some s) = size_uses s

-- a start value that is a name
abbrev pub start_uses : Start → List Use
start_uses start.Absent = []
start_uses (start.Plain s) = size_uses s
start_uses (start.Braced s) = size_uses s

-- the uses in a declaration: those in its length, and then those in its start value
abbrev pub item_uses : Item → List Use
item_uses (item.Define name value) = []
item_uses (item.Array name length start) = length_uses length ++ start_uses start

-- the uses in the function: the type of its packet, and then those in its body
abbrev pub function_uses : Function → List Use
function_uses f = one_use f.of role.Struct ++ joined (map stmt_uses f.body)

-- the uses in a program
abbrev pub uses_of : Program → List Use
uses_of p = flat_map item_uses p.before ++ (flat_map item_uses p.after ++ function_uses p.function)
