-- Trees in numbers that are well formed: each field and each array in them is one that there is, and each hash
-- has as many arguments as it takes. No array stands in an index.
use Rattle.std.specs.Prelude.{ℕ, Bool, true, ◌&&◌, nat_lt, nat_eq, List, length, Option, Some, None}
use Rattle.std.specs.List.{list_all}
use Rattle.mp5_words.specs.Words.{arity}
use Rattle.domino_tree.specs.Grammar.{all_true}
use Rattle.domino_check.specs.declared.numbered.CheckedExpr.{CheckedExpr, fold-CheckedExpr}
use Rattle.domino_check.specs.declared.numbered.CheckedExpr.TheOpen.{CheckedExpr-F}
use Rattle.domino_check.specs.declared.numbered.CheckedStmt.{CheckedStmt, fold-CheckedStmt}
use Rattle.domino_check.specs.declared.numbered.CheckedStmt.TheOpen as open_form
use Rattle.domino_check.specs.declared.numbered.CheckedArm.{CheckedArm, fold-CheckedArm}

-- ---- expressions

-- a form's field is one of so many, its array one of so many, its hash has as many arguments as it takes, and
-- its operands fit
abbrev pub fitting : ℕ → ℕ → CheckedExpr-F Bool → Bool
fitting fields arrays (CheckedExpr-F.Number n) = true
fitting fields arrays (CheckedExpr-F.Field f) = nat_lt f fields
fitting fields arrays (CheckedExpr-F.Cell a) = nat_lt a arrays
fitting fields arrays (CheckedExpr-F.One op a) = a
fitting fields arrays (CheckedExpr-F.Two op a b) = a && b
fitting fields arrays (CheckedExpr-F.Pick c a b) = c && (a && b)
fitting fields arrays (CheckedExpr-F.Hash kind args) = nat_eq (length args) (arity kind) && all_true args

-- whether an expression is well formed among so many fields and arrays
abbrev pub fits : ℕ → ℕ → CheckedExpr → Bool
fits fields arrays = fold-CheckedExpr Bool (fitting fields arrays)

-- whether an index is, where there is one; no array stands in it
abbrev pub index_fits : ℕ → Option CheckedExpr → Bool
index_fits fields None = true
index_fits fields (Some index) = fits fields 0 index

-- ---- statements

-- the last block of a chain, where there is one
abbrev pub last_fits : Option (List Bool) → Bool
last_fits None = true
last_fits (Some body) = all_true body

-- a statement, from its arms and blocks
abbrev pub stmt_fitting : ℕ → ℕ → open_form.CheckedStmt-F Bool Bool → Bool
stmt_fitting fields arrays (open_form.CheckedStmt-F.SetField f e) = nat_lt f fields && fits fields arrays e
stmt_fitting fields arrays (open_form.CheckedStmt-F.SetCell a e) = nat_lt a arrays && fits fields arrays e
stmt_fitting fields arrays (open_form.CheckedStmt-F.If arms last) = all_true arms && last_fits last

-- an arm, from its statements
abbrev pub arm_fitting : ℕ → ℕ → open_form.CheckedArm-F Bool Bool → Bool
arm_fitting fields arrays arm = fits fields arrays arm.cond && all_true arm.body

-- whether a statement is well formed
abbrev pub stmt_fits : ℕ → ℕ → CheckedStmt → Bool
stmt_fits fields arrays = fold-CheckedStmt Bool Bool (stmt_fitting fields arrays) (arm_fitting fields arrays)

-- whether an arm is
abbrev pub arm_fits : ℕ → ℕ → CheckedArm → Bool
arm_fits fields arrays = fold-CheckedArm Bool Bool (stmt_fitting fields arrays) (arm_fitting fields arrays)

-- whether each statement of a body is
abbrev pub body_fits : ℕ → ℕ → List CheckedStmt → Bool
body_fits fields arrays body = list_all (stmt_fits fields arrays) body
