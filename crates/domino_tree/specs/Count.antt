-- The count of a transaction, which bounds how many instructions its code has.
use Rattle.std.specs.Prelude.{ℕ, ◌+◌, not, nat_eq, List, [], ◌∷◌, ◌++◌, map, filter, Option, Some, None}
use Rattle.domino_tree.specs.declared.expr.Expr.{Expr, fold-Expr}
use Rattle.domino_tree.specs.declared.expr.Expr.TheOpen.{Expr-F}
use Rattle.domino_tree.specs.declared.program.Target.{Target}
use Rattle.domino_tree.specs.declared.program.Target.TheVariants as target
use Rattle.domino_tree.specs.declared.program.Stmt.{Stmt, fold-Stmt}
use Rattle.domino_tree.specs.declared.program.Stmt.TheOpen as open_form
use Rattle.domino_tree.specs.declared.program.Arm.{Arm, fold-Arm}
use Rattle.domino_tree.specs.declared.program.Program.{Program}
use Rattle.domino_tree.specs.Value.{Names, names_of, number_of, array_number, array_word}

-- an access of an array: the array's number, and how many operators, `? :` and calls its index has
pub record Access : Type 0 where
  pub array : ℕ
  pub index : ℕ

-- how much a form counts apart from its arrays, and the accesses of arrays in it, in text order
pub record Tally : Type 0 where
  pub plain : ℕ
  pub accesses : List Access

abbrev pub nothing : Tally
nothing = record { plain = 0; accesses = [] }

-- so much more
abbrev pub more : ℕ → Tally → Tally
more n t = record { plain = n + t.plain; accesses = t.accesses }

-- one form behind another
abbrev pub beside : Tally → Tally → Tally
beside a b = record { plain = a.plain + b.plain; accesses = a.accesses ++ b.accesses }

-- forms one after another
abbrev pub together : List Tally → Tally
together [] = nothing
together (t ∷ ts) = beside t (together ts)

-- accesses of registers, whose index is the number 0
abbrev pub registers : List ℕ → Tally
registers arrays = record { plain = 0; accesses = map (λ array. record { array = array; index = 0 }) arrays }

-- an access with an index: what counts in the index counts with the array alone
abbrev pub cell : ℕ → Tally → Tally
cell array index = record { plain = 0; accesses = record { array = array; index = index.plain } ∷ index.accesses }

-- an operator, a `? :` and a call count 1
abbrev pub tallying : Names → Expr-F Tally → Tally
tallying names (Expr-F.Number n) = nothing
tallying names (Expr-F.Word w) = registers (array_word (number_of w names.defines) (array_number names w))
tallying names (Expr-F.Field p f) = nothing
tallying names (Expr-F.Cell a i) = cell (array_number names a) i
tallying names (Expr-F.One op a) = more 1 a
tallying names (Expr-F.Two op a b) = more 1 (beside a b)
tallying names (Expr-F.Pick c a b) = more 1 (beside c (beside a b))
tallying names (Expr-F.Call f args) = more 1 (together args)
tallying names (Expr-F.Group a) = a

-- what counts in an expression
abbrev pub tally : Names → Expr → Tally
tally names = fold-Expr Tally (tallying names)

-- what counts in a target
abbrev pub target_tally : Names → Target → Tally
target_tally names (target.Word w) = registers (array_number names w ∷ [])
target_tally names (target.Field p f) = nothing
target_tally names (target.Cell a i) = cell (array_number names a) (tally names i)

-- the last block, where there is one
abbrev pub last_tally : Option (List Tally) → Tally
last_tally None = nothing
last_tally (Some body) = together body

-- an assignment counts 1
abbrev pub stmt_tallying : Names → open_form.Stmt-F Tally Tally → Tally
stmt_tallying names (open_form.Stmt-F.Set t e) = more 1 (beside (target_tally names t) (tally names e))
stmt_tallying names (open_form.Stmt-F.If arms last) = beside (together arms) (last_tally last)

-- a condition counts 2
abbrev pub arm_tallying : Names → open_form.Arm-F Tally Tally → Tally
arm_tallying names arm = more 2 (beside (tally names arm.cond) (together arm.body))

-- what counts in a statement
abbrev pub stmt_tally : Names → Stmt → Tally
stmt_tally names = fold-Stmt Tally Tally (stmt_tallying names) (arm_tallying names)

-- what counts in an arm
abbrev pub arm_tally : Names → Arm → Tally
arm_tally names = fold-Arm Tally Tally (stmt_tallying names) (arm_tallying names)

-- the first access of each array
abbrev pub firsts : List Access → List Access
firsts [] = []
firsts (a ∷ later) = a ∷ filter (λ (b : Access). not (nat_eq b.array a.array)) (firsts later)

-- each access counts 3, and its index
abbrev pub cost : List Access → ℕ
cost [] = 0
cost (a ∷ later) = 3 + a.index + cost later

-- what counts in a body apart from its arrays, and each touched array once, with the index of its first access
abbrev pub body_count : Names → List Stmt → ℕ
body_count names body =
    let all = together (map (stmt_tally names) body) in
    all.plain + cost (firsts all.accesses)

-- the count of a program's transaction
abbrev pub count_of : Program → ℕ
count_of p = body_count (names_of p) p.function.body
