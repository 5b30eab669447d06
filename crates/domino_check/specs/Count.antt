-- The count of a body in numbers and its arrays' indexes, which bounds how many instructions its code has.
use Rattle.std.specs.Prelude.{ℕ, ◌+◌, List, map, sum, Option, Some, None}
use Rattle.domino_check.specs.declared.numbered.CheckedExpr.{CheckedExpr, fold-CheckedExpr}
use Rattle.domino_check.specs.declared.numbered.CheckedExpr.TheOpen.{CheckedExpr-F}
use Rattle.domino_check.specs.declared.numbered.CheckedStmt.{CheckedStmt}
use Rattle.domino_check.specs.Sites.{Assigned, to_field, to_cell, nothing, Site, sites_of}

-- an operator, a `? :` and a hash call count 1
abbrev pub counting : CheckedExpr-F ℕ → ℕ
counting (CheckedExpr-F.Number n) = 0
counting (CheckedExpr-F.Field f) = 0
counting (CheckedExpr-F.Cell a) = 0
counting (CheckedExpr-F.One op a) = 1 + a
counting (CheckedExpr-F.Two op a b) = 1 + (a + b)
counting (CheckedExpr-F.Pick c a b) = 1 + (c + (a + b))
counting (CheckedExpr-F.Hash kind args) = 1 + sum args

-- what counts in an expression
abbrev pub operators_in : CheckedExpr → ℕ
operators_in = fold-CheckedExpr ℕ counting

-- an assignment counts 1, a condition 2
abbrev pub count_alone : Assigned → ℕ
count_alone (to_field f) = 1
count_alone (to_cell a) = 1
count_alone nothing = 2

-- a site counts that, and what stands in its right side or condition
abbrev pub site_count : Site → ℕ
site_count site = count_alone site.assigns + operators_in site.value

-- an array that has an index counts 3, and what stands in the index
abbrev pub index_count : Option CheckedExpr → ℕ
index_count None = 0
index_count (Some index) = 3 + operators_in index

-- the sites of a body, and the arrays
abbrev pub numbered_count : List CheckedStmt → List (Option CheckedExpr) → ℕ
numbered_count body indexes = sum (map site_count (sites_of body)) + sum (map index_count indexes)
