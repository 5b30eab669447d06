-- When guarded code is valid: limits, numbers in range, hash arguments, one index for exactly the arrays that a
-- line touches, no array in an index, no index that moves where it is used, and a count that fits 32 bits.
use Rattle.std.specs.Prelude.{ℕ, suc, ◌+◌, ◌^◌, ◌==◌, Bool, true, false, not, ◌&&◌, ◌||◌, nat_lt, nat_le, List, [], ◌∷◌, ◌++◌, length, map, flat_map, sum, replicate, Option, Some, None}
use Rattle.std.specs.List.{fold, list_any, list_all}
use Rattle.mp5_words.specs.Words.{arity}
use Rattle.mp5_words.specs.Cells.{touching}
use Rattle.code_forms.specs.declared.guard.GuardExpr.{GuardExpr, fold-GuardExpr}
use Rattle.code_forms.specs.declared.guard.GuardExpr.TheOpen.{GuardExpr-F}
use Rattle.code_forms.specs.declared.guard.GuardLine.{GuardLine}
use Rattle.code_forms.specs.declared.guard.GuardLine.TheVariants as line
use Rattle.code_forms.specs.declared.guard.ArrayShape.{ArrayShape}

-- ---- what stands in an expression

-- the arrays in a form, from those in its operands
abbrev pub mentioning : GuardExpr-F (List ℕ) → List ℕ
mentioning (GuardExpr-F.Number n) = []
mentioning (GuardExpr-F.Field f) = []
mentioning (GuardExpr-F.Cell a) = a ∷ []
mentioning (GuardExpr-F.One op a) = a
mentioning (GuardExpr-F.Two op a b) = a ++ b
mentioning (GuardExpr-F.Pick c a b) = c ++ (a ++ b)
mentioning (GuardExpr-F.Hash kind args) = flat_map (λ (a : List ℕ). a) args

-- the arrays in an expression, in text order
abbrev pub arrays_in : GuardExpr → List ℕ
arrays_in = fold-GuardExpr (List ℕ) mentioning

-- whether a field stands in a form, where it is known of its operands
abbrev pub mentioning_field : ℕ → GuardExpr-F Bool → Bool
mentioning_field field (GuardExpr-F.Number n) = false
mentioning_field field (GuardExpr-F.Field f) = f == field
mentioning_field field (GuardExpr-F.Cell a) = false
mentioning_field field (GuardExpr-F.One op a) = a
mentioning_field field (GuardExpr-F.Two op a b) = a || b
mentioning_field field (GuardExpr-F.Pick c a b) = c || (a || b)
mentioning_field field (GuardExpr-F.Hash kind args) = list_any (λ (a : Bool). a) args

-- whether a field stands in an expression
abbrev pub mentions : ℕ → GuardExpr → Bool
mentions field = fold-GuardExpr Bool (mentioning_field field)

-- the count of a form, from those of its operands
abbrev pub counting : GuardExpr-F ℕ → ℕ
counting (GuardExpr-F.Number n) = 0
counting (GuardExpr-F.Field f) = 0
counting (GuardExpr-F.Cell a) = 0
counting (GuardExpr-F.One op a) = 1 + a
counting (GuardExpr-F.Two op a b) = 1 + (a + b)
counting (GuardExpr-F.Pick c a b) = 1 + (c + (a + b))
counting (GuardExpr-F.Hash kind args) = 1 + sum args

-- how many operators, choices and hashes stand in an expression; each makes one instruction
abbrev pub operators_in : GuardExpr → ℕ
operators_in = fold-GuardExpr ℕ counting

-- whether a form is well formed, where it is known of its operands
abbrev pub fitting : ℕ → ℕ → GuardExpr-F Bool → Bool
fitting fields arrays (GuardExpr-F.Number n) = true
fitting fields arrays (GuardExpr-F.Field f) = nat_lt f fields
fitting fields arrays (GuardExpr-F.Cell a) = nat_lt a arrays
fitting fields arrays (GuardExpr-F.One op a) = a
fitting fields arrays (GuardExpr-F.Two op a b) = a && b
fitting fields arrays (GuardExpr-F.Pick c a b) = c && (a && b)
fitting fields arrays (GuardExpr-F.Hash kind args) = (length args == arity kind) && list_all (λ (a : Bool). a) args

-- an expression's fields and arrays are below these numbers, and its hashes have as many arguments as they take
abbrev pub fits : ℕ → ℕ → GuardExpr → Bool
fits fields arrays = fold-GuardExpr Bool (fitting fields arrays)

-- ---- lines

-- the arrays that a line touches, in text order
abbrev pub line_arrays : GuardLine → List ℕ
line_arrays (line.Test cond under holds fails) = arrays_in cond
line_arrays (line.SetField field guard value) = arrays_in value
line_arrays (line.SetCell array guard value) = array ∷ arrays_in value

-- how many instructions a line makes beside those that load its arrays
abbrev pub line_count : GuardLine → ℕ
line_count (line.Test cond under holds fails) = 2 + operators_in cond
line_count (line.SetField field guard value) = 1 + operators_in value
line_count (line.SetCell array guard value) = 1 + operators_in value

-- how many guards there are after a line
abbrev pub guards_after : GuardLine → ℕ → ℕ
guards_after (line.Test cond under holds fails) next = 2 + next
guards_after (line.SetField field guard value) next = next
guards_after (line.SetCell array guard value) next = next

-- a line's fields and arrays are there, and its expression is well formed
abbrev pub line_fits : ℕ → ℕ → GuardLine → Bool
line_fits fields arrays (line.Test cond under holds fails) = fits fields arrays cond
line_fits fields arrays (line.SetField field guard value) = nat_lt field fields && fits fields arrays value
line_fits fields arrays (line.SetCell array guard value) = nat_lt array arrays && fits fields arrays value

-- a line's guard is one of those that are there, and a test makes the next two
abbrev pub guard_fits : ℕ → GuardLine → Bool
guard_fits next (line.Test cond under holds fails) = nat_lt under next && (holds == next && fails == suc next)
guard_fits next (line.SetField field guard value) = nat_lt guard next
guard_fits next (line.SetCell array guard value) = nat_lt guard next

-- each guard is made before its use, where so many are there before the lines
abbrev pub guards_fit : ℕ → List GuardLine → Bool
guards_fit next [] = true
guards_fit next (l ∷ lines) = guard_fits next l && guards_fit (guards_after l next) lines

-- ---- indexes

-- whether a field stands in an index, where there is one
abbrev pub index_mentions : ℕ → Option GuardExpr → Bool
index_mentions field None = false
index_mentions field (Some index) = mentions field index

-- whether a field stands in the index of an array that is marked
abbrev pub moves_marked : ℕ → List Bool → List ArrayShape → Bool
moves_marked field [] shapes = false
moves_marked field (m ∷ marks) [] = false
moves_marked field (m ∷ marks) (s ∷ shapes) = (m && index_mentions field s.index) || moves_marked field marks shapes

-- a line sets no field of the index of an array that is marked
abbrev pub leaves : List ArrayShape → List Bool → GuardLine → Bool
leaves shapes marks (line.Test cond under holds fails) = true
leaves shapes marks (line.SetField field guard value) = not (moves_marked field marks shapes)
leaves shapes marks (line.SetCell array guard value) = true

-- no index moves at or behind the first line that touches its array, where these arrays are touched before
abbrev pub stay : List ArrayShape → List Bool → List GuardLine → Bool
stay shapes marks [] = true
stay shapes marks (l ∷ lines) = leaves shapes (touching (line_arrays l) marks) l && stay shapes (touching (line_arrays l) marks) lines

-- no array is marked
abbrev pub no_marks : List ArrayShape → List Bool
no_marks shapes = replicate (length shapes) false

-- which arrays the lines touch
abbrev pub touched_in : List ArrayShape → List GuardLine → List Bool
touched_in shapes lines = fold (λ (marks : List Bool) (l : GuardLine). touching (line_arrays l) marks) (no_marks shapes) lines

-- an index stands exactly where the array is marked; its fields are below this number, and no array is in it
abbrev pub index_fits : ℕ → Bool → Option GuardExpr → Bool
index_fits fields false None = true
index_fits fields false (Some index) = false
index_fits fields true None = false
index_fits fields true (Some index) = fits fields 0 index

-- each array has from 1 to 65,536 cells, and an index exactly where it is marked
abbrev pub shapes_fit : ℕ → List Bool → List ArrayShape → Bool
shapes_fit fields marks [] = true
shapes_fit fields [] (s ∷ shapes) = false
shapes_fit fields (m ∷ marks) (s ∷ shapes) =
    nat_lt 0 s.length && (nat_le s.length 65536 && (index_fits fields m s.index && shapes_fit fields marks shapes))

-- ---- the count

-- a touched array makes an Index, a Load and a Store, and what its index makes
abbrev pub index_count : Option GuardExpr → ℕ
index_count None = 0
index_count (Some index) = 3 + operators_in index

-- how many instructions an array makes
abbrev pub shape_count : ArrayShape → ℕ
shape_count s = index_count s.index

-- how many instructions the code makes
abbrev pub guard_count : List ArrayShape → List GuardLine → ℕ
guard_count shapes lines = sum (map line_count lines) + sum (map shape_count shapes)

-- ---- all of it

-- how many cells all arrays have
abbrev pub cells_in : List ArrayShape → ℕ
cells_in shapes = sum (map (λ (s : ArrayShape). s.length) shapes)

-- at most 32 fields, 16 arrays and 262,144 cells
abbrev pub is_limited : ℕ → List ArrayShape → Bool
is_limited fields shapes = nat_le fields 32 && (nat_le (length shapes) 16 && nat_le (cells_in shapes) 262144)

-- the code is within the limits; each array has its length and its index; each line's fields, arrays and hashes fit;
-- its guards are there; no index moves where it is used; and the count fits 32 bits
abbrev pub is_guard_code : ℕ → List ArrayShape → List GuardLine → Bool
is_guard_code fields shapes lines =
    is_limited fields shapes
    && (shapes_fit fields (touched_in shapes lines) shapes
    && (list_all (line_fits fields (length shapes)) lines
    && (guards_fit 1 lines
    && (stay shapes (no_marks shapes) lines
    && nat_lt (guard_count shapes lines) (2 ^ 32)))))
