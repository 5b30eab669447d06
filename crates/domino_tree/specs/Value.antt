-- The value of an expression, with the fields of a packet and the cells of the registers.
use Rattle.std.specs.Prelude.{◌≡◌, length, ℕ, suc, ℤ, pos, if◌then◌else◌, List, [], ◌∷◌, ◌++◌, map, flat_map, codes, Option, Some, None}
use Rattle.std.specs.List.{find, slice_index_or}
use Rattle.std.specs.Str.{bytes_eq}
use Rattle.mp5_words.specs.Words.{op1, op2, cell}
use Rattle.mp5_words.specs.Cells.{word_at, cells_at, natural, picked, hash_all}
use Rattle.mp5_words.specs.declared.hashing.HashKind.{HashKind}
use Rattle.mp5_words.specs.declared.hashing.HashKind.TheVariants.{Two, TwoA, TwoB, Three}
use Rattle.domino_tree.specs.declared.expr.Expr.{Expr, fold-Expr}
use Rattle.domino_tree.specs.declared.expr.Expr.TheOpen.{Expr-F}
use Rattle.domino_tree.specs.declared.program.Size.{Size}
use Rattle.domino_tree.specs.declared.program.Size.TheVariants as size
use Rattle.domino_tree.specs.declared.program.Start.{Start}
use Rattle.domino_tree.specs.declared.program.Start.TheVariants as start
use Rattle.domino_tree.specs.declared.program.Item.{Item}
use Rattle.domino_tree.specs.declared.program.Item.TheVariants as item
use Rattle.domino_tree.specs.declared.program.Program.{Program}

-- ---- names

-- a defined name and its number
pub record Defined : Type 0 where
  pub name : List ℕ
  pub number : ℤ

-- a register array: its name, how many cells it has, and the word that each cell starts at. A register is an
-- array of one cell.
pub record Array : Type 0 where
  pub name : List ℕ
  pub length : ℕ
  pub start : ℤ

-- what a program declares: defined names, fields and arrays, each in order of declaration
pub record Names : Type 0 where
  pub defines : List Defined
  pub fields : List (List ℕ)
  pub arrays : List Array

-- the number that a name is defined as, where it is
abbrev pub number_of : List ℕ → List Defined → Option ℤ
number_of name [] = None
number_of name (d ∷ ds) = if bytes_eq name d.name then Some d.number else number_of name ds

-- the number, or 0 where there is none
abbrev pub or_zero : Option ℤ → ℤ
or_zero None = pos 0
or_zero (Some z) = z

-- the number of a size
abbrev pub size_value : List Defined → Size → ℤ
size_value defines (size.Number n) = n
size_value defines (size.Word w) = or_zero (number_of w defines)

-- how many cells an array has; a register has one
abbrev pub length_value : List Defined → Option Size → ℕ
length_value defines None = 1
length_value defines (Some s) = natural (size_value defines s)

-- the word that each cell starts at
abbrev pub start_value : List Defined → Start → ℤ
start_value defines start.Absent = pos 0
start_value defines (start.Plain s) = size_value defines s
start_value defines (start.Braced s) = size_value defines s

-- the defined name that an item declares, if it does
abbrev pub item_define : Item → List Defined
item_define (item.Define name value) = record { name = name; number = value } ∷ []
item_define (item.Array name length start) = []

-- the array that an item declares, if it does
abbrev pub item_array : List Defined → Item → List Array
item_array defines (item.Define name value) = []
item_array defines (item.Array name length start) = record { name = name; length = length_value defines length; start = start_value defines start } ∷ []

-- the names of these items and fields; a use may stand before its declaration
abbrev pub names_in : List Item → List (List ℕ) → Names
names_in items fields = record {
  defines = flat_map item_define items;
  fields = fields;
  arrays = flat_map (item_array (flat_map item_define items)) items;
}

-- the names of a program: its items may stand before the struct and after it
abbrev pub names_of : Program → Names
names_of p = names_in (p.before ++ p.after) p.packet.fields

-- the place of a name among those declared; past them all where it isn't there
abbrev pub place_of : List ℕ → List (List ℕ) → ℕ
place_of name [] = 0
place_of name (n ∷ ns) = if bytes_eq name n then 0 else suc (place_of name ns)

-- the number of a field
abbrev pub field_number : Names → List ℕ → ℕ
field_number names f = place_of f names.fields

-- the number of an array
abbrev pub array_number : Names → List ℕ → ℕ
array_number names a = place_of a (map (λ (d : Array). d.name) names.arrays)

-- how many cells an array has
abbrev pub array_length : Names → List ℕ → ℕ
array_length names a = slice_index_or (map (λ (d : Array). d.length) names.arrays) (array_number names a) 1

-- ---- values

-- a packet's fields, and the cells of each array, a list of words for each, in order of declaration
pub record Store : Type 0 where
  pub fields : List ℤ
  pub cells : List (List ℤ)

-- how many cells each array has
abbrev pub cell_counts : Names → List ℕ
cell_counts names = map (λ (d : Array). d.length) names.arrays

-- each array has as many cells as it is declared with
abbrev pub HasCells : Names → List (List ℤ) → Type 0
HasCells names cells = map (λ (c : List ℤ). length c) cells ≡ cell_counts names

-- a cell of an array
abbrev pub cell_at : Names → List ℕ → ℕ → Store → ℤ
cell_at names a place s = word_at (cells_at s.cells (array_number names a)) place

-- the place of the cell that an index names
abbrev pub index_place : Names → List ℕ → ℤ → ℕ
index_place names a z = cell z (array_length names a)

-- the number of a defined name, and else a register's word
abbrev pub defined_or : Option ℤ → ℤ → ℤ
defined_or None z = z
defined_or (Some n) z = n

-- the table of hash functions: the name of each; how many arguments it takes is its arity
abbrev pub hash_name : HashKind → List ℕ
hash_name Two = codes "hash2"
hash_name TwoA = codes "hash2a"
hash_name TwoB = codes "hash2b"
hash_name Three = codes "hash3"

-- all of them
abbrev pub hash_kinds : List HashKind
hash_kinds = Two ∷ TwoA ∷ TwoB ∷ Three ∷ []

-- the hash function of a name, where it is one
abbrev pub hash_kind : List ℕ → Option HashKind
hash_kind name = find (λ kind. bytes_eq name (hash_name kind)) hash_kinds

-- the hash of the arguments; 0 where the name is no hash function's
abbrev pub hashed : Option HashKind → List ℤ → ℤ
hashed None args = pos 0
hashed (Some kind) args = hash_all kind args

-- the value of a form, from those of its operands, all of which are evaluated; a field's own name says which
-- it is
abbrev pub meaning : Names → Expr-F (Store → ℤ) → Store → ℤ
meaning names (Expr-F.Number n) s = n
meaning names (Expr-F.Word w) s = defined_or (number_of w names.defines) (cell_at names w 0 s)
meaning names (Expr-F.Field p f) s = word_at s.fields (field_number names f)
meaning names (Expr-F.Cell a i) s = cell_at names a (index_place names a (i s)) s
meaning names (Expr-F.One op a) s = op1 op (a s)
meaning names (Expr-F.Two op a b) s = op2 op (a s) (b s)
meaning names (Expr-F.Pick c a b) s = picked (c s) (a s) (b s)
meaning names (Expr-F.Call f args) s = hashed (hash_kind f) (map (λ (a : Store → ℤ). a s) args)
meaning names (Expr-F.Group a) s = a s

-- the value of an expression
abbrev pub value : Names → Expr → Store → ℤ
value names = fold-Expr (Store → ℤ) (meaning names)

-- ---- the arrays in an expression

-- a defined name is no array
abbrev pub array_word : Option ℤ → ℕ → List ℕ
array_word None array = array ∷ []
array_word (Some n) array = []

-- the numbers of the arrays that stand in a form, from those of its operands
abbrev pub mentioning : Names → Expr-F (List ℕ) → List ℕ
mentioning names (Expr-F.Number n) = []
mentioning names (Expr-F.Word w) = array_word (number_of w names.defines) (array_number names w)
mentioning names (Expr-F.Field p f) = []
mentioning names (Expr-F.Cell a i) = array_number names a ∷ i
mentioning names (Expr-F.One op a) = a
mentioning names (Expr-F.Two op a b) = a ++ b
mentioning names (Expr-F.Pick c a b) = c ++ (a ++ b)
mentioning names (Expr-F.Call f args) = flat_map (λ (a : List ℕ). a) args
mentioning names (Expr-F.Group a) = a

-- the numbers of the arrays that stand in an expression
abbrev pub arrays_in : Names → Expr → List ℕ
arrays_in names = fold-Expr (List ℕ) (mentioning names)
