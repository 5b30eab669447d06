-- The places of a header, from what it alone tells of each value of the source.
use Rattle.std.specs.Prelude.{◌≡◌, ℕ, ℤ, Bool, false, List, [], ◌∷◌, ◌++◌, map, flat_map, IsTrue, Option, Some, None}
use Rattle.std.specs.List.{list_any, slice_index_or}
use Rattle.mp5_words.specs.Copies.{Copy}
use Rattle.mp5_words.specs.Domain.{Mark, mark, marks}
use Rattle.mp5_words.specs.Words.{cell}
use Rattle.domino_tree.specs.declared.program.Program.{Program}
use Rattle.domino_check.specs.Sites.{Site, program_sites}
use Rattle.domino_check.specs.Walk.{Core}
use Rattle.domino_check.specs.SourceWalk.{walked_program}
use Rattle.domino_check.specs.SourceGroups.{IsSharded, cells_of}
use Rattle.dependence.specs.Groups.{group_of}

-- the header's words, behind which no array stands
abbrev pub header_marks : List ℤ → List Mark
header_marks header = map (mark []) header

-- the walk with what the header tells of each value
abbrev pub marked_walk : Program → List ℤ → Core Mark
marked_walk p header = walked_program Mark (marks (cells_of p)) p (header_marks header)

-- what the header tells of an array
abbrev pub marked_copy : Program → List ℤ → ℕ → Option (Copy Mark)
marked_copy p header a = slice_index_or (marked_walk p header).copies a None

-- some site that touches the array is open
abbrev pub is_open_at : Option (Copy Mark) → Bool
is_open_at None = false
is_open_at (Some c) = list_any (λ (m : Mark). m.is_open) c.under

-- the array's place in so many cells, by the word of its index at the first site that touches it
abbrev pub marked_place : ℕ → Option (Copy Mark) → ℕ
marked_place cells None = 0
marked_place cells (Some c) = cell c.index.word cells

-- a header has a place at a group, of these groups, exactly where an open site touches an array of it
abbrev pub HasPlace : Program → List ℤ → List (Option ℕ) → ℕ → Type 0
HasPlace p header of g = (a : ℕ) × (group_of of a ≡ Some g) × IsTrue (is_open_at (marked_copy p header a))

-- ---- units

-- the arrays that the sites touch, in text order
abbrev pub text_order : Program → List ℕ
text_order p = flat_map (λ (site : Site). site.touches) (program_sites p)

-- none of these arrays is of the group
abbrev pub NoneOf : List (Option ℕ) → ℕ → List ℕ → Type 0
NoneOf of g [] = Unit {0}
NoneOf of g (a ∷ arrays) = (¬ (group_of of a ≡ Some g)) × NoneOf of g arrays

-- the array of the group that is touched first in text order
abbrev pub IsFirstTouched : Program → List (Option ℕ) → ℕ → ℕ → Type 0
IsFirstTouched p of g a = (before : List ℕ) × (after : List ℕ) × (text_order p ≡ before ++ a ∷ after) × (group_of of a ≡ Some g) × NoneOf of g before

-- the unit of a header's place at a group: of a sharded one the place of the array that is touched first, else 0
pub record IsUnit (p : Program) (header : List ℤ) (of : List (Option ℕ)) (g unit : ℕ) : Type 0 where
  pub sharded : IsSharded p of g → (a : ℕ) → IsFirstTouched p of g a → unit ≡ marked_place (cells_of p a) (marked_copy p header a)
  pub pinned : ¬ IsSharded p of g → unit ≡ 0
