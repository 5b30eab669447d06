-- The groups of a program's arrays, from the arrays that stand behind each value of its source, and the units of
-- each group.
use Rattle.std.specs.Prelude.{◌≡◌, ℕ, ◌⊎◌, List, [], length, replicate, flat_map, Option, Some, None}
use Rattle.std.specs.List.{slice_index_or}
use Rattle.mp5_words.specs.Copies.{Copy}
use Rattle.mp5_words.specs.Domain.{sources}
use Rattle.domino_tree.specs.declared.program.Program.{Program}
use Rattle.domino_check.specs.Indexes.{index_of}
use Rattle.domino_check.specs.Numbering.{accesses}
use Rattle.domino_check.specs.NumberedMeaning.{indexing}
use Rattle.domino_check.specs.Walk.{Core}
use Rattle.domino_check.specs.SourceWalk.{walked_program}
use Rattle.dependence.specs.Reach.{Reaches}
use Rattle.dependence.specs.Uses.{Member}
use Rattle.dependence.specs.Groups.{AreGroups, group_of}

-- no array stands behind a field of the header
abbrev pub no_sources : Program → List (List ℕ)
no_sources p = replicate (length p.packet.fields) []

-- the walk with the arrays behind each value
abbrev pub source_walk : Program → Core (List ℕ)
source_walk p = walked_program (List ℕ) sources p (no_sources p)

-- what is known of an array after it: the arrays behind its index, the guards and the values of its sites
abbrev pub source_copy : Program → ℕ → Option (Copy (List ℕ))
source_copy p a = slice_index_or (source_walk p).copies a None

-- these arrays, one list after another
abbrev pub all_sources : List (List ℕ) → List ℕ
all_sources lists = flat_map (λ (l : List ℕ). l) lists

-- some site touches the array
abbrev pub HasCopy : Option (Copy (List ℕ)) → Type 0
HasCopy None = ⊥
HasCopy (Some c) = Unit {0}

-- the array stands behind the index, the context of a site that touches, or a value that is assigned
abbrev pub StandsBehind : ℕ → Option (Copy (List ℕ)) → Type 0
StandsBehind b None = ⊥
StandsBehind b (Some c) = Member b c.index ⊎ (Member b (all_sources c.under) ⊎ Member b (all_sources c.stored))

-- some site of the program touches the array
abbrev pub IsTouched : Program → ℕ → Type 0
IsTouched p a = HasCopy (source_copy p a)

-- an array needs another
abbrev pub Needs : Program → ℕ → ℕ → Type 0
Needs p a b = StandsBehind b (source_copy p a)

-- the groups of the program, numbered: arrays that need each other, directly or through others
abbrev pub AreSourceGroups : Program → ℕ → List (Option ℕ) → Type 0
AreSourceGroups p count of = AreGroups (IsTouched p) (Reaches (Needs p)) count of

-- ---- units

-- the arrays behind an array's index at the first site that touches it
abbrev pub index_sources : Option (Copy (List ℕ)) → List ℕ
index_sources None = []
index_sources (Some c) = c.index

-- how many cells an array has
abbrev pub cells_of : Program → ℕ → ℕ
cells_of p a = (indexing p).length a

-- a group, of these groups, is sharded: no array stands behind an index of its arrays, and these have one index,
-- as a tree, and one length
pub record IsSharded (p : Program) (of : List (Option ℕ)) (g : ℕ) : Type 0 where
  pub clean : (a : ℕ) → group_of of a ≡ Some g → index_sources (source_copy p a) ≡ []
  pub index : (a b : ℕ) → group_of of a ≡ Some g → group_of of b ≡ Some g → index_of (accesses p) a ≡ index_of (accesses p) b
  pub length : (a b : ℕ) → group_of of a ≡ Some g → group_of of b ≡ Some g → cells_of p a ≡ cells_of p b

-- a group has as many units: a sharded one that of the cells of each of its arrays, any other one alone
pub record HasUnits (p : Program) (of : List (Option ℕ)) (g units : ℕ) : Type 0 where
  pub sharded : IsSharded p of g → (a : ℕ) → group_of of a ≡ Some g → units ≡ cells_of p a
  pub pinned : ¬ IsSharded p of g → units ≡ 1
