-- What makes a group sharded: its indexes and lengths.
use Rattle.std.specs.Prelude.{◌≡◌, ℕ, List, [], Option}
use Rattle.mp5_words.specs.Copies.{Copy}
use Rattle.domino_tree.specs.declared.program.Program.{Program}
use Rattle.domino_check.specs.Indexes.{index_of}
use Rattle.domino_check.specs.Numbering.{accesses}
use Rattle.domino_check.specs.SourceGroups.{index_sources, cells_of}
use Rattle.source_rows.specs.Members.{IsOf}

-- no array stands behind the index of an array of the group
abbrev pub AreClean : (ℕ → Option (Copy (List ℕ))) → List (Option ℕ) → ℕ → Type 0
AreClean copy of g = (a : ℕ) → IsOf of g a → index_sources (copy a) ≡ []

-- two arrays have one index, as a tree, and one length
pub record AreAlike (p : Program) (a b : ℕ) : Type 0 where
  pub index : index_of (accesses p) a ≡ index_of (accesses p) b
  pub length : cells_of p a ≡ cells_of p b

-- each array of the group is so like this one
abbrev pub AllLike : Program → List (Option ℕ) → ℕ → ℕ → Type 0
AllLike p of g a = (b : ℕ) → IsOf of g b → AreAlike p a b

-- all arrays of the group are so alike
abbrev pub AllAlike : Program → List (Option ℕ) → ℕ → Type 0
AllAlike p of g = (a : ℕ) → IsOf of g a → AllLike p of g a

-- this is the length of each array of the group
abbrev pub HasLength : Program → List (Option ℕ) → ℕ → ℕ → Type 0
HasLength p of g cells = (a : ℕ) → IsOf of g a → cells ≡ cells_of p a
