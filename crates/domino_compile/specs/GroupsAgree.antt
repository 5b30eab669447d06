-- What flat code keeps of its source: `Agrees` says it whole. Its groups, how many units each has, where a header has
-- a place and in which unit, and how many instructions there are, are told by the source alone.
use Rattle.std.specs.Prelude.{◌≡◌, ℕ, ℤ, ◌↔◌, List, length, IsTrue, Option, Some}
use Rattle.mp5_words.specs.Cells.{natural}
use Rattle.mp5_words.specs.Copies.{at}
use Rattle.mp5_words.specs.Domain.{Mark, mark_ops}
use Rattle.domino_tree.specs.declared.program.Program.{Program}
use Rattle.domino_tree.specs.Count.{count_of}
use Rattle.domino_check.specs.Place.{HasPlace, IsUnit}
use Rattle.domino_check.specs.SourceGroups.{AreSourceGroups, IsSharded, cells_of}
use Rattle.code_forms.specs.declared.flat.FlatCode.{FlatCode}
use Rattle.code_forms.specs.FlatMeaning.{flat_length, index_slot}
use Rattle.code_forms.specs.SameIndexes.{same_of}
use Rattle.dependence.specs.Groups.{AreGroups, group_of}
use Rattle.flat_graph.specs.Layouts.{IsTouched, ArrayReaches}
use Rattle.flat_graph.specs.Nodes.{nodes}
use Rattle.index_resolve.specs.Clean.{IsClean}
use Rattle.domino_compile.specs.PlacesCode.{code_marks, is_reserved}

-- the groups of flat code, by which of its arrays reach which
abbrev pub AreCodeGroups : FlatCode → ℕ → List (Option ℕ) → Type 0
AreCodeGroups f count of = AreGroups (IsTouched (nodes f)) (ArrayReaches (nodes f)) count of

-- a group can be sharded: no array stands behind the Index of its arrays, and these have one `same` and one length
pub record CanShard (f : FlatCode) (of : List (Option ℕ)) (g : ℕ) : Type 0 where
  pub clean : (a : ℕ) → group_of of a ≡ Some g → IsClean f.fields f.arrays f.instrs (index_slot f.instrs f.fields a)
  pub same : (a b : ℕ) → group_of of a ≡ Some g → group_of of b ≡ Some g → same_of f.arrays a ≡ same_of f.arrays b
  pub even : (a b : ℕ) → group_of of a ≡ Some g → group_of of b ≡ Some g → flat_length f.arrays a ≡ flat_length f.arrays b

-- a header has a place at a group where it reserves an array of it
abbrev pub HasCodePlace : FlatCode → List ℤ → List (Option ℕ) → ℕ → Type 0
HasCodePlace f header of g = (a : ℕ) × (group_of of a ≡ Some g) × IsTrue (is_reserved f header a)

-- the place that the Index of an array holds on a header
abbrev pub index_place : FlatCode → List ℤ → ℕ → ℕ
index_place f header a = natural (at Mark mark_ops (code_marks f header) (index_slot f.instrs f.fields a)).word

-- the unit of a place at a group: where it can be sharded what the Index of one of its arrays holds, else 0
pub record IsCodeUnit (f : FlatCode) (header : List ℤ) (of : List (Option ℕ)) (g unit : ℕ) : Type 0 where
  pub sharded : CanShard f of g → (a : ℕ) × (group_of of a ≡ Some g) × (unit ≡ index_place f header a)
  pub pinned : ¬ CanShard f of g → unit ≡ 0

-- flat code with these groups agrees with its source
pub record Agrees (p : Program) (f : FlatCode) (count : ℕ) (of : List (Option ℕ)) : Type 0 where
  pub instrs : length f.instrs ≡ count_of p
  pub cells : (a : ℕ) → flat_length f.arrays a ≡ cells_of p a
  pub groups : AreSourceGroups p count of
  pub sharded : (g : ℕ) → CanShard f of g ↔ IsSharded p of g
  pub places : (header : List ℤ) → length header ≡ length p.packet.fields → (g : ℕ) → HasCodePlace f header of g ↔ HasPlace p header of g
  pub units : (header : List ℤ) → length header ≡ length p.packet.fields → (g unit : ℕ) → IsCodeUnit f header of g unit → IsUnit p header of g unit
