-- The place of an array's cell, which is kept from a packet's first touch of the array on.
use Rattle.std.specs.Prelude.{◌≡◌, ℕ, ℤ, ◌<◌, ◌==◌, Bool, true, false, ◌||◌, List, [], ◌∷◌, ◌++◌, length, map, Option, Some, None, is_some}
use Rattle.std.specs.List.{list_any, slice_index_or}
use Rattle.domino_tree.specs.declared.program.Program.{Program}
use Rattle.domino_tree.specs.Value.{names_of, HasCells}
use Rattle.mp5_words.specs.Cells.{touching}
use Rattle.domino_check.specs.declared.numbered.CheckedExpr.{CheckedExpr}
use Rattle.domino_check.specs.declared.numbered.CheckedStmt.{CheckedStmt}
use Rattle.domino_check.specs.declared.numbered.CheckedArm.{CheckedArm}
use Rattle.domino_check.specs.NumberedMeaning.{Indexing, numbered_arrays, place}
use Rattle.domino_check.specs.Sites.{index_mentions, NoIndexMoves}
use Rattle.domino_check.specs.Touches.{joined_touches, stmt_touches, arm_touches, touches_of}

-- which arrays are touched: those whose places are kept
abbrev pub marks : List (Option ℕ) → List Bool
marks places = map is_some places

-- each place that is kept is that of the cell which its array's index names on these fields
pub record ArePlaces (indexing : Indexing) (fields : List ℤ) (places : List (Option ℕ)) : Type 0 where
  pub each : (array n : ℕ) → slice_index_or places array None ≡ Some n → n ≡ place indexing array fields

-- an assignment of this value to a field moves no index of an array that is marked or stands in the value
pub record FieldStays (indexing : Indexing) (touched : List Bool) (field : ℕ) (e : CheckedExpr) : Type 0 where
  pub still : (array : ℕ) → array < length touched → slice_index_or (touching (numbered_arrays e) touched) array false ≡ true → index_mentions field (indexing.index array) ≡ false

-- whether an array is touched by one of these, each of which touches these arrays
abbrev pub among : {T : Type 0} → List T → (T → List ℕ) → ℕ → Bool
among touches arrays array = list_any (λ t. list_any (λ (a : ℕ). a == array) (arrays t)) touches

-- of these, each of which touches these arrays and assigns this field, none assigns a field that stands in the index
-- of an array which is marked, or touched there or before
pub record MoveNone {T : Type 0} (touches : List T) (arrays : T → List ℕ) (assigned : T → Option ℕ) (indexing : Indexing) (touched : List Bool) : Type 0 where
  pub still : (before : List T) (x : T) (after : List T) (field array : ℕ) → touches ≡ before ++ x ∷ after → assigned x ≡ Some field → array < length touched
      → (slice_index_or touched array false || among (before ++ x ∷ []) arrays array) ≡ true → index_mentions field (indexing.index array) ≡ false

-- a body, from these marks on, moves no index of a touched array
abbrev pub BodyStays : Indexing → List Bool → List CheckedStmt → Type 0
BodyStays indexing touched body = MoveNone (touches_of body) (λ t. t.arrays) (λ t. t.field) indexing touched

-- a statement moves none
abbrev pub StmtStays : Indexing → List Bool → CheckedStmt → Type 0
StmtStays indexing touched stmt = MoveNone (stmt_touches stmt) (λ t. t.arrays) (λ t. t.field) indexing touched

-- an arm moves none
abbrev pub ArmStays : Indexing → List Bool → CheckedArm → Type 0
ArmStays indexing touched arm = MoveNone (arm_touches arm) (λ t. t.arrays) (λ t. t.field) indexing touched

-- a chain of arms, and its last block, move none
abbrev pub ChainStays : Indexing → List Bool → List CheckedArm → Option (List CheckedStmt) → Type 0
ChainStays indexing touched arms None = MoveNone (joined_touches (map arm_touches arms)) (λ t. t.arrays) (λ t. t.field) indexing touched
ChainStays indexing touched arms (Some body) = MoveNone (joined_touches (map arm_touches arms) ++ touches_of body) (λ t. t.arrays) (λ t. t.field) indexing touched

-- the cells are those of the program, in which no index of a touched array moves
pub record IsBench (p : Program) (cells : List (List ℤ)) : Type 0 where
  pub has : HasCells (names_of p) cells
  pub still : NoIndexMoves p
