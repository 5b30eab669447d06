-- The sites of a body in numbers: its assignments and conditions in text order. No index of an array that is
-- touched may move.
use Rattle.std.specs.Prelude.{◌≡◌, ℕ, ◌<◌, ◌==◌, Bool, true, false, ◌&&◌, ◌||◌, List, [], ◌∷◌, ◌++◌, length, flat_map, map, IsTrue, Option, Some, None}
use Rattle.std.specs.List.{list_any, slice_index_or}
use Rattle.domino_tree.specs.declared.program.Program.{Program}
use Rattle.domino_tree.specs.Value.{Array, names_of}
use Rattle.domino_names.specs.declared.fault.CheckFault.{CheckFault}
use Rattle.domino_names.specs.declared.fault.CheckFault.TheVariants as fault
use Rattle.domino_check.specs.declared.numbered.CheckedExpr.{CheckedExpr, fold-CheckedExpr}
use Rattle.domino_check.specs.declared.numbered.CheckedExpr.TheOpen.{CheckedExpr-F}
use Rattle.domino_check.specs.declared.numbered.CheckedStmt.{CheckedStmt, fold-CheckedStmt}
use Rattle.domino_check.specs.declared.numbered.CheckedStmt.TheOpen as open_form
use Rattle.domino_check.specs.declared.numbered.CheckedArm.{CheckedArm, fold-CheckedArm}
use Rattle.domino_names.specs.First.{FirstFault}
use Rattle.domino_check.specs.Numbering.{numbered_body, accesses}
use Rattle.domino_check.specs.Indexes.{array_name, indexes_of}
use Rattle.domino_check.specs.NumberedMeaning.{numbered_arrays}

-- ---- sites

-- what a site assigns: a field, the cell of an array that its index names, or nothing where it is a condition
pub data Assigned : Type 0 where
  to_field : ℕ → Assigned
  to_cell : ℕ → Assigned
  nothing : Assigned

-- an assignment or a condition: the arrays that it touches in text order, the target before the right side; what
-- it assigns; its right side or condition; and the conditions that decide whether it is executed, outermost first
pub record Site : Type 0 where
  pub touches : List ℕ
  pub assigns : Assigned
  pub value : CheckedExpr
  pub context : List CheckedExpr

-- the sites of a statement, from the conditions that decide about it
abbrev pub Sited : Type 0
Sited = List CheckedExpr → List Site

-- an arm's condition, and the sites in its block
pub record SitedArm : Type 0 where
  pub cond : CheckedExpr
  pub block : Sited

-- an assignment to a field
abbrev pub field_site : ℕ → CheckedExpr → List CheckedExpr → Site
field_site f value context = record { touches = numbered_arrays value; assigns = to_field f; value = value; context = context }

-- an assignment to a cell of an array
abbrev pub cell_site : ℕ → CheckedExpr → List CheckedExpr → Site
cell_site array value context = record { touches = array ∷ numbered_arrays value; assigns = to_cell array; value = value; context = context }

-- a condition
abbrev pub condition_site : CheckedExpr → List CheckedExpr → Site
condition_site cond context = record { touches = numbered_arrays cond; assigns = nothing; value = cond; context = context }

-- the sites of these statements, one after another
abbrev pub in_block : List Sited → Sited
in_block body context = flat_map (λ (sites : Sited). sites context) body

-- those of the last block of a chain, where there is one
abbrev pub in_last_block : Option (List Sited) → Sited
in_last_block None context = []
in_last_block (Some body) context = in_block body context

-- a condition of a chain is decided by the conditions before it, its block by these and itself, and the last
-- block by all
abbrev pub in_chain : List SitedArm → Option (List Sited) → Sited
in_chain [] last context = in_last_block last context
in_chain (arm ∷ arms) last context =
    condition_site arm.cond context ∷ (arm.block (context ++ arm.cond ∷ []) ++ in_chain arms last (context ++ arm.cond ∷ []))

-- a statement, from its arms and blocks
abbrev pub stmt_siting : open_form.CheckedStmt-F Sited SitedArm → Sited
stmt_siting (open_form.CheckedStmt-F.SetField f e) context = field_site f e context ∷ []
stmt_siting (open_form.CheckedStmt-F.SetCell a e) context = cell_site a e context ∷ []
stmt_siting (open_form.CheckedStmt-F.If arms last) context = in_chain arms last context

-- an arm, from its statements
abbrev pub arm_siting : open_form.CheckedArm-F Sited SitedArm → SitedArm
arm_siting arm = record { cond = arm.cond; block = in_block arm.body }

abbrev pub stmt_sites : CheckedStmt → Sited
stmt_sites = fold-CheckedStmt Sited SitedArm stmt_siting arm_siting

abbrev pub arm_sites : CheckedArm → SitedArm
arm_sites = fold-CheckedArm Sited SitedArm stmt_siting arm_siting

-- the sites of a body in text order
abbrev pub sites_of : List CheckedStmt → List Site
sites_of body = in_block (map stmt_sites body) []

-- ---- touched arrays

-- whether a site touches an array
abbrev pub touches : ℕ → Site → Bool
touches array site = list_any (λ (a : ℕ). a == array) site.touches

-- whether one of these sites does
abbrev pub is_touched : List Site → ℕ → Bool
is_touched sites array = list_any (touches array) sites

abbrev pub no_condition : List CheckedExpr → Bool
no_condition [] = true
no_condition (cond ∷ context) = false

-- whether no condition decides about a site, so that each packet executes it
abbrev pub is_open : Site → Bool
is_open site = no_condition site.context

-- whether one of these sites that each packet executes touches an array
abbrev pub is_always_touched : List Site → ℕ → Bool
is_always_touched sites array = list_any (λ (site : Site). is_open site && touches array site) sites

-- ---- indexes that move

-- whether a field stands in a form, from whether it does in its operands
abbrev pub mentioning_field : ℕ → CheckedExpr-F Bool → Bool
mentioning_field field (CheckedExpr-F.Number n) = false
mentioning_field field (CheckedExpr-F.Field f) = f == field
mentioning_field field (CheckedExpr-F.Cell a) = false
mentioning_field field (CheckedExpr-F.One op a) = a
mentioning_field field (CheckedExpr-F.Two op a b) = a || b
mentioning_field field (CheckedExpr-F.Pick c a b) = c || (a || b)
mentioning_field field (CheckedExpr-F.Hash kind args) = list_any (λ (a : Bool). a) args

-- whether a field stands in an expression
abbrev pub mentions : ℕ → CheckedExpr → Bool
mentions field = fold-CheckedExpr Bool (mentioning_field field)

-- whether a field stands in an index, where there is one
abbrev pub index_mentions : ℕ → Option CheckedExpr → Bool
index_mentions field None = false
index_mentions field (Some index) = mentions field index

-- whether it stands in the index of an array, where each array has this index
abbrev pub stands_in : List (Option CheckedExpr) → ℕ → ℕ → Bool
stands_in indexes field array = index_mentions field (slice_index_or indexes array None)

-- an assignment behind these sites, or at the last of them, moves the index of an array: it is one to a field that
-- stands in the index, and one of the sites touches the array
abbrev pub Moves : List (Option CheckedExpr) → List Site → Assigned → ℕ → Type 0
Moves indexes sites (to_field f) array = IsTrue (is_touched sites array) × IsTrue (stands_in indexes f array)
Moves indexes sites (to_cell a) array = ⊥
Moves indexes sites nothing array = ⊥

-- the one declared first of the arrays whose indexes are moved so
abbrev pub MovesFirst : List (Option CheckedExpr) → List Site → Assigned → ℕ → Type 0
MovesFirst indexes sites assigned array = Moves indexes sites assigned array × ((other : ℕ) → other < array → ¬ Moves indexes sites assigned other)

-- the site, behind those, moves the index of an array; the one declared first is told
abbrev pub IndexMovesAt : List Array → List (Option CheckedExpr) → List Site → Site → CheckFault → Type 0
IndexMovesAt arrays indexes before x f = (array : ℕ) × MovesFirst indexes (before ++ x ∷ []) x.assigns array × (f ≡ fault.IndexMoves (array_name arrays array))

-- no site moves the index of an array that is touched there or before
abbrev pub NoneMoves : List (Option CheckedExpr) → List Site → Type 0
NoneMoves indexes sites = (before : List Site) (x : Site) (after : List Site) → sites ≡ before ++ x ∷ after → (array : ℕ) → ¬ Moves indexes (before ++ x ∷ []) x.assigns array

-- the index of each array of a program
abbrev pub program_indexes : Program → List (Option CheckedExpr)
program_indexes p = indexes_of (accesses p) (length (names_of p).arrays)

-- the sites of a program
abbrev pub program_sites : Program → List Site
program_sites p = sites_of (numbered_body p)

abbrev pub FirstIndexMoves : Program → CheckFault → Type 0
FirstIndexMoves p f = FirstFault (IndexMovesAt (names_of p).arrays (program_indexes p)) (program_sites p) f

abbrev pub NoIndexMoves : Program → Type 0
NoIndexMoves p = NoneMoves (program_indexes p) (program_sites p)
