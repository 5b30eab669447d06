-- The walk over a source with the arrays behind each value, and its state while it is under way.
use Rattle.std.specs.Prelude.{ℕ, List, [], ◌++◌, Option}
use Rattle.std.specs.List.{slice_index_or}
use Rattle.std.specs.Coded.{Coded, coded_list, coded_ℕ}
use Rattle.mp5_words.specs.Copies.{Copy, Seen, Indexes}
use Rattle.mp5_words.specs.Domain.{source_ops, sources}
use Rattle.domino_tree.specs.declared.program.Program.{Program}
use Rattle.domino_check.specs.declared.numbered.CheckedExpr.{CheckedExpr}
use Rattle.domino_check.specs.declared.numbered.CheckedStmt.{CheckedStmt}
use Rattle.domino_check.specs.declared.numbered.CheckedArm.{CheckedArm}
use Rattle.domino_check.specs.Walk.{Core, Branch, Walks}
use Rattle.source_rows.specs.Walking as general

-- arrays, in the order in which they were found
abbrev pub Sources : Type 0
Sources = List ℕ

-- what is known of each array, where it is touched
abbrev pub Copies : Type 0
Copies = List (Option (Copy Sources))

-- what an expression is evaluated on
abbrev pub seen : List Sources → Copies → Seen Sources
seen fields copies = general.seen Sources source_ops fields copies

-- a value on these fields and copies
abbrev pub at_seen : List Sources → Copies → (Seen Sources → Sources) → Sources
at_seen fields copies value = general.at_seen Sources source_ops fields copies value

-- the state of a walk, from its parts
abbrev pub core : List Sources → Copies → Core Sources
core fields copies = general.core Sources fields copies

-- a copy is stored as its parts
abbrev pub copy_code : Coded (Copy Sources)
copy_code = general.copy_code Sources (coded_list coded_ℕ)

-- those of the first three sets of a list
abbrev pub three : List Sources → Sources
three sets = slice_index_or sets 0 [] ++ (slice_index_or sets 1 [] ++ slice_index_or sets 2 [])

-- the arrays behind each index, on the fields
abbrev pub indexes_in : Program → Indexes Sources
indexes_in p = general.indexes_in Sources sources p

-- an array is touched under a guard
abbrev pub touching : Program → List Sources → Sources → Copies → ℕ → Copies
touching p fields guard = general.touching Sources sources p fields guard

-- arrays are touched under a guard, one after another
abbrev pub touching_all : Program → List ℕ → Sources → Core Sources → Core Sources
touching_all p arrays guard s = general.touching_all Sources sources p arrays guard s

-- the walk over a statement
abbrev pub stmt_walk : Program → CheckedStmt → Walks Sources
stmt_walk p = general.stmt_walk Sources sources p

-- the walk over statements, one after another
abbrev pub block_walk : Program → List CheckedStmt → Walks Sources
block_walk p body = general.block_walk Sources sources p body

-- an arm: the arrays in its condition, its condition and its block
abbrev pub arm_branch : Program → CheckedArm → Branch Sources
arm_branch p = general.arm_branch Sources sources p

-- the walk over arms, and over the block that stands for none of them
abbrev pub chain_walk : Program → List CheckedArm → Option (List (Walks Sources)) → Walks Sources
chain_walk p arms last = general.chain_walk Sources sources p arms last

-- the walk over a last block, where there is one
abbrev pub last_in : Program → Option (List (Walks Sources)) → Walks Sources
last_in p last = general.last_in Sources sources p last

-- the guard in a context
abbrev pub guard_in : Program → Option Sources → Sources
guard_in p context = general.guard_in Sources sources p context

-- the arrays in the condition of an arm are touched
abbrev pub arm_touched : Program → CheckedArm → Option Sources → Core Sources → Core Sources
arm_touched p arm context s = general.arm_touched Sources sources p arm context s

-- what is then behind the condition
abbrev pub arm_cond : Program → CheckedArm → Option Sources → Core Sources → Sources
arm_cond p arm context s = general.arm_cond Sources sources p arm context s

-- an assignment to a field
abbrev pub field_walk : Program → ℕ → CheckedExpr → Walks Sources
field_walk p f e = general.field_walk Sources sources p f e

-- an assignment to a cell
abbrev pub cell_walk : Program → ℕ → CheckedExpr → Walks Sources
cell_walk p a e = general.cell_walk Sources sources p a e

-- what an assignment in a context leaves behind a field
abbrev pub set_value : Program → Option Sources → Sources → Sources → Sources
set_value p context v old = general.set_value Sources sources p context v old

-- what is known of an array after an assignment of what has this behind it
abbrev pub stored_value : Program → ℕ → Option Sources → Sources → Option (Copy Sources) → Option (Copy Sources)
stored_value p a context v copy = general.stored_value Sources sources p a context v copy
