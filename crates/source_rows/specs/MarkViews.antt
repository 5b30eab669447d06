-- The walk over a source with what a header tells of each value, and its state while it is under way.
use Rattle.std.specs.Prelude.{ℕ, ℤ, Bool, List, Option, refl}
use Rattle.std.specs.Coded.{Coded, code_by, coded×, coded_list, coded_ℕ, coded_ℤ, coded_bool}
use Rattle.mp5_words.specs.Copies.{Copy, Seen, Indexes}
use Rattle.mp5_words.specs.Domain.{Domain, Mark, mark_ops, marks}
use Rattle.domino_tree.specs.declared.program.Program.{Program}
use Rattle.domino_check.specs.declared.numbered.CheckedExpr.{CheckedExpr}
use Rattle.domino_check.specs.declared.numbered.CheckedStmt.{CheckedStmt}
use Rattle.domino_check.specs.declared.numbered.CheckedArm.{CheckedArm}
use Rattle.domino_check.specs.SourceGroups.{cells_of}
use Rattle.domino_check.specs.Walk.{Core, Branch, Walks}
use Rattle.source_rows.specs.Walking as general

-- what a header tells, of this program's values
abbrev pub marks_of : Program → Domain Mark
marks_of p = marks (cells_of p)

-- what is known of each array, where it is touched
abbrev pub Copies : Type 0
Copies = List (Option (Copy Mark))

-- what an expression is evaluated on
abbrev pub seen : List Mark → Copies → Seen Mark
seen fields copies = general.seen Mark mark_ops fields copies

-- a value on these fields and copies
abbrev pub at_seen : List Mark → Copies → (Seen Mark → Mark) → Mark
at_seen fields copies value = general.at_seen Mark mark_ops fields copies value

-- the state of a walk, from its parts
abbrev pub core : List Mark → Copies → Core Mark
core fields copies = general.core Mark fields copies

-- a mark is stored as its parts
abbrev pub mark_code : Coded Mark
mark_code =
    code_by (List ℕ × (ℤ × Bool)) (coded× (coded_list coded_ℕ) (coded× coded_ℤ coded_bool))
    (λ m. (m.arrays, (m.word, m.is_open))) (λ p. record { arrays = p.0; word = p.1.0; is_open = p.1.1 }) (λ _. refl)

-- a copy is stored as its parts
abbrev pub copy_code : Coded (Copy Mark)
copy_code = general.copy_code Mark mark_code

-- what the header tells of each index, on the fields
abbrev pub indexes_in : Program → Indexes Mark
indexes_in p = general.indexes_in Mark (marks_of p) p

-- an array is touched under a guard
abbrev pub touching : Program → List Mark → Mark → Copies → ℕ → Copies
touching p fields guard = general.touching Mark (marks_of p) p fields guard

-- arrays are touched under a guard, one after another
abbrev pub touching_all : Program → List ℕ → Mark → Core Mark → Core Mark
touching_all p arrays guard s = general.touching_all Mark (marks_of p) p arrays guard s

-- the walk over a statement
abbrev pub stmt_walk : Program → CheckedStmt → Walks Mark
stmt_walk p = general.stmt_walk Mark (marks_of p) p

-- the walk over statements, one after another
abbrev pub block_walk : Program → List CheckedStmt → Walks Mark
block_walk p body = general.block_walk Mark (marks_of p) p body

-- an arm: the arrays in its condition, its condition and its block
abbrev pub arm_branch : Program → CheckedArm → Branch Mark
arm_branch p = general.arm_branch Mark (marks_of p) p

-- the walk over arms, and over the block that stands for none of them
abbrev pub chain_walk : Program → List CheckedArm → Option (List (Walks Mark)) → Walks Mark
chain_walk p arms last = general.chain_walk Mark (marks_of p) p arms last

-- the walk over a last block, where there is one
abbrev pub last_in : Program → Option (List (Walks Mark)) → Walks Mark
last_in p last = general.last_in Mark (marks_of p) p last

-- the guard in a context
abbrev pub guard_in : Program → Option Mark → Mark
guard_in p context = general.guard_in Mark (marks_of p) p context

-- the arrays in the condition of an arm are touched
abbrev pub arm_touched : Program → CheckedArm → Option Mark → Core Mark → Core Mark
arm_touched p arm context s = general.arm_touched Mark (marks_of p) p arm context s

-- what it then tells of the condition
abbrev pub arm_cond : Program → CheckedArm → Option Mark → Core Mark → Mark
arm_cond p arm context s = general.arm_cond Mark (marks_of p) p arm context s

-- an assignment to a field
abbrev pub field_walk : Program → ℕ → CheckedExpr → Walks Mark
field_walk p f e = general.field_walk Mark (marks_of p) p f e

-- an assignment to a cell
abbrev pub cell_walk : Program → ℕ → CheckedExpr → Walks Mark
cell_walk p a e = general.cell_walk Mark (marks_of p) p a e

-- what it tells of a field after an assignment in a context
abbrev pub set_value : Program → Option Mark → Mark → Mark → Mark
set_value p context v old = general.set_value Mark (marks_of p) p context v old

-- what is known of an array after an assignment of this value
abbrev pub stored_value : Program → ℕ → Option Mark → Mark → Option (Copy Mark) → Option (Copy Mark)
stored_value p a context v copy = general.stored_value Mark (marks_of p) p a context v copy
