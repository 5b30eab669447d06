-- The walk over a source over values of any kind, and its state while it is under way.
use Rattle.std.specs.Prelude.{ℕ, List, map, Option, None, refl}
use Rattle.std.specs.List.{slice_index_or}
use Rattle.std.specs.Coded.{Coded, code_by, coded×, coded_list}
use Rattle.mp5_words.specs.Copies.{Copy, Seen, Indexes, latest_of, touch}
use Rattle.mp5_words.specs.Domain.{Ops, Domain}
use Rattle.domino_tree.specs.declared.program.Program.{Program}
use Rattle.domino_check.specs.declared.numbered.CheckedExpr.{CheckedExpr}
use Rattle.domino_check.specs.declared.numbered.CheckedStmt.{CheckedStmt}
use Rattle.domino_check.specs.declared.numbered.CheckedStmt.TheOpen as open_form
use Rattle.domino_check.specs.declared.numbered.CheckedArm.{CheckedArm}
use Rattle.domino_check.specs.NumberedMeaning.{numbered_arrays}
use Rattle.domino_check.specs.SourceWalk.{source_indexes}
use Rattle.domino_check.specs.Walk.{Core, Branch, Walks, touch_core, guard_of, in_turn, last_walk, chain, walk, branch, set_in, stored_in, walk_value, walking}

-- what is known of each array, where it is touched
abbrev pub Copies : Type 0 → Type 0
Copies V = List (Option (Copy V))

-- a copy is stored as its parts
abbrev pub copy_code : (V : Type 0) → Coded V → Coded (Copy V)
copy_code V code =
    code_by (V × (V × (List V × List V))) (coded× code (coded× code (coded× (coded_list code) (coded_list code))))
    (λ c. (c.index, (c.latest, (c.under, c.stored)))) (λ p. record { index = p.0; latest = p.1.0; under = p.1.1.0; stored = p.1.1.1 }) (λ _. refl)

-- the state of a walk, from its parts
abbrev pub core : (V : Type 0) → List V → Copies V → Core V
core V fields copies = record { fields = fields; copies = copies }

-- what an expression is evaluated on
abbrev pub seen : (V : Type 0) → Ops V → List V → Copies V → Seen V
seen V o fields copies = record { fields = fields; array = λ a. latest_of V o (slice_index_or copies a None) }

-- a value on these fields and copies
abbrev pub at_seen : (V : Type 0) → Ops V → List V → Copies V → (Seen V → V) → V
at_seen V o fields copies value = value (seen V o fields copies)

module _ (V : Type 0) (d : Domain V) where
  -- the value of each index, on the fields
  abbrev pub indexes_in : Program → Indexes V
  indexes_in p = source_indexes V d.ops p

  -- an array is touched under a guard
  abbrev pub touching : Program → List V → V → Copies V → ℕ → Copies V
  touching p fields guard = touch V d (indexes_in p) fields guard

  -- arrays are touched under a guard, one after another
  abbrev pub touching_all : Program → List ℕ → V → Core V → Core V
  touching_all p arrays guard s = touch_core V d (indexes_in p) arrays guard s

  -- the walk over a statement
  abbrev pub stmt_walk : Program → CheckedStmt → Walks V
  stmt_walk p = walk V d (indexes_in p)

  -- the walk over statements, one after another
  abbrev pub block_walk : Program → List CheckedStmt → Walks V
  block_walk p body = in_turn V d (indexes_in p) (map (stmt_walk p) body)

  -- an arm: the arrays in its condition, its condition and its block
  abbrev pub arm_branch : Program → CheckedArm → Branch V
  arm_branch p = branch V d (indexes_in p)

  -- the walk over arms, and over the block that stands for none of them
  abbrev pub chain_walk : Program → List CheckedArm → Option (List (Walks V)) → Walks V
  chain_walk p arms last = chain V d (indexes_in p) (map (arm_branch p) arms) last

  -- the walk over a last block, where there is one
  abbrev pub last_in : Program → Option (List (Walks V)) → Walks V
  last_in p last = last_walk V d (indexes_in p) last

  -- the guard in a context
  abbrev pub guard_in : Program → Option V → V
  guard_in p context = guard_of V d (indexes_in p) context

  -- the arrays in the condition of an arm are touched
  abbrev pub arm_touched : Program → CheckedArm → Option V → Core V → Core V
  arm_touched p arm context s = touching_all p (numbered_arrays arm.cond) (guard_in p context) s

  -- the condition is then this value
  abbrev pub arm_cond : Program → CheckedArm → Option V → Core V → V
  arm_cond p arm context s = walk_value V d.ops arm.cond (seen V d.ops (arm_touched p arm context s).fields (arm_touched p arm context s).copies)

  -- an assignment to a field
  abbrev pub field_walk : Program → ℕ → CheckedExpr → Walks V
  field_walk p f e = walking V d (indexes_in p) (open_form.CheckedStmt-F.SetField f e)

  -- an assignment to a cell
  abbrev pub cell_walk : Program → ℕ → CheckedExpr → Walks V
  cell_walk p a e = walking V d (indexes_in p) (open_form.CheckedStmt-F.SetCell a e)

  -- what an assignment in a context leaves in a field
  abbrev pub set_value : Program → Option V → V → V → V
  set_value p context v old = set_in V d (indexes_in p) context v old

  -- what is known of an array after an assignment of this value
  abbrev pub stored_value : Program → ℕ → Option V → V → Option (Copy V) → Option (Copy V)
  stored_value p a context v copy = stored_in V d (indexes_in p) a context v copy
