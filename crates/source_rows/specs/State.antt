-- A walk under way as the walk over the source knows it, and what an arm and a chain do to it.
use Rattle.std.specs.Prelude.{◌≡◌, ◌++◌, List, Option, Some}
use Rattle.domino_tree.specs.declared.program.Program.{Program}
use Rattle.domino_check.specs.declared.numbered.CheckedArm.{CheckedArm}
use Rattle.domino_check.specs.Walk.{Core, Walks}
use Rattle.source_rows.specs.declared.sources.Walked.{Walked}
use Rattle.source_rows.specs.Views.{Sources, core, block_walk, chain_walk, last_in, guard_in, arm_touched, arm_cond}

-- its fields and copies
abbrev pub state_of : Walked → Core Sources
state_of w = core w.fields.items w.copies.items

-- what is behind the condition of an arm, and behind those that decide about it
abbrev pub behind_arm : Program → CheckedArm → Option Sources → Walked → Sources
behind_arm p arm context w = guard_in p context ++ arm_cond p arm context (state_of w)

-- the walk over an arm: the arrays in its condition are touched, and its block is walked with that behind it
abbrev pub ArmLeads : Program → CheckedArm → Option Sources → Walked → Walked → Sources → Type 0
ArmLeads p arm context old new behind = state_of new ≡ block_walk p arm.body (Some behind) (arm_touched p arm context (state_of old))

-- the walk over the arms of a chain: whatever its last block is, walking the chain is walking that block from there on,
-- in this context
abbrev pub ArmsLead : Program → List CheckedArm → Option Sources → Walked → Walked → Option Sources → Type 0
ArmsLead p arms context old new otherwise =
    (last : Option (List (Walks Sources))) → chain_walk p arms last context (state_of old) ≡ last_in p last otherwise (state_of new)
