-- A walk under way as the walk over the source knows it, and what an arm and a chain do to it.
use Rattle.std.specs.Prelude.{◌≡◌, List, Option, Some}
use Rattle.mp5_words.specs.Domain.{Mark}
use Rattle.domino_tree.specs.declared.program.Program.{Program}
use Rattle.domino_check.specs.declared.numbered.CheckedArm.{CheckedArm}
use Rattle.domino_check.specs.Walk.{Core, Walks}
use Rattle.source_rows.specs.declared.marked.Branch.{Branch}
use Rattle.source_rows.specs.declared.marked.Walked.{Walked}
use Rattle.source_rows.specs.MarkViews.{marks_of, core, block_walk, chain_walk, last_in, guard_in, arm_touched, arm_cond}

-- its fields and copies
abbrev pub state_of : Walked → Core Mark
state_of w = core w.fields.items w.copies.items

-- the guard under which the condition of an arm holds
abbrev pub holds_under : Program → CheckedArm → Option Mark → Walked → Mark
holds_under p arm context w = (marks_of p).yes (guard_in p context) (arm_cond p arm context (state_of w))

-- the guard under which it fails
abbrev pub fails_under : Program → CheckedArm → Option Mark → Walked → Mark
fails_under p arm context w = (marks_of p).no (guard_in p context) (arm_cond p arm context (state_of w))

-- the walk over an arm: the arrays in its condition are touched, and its block is walked under the condition
abbrev pub ArmLeads : Program → CheckedArm → Option Mark → Walked → Walked → Branch → Type 0
ArmLeads p arm context old new branch = state_of new ≡ block_walk p arm.body (Some branch.holds) (arm_touched p arm context (state_of old))

-- the walk over the arms of a chain: whatever its last block is, walking the chain is walking that block from there on,
-- in this context
abbrev pub ArmsLead : Program → List CheckedArm → Option Mark → Walked → Walked → Option Mark → Type 0
ArmsLead p arms context old new otherwise =
    (last : Option (List (Walks Mark))) → chain_walk p arms last context (state_of old) ≡ last_in p last otherwise (state_of new)
