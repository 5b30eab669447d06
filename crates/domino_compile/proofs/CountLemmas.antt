-- Flat code has as many instructions as its program counts.
use Rattle.std.proofs.Common.{◌≡◌, ◌+◌, length, sum, ap, ◌∙◌}
use Rattle.std.proofs.lemmas.List.{length-map}
use Rattle.domino_tree.specs.declared.program.Program.{Program}
use Rattle.domino_tree.specs.Count.{count_of}
use Rattle.domino_names.specs.NamesRefused.{PassesNames}
use Rattle.domino_check.specs.Indexes.{HasIndexes}
use Rattle.domino_check.specs.Numbering.{numbered_body}
use Rattle.domino_check.proofs.BodyCountLemmas.{count_agrees}
use Rattle.code_forms.specs.declared.guard.GuardCode.{GuardCode}
use Rattle.code_forms.specs.declared.flat.FlatCode.{FlatCode}
use Rattle.code_forms.specs.FlatMeaning.{Step}
use Rattle.code_forms.specs.GuardValid.{guard_count}
use Rattle.branch_removal.specs.GuardedLines.{body_lines}
use Rattle.branch_removal.specs.Shapes.{shapes_of}
use Rattle.branch_removal.proofs.LineCounts.{counts_same}
use Rattle.branch_removal.proofs.ShapeLemmas.{shape_counts}
use Rattle.ssa_flatten.specs.Flattening.{flat_steps}
use Rattle.ssa_flatten.specs.Flattened.{count_for}
use Rattle.ssa_flatten.proofs.Whole as whole
use Rattle.domino_compile.specs.GroupsCode.{IsCodeOf}

-- guarded lines count what the source counts
pub lines_counted : (p : Program) (g : GuardCode) → g.arrays ≡ shapes_of p → g.lines ≡ body_lines (numbered_body p) → PassesNames p → HasIndexes p → count_for g ≡ count_of p
lines_counted p g arrays lines passes indexed =
    (λ i. guard_count (arrays i) (lines i))
    ∙ (λ i. sum (counts_same (numbered_body p) i) + sum (shape_counts p i))
    ∙ count_agrees p passes indexed

module _ (p : Program) (g : GuardCode) (f : FlatCode) (is : IsCodeOf p g f) where
  -- the lines do, of which flat code is made
  pub lines_count : count_for g ≡ count_of p
  lines_count = lines_counted p g is.arrays is.lines is.passes.names is.keeps.indexed

  -- so do the instructions
  pub instrs_count : length f.instrs ≡ count_of p
  instrs_count =
      ap length is.instrs
      ∙ length-map (flat_steps g.fields g.arrays g.lines) (λ (s : Step). s.instr)
      ∙ whole.counts g.fields g.arrays g.lines g.valid
      ∙ lines_count
