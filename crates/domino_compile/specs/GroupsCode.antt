-- Guarded and flat code of a program, as the two passes make it.
use Rattle.std.specs.Prelude.{◌≡◌, length}
use Rattle.domino_tree.specs.declared.program.Program.{Program}
use Rattle.domino_check.specs.Accepted.{Keeps}
use Rattle.domino_check.specs.Numbering.{numbered_body}
use Rattle.domino_check.specs.Refused.{Passes}
use Rattle.code_forms.specs.declared.guard.GuardCode.{GuardCode}
use Rattle.code_forms.specs.declared.flat.FlatCode.{FlatCode}
use Rattle.branch_removal.specs.GuardedLines.{body_lines}
use Rattle.branch_removal.specs.Shapes.{shapes_of}
use Rattle.ssa_flatten.specs.Flattened.{instrs_for, last_for, AreArraysFor}

-- the program passes the checks, the lines are those of its body, and the instructions and arrays those of the lines
pub record IsCodeOf (p : Program) (g : GuardCode) (f : FlatCode) : Type 0 where
  pub passes : Passes p
  pub keeps : Keeps p
  pub fields : g.fields ≡ length p.packet.fields
  pub arrays : g.arrays ≡ shapes_of p
  pub lines : g.lines ≡ body_lines (numbered_body p)
  pub width : f.fields ≡ g.fields
  pub instrs : f.instrs ≡ instrs_for g
  pub last : f.last ≡ last_for g
  pub flat_arrays : AreArraysFor g f.arrays
