-- the made code is valid and keeps the meaning of the program, which passed all checks
use Rattle.std.proofs.Common.{◌≡◌, ℕ, ◌+◌, ◌^◌, ◌<◌, ◌≤◌, length, List, map, sum, sym, ap, subst, ◌∙◌, arith}
use Rattle.mp5_words.specs.Domain.{sources, marks, Mark}
use Rattle.domino_tree.specs.declared.program.Program.{Program}
use Rattle.domino_tree.specs.Count.{count_of}
use Rattle.domino_check.specs.declared.numbered.CheckedStmt.{CheckedStmt}
use Rattle.code_forms.specs.declared.guard.ArrayShape.{ArrayShape}
use Rattle.code_forms.specs.declared.guard.GuardLine.{GuardLine}
use Rattle.code_forms.specs.GuardMeaning.{length_at}
use Rattle.code_forms.specs.GuardValid.{is_guard_code}
use Rattle.branch_removal.specs.GuardedLines.{guards_in, body_lines}
use Rattle.branch_removal.specs.Followed.{Follows}
use Rattle.branch_removal.specs.Kept.{KeepsMeaning}
use Rattle.branch_removal.specs.Shapes.{shapes_of}
use Rattle.branch_removal.proofs.FollowLemmas.{lines_follow}
use Rattle.branch_removal.proofs.WholeLemmas.{few_guards, valid_code, keeps_meaning}
use Rattle.branch_removal.proofs.removal.remove_branches.Goals as goal

counted : (p : Program) → count_of p < 2 ^ 32 → count_of p ≤ 4294967295
counted p few = omega (arith, few)

pub body_lines-requires : goal.body_lines-requires
body_lines-requires c =
    subst (λ (b : List CheckedStmt). 1 + sum (map guards_in b) ≤ 4294967295) (sym c.body.ensures.body)
    (few_guards c.args.checked.now c.program-program.ensures.passes c.program-program.ensures.keeps (counted c.args.checked.now c.requires))

pub invariant_of-result : goal.invariant_of-result
invariant_of-result c =
    let width = c.len.ensures ∙ ap (λ (p : Program). length p.packet.fields) c.program-program.ensures.program in
    let shapes = c.in_ok-arrays.ensures in
    let lines = c.from_vec.ensures ∙ c.in_ok-lines.ensures.lines ∙ ap body_lines c.body.ensures.body in
    record {
      valid = (λ i. is_guard_code (width i) (shapes i) (lines i)) ∙ valid_code c.args.checked.now c.program-program.ensures.passes c.program-program.ensures.keeps (counted c.args.checked.now c.requires);
    }

-- what holds of the program's arrays and lines holds of those that are made
at_made : (P : List ArrayShape → List GuardLine → Type 0) (shapes made : List ArrayShape) (lines told : List GuardLine) → made ≡ shapes → told ≡ lines → P shapes lines → P made told
at_made P shapes made lines told same are held = subst (λ (l : List GuardLine). P made l) (sym are) (subst (λ (s : List ArrayShape). P s lines) (sym same) held)

pub returns-clause-keeps : goal.returns-clause-keeps
returns-clause-keeps c =
    let lines = c.from_vec.ensures ∙ c.in_ok-lines.ensures.lines ∙ ap body_lines c.body.ensures.body in
    at_made (KeepsMeaning c.args.checked.now) _ _ _ _ c.in_ok-arrays.ensures lines
    (keeps_meaning c.args.checked.now c.program-program.ensures.passes c.program-program.ensures.keeps)

pub returns-clause-sources : goal.returns-clause-sources
returns-clause-sources c =
    let lines = c.from_vec.ensures ∙ c.in_ok-lines.ensures.lines ∙ ap body_lines c.body.ensures.body in
    at_made (Follows (List ℕ) sources c.args.checked.now) _ _ _ _ c.in_ok-arrays.ensures lines
    (lines_follow c.args.checked.now c.program-program.ensures.passes.names (List ℕ) sources)

pub returns-clause-marks : goal.returns-clause-marks
returns-clause-marks c =
    let lines = c.from_vec.ensures ∙ c.in_ok-lines.ensures.lines ∙ ap body_lines c.body.ensures.body in
    at_made (λ shapes lines. Follows Mark (marks (length_at shapes)) c.args.checked.now shapes lines) _ _ _ _ c.in_ok-arrays.ensures lines
    (lines_follow c.args.checked.now c.program-program.ensures.passes.names Mark (marks (length_at (shapes_of c.args.checked.now))))
