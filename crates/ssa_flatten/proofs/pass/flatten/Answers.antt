-- the clauses are the lemmas at this code
use Rattle.std.proofs.Common.{◌∙◌, ℕ, ℤ, List, length, ap}
use Rattle.std.proofs.lemmas.List.{length-map}
use Rattle.mp5_words.specs.Domain.{Mark, words, sources, marks}
use Rattle.code_forms.specs.FlatMeaning.{Step}
use Rattle.ssa_flatten.specs.Flattening.{flat_steps}
use Rattle.ssa_flatten.proofs.Meaning.{means_at}
use Rattle.ssa_flatten.proofs.Whole.{counts}
use Rattle.ssa_flatten.proofs.pass.flatten.Goals as goal

pub returns-clause-words : goal.returns-clause-words
returns-clause-words c =
    let g = c.args.code.now in
    let made = c.in_ok-flat_code.ensures in
    λ lengths loads. means_at g.fields g.arrays g.lines g.valid c.in_ok-flat_code.field-0.arrays made.arrays _ _ made.instrs made.last ℤ (words lengths loads)

pub returns-clause-sources : goal.returns-clause-sources
returns-clause-sources c =
    let g = c.args.code.now in
    let made = c.in_ok-flat_code.ensures in
    means_at g.fields g.arrays g.lines g.valid c.in_ok-flat_code.field-0.arrays made.arrays _ _ made.instrs made.last (List ℕ) sources

pub returns-clause-marks : goal.returns-clause-marks
returns-clause-marks c =
    let g = c.args.code.now in
    let made = c.in_ok-flat_code.ensures in
    λ lengths. means_at g.fields g.arrays g.lines g.valid c.in_ok-flat_code.field-0.arrays made.arrays _ _ made.instrs made.last Mark (marks lengths)

pub returns-clause-count : goal.returns-clause-count
returns-clause-count c =
    let g = c.args.code.now in
    ap length c.in_ok-flat_code.ensures.instrs ∙ length-map (flat_steps g.fields g.arrays g.lines) (λ (s : Step). s.instr) ∙ counts g.fields g.arrays g.lines g.valid
