use Rattle.std.proofs.Common.{◌==◌, ap, ◌∙◌}
use Rattle.std.proofs.lemmas.Nat.Bits.{shr_and_one}
use Rattle.code_forms.specs.Staged.{group_at}
use Rattle.run_answer.proofs.CellsLemmas.{set_has}
use Rattle.run_answer.proofs.cells.has_array.Goals as goal

pub returns-clause-has : goal.returns-clause-has
returns-clause-has c =
    ap (λ n. n == 1) (shr_and_one c.arrays.result c.args.a)
    ∙ set_has c.arrays.result (group_at c.args.code.now c.args.g).arrays c.args.a c.arrays.ensures.set c.requires.few
