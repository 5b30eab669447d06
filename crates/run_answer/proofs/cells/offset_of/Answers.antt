use Rattle.std.proofs.Common.{◌≡◌, ap, ◌∙◌, arith}
use Rattle.code_forms.specs.Staged.{group_at, share}
use Rattle.run_answer.proofs.CellsLemmas.{shares_below, before_is}
use Rattle.run_answer.proofs.cells.offset_of.Goals as goal

pub returns-clause-offset : goal.returns-clause-offset
returns-clause-offset c =
    let all : c.loop-b.b ≡ c.args.a = omega arith in
    c.loop-b.invariant.sum
    ∙ ap (shares_below (share c.args.code.now (group_at c.args.code.now c.args.g)) (group_at c.args.code.now c.args.g).arrays) all
    ∙ before_is (share c.args.code.now (group_at c.args.code.now c.args.g)) 0 (group_at c.args.code.now c.args.g).arrays c.args.a c.has_array.ensures.laws.rising c.requires.has
