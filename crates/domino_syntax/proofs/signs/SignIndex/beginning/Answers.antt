use Rattle.std.proofs.Common.{◌∙◌, get_or, ap, arith}
use Rattle.domino_syntax.proofs.SignIndexLemmas.{row_at, rows_fit}
use Rattle.domino_syntax.proofs.signs.SignIndex.beginning.Goals as goal

pub index-requires : goal.index-requires
index-requires c = omega (arith, c.from.ensures, c.ranges.first.fits, c.self.inside.by_first.ok, rows_fit (λ signs. signs.items) c.self.inside.by_first.items c.self.invariant)

pub returns : goal.returns
returns c =
    let all = c.self.invariant in
    let rows = c.self.inside.by_first.items in
    c.deref.ensures.value ∙ (ap (λ signs. signs.items) c.index.ensures ∙ (ap (λ b. (get_or rows b c.index.result.now).items) c.from.ensures ∙ row_at (λ signs. signs.items) rows c.index.result.now c.args.first all c.ranges.first.fits (omega (arith, c.ranges.first.fits, rows_fit (λ signs. signs.items) rows all))))
