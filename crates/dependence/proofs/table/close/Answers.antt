use Rattle.std.proofs.Common.{◌≡◌, sym, ap, ◌∙◌, arith, ◌||◌}
use Rattle.std.specs.Prelude.{◌==◌}
use Rattle.dependence.specs.Tables.{at, via}
use Rattle.dependence.proofs.ReachLemmas.{sound, complete}
use Rattle.dependence.proofs.table.close.Goals as goal

pub returns : goal.returns
returns c = λ a b wa wb.
    let e : c.loop-node.node ≡ 16 = omega arith in
    let is : ((a == b) || at c.loop-node.table a b) ≡ via (at c.args.table.now) 16 a b = c.loop-node.invariant a b wa wb ∙ ap (λ n. via (at c.args.table.now) n a b) e in
    (λ h. sound (at c.args.table.now) 16 16 a b (omega arith) wa wb (sym is ∙ h), λ r. is ∙ complete (at c.args.table.now) 16 r)
