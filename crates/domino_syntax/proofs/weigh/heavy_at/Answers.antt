use Rattle.std.proofs.Common.{◌∙◌, ap, sym}
use Rattle.domino_tree.specs.Weight.{after_token}
use Rattle.domino_syntax.proofs.WeighLemmas.{counters_more, light_step, heavy_here}
use Rattle.domino_syntax.proofs.weigh.heavy_at.Goals as goal

pub loop-i-preserved : goal.loop-i-preserved
loop-i-preserved c =
    let tokens = c.args.tokens.now in
    let i = c.loop-i.i in
    let x = c.index-tokens-i.result in
    let taken = c.if-not-take.ensures in
    record {
      light = light_step tokens i x c.loop-i.counters c.loop-i-test.true c.index-tokens-i.is c.loop-i.invariant.counted c.loop-i.invariant.light taken.1;
      counted = taken.0 ∙ ap (λ ns. after_token ns x) c.loop-i.invariant.counted ∙ sym (counters_more tokens i x c.loop-i-test.true c.index-tokens-i.is);
    }

pub returns-then-not-take : goal.returns-then-not-take
returns-then-not-take c =
    heavy_here c.args.tokens.now c.loop-i.i c.index-tokens-i.result c.loop-i.counters c.loop-i-test.true c.index-tokens-i.is c.loop-i.invariant.counted c.loop-i.invariant.light c.if-not-take.ensures
