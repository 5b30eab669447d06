use Rattle.std.proofs.Common.{◌∙◌, ◌+◌, [], ◌∷◌, ap, length, length-append}
use Rattle.dependence.specs.Classes.{key_at}
use Rattle.dependence.proofs.classes.numbers_of.Goals as goal

pub loop-key-preserved : goal.loop-key-preserved
loop-key-preserved c =
    let pushed = c.in_ok-push.ensures.items in
    record {
      numbered = rw pushed (c.number.ensures c.args.keys.now c.loop-key.numbers.items c.loop-key.invariant.numbered
          (ap (key_at c.args.keys.now) c.loop-key.invariant.long));
      long = ap length pushed ∙ length-append c.loop-key.numbers.items (_ ∷ []) ∙ ap (λ n. n + 1) c.loop-key.invariant.long;
    }
