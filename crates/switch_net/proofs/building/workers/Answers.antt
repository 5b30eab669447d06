use Rattle.std.proofs.Common.{◌≡◌, length, subst, arith}
use Rattle.switch_net.specs.Building.{HasLanesFrom}
use Rattle.switch_net.proofs.LaneLemmas.{each_more}
use Rattle.switch_net.proofs.building.workers.Goals as goal

pub loop-number-preserved : goal.loop-number-preserved
loop-number-preserved c =
    let same : c.loop-number.number ≡ length c.loop-number.workers.items = omega arith in
    record {
      each = each_more (HasLanesFrom c.args.run.now 0 0 0) c.loop-number.workers.items _ c.in_ok-worker.field-0 c.push_reserved.ensures.items c.loop-number.invariant.each
          (subst (λ n. HasLanesFrom c.args.run.now 0 0 0 n c.in_ok-worker.field-0) same c.in_ok-worker.ensures);
      count = omega (arith, c.push_reserved.ensures.len);
      room = omega (arith, c.push_reserved.ensures.capacity);
    }
