use Rattle.std.proofs.Common.{◌≡◌, [], length, rules, arith}
use Rattle.std.proofs.lemmas.List.{length_push}
use Rattle.std.proofs.lemmas.Iterator.Consumers.{YieldsList-turn}
use Rattle.std.proofs.lemmas.Iterator.Adapters.{YieldsList-from_vec}
use Rattle.pipe_driver.specs.Driver.{Driver}
use Rattle.switch_net.specs.Driving.{IsPipeOf}
use Rattle.switch_net.proofs.LaneLemmas.{each_more, is_new, is_pipe}
use Rattle.switch_net.proofs.building.with_drivers.Goals as goal

pub new-requires : goal.new-requires
new-requires c =
    let turn = YieldsList-turn (YieldsList-from_vec {s = c.into_iter-worker-iterator.result} c.args.workers.items (search rules) (search rules))
    c.loop-worker.yielded c.loop-worker.worker-iterator c.loop-worker.yielded_by c.next.result c.next.new.self c.in-Some.worker c.in-Some.is c.next.ensures.steps in
    is_new c.args.run.now c.args.workers.items _ c.in-Some.worker c.requires turn.0 turn.1

pub loop-worker-preserved : goal.loop-worker-preserved
loop-worker-preserved c =
    let turn = YieldsList-turn (YieldsList-from_vec {s = c.into_iter-worker-iterator.result} c.args.workers.items (search rules) (search rules))
    c.loop-worker.yielded c.loop-worker.worker-iterator c.loop-worker.yielded_by c.next.result c.next.new.self c.in-Some.worker c.in-Some.is c.next.ensures.steps in
    let same : length c.loop-worker.drivers.items ≡ length c.loop-worker.yielded = omega arith in
    record {
      each = each_more (λ p (d : Driver). IsPipeOf c.args.run.now [] p d.worker.pipe) c.loop-worker.drivers.items _ c.in_ok-new.field-0 c.push_reserved.ensures.items c.loop-worker.invariant.each
          (is_pipe c.args.run.now c.args.workers.items (length c.loop-worker.yielded) _ c.in-Some.worker c.in_ok-new.field-0 c.requires turn.0 turn.1 same c.in_ok-new.ensures);
      count = let more = length_push c.loop-worker.yielded c.in-Some.worker in omega (arith, more, c.push_reserved.ensures.len);
      room = omega (arith, c.push_reserved.ensures.capacity);
    }
