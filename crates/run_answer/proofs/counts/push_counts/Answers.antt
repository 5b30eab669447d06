use Rattle.std.proofs.Common.{◌<◌, ◌++◌, length, ap, ◌∙◌, arith}
use Rattle.run_laws.specs.Run.{Run}
use Rattle.run_answer.proofs.CountsLemmas.{units_fit, units_more, counts_more, group_counts}
use Rattle.run_answer.proofs.counts.push_counts.Goals as goal

pub push_group-requires-clause-room : goal.push_group-requires-clause-room
push_group-requires-clause-room c =
    let code = ap (λ (r : Run). length r.code.groups) c.run.view_is in
    let lt : c.loop-g.g < length c.args.run.now.code.groups = omega (arith, code, c.loop-g-test.true, c.loop-g.auto.g-end, c.groups-g-end.ensures.count) in
    let fit = units_fit c.args.run.now c.loop-g.g lt in
    omega (arith, fit, c.requires.room, c.loop-g.invariant.len, c.loop-g.invariant.capacity)

pub loop-g-preserved : goal.loop-g-preserved
loop-g-preserved c =
    let code = ap (λ (r : Run). length r.code.groups) c.run.view_is in
    let lt : c.loop-g.g < length c.args.run.now.code.groups = omega (arith, code, c.loop-g-test.true, c.loop-g.auto.g-end, c.groups-g-end.ensures.count) in
    record {
      items = c.push_group.ensures.items ∙ ap (λ items. items ++ group_counts c.args.run.now c.loop-g.g) c.loop-g.invariant.items ∙ counts_more c.args.run.now c.loop-g.g lt;
      len = (let more = units_more c.args.run.now c.loop-g.g lt in omega (arith, more, c.push_group.ensures.len, c.loop-g.invariant.len));
      capacity = c.push_group.ensures.capacity ∙ c.loop-g.invariant.capacity;
    }
