use Rattle.std.proofs.Common.{◌≡◌, ℤ, List, length, subst, sym, ◌∙◌}
use Rattle.std.proofs.lemmas.List.{with_items_is}
use Rattle.shard_rounds.specs.declared.plan.Move.{Move}
use Rattle.run_laws.specs.LawfulPlans.{AreAllPlans}
use Rattle.run_answer.specs.Results.{ArePackets}
use Rattle.switch_net.specs.Answer.{moves_of}
use Rattle.switch_net.proofs.EndLemmas.{plans_made, are_served, counts_few}
use Rattle.switch_net.proofs.network.fill.Goals as goal

pub returns : goal.returns
returns c =
    let run = c.args.run.now in
    let made = c.args.owners.now.plans in
    let answer = c.args.answer.now in
    let plans : moves_of answer.plans.items ≡ made = plans_made made _ answer.plans.items c.requires.room.plans c.requires.plans.all in
    let long : length c.write_packets.new.packets ≡ answer.packets.len = c.write_packets.ensures.size ∙ sym c.requires.room.packets ∙ sym answer.packets.ok.0 in
    record {
      count = c.requires.room.count;
      packets = subst (λ (xs : List ℤ). ArePackets run xs) (sym (with_items_is answer.packets c.write_packets.new.packets long)) c.write_packets.ensures;
      cells = c.push_cells.ensures;
      counts = c.push_counts.ensures;
      few = counts_few run c.push_counts.new.counts.items c.groups.ensures.few c.groups.ensures.sizes c.push_counts.ensures;
      plans = subst (λ (ps : List (List Move)). AreAllPlans run ps) (sym plans) c.requires.plans;
      served = are_served run made (moves_of answer.plans.items) c.push_entries.new.by.items c.push_entries.new.touched.items plans c.requires.plans c.push_entries.ensures;
    }
