use Rattle.std.proofs.Common.{sym, subst}
use Rattle.egress_order.specs.OwnPackets.{OwnPackets, IsExit}
use Rattle.run_laws.specs.Run.{home_of}
use Rattle.packet_steps.specs.Packet.{HasEntry}
use Rattle.switch_worker.specs.Worker.{Worker}
use Rattle.switch_worker.specs.Finished.{IsFinished}
use Rattle.run_answer.proofs.EntriesLemmas.{home_entry, entries_step}
use Rattle.run_answer.proofs.entries.push_entry.Goals as goal

pub returns-clause-entries : goal.returns-clause-entries
returns-clause-entries c =
    let done : IsFinished c.args.run.now (home_of c.args.run.now c.args.t) c.worker.inside.pipe = subst (λ (w : Worker). IsFinished c.args.run.now (home_of c.args.run.now c.args.t) w.pipe) (sym c.worker.view_is) c.requires.home in
    let counts : IsExit c.worker.inside.pipe.door.exit = subst (λ (e : OwnPackets). IsExit e) c.exit-exit.ensures.exit c.left.ensures.laws in
    let entry : HasEntry c.args.run.now c.args.t c.args.g c.by.result c.touched.result = home_entry c.args.run.now c.worker.inside.pipe c.args.t c.args.g c.by.result c.touched.result done c.exit-exit.ensures.laws counts c.requires.arrival c.requires.group c.by.ensures.by c.touched.ensures.touched in
    entries_step c.args.run.now c.args.t c.args.g c.by.result c.touched.result c.args.by.now.items c.args.touched.now.items c.push_reserved.new.self.items c.push_reserved-2.new.self.items c.requires.group entry c.requires.before c.push_reserved.ensures.items c.push_reserved-2.ensures.items
