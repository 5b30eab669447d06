use Rattle.std.proofs.Common.{◌≡◌, refl, arith}
use Rattle.run_laws.specs.Run.{arrivals}
use Rattle.run_answer.proofs.EntriesLemmas.{entries_none, entries_all}
use Rattle.run_answer.proofs.entries.push_entries.Goals as goal

pub loop-t-init : goal.loop-t-init
loop-t-init c = record {
  entries = entries_none c.args.run.now c.args.by.now.items c.args.touched.now.items c.requires.by c.requires.touched;
  by_room = refl;
  touched_room = refl;
}

pub returns : goal.returns
returns c =
    let all : c.loop-t.t ≡ arrivals c.args.run.now = omega (arith, c.count-t-end.ensures, c.loop-t-test.false, c.loop-t.auto.t-end) in
    entries_all c.args.run.now c.loop-t.t c.loop-t.by.items c.loop-t.touched.items all c.loop-t.invariant.entries
