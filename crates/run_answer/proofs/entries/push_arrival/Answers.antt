use Rattle.std.proofs.Common.{◌≡◌, ◌<◌, length, vec_capacity, arith}
use Rattle.run_answer.proofs.EntriesLemmas.{entry_room, entries_next}
use Rattle.run_answer.proofs.entries.push_arrival.Goals as goal

pub push_entry-requires-clause-by_room : goal.push_entry-requires-clause-by_room
push_entry-requires-clause-by_room c =
    let here : c.loop-g.g < length c.args.run.now.code.groups = omega (arith, c.groups-g-end.ensures) in
    entry_room c.args.run.now c.args.t c.loop-g.g (vec_capacity c.loop-g.by) c.loop-g.by.items c.requires.arrival here c.loop-g.invariant.entries.served (omega (arith, c.requires.by_room, c.loop-g.invariant.by_room))

pub push_entry-requires-clause-touched_room : goal.push_entry-requires-clause-touched_room
push_entry-requires-clause-touched_room c =
    let here : c.loop-g.g < length c.args.run.now.code.groups = omega (arith, c.groups-g-end.ensures) in
    entry_room c.args.run.now c.args.t c.loop-g.g (vec_capacity c.loop-g.touched) c.loop-g.touched.items c.requires.arrival here c.loop-g.invariant.entries.arrays
    (omega (arith, c.requires.touched_room, c.loop-g.invariant.touched_room))

pub returns-clause-entries : goal.returns-clause-entries
returns-clause-entries c =
    let all : c.loop-g.g ≡ length c.args.run.now.code.groups = omega (arith, c.groups-g-end.ensures, c.loop-g-test.false, c.loop-g.auto.g-end) in
    entries_next c.args.run.now c.args.t c.loop-g.g c.loop-g.by.items c.loop-g.touched.items all c.loop-g.invariant.entries
