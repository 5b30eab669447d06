-- the steps that are left, run behind the values so far, give all values
use Rattle.std.proofs.Common.{◌≡◌, Bool, drop}
use Rattle.code_forms.specs.FlatMeaning.{run_from, steps_in, index_slot}
use Rattle.flat_graph.specs.Orders.{copies_in}
use Rattle.index_resolve.specs.Clean.{cleans, clean_slots}
use Rattle.index_resolve.proofs.clean.clean_slots.Given as goal

abbrev pub invariant-loop-number : goal.invariant-loop-number
invariant-loop-number l =
    run_from Bool cleans (index_slot l.code.instrs l.code.fields) (steps_in (copies_in l.code.arrays) l.number (drop l.number l.code.instrs)) l.clean.items
    ≡ clean_slots l.code.fields l.code.arrays l.code.instrs
