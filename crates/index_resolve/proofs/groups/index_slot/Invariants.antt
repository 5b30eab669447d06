use Rattle.std.proofs.Common.{◌≡◌, ◌+◌, drop}
use Rattle.code_forms.specs.FlatMeaning.{index_slot}
use Rattle.index_resolve.proofs.groups.index_slot.Given as goal

abbrev pub invariant-loop-instr : goal.invariant-loop-instr
invariant-loop-instr l = (l.slot ≡ l.fields + l.instr-index) × (index_slot (drop l.instr-index l.instrs) l.slot l.array ≡ index_slot l.instrs l.fields l.array)
