use Rattle.std.proofs.Common.{◌≡◌, ◌++◌, flat_map, take}
use Rattle.code_forms.specs.Needed.{guard_slots}
use Rattle.code_forms.proofs.needed.add_group.Given as goal

abbrev pub invariant-loop-array : goal.invariant-loop-array
invariant-loop-array l = l.slots ≡ l.fn.slots ++ flat_map (guard_slots l.flat) (take l.array-index l.arrays)
