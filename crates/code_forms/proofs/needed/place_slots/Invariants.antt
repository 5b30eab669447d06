use Rattle.std.proofs.Common.{◌≡◌, flat_map, take}
use Rattle.code_forms.specs.Needed.{group_slots}
use Rattle.code_forms.proofs.needed.place_slots.Given as goal

abbrev pub invariant-loop-group : goal.invariant-loop-group
invariant-loop-group l = l.slots ≡ flat_map (group_slots l.flat l.spots) (take l.group-index l.groups)
