use Rattle.std.proofs.Common.{◌≡◌, ◌≤◌, ◌*◌, map, sum, take}
use Rattle.code_forms.specs.Staged.{unit_count}
use Rattle.switch_net.proofs.answer.unit_total.Given as goal

-- the units of the first groups are counted, each with at most 65,536 of them
abbrev pub invariant-loop-g : goal.invariant-loop-g
invariant-loop-g l = record {
  counted : l.count ≡ sum (map (unit_count l.code) (take l.g l.code.groups));
  below : l.count ≤ l.g * 65536;
}
