use Rattle.std.proofs.Common.{◌≡◌, length, map, take, vec_len, vec_capacity}
use Rattle.code_forms.specs.Staged.{unit_count}
use Rattle.pipe_worker.proofs.pipe.owners.Given as goal

-- the counts of the first groups
abbrev pub invariant-loop-g : goal.invariant-loop-g
invariant-loop-g l = record {
  counts : l.units.items ≡ map (unit_count l.code) (take l.g l.code.groups);
  count : vec_len l.units ≡ l.g;
  room : vec_capacity l.units ≡ length l.code.groups;
}
