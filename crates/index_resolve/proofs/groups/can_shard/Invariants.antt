-- those so far are like the first
use Rattle.std.proofs.Common.{◌≡◌, take, true, slice_index}
use Rattle.std.specs.List.{list_all}
use Rattle.index_resolve.specs.Groups.{is_like}
use Rattle.index_resolve.proofs.groups.can_shard.Given as goal

abbrev pub invariant-loop-array : goal.invariant-loop-array
invariant-loop-array l = list_all (is_like l.clean l.code.fields l.code.arrays l.code.instrs (slice_index l.group 0)) (take l.array-index l.group) ≡ true
