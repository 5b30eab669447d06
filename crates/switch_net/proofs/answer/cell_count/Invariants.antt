use Rattle.std.proofs.Common.{◌≡◌, ◌≤◌, ◌*◌}
use Rattle.run_answer.specs.Cells.{cell_count}
use Rattle.switch_net.proofs.answer.cell_count.Given as goal

-- the cells of the first arrays are counted, each with fewer than 2^32 of them
abbrev pub invariant-loop-a : goal.invariant-loop-a
invariant-loop-a l = record {
  counted : l.count ≡ cell_count l.code l.a;
  below : l.count ≤ l.a * 4294967295;
}
