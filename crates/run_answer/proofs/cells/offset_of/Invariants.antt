use Rattle.std.proofs.Common.{◌≡◌, ◌*◌, ◌≤◌}
use Rattle.code_forms.specs.Staged.{group_at, share}
use Rattle.run_answer.proofs.CellsLemmas.{shares_below}
use Rattle.run_answer.proofs.cells.offset_of.Given as goal

-- the cells of the first arrays
abbrev pub invariant-loop-b : goal.invariant-loop-b
invariant-loop-b l = record {
  sum : l.before ≡ shares_below (share l.code (group_at l.code l.g)) (group_at l.code l.g).arrays l.b;
  few : l.before ≤ 4294967295 * l.b;
}
