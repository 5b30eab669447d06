-- the marks so far and the lists that are left are the marks before and all lists
use Rattle.std.proofs.Common.{◌≡◌, ℕ, ◌<◌, ◌⊎◌, true, drop}
use Rattle.std.specs.Prelude.{◌↔◌}
use Rattle.dependence.specs.Tables.{has}
use Rattle.dependence.specs.Uses.{Member}
use Rattle.domino_check.specs.SourceGroups.{all_sources}
use Rattle.source_rows.proofs.table.mark_lists.Given as goal

abbrev pub invariant-loop-list : goal.invariant-loop-list
invariant-loop-list l = (b : ℕ) → b < 16 → ((has l.row b ≡ true) ⊎ Member b (all_sources (drop l.list-index l.lists))) ↔ ((has l.initial.row b ≡ true) ⊎ Member b (all_sources l.lists))
