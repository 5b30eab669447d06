-- those of the arguments so far
use Rattle.std.proofs.Common.{◌≡◌, ℕ, List, map, take}
use Rattle.mp5_words.specs.Copies.{Seen}
use Rattle.mp5_words.specs.Domain.{source_ops}
use Rattle.domino_check.specs.Walk.{walk_value}
use Rattle.source_rows.specs.Views.{seen}
use Rattle.source_rows.proofs.values.+value.Given as goal

abbrev pub invariant-values-loop-arg : goal.invariant-values-loop-arg
invariant-values-loop-arg l = l.all ≡ map (λ (x : Seen (List ℕ) → List ℕ). x (seen l.fields l.copies)) (map (walk_value (List ℕ) source_ops) (take l.arg-index l.args))
