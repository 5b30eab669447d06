-- those of the arguments so far
use Rattle.std.proofs.Common.{◌≡◌, map, take}
use Rattle.mp5_words.specs.Copies.{Seen}
use Rattle.mp5_words.specs.Domain.{Mark, mark_ops}
use Rattle.domino_check.specs.Walk.{walk_value}
use Rattle.source_rows.specs.MarkViews.{seen}
use Rattle.source_rows.proofs.mark_values.+value.Given as goal

abbrev pub invariant-values-loop-arg : goal.invariant-values-loop-arg
invariant-values-loop-arg l = l.all ≡ map (λ (x : Seen Mark → Mark). x (seen l.fields l.copies)) (map (walk_value Mark mark_ops) (take l.arg-index l.args))
