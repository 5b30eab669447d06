-- the field stands in none of the arguments so far
use Rattle.std.proofs.Common.{◌≡◌, map, drop}
use Rattle.std.specs.List.{list_any}
use Rattle.domino_check.specs.Sites.{mentions}
use Rattle.domino_check.proofs.sites.+mentions.Given as goal

abbrev pub invariant-any_mentions-loop-arg : goal.invariant-any_mentions-loop-arg
invariant-any_mentions-loop-arg l = list_any (λ mentioned. mentioned) (map (mentions l.field) l.args) ≡ list_any (λ mentioned. mentioned) (map (mentions l.field) (drop l.arg-index l.args))
