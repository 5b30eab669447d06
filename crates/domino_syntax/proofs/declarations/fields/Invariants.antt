use Rattle.std.proofs.Common.{◌≡◌, ◌-◌, length}
use Rattle.domino_tree.specs.declared.token.Keyword.TheVariants.{Int}
use Rattle.domino_syntax.specs.Parsers.{repeat, adding, sees_keyword}
use Rattle.domino_syntax.specs.ReadingPrograms as spec
use Rattle.domino_syntax.proofs.declarations.fields.Given as goal

abbrev pub invariant-loop-turn : goal.invariant-loop-turn
invariant-loop-turn l = spec.fields l.fn.reader ≡ repeat (λ _. (sees_keyword Int)) (adding spec.field) (length l.fn.reader - l._turn) l.found l.reader
