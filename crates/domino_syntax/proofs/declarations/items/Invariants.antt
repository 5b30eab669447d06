use Rattle.std.proofs.Common.{◌≡◌, ◌-◌, length}
use Rattle.domino_syntax.specs.Parsers.{repeat, adding}
use Rattle.domino_syntax.specs.ReadingPrograms as spec
use Rattle.domino_syntax.proofs.declarations.items.Given as goal

abbrev pub invariant-loop-turn : goal.invariant-loop-turn
invariant-loop-turn l = spec.items l.fn.reader ≡ repeat (λ _. spec.begins_item) (adding spec.item) (length l.fn.reader - l._turn) l.found l.reader
