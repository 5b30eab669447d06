use Rattle.std.proofs.Common.{◌≡◌, ◌+◌, ◌*◌, ◌-◌, length}
use Rattle.domino_syntax.specs.Parsers.{all_of, adding, repeat}
use Rattle.domino_syntax.specs.ReadingPrograms as spec
use Rattle.domino_syntax.proofs.statements.+statement.Given as goal

abbrev pub decreases-statement : goal.decreases-statement
decreases-statement l = 5 * l.depth

abbrev pub decreases-body : goal.decreases-body
decreases-body l = 5 * l.depth + 1

abbrev pub decreases-block : goal.decreases-block
decreases-block l = 5 * l.depth + 2

abbrev pub decreases-arm : goal.decreases-arm
decreases-arm l = 5 * l.depth + 3

abbrev pub decreases-conditional : goal.decreases-conditional
decreases-conditional l = 5 * l.depth + 4

abbrev pub invariant-body-loop-turn : goal.invariant-body-loop-turn
invariant-body-loop-turn l = all_of spec.begins_statement (spec.statement l.depth) l.initial.reader ≡ repeat (λ _. spec.begins_statement) (adding (spec.statement l.depth)) (length l.initial.reader - l._turn) l.found l.reader

abbrev pub invariant-conditional-loop-turn : goal.invariant-conditional-loop-turn
invariant-conditional-loop-turn l =
    spec.conditional l.depth (spec.statement l.depth) l.fn.reader ≡ spec.links (spec.arm l.depth (spec.statement l.depth)) (spec.block (spec.statement l.depth)) (length l.initial.reader - l._turn) l.arms l.reader
