use Rattle.std.proofs.Common.{◌≡◌, ◌-◌, length, Err, ap, sym, subst, ◌∙◌}
use Rattle.domino_syntax.specs.ReadingPrograms.{parts}
use Rattle.domino_syntax.specs.Stuck.{IsStuckAt}
use Rattle.domino_syntax.proofs.Weighing.{canonical_light}
use Rattle.domino_syntax.proofs.WordTokens.{canonical_words}
use Rattle.domino_syntax.proofs.Deciding as deciding
use Rattle.domino_syntax.proofs.parse.program.Goals as goal

pub invariant_of-result : goal.invariant_of-result
invariant_of-result c =
    let x = c.in-Ok in
    let tokens = c.args.tokens.now in
    let read = deciding.parts_sound tokens c.parts.new.reader (x.before, x.packet, x.after, x.function) c.requires.named (ap (parts (length tokens)) (sym c.new-reader.ensures) ∙ x.ensures) in
    record { derived = read.stands; light = canonical_light tokens x.before x.packet x.after x.function c.requires.light read; words = canonical_words tokens x.before x.packet x.after x.function c.requires.words read }

pub returns-in-Ok-clause-read : goal.returns-in-Ok-clause-read
returns-in-Ok-clause-read c =
    let x = c.in-Ok in
    let tokens = c.args.tokens.now in
    deciding.parts_sound tokens c.parts.new.reader (x.before, x.packet, x.after, x.function) c.requires.named (ap (parts (length tokens)) (sym c.new-reader.ensures) ∙ x.ensures)

pub overflow_sub-result : goal.overflow_sub-result
overflow_sub-result c =
    let tokens = c.args.tokens.now in
    let refused : parts (length tokens) c.new-reader.result ≡ Err c.parts.new.reader = rw c.in-Err-Syntax.field-0-is at c.in-Err-Syntax.ensures in
    let read = ap (parts (length tokens)) (sym c.new-reader.ensures) ∙ refused in
    rw c.left.ensures (deciding.refused_within tokens c.parts.new.reader c.requires.named read)

pub returns-in-Err-Syntax-clause-refused : goal.returns-in-Err-Syntax-clause-refused
returns-in-Err-Syntax-clause-refused c =
    let tokens = c.args.tokens.now in
    let refused : parts (length tokens) c.new-reader.result ≡ Err c.parts.new.reader = rw c.in-Err-Syntax.field-0-is at c.in-Err-Syntax.ensures in
    let read = ap (parts (length tokens)) (sym c.new-reader.ensures) ∙ refused in
    subst (λ n. IsStuckAt tokens (length tokens - n)) (sym c.left.ensures)
    (deciding.refused_at tokens c.parts.new.reader c.requires.named read)

pub returns-in-Err-Syntax-clause-complete : goal.returns-in-Err-Syntax-clause-complete
returns-in-Err-Syntax-clause-complete c = λ program derived.
    let tokens = c.args.tokens.now in
    let refused : parts (length tokens) c.new-reader.result ≡ Err c.parts.new.reader = rw c.in-Err-Syntax.field-0-is at c.in-Err-Syntax.ensures in
    let read = ap (parts (length tokens)) (sym c.new-reader.ensures) ∙ refused in
    absurd (deciding.stuck_none tokens (length tokens - length c.parts.new.reader) program
    (deciding.refused_at tokens c.parts.new.reader c.requires.named read) derived)
