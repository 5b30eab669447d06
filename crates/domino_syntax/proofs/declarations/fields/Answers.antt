use Rattle.std.proofs.Common.{◌≡◌, ◌-◌, ◌+◌, suc, true, length, Ok, arith}
use Rattle.domino_tree.specs.declared.token.Keyword.TheVariants.{Int}
use Rattle.domino_syntax.specs.Parsers.{first, sees_keyword}
use Rattle.domino_syntax.specs.ReadingPrograms.{field}
use Rattle.domino_syntax.proofs.Turns.{all_turn}
use Rattle.domino_syntax.proofs.declarations.fields.Goals as goal

pub loop-turn-preserved : goal.loop-turn-preserved
loop-turn-preserved c =
    let n = length c.args.reader.now - c.loop-turn._turn in
    let m = length c.args.reader.now - (c.loop-turn._turn + 1) in
    let is_suc : n ≡ suc m = omega arith in
    let sees : (sees_keyword Int) (first c.loop-turn.reader) ≡ true = cc in
    let read : field c.loop-turn.reader ≡ Ok (c.in_ok-field.field-0, c.field.new.reader) = c.in_ok-field.ensures in
    let turn = all_turn (sees_keyword Int) field n m c.loop-turn.found c.loop-turn.reader c.field.new.reader c.in_ok-field.field-0 is_suc sees read in
    cc (c.in_ok-push.ensures.ok)
