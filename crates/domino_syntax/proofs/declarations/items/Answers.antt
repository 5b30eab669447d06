use Rattle.std.proofs.Common.{◌≡◌, ◌-◌, ◌+◌, suc, true, length, Ok, arith}
use Rattle.domino_syntax.specs.Parsers.{first}
use Rattle.domino_syntax.specs.ReadingPrograms.{begins_item, item}
use Rattle.domino_syntax.proofs.Turns.{all_turn}
use Rattle.domino_syntax.proofs.declarations.items.Goals as goal

pub loop-turn-preserved : goal.loop-turn-preserved
loop-turn-preserved c =
    let n = length c.args.reader.now - c.loop-turn._turn in
    let m = length c.args.reader.now - (c.loop-turn._turn + 1) in
    let is_suc : n ≡ suc m = omega arith in
    let sees : begins_item (first c.loop-turn.reader) ≡ true = cc in
    let read : item c.loop-turn.reader ≡ Ok (c.in_ok-item.field-0, c.item.new.reader) = c.in_ok-item.ensures in
    let turn = all_turn begins_item item n m c.loop-turn.found c.loop-turn.reader c.item.new.reader c.in_ok-item.field-0 is_suc sees read in
    cc (c.in_ok-push.ensures.ok)
