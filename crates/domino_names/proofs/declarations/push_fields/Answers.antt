use Rattle.domino_names.proofs.SymbolLemmas.{fields_one}
use Rattle.domino_names.proofs.declarations.push_fields.Goals as goal

pub loop-place-preserved : goal.loop-place-preserved
loop-place-preserved c =
    fields_one c.args.fields.now c.loop-place.place c.index-fields-place.result c.loop-place-test.true c.index-fields-place.is
    c.args.out.now.items c.loop-place.out.items c.push.new.out.items c.loop-place.invariant c.in_ok-push.ensures
