use Rattle.report_text.proofs.PlanLemmas.{nth-found}
use Rattle.report_text.proofs.cursor.put_nth.Goals as goal

pub returns-then-rest-eq0-clause-found : goal.returns-then-rest-eq0-clause-found
returns-then-rest-eq0-clause-found c = λ e.
    nth-found c.args.t c.args.places.now c.loop-g.g c.args.groups c.args.left c.loop-g.rest c.put_place.new.into.text c.loop-g-test.true c.if-place-eq0.false c.loop-g.invariant.counted c.if-rest-eq0.true c.put_place.ensures.text
