use Rattle.std.proofs.Common.{refl}
use Rattle.domino_eval.proofs.PlaceLemmas.{touched_already}
use Rattle.domino_eval.proofs.value.touch.Goals as goal

pub returns-in-Some-clause-touched : goal.returns-in-Some-clause-touched
returns-in-Some-clause-touched c = touched_already c.args.places.now c.args.places.now c.args.array c.in-Some.place refl c.in-Some.is
