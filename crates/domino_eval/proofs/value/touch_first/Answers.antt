use Rattle.std.proofs.Common.{refl}
use Rattle.domino_eval.proofs.PlaceLemmas.{touched_first}
use Rattle.domino_eval.proofs.value.touch_first.Goals as goal

pub returns-clause-touched : goal.returns-clause-touched
returns-clause-touched c = touched_first c.args.places.now _ c.args.array c.place_of-place.result refl
