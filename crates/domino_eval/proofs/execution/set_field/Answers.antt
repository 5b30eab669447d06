use Rattle.domino_check.specs.NumberedMeaning.{indexing}
use Rattle.domino_eval.proofs.PlaceLemmas.{places_stay}
use Rattle.domino_eval.proofs.execution.set_field.Goals as goal

pub returns-clause-places : goal.returns-clause-places
returns-clause-places c = places_stay (indexing c.args.checked.now) c.args.fields.now _ c.args.places.now _ c.args.field c.args.expr.now _ c.value-word.ensures.kept c.requires.still c.value-word.ensures.touched c.put.ensures
