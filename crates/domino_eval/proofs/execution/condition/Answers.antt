use Rattle.domino_check.specs.NumberedMeaning.{indexing}
use Rattle.domino_eval.specs.Places.{marks}
use Rattle.domino_eval.proofs.PlaceLemmas.{block_moves}
use Rattle.domino_eval.proofs.execution.condition.Goals as goal

pub returns-clause-still : goal.returns-clause-still
returns-clause-still c = block_moves (indexing c.args.checked.now) (marks c.args.places.now) (marks c.value.new.places) c.args.arm.now c.requires.still c.value.ensures.touched
