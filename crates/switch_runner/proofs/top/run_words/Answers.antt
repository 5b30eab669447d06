use Rattle.switch_runner.proofs.LawLemmas.{laws_of_request, laws_of_words}
use Rattle.switch_runner.proofs.top.run_words.Goals as goal

pub returns-in-Ok-clause-laws : goal.returns-in-Ok-clause-laws
returns-in-Ok-clause-laws g c = laws_of_request c.args.words.now _ _ _ _ _ _ _ c.serve.result c.in-Ok.ensures.taken c.serve.ensures.serves

pub returns-in-Err-clause-laws : goal.returns-in-Err-clause-laws
returns-in-Err-clause-laws g c =
    rw c.from.ensures (laws_of_words c.args.words.now _ _ _ c.in-Err.fault c.in-Err.ensures.refused)
