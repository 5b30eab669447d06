use Rattle.std.proofs.Common.{◌≡◌, ◌∙◌, ◌⊎◌, sym, subst, List, map, string_bytes}
use Rattle.std.proofs.lemmas.Result.{IfOk-weaker, IfErr-weaker}
use Rattle.clap.specs.Words.{IsAmong, Text, found_of}
use Rattle.clap.specs.declared.error.kind.ErrorKind.{ErrorKind}
use Rattle.clap.specs.declared.error.kind.ErrorKind.TheVariants as kind
use Rattle.command_line.specs.declared.request.WordsFault.{WordsFault}
use Rattle.command_line.specs.CommandLine.{NotTaken, faults}
use Rattle.command_line.proofs.WordLemmas.{asked_is, not_taken, refused_without}
use Rattle.command_line.proofs.words.asked.Goals as goal

pub returns-in-Ok-clause-taken : goal.returns-in-Ok-clause-taken
returns-in-Ok-clause-taken c =
    IfOk-weaker c.request_of.result _ _
    (λ f h. asked_is (map string_bytes c.args.words.now) (found_of c.in-Ok.matches) c.in-Ok.ensures.fails c.in-Ok.ensures.rows ∙ h)
    c.request_of.ensures.taken

pub returns-in-Ok-clause-refused : goal.returns-in-Ok-clause-refused
returns-in-Ok-clause-refused c =
    let words : List Text = map string_bytes c.args.words.now in
    IfErr-weaker c.request_of.result _ _
    (λ s h. subst (λ (x : WordsFault). NotTaken words x) (sym h.0)
    (refused_without words c.in-Ok.ensures.fails (asked_is words (found_of c.in-Ok.matches) c.in-Ok.ensures.fails c.in-Ok.ensures.rows ∙ h.1)))
    c.request_of.ensures.refused

pub returns-in-Err-clause-refused : goal.returns-in-Err-clause-refused
returns-in-Err-clause-refused c =
    let words : List Text = map string_bytes c.args.words.now in
    subst (λ (x : WordsFault). NotTaken words x) (sym c.refusal.ensures)
    (not_taken words c.kind.result
    (subst (λ (k : ErrorKind). (k ≡ kind.OutOfMemory) ⊎ IsAmong k (faults words)) (sym c.kind.ensures) c.in-Err.ensures.fails))
