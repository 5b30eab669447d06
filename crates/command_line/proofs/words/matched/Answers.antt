use Rattle.std.proofs.Common.{◌≡◌, ◌∙◌, ap, refl, List, map, string_bytes, true}
use Rattle.std.proofs.lemmas.Result.{IfOk-weaker}
use Rattle.clap.specs.Words.{App, Text, app_of, fault_of, is_simple, is_simple_and_free, matches_of}
use Rattle.clap.proofs.FaultLemmas.{fails_as}
use Rattle.clap.proofs.OnLiterals.{clap_on_literals}
use Rattle.command_line.specs.CommandLine.{arguments, faults, ours}
use Rattle.command_line.proofs.words.matched.Goals as goal

simple : is_simple ours ≡ true
unfolding clap_on_literals ours
simple = refl

free : is_simple_and_free ours ≡ true
unfolding clap_on_literals ours
free = refl

faults_are : (words : List Text) → fault_of ours words ≡ faults words
unfolding faults
faults_are words = refl

arguments_are : (words : List Text) → matches_of ours words ≡ arguments words
unfolding arguments
arguments_are words = refl

pub returns-clause-fails : goal.returns-clause-fails
returns-clause-fails c =
    let words : List Text = map string_bytes c.args.words.now in
    let app : app_of c.in_ok-command.command ≡ ours = c.in_ok-command.ensures in
    fails_as c.try_get_matches_from.result (fault_of (app_of c.in_ok-command.command) words) (faults words)
    (ap (λ (a : App). fault_of a words) app ∙ faults_are words)
    (c.try_get_matches_from.ensures.kinds (ap is_simple_and_free app ∙ free))

pub returns-clause-rows : goal.returns-clause-rows
returns-clause-rows c =
    let words : List Text = map string_bytes c.args.words.now in
    let app : app_of c.in_ok-command.command ≡ ours = c.in_ok-command.ensures in
    IfOk-weaker c.try_get_matches_from.result _ _
    (λ m h. (h (ap is_simple app ∙ simple)).0 ∙ ap (λ (a : App). matches_of a words) app ∙ arguments_are words)
    c.try_get_matches_from.ensures.matches
