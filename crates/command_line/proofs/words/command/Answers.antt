use Rattle.std.proofs.Common.{◌≡◌, ◌∙◌, ap, ap₂, codes, refl}
use Rattle.clap.specs.Words.{App, new_app, with_rule}
use Rattle.clap.specs.declared.builder.value_parser.ValueParser.{ValueParser}
use Rattle.mp5_words.specs.declared.settings.TheConstants.{MAX_PIPELINES, MAX_WINDOW, MAX_ROUND}
use Rattle.command_line.specs.CommandLine.{any_word, flag, from_one, number, ours, required_word}
use Rattle.command_line.proofs.words.command.Goals as goal

abbrev words : App
words = with_rule (with_rule (with_rule (new_app (codes "mp5")) (required_word (codes "mode"))) (required_word (codes "program"))) (required_word (codes "capture"))

abbrev numbers : App
numbers = with_rule (with_rule (with_rule (with_rule words (number (codes "pipelines") (from_one MAX_PIPELINES) (codes "4"))) (number (codes "window") (from_one MAX_WINDOW) (codes "64"))) (number (codes "round") (from_one MAX_ROUND) (codes "256"))) (number (codes "seed") any_word (codes "0"))

ours_is : with_rule (with_rule numbers (flag (codes "trace"))) (flag (codes "brief")) ≡ ours
unfolding ours
ours_is = refl

pub returns : goal.returns
returns c =
    c.in_ok-command.ensures.shape c.flag-2.ensures.own
    ∙ ap₂ with_rule (c.in_ok-arg-8.ensures.shape c.flag.ensures.own
    ∙ ap₂ with_rule (c.in_ok-arg-7.ensures.shape c.number-4.ensures.own
    ∙ ap₂ with_rule (c.in_ok-arg-6.ensures.shape c.number-3.ensures.own
    ∙ ap₂ with_rule (c.in_ok-arg-5.ensures.shape c.number-2.ensures.own
    ∙ ap₂ with_rule (c.in_ok-arg-4.ensures.shape c.number.ensures.own
    ∙ ap₂ with_rule (c.in_ok-arg-3.ensures.shape c.required_word-3.ensures.own
    ∙ ap₂ with_rule (c.in_ok-arg-2.ensures.shape c.required_word-2.ensures.own
    ∙ ap₂ with_rule (c.in_ok-arg.ensures.shape c.required_word.ensures.own
    ∙ ap₂ with_rule c.new.ensures.app c.required_word.ensures.rule) c.required_word-2.ensures.rule) c.required_word-3.ensures.rule)
    (c.number.ensures.rule ∙ ap (λ (p : ValueParser). number (codes "pipelines") p (codes "4")) c.from_one.ensures))
    (c.number-2.ensures.rule ∙ ap (λ (p : ValueParser). number (codes "window") p (codes "64")) c.from_one-2.ensures))
    (c.number-3.ensures.rule ∙ ap (λ (p : ValueParser). number (codes "round") p (codes "256")) c.from_one-3.ensures))
    (c.number-4.ensures.rule ∙ ap (λ (p : ValueParser). number (codes "seed") p (codes "0")) c.value_parser.ensures)) c.flag.ensures.rule) c.flag-2.ensures.rule
    ∙ ours_is
