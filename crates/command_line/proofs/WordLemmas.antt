-- What the answer to the words is, from what the command finds in them.
use Rattle.std.proofs.Common.{◌≡◌, ◌∙◌, ◌⊎◌, inl, inr, List, [], ◌∷◌, codes, Option, None, refl, sym, ap}
use Rattle.std.specs.Prelude.{◌≢◌}
use Rattle.clap.specs.Words.{IsAmong, Kinds, Text, built, one_of, one_text, rows_of}
use Rattle.clap.specs.Simple.{argument_words}
use Rattle.clap.specs.Walk.{nothing_held}
use Rattle.clap.specs.declared.error.kind.ErrorKind.{ErrorKind}
use Rattle.clap.specs.declared.error.kind.ErrorKind.TheVariants as kind
use Rattle.clap.specs.declared.parser.matches.Found.{Found}
use Rattle.clap.proofs.WalkLemmas.{first_value-rows, one_text-rows}
use Rattle.command_line.specs.CommandLine.{AsksForHelp, IsRefused, NotTaken, arguments, asked, faults, flag_in, numbers_found, numbers_from, numbers_of, ours, refusal, request_found, request_from, request_of, request_without}
use Rattle.command_line.proofs.OneFault.{IsOne, all_of_one, one_built}

numbers_rows : (f : Found) → numbers_found f ≡ numbers_from (rows_of f)
numbers_rows f =
    ap (λ (pipelines : Option Text). numbers_of pipelines (one_text f (codes "window")) (one_text f (codes "round")) (one_text f (codes "seed"))) (one_text-rows f (codes "pipelines"))
    ∙ ap (λ (window : Option Text). numbers_of (one_of (codes "pipelines") (rows_of f)) window (one_text f (codes "round")) (one_text f (codes "seed"))) (one_text-rows f (codes "window"))
    ∙ ap (λ (round : Option Text). numbers_of (one_of (codes "pipelines") (rows_of f)) (one_of (codes "window") (rows_of f)) round (one_text f (codes "seed"))) (one_text-rows f (codes "round"))
    ∙ ap (λ (seed : Option Text). numbers_of (one_of (codes "pipelines") (rows_of f)) (one_of (codes "window") (rows_of f)) (one_of (codes "round") (rows_of f)) seed) (one_text-rows f (codes "seed"))

request_rows : (f : Found) → request_found f ≡ request_from (rows_of f)
request_rows f =
    λ i. request_of (first_value-rows f (codes "mode") i) (first_value-rows f (codes "program") i) (first_value-rows f (codes "capture") i) (numbers_rows f i)
    (flag_in (first_value-rows f (codes "trace") i)) (flag_in (first_value-rows f (codes "brief") i))

-- words in which there is no error ask for the request of their arguments
pub asked_is : (words : List Text) (f : Found) → faults words ≡ [] → rows_of f ≡ arguments words → asked words ≡ request_found f
asked_is words f none same = ap (λ (kinds : Kinds). request_without kinds (arguments words)) none ∙ ap request_from (sym same) ∙ sym (request_rows f)

pub refused_without : (words : List Text) → faults words ≡ [] → asked words ≡ None → IsRefused words
refused_without words none e = (e, λ help. (let f : ◌≡◌ {A = Kinds} [] (kind.DisplayHelp ∷ []) = sym none ∙ help in let g : ⊥ = cc in g))

one_fault : (words : List Text) → IsOne (faults words)
unfolding ours faults
one_fault words = one_built (built ours) nothing_held (argument_words ours words) refl refl

-- an error of another kind than help refuses the words
refused_by : (words : List Text) (k : ErrorKind) → k ≢ kind.DisplayHelp → IsAmong k (faults words) → IsRefused words
refused_by words k other among =
    let only : faults words ≡ k ∷ [] = all_of_one (faults words) k (one_fault words) among in (
      ap (λ (kinds : Kinds). request_without kinds (arguments words)) only,
      λ help. (let same : ◌≡◌ {A = Kinds} (k ∷ []) (kind.DisplayHelp ∷ []) = sym only ∙ help in other (let e : k ≡ kind.DisplayHelp = cc in e)),
    )

pub not_taken : (words : List Text) (k : ErrorKind) → (k ≡ kind.OutOfMemory) ⊎ IsAmong k (faults words) → NotTaken words (refusal k)
not_taken words kind.DisplayHelp (inl e) = absurd (let f : ⊥ = cc in f)
not_taken words kind.DisplayHelp (inr h) = all_of_one (faults words) kind.DisplayHelp (one_fault words) h
not_taken words kind.OutOfMemory h = tt
not_taken words k (inl e) = absurd (let f : ⊥ = cc in f)
not_taken words k (inr h) = refused_by words k (λ e. (let f : ⊥ = cc in f)) h

-- a call for help isn't taken
pub help_not_taken : (words : List Text) → AsksForHelp words → asked words ≡ None
help_not_taken words help = ap (λ (kinds : Kinds). request_without kinds (arguments words)) help
