-- The command line, in the words of `clap`'s description of simple commands.
use Rattle.std.specs.Prelude.{◌≡◌, ◌≤◌, ◌&&◌, ◌==◌, ℕ, pos, Bool, true, false, if◌then◌else◌, nat_eq, nat_le, List, [], ◌∷◌, codes, Option, Some, None, option_and_then}
use Rattle.std.specs.List.{starts_with, before_first, after_first}
use Rattle.std.specs.Str.{bytes_eq}
use Rattle.std.specs.Str.Parse.{digits_value, without_leading_plus}
use Rattle.clap.specs.ValueTests.{is_unsigned_in}
use Rattle.clap.specs.Words.{App, Kinds, Row, Rule, Text, fault_of, first_of, first_value, matches_of, new_app, new_rule, one_of, one_text, with_rule}
use Rattle.clap.specs.declared.builder.action.ArgAction.TheVariants.{SetTrue}
use Rattle.clap.specs.declared.builder.value_parser.ValueParser.{ValueParser}
use Rattle.clap.specs.declared.builder.value_parser.ValueParser.TheVariants as parser
use Rattle.clap.specs.declared.error.kind.ErrorKind.{ErrorKind}
use Rattle.clap.specs.declared.error.kind.ErrorKind.TheVariants as kind
use Rattle.clap.specs.declared.parser.matches.Found.{Found}
use Rattle.mp5_words.specs.declared.settings.Settings.{Settings}
use Rattle.mp5_words.specs.declared.settings.TheConstants.{MAX_PIPELINES, MAX_WINDOW, MAX_ROUND}
use Rattle.command_line.specs.declared.request.TheConstants.{MAX_MADE}
use Rattle.command_line.specs.declared.request.CaptureName.{CaptureName}
use Rattle.command_line.specs.declared.request.CaptureName.TheVariants as name
use Rattle.command_line.specs.declared.request.Mode.{Mode}
use Rattle.command_line.specs.declared.request.Mode.TheVariants.{One, Plan, Run, Serial}
use Rattle.command_line.specs.declared.request.WordsFault.{WordsFault}
use Rattle.command_line.specs.declared.request.WordsFault.TheVariants as fault

-- a word that has to be there
abbrev pub required_word : Text → Rule
required_word id = record (new_rule id) { required = true }

-- an option `--id` of one value that this parser takes, with the value that it has where it isn't there
abbrev pub number : Text → ValueParser → Text → Rule
number id takes default = record (new_rule id) { long = Some id; parser = Some takes; defaults = default ∷ [] }

-- an option `--id` without a value
abbrev pub flag : Text → Rule
flag id = record (new_rule id) { long = Some id; action = Some SetTrue }

-- the numbers from 1 to this one, which `clap` reads as a `u32`
abbrev pub from_one : ℕ → ValueParser
from_one most = parser.Signed (pos 1) (pos most)

-- any `u32`
abbrev pub any_word : ValueParser
any_word = parser.Signed (pos 0) (pos 4294967295)

-- the command `mp5 MODE PROGRAM CAPTURE` with its six options; `clap` gives it the option for help
unfoldable pub ours : App
ours = with_rule
    (with_rule
    (with_rule
    (with_rule
    (with_rule
    (with_rule
    (with_rule
    (with_rule
    (with_rule (new_app (codes "mp5")) (required_word (codes "mode")))
    (required_word (codes "program")))
    (required_word (codes "capture")))
    (number (codes "pipelines") (from_one MAX_PIPELINES) (codes "4")))
    (number (codes "window") (from_one MAX_WINDOW) (codes "64")))
    (number (codes "round") (from_one MAX_ROUND) (codes "256")))
    (number (codes "seed") any_word (codes "0")))
    (flag (codes "trace")))
    (flag (codes "brief"))

-- the kind of the first error in the words, for which a call for help counts; none where the command takes them
unfoldable pub faults : List Text → Kinds
faults words = fault_of ours words

-- the arguments that the words give, where the command takes them
unfoldable pub arguments : List Text → List Row
arguments words = matches_of ours words

-- the numbers of a switch
pub record Numbers : Type 0 where
  pub pipelines : ℕ
  pub window : ℕ
  pub round : ℕ
  pub seed : ℕ

-- what a capture is: the file of this name; or one that is made, of so many packets from this seed
pub data Origin : Type 0 where
  File : Text → Origin
  Made : ℕ → ℕ → Origin

-- what the word for the capture names
abbrev pub origin_of : CaptureName → Origin
origin_of (name.File text) = File text.now
origin_of (name.Made count seed) = Made count seed

-- a capture that is made has no more packets than a capture may have, and its seed is a `u32`
abbrev pub IsWithin : Origin → Type 0
IsWithin (File text) = Unit {0}
IsWithin (Made count seed) = (count ≤ MAX_MADE) × (seed ≤ 4294967295)

-- what the words ask for: how to run, the name of the program, the capture, the numbers of a switch, and whether the report has
-- the trace and is brief
pub record Request : Type 0 where
  pub mode : Mode
  pub program : Text
  pub capture : Origin
  pub numbers : Numbers
  pub trace : Bool
  pub brief : Bool

-- the numbers of settings, and a seed
abbrev pub numbers_with : Settings → ℕ → Numbers
numbers_with settings seed = record { pipelines = settings.pipelines; window = settings.window; round = settings.round; seed = seed }

-- a mode, a program and a capture as a request, with the numbers of these settings and this seed, and with these flags
abbrev pub request_with : Mode → Text → Origin → Settings → ℕ → Bool → Bool → Request
request_with mode program capture settings seed trace brief = record {
  mode = mode;
  program = program;
  capture = capture;
  numbers = numbers_with settings seed;
  trace = trace;
  brief = brief;
}

-- the number that a text writes: decimal digits, before which one plus may stand, of a `u32`
abbrev pub number_of : Text → Option ℕ
number_of text = if is_unsigned_in 0 4294967295 text then Some (digits_value 10 (without_leading_plus text)) else None

-- the number of an option
abbrev pub number_in : Option Text → Option ℕ
number_in = option_and_then number_of

-- the numbers are each in their range
abbrev pub are_settings : ℕ → ℕ → ℕ → Bool
are_settings pipelines window round =
    (nat_le 1 pipelines && nat_le pipelines MAX_PIPELINES)
    && ((nat_le 1 window && nat_le window MAX_WINDOW) && (nat_le 1 round && nat_le round MAX_ROUND))

-- these numbers, where each is there and in its range
abbrev pub numbers_in : Option ℕ → Option ℕ → Option ℕ → Option ℕ → Option Numbers
numbers_in (Some pipelines) (Some window) (Some round) (Some seed) =
    if are_settings pipelines window round then Some (record { pipelines = pipelines; window = window; round = round; seed = seed }) else None
numbers_in pipelines window round seed = None

-- the numbers of four texts: pipelines, window, round and seed
abbrev pub numbers_of : Option Text → Option Text → Option Text → Option Text → Option Numbers
numbers_of pipelines window round seed = numbers_in (number_in pipelines) (number_in window) (number_in round) (number_in seed)

-- the mode of this name
abbrev pub mode_of : Text → Option Mode
mode_of name = if bytes_eq name (codes "one") then Some One
    else (if bytes_eq name (codes "plan") then Some Plan
    else (if bytes_eq name (codes "serial") then Some Serial
    else (if bytes_eq name (codes "run") then Some Run else None)))

-- ---- captures

abbrev pub is_digit : ℕ → Bool
is_digit c = nat_le 48 c && nat_le c 57

-- a text begins with a digit, and with no zero but where that is all
abbrev pub is_plain : Text → Bool
is_plain [] = false
is_plain (c ∷ []) = is_digit c
is_plain (c ∷ d ∷ ds) = nat_le 49 c && nat_le c 57

-- a number, where it is no greater than this
abbrev pub up_to : ℕ → ℕ → Option ℕ
up_to most n = if nat_le n most then Some n else None

-- the number that a text writes in decimal without a sign and without a zero in front, where it is no greater than this
abbrev pub plain_number : ℕ → Text → Option ℕ
plain_number most text = if is_plain text then option_and_then (up_to most) (number_of text) else None

abbrev pub is_colon : ℕ → Bool
is_colon c = c == 58

abbrev pub made_of : Option ℕ → Option ℕ → Option Origin
made_of (Some count) (Some seed) = Some (Made count seed)
made_of count seed = None

-- the capture that is made by two numbers with a colon between them
abbrev pub made_in : Text → Option Origin
made_in numbers = made_of (plain_number MAX_MADE (before_first is_colon numbers)) (plain_number 4294967295 (after_first is_colon numbers))

-- the capture that a word names: where it begins with `gen:`, one that is made by the two numbers behind, else a file
abbrev pub origin_in : Text → Option Origin
origin_in word = if starts_with nat_eq word (codes "gen:") then made_in (after_first is_colon word) else Some (File word)

-- ---- requests

-- whether a flag is there, which `clap` gives a text
abbrev pub flag_in : Option Text → Bool
flag_in None = false
flag_in (Some text) = bytes_eq text (codes "true")

-- the request for a mode, a program, a capture, numbers and flags
abbrev pub request_in : Option Mode → Text → Option Origin → Option Numbers → Bool → Bool → Option Request
request_in (Some mode) program (Some capture) (Some numbers) trace brief =
    Some (record { mode = mode; program = program; capture = capture; numbers = numbers; trace = trace; brief = brief })
request_in mode program capture numbers trace brief = None

-- the request of three words, numbers and flags
abbrev pub request_of : Option Text → Option Text → Option Text → Option Numbers → Bool → Bool → Option Request
request_of (Some mode) (Some program) (Some capture) numbers trace brief = request_in (mode_of mode) program (origin_in capture) numbers trace brief
request_of mode program capture numbers trace brief = None

-- the numbers of the arguments
abbrev pub numbers_from : List Row → Option Numbers
numbers_from rows = numbers_of (one_of (codes "pipelines") rows) (one_of (codes "window") rows) (one_of (codes "round") rows) (one_of (codes "seed") rows)

-- the request of the arguments
abbrev pub request_from : List Row → Option Request
request_from rows =
    request_of (first_of (codes "mode") rows) (first_of (codes "program") rows) (first_of (codes "capture") rows) (numbers_from rows)
    (flag_in (first_of (codes "trace") rows)) (flag_in (first_of (codes "brief") rows))

-- the numbers of what a parse found
abbrev pub numbers_found : Found → Option Numbers
numbers_found f = numbers_of (one_text f (codes "pipelines")) (one_text f (codes "window")) (one_text f (codes "round")) (one_text f (codes "seed"))

-- the request of what a parse found
abbrev pub request_found : Found → Option Request
request_found f =
    request_of (first_value f (codes "mode")) (first_value f (codes "program")) (first_value f (codes "capture")) (numbers_found f)
    (flag_in (first_value f (codes "trace"))) (flag_in (first_value f (codes "brief")))

-- the same, where there is no error
abbrev pub request_without : Kinds → List Row → Option Request
request_without [] rows = request_from rows
request_without (k ∷ ks) rows = None

-- what the words ask for; nothing where they aren't taken
abbrev pub asked : List Text → Option Request
asked words = request_without (faults words) (arguments words)

-- the words ask for help, before any error
abbrev pub AsksForHelp : List Text → Type 0
AsksForHelp words = faults words ≡ kind.DisplayHelp ∷ []

-- the words are neither taken nor a call for help
abbrev pub IsRefused : List Text → Type 0
IsRefused words = (asked words ≡ None) × (¬ AsksForHelp words)

-- the answer to an error
abbrev pub refusal : ErrorKind → WordsFault
refusal kind.DisplayHelp = fault.Help
refusal kind.OutOfMemory = fault.NoMemory
refusal k = fault.Words

-- why no request comes of the words
abbrev pub NotTaken : List Text → WordsFault → Type 0
NotTaken words fault.Help = AsksForHelp words
NotTaken words fault.Words = IsRefused words
NotTaken words fault.NoMemory = Unit {0}
