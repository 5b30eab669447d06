-- A command without subcommands finds one fault at most.
use Rattle.std.proofs.Common.{◌≡◌, ◌≤◌, map, ◌&&◌, ◌==◌, ◌+◌, inl, inr, ℕ, zero, suc, Bool, true, false, not, List, [], ◌∷◌, length, min, drop, Option, Some, None, is_some, refl, sym, ap, subst, arith, nat_lt}
use Rattle.std.specs.Prelude.{encode_utf8, slice_get, if◌then◌else◌, find}
use Rattle.std.specs.List.{list_any}
use Rattle.std.specs.Option.{option_map_or}
use Rattle.std.specs.Str.{chars}
use Rattle.clap.specs.Lexer.{long_of, short_of}
use Rattle.clap.specs.Matches.{count_text}
use Rattle.clap.specs.Facts.{explicit_source, parser_of_value, unwrap_or_range}
use Rattle.clap.specs.Values.{refused_kind}
use Rattle.clap.specs.ValueTests.{accepts}
use Rattle.clap.specs.Walk.{Held, Names, Row, Rule, Step, Text, Waiting, Walk, action_of, answers_to, arg_by_id, arg_by_index, arg_by_long, arg_by_short, attached_value, count_of, finished, most_values, nothing_held, reacted, settled, subcommand_met, takes_values, values_or_missing, walk, walk_from, walked, with_default, word_met}
use Rattle.clap.specs.Walk.{next, trailing, subcommand, value, idle, option, positional}
use Rattle.clap.specs.Simple.{App, Shape, entered, label_of, names_of}
use Rattle.clap.specs.Takes.{is_given}
use Rattle.clap.specs.Kinds.{IsAmong, Kinds, check_kinds, or_else, range_kinds, request_kinds, value_kinds, values_kinds}
use Rattle.clap.specs.Faults.{action_fault, built_fault, bundle_fault, bundle_step_fault, check_fault, count_fault, default_fault, defaults_fault, entered_fault, flag_word_fault, flags_fault, given_default_fault, level_fault, long_fault, option_fault, other_fault, positional_fault, react_fault, repeat_fault, set_fault, settle_fault, short_fault, step_fault, stray_fault, turn_fault, use_fault, values_fault, walk_fault, word_fault}
use Rattle.clap.specs.declared.builder.action.ArgAction.{ArgAction}
use Rattle.clap.specs.declared.builder.action.ArgAction.TheVariants as action
use Rattle.clap.specs.declared.builder.value_parser.ValueParser.{ValueParser}
use Rattle.clap.specs.declared.error.kind.ErrorKind.{ErrorKind}
use Rattle.clap.specs.declared.error.kind.ErrorKind.TheVariants as kind

-- there is one kind at most
pub record IsOne (kinds : Kinds) : Type 0 where
  pub short : length kinds ≤ 1

nothing : IsOne []
nothing = record { short = omega arith }

lone : (k : ErrorKind) → IsOne (k ∷ [])
lone k = record { short = omega arith }

-- ---- the ways in which kinds are put together

one_first : (a b : Kinds) → IsOne a → IsOne b → IsOne (or_else a b)
one_first [] b p q = q
one_first (k ∷ ks) b p q = p

one_if : (c : Bool) (a b : Kinds) → IsOne a → IsOne b → IsOne (if c then a else b)
one_if true a b p q = p
one_if false a b p q = q

one_option : {A : Type 0} (f : A → Kinds) (o : Option A) (none : Kinds) → ((x : A) → IsOne (f x)) → IsOne none → IsOne (option_map_or f o none)
one_option f None none p q = q
one_option f (Some x) none p q = p x

-- ---- one use of an argument

one_value : (ignore_case : Bool) (parser : ValueParser) (text : Text) → IsOne (value_kinds ignore_case parser text)
one_value ignore_case parser text = one_if (accepts ignore_case parser text) [] (refused_kind parser ∷ []) nothing (lone (refused_kind parser))

one_values : (ignore_case : Bool) (parser : ValueParser) (values : List Text) → IsOne (values_kinds ignore_case parser values)
one_values ignore_case parser [] = nothing
one_values ignore_case parser (v ∷ vs) = one_first (value_kinds ignore_case parser v) (values_kinds ignore_case parser vs) (one_value ignore_case parser v) (one_values ignore_case parser vs)

one_range : (least most n : ℕ) → IsOne (range_kinds least most n)
one_range least most n =
    one_if (nat_lt 0 least && n == 0) (kind.InvalidValue ∷ []) _ (lone kind.InvalidValue)
    (one_if (least == most) _ _ (one_if (least == n) [] (kind.WrongNumberOfValues ∷ []) nothing (lone kind.WrongNumberOfValues))
    (one_if (nat_lt n least) (kind.TooFewValues ∷ []) _ (lone kind.TooFewValues)
    (one_if (nat_lt most n) (kind.TooManyValues ∷ []) [] (lone kind.TooManyValues) nothing)))

one_request : (a : ArgAction) → IsOne (request_kinds a)
one_request action.Help = lone _
one_request action.HelpShort = lone _
one_request action.HelpLong = lone _
one_request action.Version = lone _
one_request a = nothing

one_set : (again : Bool) (a : Rule) (values : List Text) (rows : List Row) → IsOne (set_fault again a values rows)
one_set again a values rows =
    one_first (repeat_fault again a.id rows) (values_fault a values) (one_if _ _ _ (lone _) nothing) (one_values a.ignore_case (parser_of_value a.parser) values)

one_count : (a : Rule) (values : List Text) (rows : List Row) → IsOne (count_fault a values rows)
one_count a [] rows = one_value a.ignore_case (parser_of_value a.parser) (count_text (min (count_of a.id rows + 1) 255))
one_count a (v ∷ vs) rows = one_values a.ignore_case (parser_of_value a.parser) (v ∷ vs)

one_action : (does : ArgAction) (again : Bool) (a : Rule) (values : List Text) (rows : List Row) → IsOne (action_fault does again a values rows)
one_action action.Set again a values rows = one_set again a values rows
one_action action.SetTrue again a values rows = one_set again a values rows
one_action action.SetFalse again a values rows = one_set again a values rows
one_action action.Append again a values rows = one_values a.ignore_case (parser_of_value a.parser) values
one_action action.Count again a values rows = one_count a values rows
one_action other again a values rows = one_request other

one_use : (again : Bool) (a : Rule) (values : List Text) (rows : List Row) → IsOne (use_fault again a values rows)
one_use again a values rows =
    one_first (range_kinds (unwrap_or_range a.range).start_inclusive (most_values a) (length values))
    (action_fault (action_of a) again a (values_or_missing a values) rows)
    (one_range (unwrap_or_range a.range).start_inclusive (most_values a) (length values))
    (one_action (action_of a) again a (values_or_missing a values) rows)

-- ---- a word

one_settle : (c : List Rule) (again : Bool) (h : Held) → IsOne (settle_fault c again h)
one_settle c again h =
    one_option (λ p. option_map_or (λ a. use_fault again a p.1 h.rows) (arg_by_id c p.0) []) h.pending []
    (λ p. one_option (λ a. use_fault again a p.1 h.rows) (arg_by_id c p.0) [] (λ a. one_use again a p.1 h.rows) nothing) nothing

one_react : (c : List Rule) (again : Bool) (a : Rule) (values : List Text) (h : Held) → IsOne (react_fault c again a values h)
one_react c again a values h = one_first (settle_fault c again h) (use_fault again a values (settled c h).rows) (one_settle c again h) (one_use again a values (settled c h).rows)

one_option_word : (c : List Rule) (again : Bool) (a : Rule) (v : Option Text) (h : Held) → IsOne (option_fault c again a v h)
one_option_word c again a (Some v) h = one_react c again a (v ∷ []) h
one_option_word c again a None h = one_settle c again h

one_long : (c : List Rule) (again : Bool) (a : Option Rule) (v : Option Text) (h : Held) → IsOne (long_fault c again a v h)
one_long c again None v h = lone _
one_long c again (Some a) v h =
    one_if (takes_values a) (option_fault c again a v h) _ (one_option_word c again a v h)
    (one_if (is_some v) _ (react_fault c again a [] h) (lone _) (one_react c again a [] h))

one_short : (c : List Rule) (again : Bool) (a : Option Rule) (rest : Text) (h : Held) (after : Held → Kinds) → ((x : Held) → IsOne (after x)) → IsOne (short_fault c again a rest h after)
one_short c again None rest h after p = lone _
one_short c again (Some a) rest h after p =
    one_if (takes_values a) (option_fault c again a (attached_value rest) h) _ (one_option_word c again a (attached_value rest) h)
    (one_first (react_fault c again a [] h) (after (reacted c a [] h)) (one_react c again a [] h) (p (reacted c a [] h)))

one_step_of_bundle : (c : List Rule) (again : Bool) (x : Option ℕ) (flags : Text) (skip : ℕ) (h : Held) (after : Text → ℕ → Held → Kinds)
    → ((rest : Text) (k : ℕ) (g : Held) → IsOne (after rest k g)) → IsOne (bundle_step_fault c again x flags skip h after)
one_step_of_bundle c again None flags skip h after p = nothing
one_step_of_bundle c again (Some x) flags zero h after p =
    let rest : Text = drop (length (encode_utf8 x)) flags in
    one_short c again (arg_by_short c x) rest h (after rest 0) (p rest 0)
one_step_of_bundle c again (Some x) flags (suc skip) h after p = p (drop (length (encode_utf8 x)) flags) skip h

one_flags : (c : List Rule) (again : Bool) (k : ℕ) (flags : Text) (skip : ℕ) (h : Held) → IsOne (flags_fault c again k flags skip h)
unfolding flags_fault
one_flags c again zero flags skip h = nothing
one_flags c again (suc k) flags skip h = one_step_of_bundle c again (slice_get (chars flags) 0) flags skip h (flags_fault c again k) (one_flags c again k)

one_bundle : (c : List Rule) (again : Bool) (flags : Text) (h : Held) → IsOne (bundle_fault c again flags h)
one_bundle c again flags h = one_flags c again (length flags) flags h.skip (record h { skip = 0 })

one_flag_word : (c : List Rule) (again : Bool) (l : Option (Text × Option Text)) (word : Text) (h : Held) → IsOne (flag_word_fault c again l word h)
one_flag_word c again (Some p) word h = one_long c again (arg_by_long c p.0) p.1 h
one_flag_word c again None word h = one_option (λ flags. bundle_fault c again flags h) (short_of word) [] (λ flags. one_bundle c again flags h) nothing

no_subcommand : (waiting : Waiting) (word : Text) → subcommand_met [] waiting word ≡ None
no_subcommand idle word = refl
no_subcommand (option id) word = refl
no_subcommand positional word = refl

one_other : (s : Shape) (word : Text) (h : Held) → IsOne (other_fault s None word h)
one_other s word h = one_if _ _ _ nothing (one_flag_word s.rules s.args_override_self (long_of word) word h)

one_word : (s : Shape) (is_trailing : Bool) (waiting : Waiting) (word : Text) (h : Held) → IsOne (word_fault s [] is_trailing waiting word h)
one_word s is_trailing waiting word h =
    one_if is_trailing [] (other_fault s (subcommand_met [] waiting word) word h) nothing
    (subst (λ (met : Option Text). IsOne (other_fault s met word h)) (sym (no_subcommand waiting word)) (one_other s word h))

one_positional : (c : List Rule) (again : Bool) (a : Rule) (h : Held) → IsOne (positional_fault c again a h)
one_positional c again a h = one_if _ _ (settle_fault c again h) nothing (one_settle c again h)

one_checks : (wants_help wants_subcommand wants_argument : Bool) → IsOne (check_kinds wants_help wants_subcommand wants_argument)
one_checks true b c = lone kind.DisplayHelpOnMissingArgumentOrSubcommand
one_checks false true c = lone kind.MissingSubcommand
one_checks false false true = lone kind.MissingRequiredArgument
one_checks false false false = nothing

-- ---- the walk, of a command without subcommands

module _ (s : Shape) (leaf : s.is_leaf ≡ true) where
  one_stray : IsOne (stray_fault s)
  one_stray = rw leaf (lone _)

  one_step : (position : ℕ) (h : Held) (step : Step) → IsOne (step_fault s position h step)
  one_step position h value =
      one_option (λ a. positional_fault s.rules s.args_override_self a h) (arg_by_index s.rules position) (stray_fault s) (λ a. one_positional s.rules s.args_override_self a h) one_stray
  one_step position h (next w) = nothing
  one_step position h (trailing p) = nothing
  one_step position h (subcommand name) = nothing

  one_turn : (w : Walk) (word : Text) → IsOne (turn_fault s [] w word)
  one_turn w word =
      let met : Held × Step = word_met s.rules [] w.is_trailing w.waiting w.position word w.held in
      one_if (is_some w.stopped) [] _ nothing
      (one_first (word_fault s [] w.is_trailing w.waiting word w.held) (step_fault s w.position met.0 met.1)
      (one_word s w.is_trailing w.waiting word w.held) (one_step w.position met.0 met.1))

  one_walk : (w : Walk) (words : List Text) → IsOne (walk_fault s [] w words)
  unfolding walk_fault
  one_walk w [] = nothing
  one_walk w (word ∷ rest) =
      one_first (turn_fault s [] w word) (walk_fault s [] (walked s.rules [] w word) rest) (one_turn w word) (one_walk (walked s.rules [] w word) rest)

  one_default : (rows : List Row) (a : Rule) → IsOne (default_fault rows a)
  one_default rows a =
      one_if _ [] (given_default_fault a a.defaults) nothing
      (one_first (request_kinds (action_of a)) (values_fault a a.defaults) (one_request (action_of a)) (one_values a.ignore_case (parser_of_value a.parser) a.defaults))

  one_defaults : (rows : List Row) (rules : List Rule) → IsOne (defaults_fault rows rules)
  unfolding defaults_fault
  one_defaults rows [] = nothing
  one_defaults rows (a ∷ rest) = one_first (default_fault rows a) (defaults_fault (with_default rows a) rest) (one_default rows a) (one_defaults (with_default rows a) rest)

  one_check : (rows : List Row) (has_subcommand : Bool) → IsOne (check_fault s rows has_subcommand)
  one_check rows has_subcommand =
      one_checks (not has_subcommand && (s.arg_required_else_help && not (list_any (λ r. explicit_source r.source) rows))) (not has_subcommand && s.subcommand_required)
      (not (s.subcommand_negates_reqs && has_subcommand) && list_any (λ a. a.required && not (is_given a.id rows)) s.rules)

  one_level : (h : Held) (words : List Text) (has_subcommand : Bool) (below : Kinds) → IsOne below → IsOne (level_fault s [] h words has_subcommand below)
  one_level h words has_subcommand below p =
      let end : Held = (walk s.rules [] h words).held in
      one_first (walk_fault s [] (walk_from h) words) _ (one_walk (walk_from h) words)
      (one_first below _ p
      (one_first (settle_fault s.rules s.args_override_self end) _ (one_settle s.rules s.args_override_self end)
      (one_first (defaults_fault (settled s.rules end).rows s.rules) _ (one_defaults (settled s.rules end).rows s.rules)
      (one_check (finished s.rules end) has_subcommand))))

one_entered : (a : App) (stop : Option (Text × List Text)) → a.subs ≡ [] → IsOne (entered_fault a stop)
one_entered a None e = nothing
one_entered a (Some p) e =
    subst (λ (subs : List Shape). IsOne (option_map_or (λ s. level_fault s [] nothing_held p.1 false []) (find (λ s. answers_to p.0 (label_of s)) subs) [])) (sym e) nothing

pub one_built : (a : App) (h : Held) (words : List Text) → a.top.is_leaf ≡ true → a.subs ≡ [] → IsOne (built_fault a h words)
one_built a h words leaf none =
    let stop : Option (Text × List Text) = (walk a.top.rules (names_of a) h words).stopped in
    subst (λ (names : Names). IsOne (level_fault a.top names h words (is_some (entered a stop)) (entered_fault a stop)))
    (sym (ap (map label_of) none))
    (one_level a.top leaf h words (is_some (entered a stop)) (entered_fault a stop) (one_entered a stop none))

-- one kind that is among them is all of them
pub all_of_one : (kinds : Kinds) (k : ErrorKind) → IsOne kinds → IsAmong k kinds → kinds ≡ k ∷ []
all_of_one [] k o h = absurd h
all_of_one (x ∷ []) k o (inl e) = ap (λ (y : ErrorKind). y ∷ []) (sym e)
all_of_one (x ∷ []) k o (inr h) = absurd h
all_of_one (x ∷ y ∷ ks) k o h = absurd (omega (arith, o.short))
