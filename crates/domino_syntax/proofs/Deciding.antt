-- The parser of programs decides the grammar, tells the place of an error, and no token list has two trees.
use mathlib.Core.HLevel.{Σ_prop_path}
use Rattle.std.proofs.Common.{◌≡◌, ◌<◌, ◌≤◌, ◌+◌, ◌-◌, ℕ, true, ◌&&◌, List, [], ◌∷◌, ◌++◌, length, take, drop, length-drop, ◌⊎◌, inl, inr, Option, Some, None, Ok, Err, IfOk, refl, ap, sym, subst, ◌∙◌, append_assoc, length-append, arith}
use Rattle.std.proofs.Math.Bool.{Bool-set}
use Rattle.std.specs.List.{list_all}
use Rattle.std.proofs.lemmas.Bool.{and_from, and_parts}
use Rattle.std.proofs.lemmas.List.{take-append-drop}
use Rattle.std.proofs.Math.Seq.{take-append_seam, take-append-add}
use Rattle.std.proofs.lemmas.List.Folds.{list_all-append}
use Rattle.domino_tree.specs.declared.token.Token.{Token}
use Rattle.domino_tree.specs.declared.token.Token.TheVariants as token
use Rattle.domino_tree.specs.declared.token.Sign.TheVariants as sign
use Rattle.domino_tree.specs.declared.program.Size.{Size}
use Rattle.domino_tree.specs.declared.program.Size.TheVariants as sizes
use Rattle.domino_tree.specs.declared.program.Start.{Start}
use Rattle.domino_tree.specs.declared.program.Start.TheVariants as starts
use Rattle.domino_tree.specs.declared.program.Item.{Item}
use Rattle.domino_tree.specs.declared.program.Item.TheVariants as items_of
use Rattle.domino_tree.specs.declared.program.Program.{Program}
use Rattle.domino_tree.specs.Grammar.{is_name, is_size, is_length, length_tokens, is_start, is_item, packet_tokens, is_packet, function_tokens, is_function, is_program, program_tokens, are_words}
use Rattle.domino_tree.specs.Weight.{is_light}
use Rattle.domino_tree.specs.Derives.{IsValue, IsEntry, IsStart, IsItem, AreItems, none, more, Tree, DerivesTree, Derives, Begins}
use Rattle.domino_syntax.specs.Tokens.{is_token}
use Rattle.domino_syntax.specs.Parsers.{Outcome, Parser, first, and_then, pure, end}
use Rattle.domino_syntax.specs.ReadingPrograms.{items, packet, function, parts}
use Rattle.domino_syntax.specs.Stuck.{IsStuckAt}
use Rattle.domino_syntax.proofs.Exact.{Named, Breaks, whole_sound, whole_breaks, whole_unique}
use Rattle.domino_syntax.proofs.NamedTokens.{program_named}
use Rattle.domino_syntax.proofs.Weighing.{canonical_light}
use Rattle.domino_syntax.proofs.WordTokens.{canonical_words}
use Rattle.domino_syntax.proofs.ExactPrograms.{Four, PartsForm, exact_parts}

-- ---- what is read is read to the end

abbrev Ends : {A : Type 0} → Outcome A → Type 0
Ends o = IfOk o (λ r. r.1 ≡ [])

later_ends : {A B : Type 0} (o : Outcome A) (q : A → Parser B) → ((x : A) (l : List Token) → Ends (q x l)) → Ends (and_then o q)
later_ends (Ok r) q ends = ends r.0 r.1
later_ends (Err rest) q ends = tt

end_ends : {A : Type 0} (x : A) (l : List Token) → Ends (and_then (end l) (λ _. pure x))
end_ends x [] = refl
end_ends x (t ∷ rest) = tt

parts_end : (n : ℕ) (tokens : List Token) → Ends (parts n tokens)
unfolding parts
parts_end n tokens =
    later_ends (items tokens) _ (λ before l. later_ends (packet l) _ (λ p l. later_ends (items l) _ (λ after l. later_ends (function n l) _ (λ f l. end_ends (before, p, after, f) l))))

nothing_left : (n : ℕ) (tokens rest : List Token) (x : Four) → parts n tokens ≡ Ok (x, rest) → rest ≡ []
nothing_left n tokens rest x read =
    let P : Outcome Four → Type 0 = Ends in
    subst P read (parts_end n tokens)

pub parts_sound : (tokens rest : List Token) (x : Four) → Named tokens → parts (length tokens) tokens ≡ Ok (x, rest) → PartsForm tokens x
parts_sound tokens rest x named read =
    whole_sound (exact_parts (length tokens)) refl tokens (omega arith) named x (read ∙ ap (λ l. Ok (x, l)) (nothing_left (length tokens) tokens rest x read))

-- ---- the place of an error

take_used : (used rest : List Token) (n : ℕ) → n ≡ length used → take n (used ++ rest) ≡ used
take_used used rest n is = ap (λ k. take k (used ++ rest)) is ∙ take-append_seam used rest

take_next : (used rest : List Token) (t : Token) (n : ℕ) → n ≡ length used → take (n + 1) (used ++ t ∷ rest) ≡ used ++ t ∷ []
take_next used rest t n is = ap (λ k. take (k + 1) (used ++ t ∷ rest)) is ∙ take-append-add used (t ∷ rest) 1

begins_from : (start whole : List Token) (x : Four) → PartsForm whole x → (back : List Token) → whole ≡ start ++ back → Begins start
begins_from start whole x h back is = record { more = back; before = x.0; packet = x.1; after = x.2; function = x.3; derived = subst (λ l. PartsForm l x) is h }

module _ (tokens rest : List Token) (b : Breaks PartsForm tokens rest) (n : ℕ) (is : n ≡ length b.used) where
  stuck_at : (l : List Token) → rest ≡ l → n < length tokens → ¬ Begins (take (n + 1) tokens)
  stuck_at [] same less begun = omega (arith, is, less, ap length b.parts, length-append b.used rest, ap length same)
  stuck_at (t ∷ l) same less begun =
      let front : take (n + 1) tokens ≡ b.used ++ t ∷ [] = ap (take (n + 1)) (b.parts ∙ ap (λ r. b.used ++ r) same) ∙ take_next b.used l t n is in
      let whole : PartsForm (b.used ++ (t ∷ begun.more)) (begun.before, begun.packet, begun.after, begun.function) =
      subst (λ l. PartsForm l (begun.before, begun.packet, begun.after, begun.function)) (ap (λ l. l ++ begun.more) front ∙ append_assoc b.used (t ∷ []) begun.more) begun.derived in
      b.none (t ∷ begun.more) (begun.before, begun.packet, begun.after, begun.function) (ap first (sym same)) whole

  at_end : (l : List Token) → rest ≡ l → n ≡ length tokens → (x : Four) → ¬ PartsForm tokens x
  at_end [] same all x h = b.none rest x refl (subst (λ l. PartsForm l x) b.parts h)
  at_end (t ∷ l) same all x h = omega (arith, is, all, ap length b.parts, length-append b.used rest, ap length same)

  breaks_stuck : IsStuckAt tokens n
  breaks_stuck = record {
    within = omega (arith, is, ap length b.parts, length-append b.used rest);
    begins = begins_from (take n tokens) (b.used ++ b.begins.0) b.begins.1 b.begins.2 b.begins.0 (ap (λ l. l ++ b.begins.0) (sym (ap (take n) b.parts ∙ take_used b.used rest n is)));
    stuck = stuck_at rest refl;
    unfinished = λ all before packet after function. at_end rest refl all (before, packet, after, function);
  }

pub refused_within : (tokens rest : List Token) → Named tokens → parts (length tokens) tokens ≡ Err rest → length rest ≤ length tokens
refused_within tokens rest named read =
    let b = whole_breaks (exact_parts (length tokens)) refl tokens (omega arith) named rest read in
    omega (arith, ap length b.parts, length-append b.used rest)

pub refused_at : (tokens rest : List Token) → Named tokens → parts (length tokens) tokens ≡ Err rest → IsStuckAt tokens (length tokens - length rest)
refused_at tokens rest named read =
    let b = whole_breaks (exact_parts (length tokens)) refl tokens (omega arith) named rest read in
    breaks_stuck tokens rest b (length tokens - length rest) (omega (arith, ap length b.parts, length-append b.used rest))

-- tokens that are stuck somewhere have no program
pub stuck_none : (tokens : List Token) (n : ℕ) (program : Program) → IsStuckAt tokens n → ¬ Derives tokens program
stuck_none tokens n program stuck h = cases (drop n tokens) refl
  where
    cases : (l : List Token) → drop n tokens ≡ l → ⊥
    cases [] rest = stuck.unfinished (omega (arith, stuck.within, length-drop n tokens, ap length rest)) program.before program.packet program.after program.function h
    cases (t ∷ l) rest =
        stuck.stuck (omega (arith, length-drop n tokens, ap length rest))
        (begins_from (take (n + 1) tokens) tokens (program.before, program.packet, program.after, program.function) h (drop (n + 1) tokens) (sym (take-append-drop (n + 1) tokens)))

-- ---- each name among the tokens of a program is one

named_append : (xs ys : List Token) → Named xs → Named ys → Named (xs ++ ys)
named_append xs ys h k = list_all-append is_token xs ys ∙ and_from (list_all is_token xs) (list_all is_token ys) h k

value_named : (used : List Token) (n : _) → IsValue used n → Named used
value_named used n (inl h) = ap (list_all is_token) h
value_named used n (inr h) = ap (list_all is_token) h.spells

entry_named : (used : List Token) (e : Size) → IsEntry used e → is_size e ≡ true → Named used
entry_named used (sizes.Number n) h named = value_named used n h
entry_named used (sizes.Word w) h named = ap (list_all is_token) h ∙ and_from (is_name w) true named refl

length_named : (l : Option Size) → is_length l ≡ true → Named (length_tokens l)
length_named None h = refl
length_named (Some (sizes.Number n)) h = refl
length_named (Some (sizes.Word w)) h = and_from (is_name w) true h refl

start_named : (used : List Token) (s : Start) → IsStart used s → is_start s ≡ true → Named used
start_named used starts.Absent h named = ap (list_all is_token) h
start_named used (starts.Plain e) h named = ap (list_all is_token) h.spells ∙ entry_named h.inner e h.entered named
start_named used (starts.Braced e) h named = ap (list_all is_token) h.spells ∙ named_append h.inner (token.Sign sign.CloseCurly ∷ []) (entry_named h.inner e h.entered named) refl

item_named : (used : List Token) (i : Item) → IsItem used i → is_item i ≡ true → Named used
item_named used (items_of.Define w n) h named = ap (list_all is_token) h.spells ∙ and_from (is_name w) (list_all is_token h.inner) named (value_named h.inner n h.valued)
item_named used (items_of.Array w l s) h named =
    let holds = and_parts (is_name w) (is_length l && is_start s) named in
    let later = and_parts (is_length l) (is_start s) holds.1 in
    let inner = named_append (length_tokens l) h.inner (length_named l later.0) (start_named h.inner s h.started later.1) in
    ap (list_all is_token) h.spells ∙ and_from (is_name w) (list_all is_token ((length_tokens l ++ h.inner) ++ (token.Sign sign.Semicolon ∷ []))) holds.0 (named_append (length_tokens l ++ h.inner) (token.Sign sign.Semicolon ∷ []) inner refl)

items_named : (used : List Token) (items : List Item) → AreItems used items → list_all is_item items ≡ true → Named used
items_named _ _ none named = refl
items_named _ _ (more front i back items is_one are) named =
    let holds = and_parts (is_item i) (list_all is_item items) named in
    named_append front back (item_named front i is_one holds.0) (items_named back items are holds.1)

parts_named : (tokens : List Token) (x : Four) → PartsForm tokens x → Named tokens
parts_named tokens x h =
    let holds = and_parts (list_all is_item x.0) (is_packet x.1 && (list_all is_item x.2 && is_function x.3)) h.stands in
    let later = and_parts (is_packet x.1) (list_all is_item x.2 && is_function x.3) holds.1 in
    let last = and_parts (list_all is_item x.2) (is_function x.3) later.1 in
    let bare : Named (packet_tokens x.1 ++ function_tokens x.3) = program_named [] x.1 [] x.3 (and_from (is_packet x.1) (is_function x.3) later.0 last.1) in
    let two = and_parts (list_all is_token (packet_tokens x.1)) (list_all is_token (function_tokens x.3)) (sym (list_all-append is_token (packet_tokens x.1) (function_tokens x.3)) ∙ bare) in
    ap (list_all is_token) h.spells
    ∙ named_append h.front (packet_tokens x.1 ++ (h.middle ++ function_tokens x.3)) (items_named h.front x.0 h.items_before holds.0)
    (named_append (packet_tokens x.1) (h.middle ++ function_tokens x.3) two.0 (named_append h.middle (function_tokens x.3) (items_named h.middle x.2 h.items_after last.0) two.1))

-- ---- one tree

abbrev pub tree_of : Four → Tree
tree_of x = record { before = x.0; packet = x.1; after = x.2; function = x.3 }

abbrev parts_of : Tree → Four
parts_of t = (t.before, t.packet, t.after, t.function)

pub one_tree : (tokens : List Token) (a b : Tree) → DerivesTree tokens a → DerivesTree tokens b → a ≡ b
one_tree tokens a b derived_a derived_b =
    ap tree_of (whole_unique (exact_parts (length tokens)) refl tokens (omega arith) (parts_named tokens (parts_of a) derived_a) (parts_of a) (parts_of b) derived_a derived_b)

-- ---- one program

abbrev four_of : Program → Four
four_of p = (p.before, p.packet, p.after, p.function)

-- the parts stand in a program, and their canonical tokens are light and words
abbrev Fits : Four → Type 0
Fits x = (is_program x.0 x.1 x.2 x.3 ≡ true) × (is_light (program_tokens x.0 x.1 x.2 x.3) ≡ true) × (are_words (program_tokens x.0 x.1 x.2 x.3) ≡ true)

abbrev packed : (x : Four) × Fits x → Program
packed s = record { before = s.0.0; packet = s.0.1; after = s.0.2; function = s.0.3; derived = s.1.0; light = s.1.1; words = s.1.2 }

fits_once : (x : Four) → IsProp (Fits x)
fits_once x = hlevel Bool-set

same_program : (p q : Program) → four_of p ≡ four_of q → p ≡ q
same_program p q same =
    let s : (x : Four) × Fits x = (four_of p, (p.derived, p.light, p.words)) in
    let t : (x : Four) × Fits x = (four_of q, (q.derived, q.light, q.words)) in
    let e : s ≡ t = Σ_prop_path (λ (x : Four). fits_once x) same in
    ap packed e

pub one_program : (tokens : List Token) (p q : Program) → Derives tokens p → Derives tokens q → p ≡ q
one_program tokens p q derived_p derived_q =
    same_program p q (ap parts_of (one_tree tokens (tree_of (four_of p)) (tree_of (four_of q)) derived_p derived_q))

-- ---- each list is derived or stuck

-- the program of parts that are derived from light tokens and words
pub program_of : (tokens : List Token) (x : Four) → is_light tokens ≡ true → are_words tokens ≡ true → PartsForm tokens x → (p : Program) × Derives tokens p
program_of tokens x light words h = (
  record {
    before = x.0;
    packet = x.1;
    after = x.2;
    function = x.3;
    derived = h.stands;
    light = canonical_light tokens x.0 x.1 x.2 x.3 light h;
    words = canonical_words tokens x.0 x.1 x.2 x.3 words h;
  },
  h,
)

pub derived_or_stuck : (tokens : List Token) → Named tokens → is_light tokens ≡ true → are_words tokens ≡ true → ((p : Program) × Derives tokens p) ⊎ ((n : ℕ) × IsStuckAt tokens n)
derived_or_stuck tokens named light words = by_outcome (parts (length tokens) tokens) refl
  where
    by_outcome : (o : Outcome Four) → parts (length tokens) tokens ≡ o → ((p : Program) × Derives tokens p) ⊎ ((n : ℕ) × IsStuckAt tokens n)
    by_outcome (Ok r) e = inl (program_of tokens r.0 light words (parts_sound tokens r.1 r.0 named e))
    by_outcome (Err rest) e = inr (length tokens - length rest, refused_at tokens rest named e)
