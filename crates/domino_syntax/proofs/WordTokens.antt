-- The canonical tokens of what is derived from words are words.
use Rattle.std.proofs.Common.{◌≡◌, ℤ, neg_ℤ, true, List, [], ◌∷◌, ◌++◌, flat_map, inl, inr, refl, sym, ap, ◌∙◌}
use Rattle.std.proofs.lemmas.Bool.{and_parts, and_from}
use Rattle.std.proofs.lemmas.List.Folds.{list_all-append}
use Rattle.domino_tree.specs.declared.token.Token.{Token}
use Rattle.domino_tree.specs.declared.token.Token.TheVariants as token
use Rattle.domino_tree.specs.declared.token.Sign.TheVariants as sign
use Rattle.domino_tree.specs.declared.program.Size.{Size}
use Rattle.domino_tree.specs.declared.program.Size.TheVariants as size
use Rattle.domino_tree.specs.declared.program.Start.{Start}
use Rattle.domino_tree.specs.declared.program.Start.TheVariants as start
use Rattle.domino_tree.specs.declared.program.Item.{Item}
use Rattle.domino_tree.specs.declared.program.Item.TheVariants as item
use Rattle.domino_tree.specs.declared.program.PacketDecl.{PacketDecl}
use Rattle.domino_tree.specs.declared.program.Function.{Function}
use Rattle.domino_tree.specs.Grammar.{is_word, is_word_token, are_words, size_tokens, length_tokens, start_tokens, item_tokens, packet_tokens, function_tokens, program_tokens}
use Rattle.domino_tree.specs.Derives.{IsValue, IsEntry, IsStart, IsItem, AreItems, none, more, Parts}
use Rattle.domino_syntax.proofs.LexLemmas.{word_is}

abbrev Words : List Token → Type 0
Words tokens = are_words tokens ≡ true

append : (xs ys : List Token) → Words xs → Words ys → Words (xs ++ ys)
append xs ys h k = list_all-append is_word_token xs ys ∙ and_from (are_words xs) (are_words ys) h k

apart : (xs ys : List Token) → Words (xs ++ ys) → Words xs × Words ys
apart xs ys h = and_parts (are_words xs) (are_words ys) (sym (list_all-append is_word_token xs ys) ∙ h)

value_word : (tokens : List Token) (value : ℤ) → IsValue tokens value → Words tokens → is_word value ≡ true
value_word tokens value (inl e) h = (and_parts (is_word value) true (sym (ap are_words e) ∙ h)).0
value_word tokens value (inr n) h = ap is_word n.negates ∙ word_is (neg_ℤ n.number)

entry_words : (tokens : List Token) (entry : Size) → IsEntry tokens entry → Words tokens → Words (size_tokens entry)
entry_words tokens (size.Number n) h words = and_from (is_word n) true (value_word tokens n h words) refl
entry_words tokens (size.Word w) h words = refl

start_words : (tokens : List Token) (value : Start) → IsStart tokens value → Words tokens → Words (start_tokens value)
start_words tokens start.Absent h words = refl
start_words tokens (start.Plain entry) h words = entry_words h.inner entry h.entered (sym (ap are_words h.spells) ∙ words)
start_words tokens (start.Braced entry) h words =
    let close : List Token = token.Sign sign.CloseCurly ∷ [] in
    append (size_tokens entry) close (entry_words h.inner entry h.entered (apart h.inner close (sym (ap are_words h.spells) ∙ words)).0) refl

item_words : (tokens : List Token) (i : Item) → IsItem tokens i → Words tokens → Words (item_tokens i)
item_words tokens (item.Define name value) h words = and_from (is_word value) true (value_word h.inner value h.valued (sym (ap are_words h.spells) ∙ words)) refl
item_words tokens (item.Array name length value) h words =
    let semicolon : List Token = token.Sign sign.Semicolon ∷ [] in
    let size : List Token = length_tokens length in
    let inner = (apart (size ++ h.inner) semicolon (sym (ap are_words h.spells) ∙ words)).0 in
    let parts = apart size h.inner inner in
    append (size ++ start_tokens value) semicolon (append size (start_tokens value) parts.0 (start_words h.inner value h.started parts.1)) refl

items_words : (tokens : List Token) (items : List Item) → AreItems tokens items → Words tokens → Words (flat_map item_tokens items)
items_words _ _ none words = refl
items_words _ _ (more front first back others here later) words =
    let parts = apart front back words in
    append (item_tokens first) (flat_map item_tokens others) (item_words front first here parts.0) (items_words back others later parts.1)

-- the canonical tokens of what is derived from words are words
pub canonical_words : (tokens : List Token) (before : List Item) (packet : PacketDecl) (after : List Item) (function : Function) → are_words tokens ≡ true → Parts tokens before packet after function → are_words (program_tokens before packet after function) ≡ true
canonical_words tokens before packet after function words h =
    let P : List Token = packet_tokens packet in
    let F : List Token = function_tokens function in
    let all = apart h.front (P ++ (h.middle ++ F)) (sym (ap are_words h.spells) ∙ words) in
    let later = apart P (h.middle ++ F) all.1 in
    let last = apart h.middle F later.1 in
    append (flat_map item_tokens before) (P ++ (flat_map item_tokens after ++ F)) (items_words h.front before h.items_before all.0)
    (append P (flat_map item_tokens after ++ F) later.0
    (append (flat_map item_tokens after) F (items_words h.middle after h.items_after last.0) last.1))
