-- The tokens of the canonical text of a program are its canonical tokens.
use Rattle.std.proofs.Common.{◌≡◌, ℕ, Bool, true, false, List, [], ◌∷◌, ◌++◌, flat_map, length, refl, sym, ap, subst, ◌∙◌, append_assoc}
use Rattle.std.proofs.lemmas.Bool.{and_parts}
use Rattle.std.proofs.Math.Seq.{drop-append_seam}
use Rattle.std.proofs.lemmas.List.{append-nil}
use Rattle.std.proofs.lemmas.List.Folds.{list_all-append}
use Rattle.std.specs.List.{list_all}
use Rattle.domino_tree.specs.declared.token.Token.{Token}
use Rattle.domino_tree.specs.declared.program.Item.{Item}
use Rattle.domino_tree.specs.declared.program.Program.{Program}
use Rattle.domino_tree.specs.Grammar.{is_word_token, are_words, item_tokens, packet_tokens, function_tokens}
use Rattle.domino_tree.specs.Text.{token_text, spaced, line, item_line, canonical_tokens, text_of}
use Rattle.domino_syntax.specs.Tokens.{piece, is_token}
use Rattle.domino_syntax.specs.Pieces.{ArePieces}
use Rattle.domino_syntax.specs.Pieces.IsCut.{none, blank, more}
use Rattle.domino_syntax.proofs.TokenText.{gap, token_piece}
use Rattle.domino_syntax.proofs.NamedTokens.{program_named}

-- ---- tokens whose texts are read

-- each name is a name, and each number a word
record AreRead (ts : List Token) : Type 0 where
  named : list_all is_token ts ≡ true
  words : are_words ts ≡ true

read_parts : (xs ys : List Token) → AreRead (xs ++ ys) → AreRead xs × AreRead ys
read_parts xs ys h =
    let named = and_parts (list_all is_token xs) (list_all is_token ys) (sym (list_all-append is_token xs ys) ∙ h.named) in
    let words = and_parts (are_words xs) (are_words ys) (sym (list_all-append is_word_token xs ys) ∙ h.words) in
    (record { named = named.0; words = words.0 }, record { named = named.1; words = words.1 })

read_front : (xs ys : List Token) → AreRead (xs ++ ys) → AreRead xs
read_front xs ys h = (read_parts xs ys h).0

read_back : (xs ys : List Token) → AreRead (xs ++ ys) → AreRead ys
read_back xs ys h = (read_parts xs ys h).1

-- ---- white space and tokens

-- a text that begins with a space or the end of a line, and its tokens
record Behind (text : List ℕ) (us : List Token) : Type 0 where
  white : Bool
  rest : List ℕ
  begins : text ≡ gap white ∷ rest
  pieces : ArePieces text us

behind_gap : (white : Bool) (rest : List ℕ) (us : List Token) → ArePieces rest us → Behind (gap white ∷ rest) us
unfolding piece
behind_gap true rest us pieces = record { white = true; rest = rest; begins = refl; pieces = blank (32 ∷ rest) [] 1 us refl pieces }
behind_gap false rest us pieces = record { white = false; rest = rest; begins = refl; pieces = blank (10 ∷ rest) [] 1 us refl pieces }

-- a token in front of them
token_behind : (t : Token) (text : List ℕ) (us : List Token) → is_token t ≡ true → is_word_token t ≡ true → Behind text us → ArePieces (token_text t ++ text) (t ∷ us)
token_behind t text us is word h =
    more (token_text t ++ text) [] t (length (token_text t)) us
    (ap (λ z. piece (token_text t ++ z)) h.begins ∙ token_piece t h.white h.rest is word)
    (subst (λ z. ArePieces z us) (sym (drop-append_seam (token_text t) text)) h.pieces)

-- the rest of a line, and what follows it
spaced_pieces : (ts : List Token) (rest : List ℕ) (us : List Token) → AreRead ts → ArePieces rest us → Behind (spaced ts ++ (10 ∷ rest)) (ts ++ us)
unfolding spaced
spaced_pieces [] rest us h pieces = behind_gap false rest us pieces
spaced_pieces (t ∷ ts) rest us h pieces =
    let parts = and_parts (is_token t) (list_all is_token ts) h.named in
    let words = and_parts (is_word_token t) (are_words ts) h.words in
    let later = spaced_pieces ts rest us (record { named = parts.1; words = words.1 }) pieces in
    let whole : 32 ∷ (token_text t ++ (spaced ts ++ (10 ∷ rest))) ≡ (32 ∷ (token_text t ++ spaced ts)) ++ (10 ∷ rest) = ap (λ z. 32 ∷ z) (sym (append_assoc (token_text t) (spaced ts) (10 ∷ rest))) in
    subst (λ z. Behind z ((t ∷ ts) ++ us)) whole
    (behind_gap true (token_text t ++ (spaced ts ++ (10 ∷ rest))) (t ∷ (ts ++ us)) (token_behind t (spaced ts ++ (10 ∷ rest)) (ts ++ us) parts.0 words.0 later))

-- a line, and what follows it
line_pieces : (ts : List Token) (rest : List ℕ) (us : List Token) → AreRead ts → ArePieces rest us → ArePieces (line ts ++ rest) (ts ++ us)
line_pieces [] rest us h pieces = (behind_gap false rest us pieces).pieces
line_pieces (t ∷ ts) rest us h pieces =
    let parts = and_parts (is_token t) (list_all is_token ts) h.named in
    let words = and_parts (is_word_token t) (are_words ts) h.words in
    let later = spaced_pieces ts rest us (record { named = parts.1; words = words.1 }) pieces in
    let whole : token_text t ++ (spaced ts ++ (10 ∷ rest)) ≡ (token_text t ++ (spaced ts ++ (10 ∷ []))) ++ rest =
    ap (λ z. token_text t ++ z) (sym (append_assoc (spaced ts) (10 ∷ []) rest)) ∙ sym (append_assoc (token_text t) (spaced ts ++ (10 ∷ [])) rest) in
    subst (λ z. ArePieces z ((t ∷ ts) ++ us)) whole (token_behind t (spaced ts ++ (10 ∷ rest)) (ts ++ us) parts.0 words.0 later)

-- ---- programs

items_pieces : (items : List Item) (rest : List ℕ) (us : List Token) → AreRead (flat_map item_tokens items) → ArePieces rest us → ArePieces (flat_map item_line items ++ rest) (flat_map item_tokens items ++ us)
items_pieces [] rest us h pieces = pieces
items_pieces (i ∷ items) rest us h pieces =
    let first : List Token = item_tokens i in
    let others : List Token = flat_map item_tokens items in
    let later = items_pieces items rest us (read_back first others h) pieces in
    subst (λ z. ArePieces z ((first ++ others) ++ us)) (sym (append_assoc (item_line i) (flat_map item_line items) rest))
    (subst (ArePieces (item_line i ++ (flat_map item_line items ++ rest))) (sym (append_assoc first others us))
    (line_pieces first (flat_map item_line items ++ rest) (others ++ us) (read_front first others h) later))

-- the canonical text of a program is the pieces of its canonical tokens
pub printed_pieces : (p : Program) → ArePieces (text_of p) (canonical_tokens p)
printed_pieces p =
    let B : List Token = flat_map item_tokens p.before in
    let P : List Token = packet_tokens p.packet in
    let A : List Token = flat_map item_tokens p.after in
    let F : List Token = function_tokens p.function in
    let all : AreRead (B ++ (P ++ (A ++ F))) = record { named = program_named p.before p.packet p.after p.function p.derived; words = p.words } in
    let behind = read_back B (P ++ (A ++ F)) all in
    let last = read_back P (A ++ F) behind in
    let function : ArePieces (line F) F = subst (λ z. ArePieces z F) (append-nil (line F)) (subst (ArePieces (line F ++ [])) (append-nil F) (line_pieces F [] [] (read_back A F last) (none []))) in
    let after = items_pieces p.after (line F) F (read_front A F last) function in
    let packet = line_pieces P (flat_map item_line p.after ++ line F) (A ++ F) (read_front P (A ++ F) behind) after in
    items_pieces p.before (line P ++ (flat_map item_line p.after ++ line F)) (P ++ (A ++ F)) (read_front B (P ++ (A ++ F)) all) packet
