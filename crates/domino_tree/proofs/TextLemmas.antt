-- What is written at the end of a text, token by token, are the tokens with a space before each.
use Rattle.std.proofs.Common.{◌≡◌, ℕ, ◌+◌, ◌<◌, List, [], ◌∷◌, ◌++◌, length, get_or, take, flat_map, refl, sym, ap, ◌∙◌, append_assoc}
use Rattle.std.proofs.lemmas.List.{append-nil, flat_map_more, take_more}
use Rattle.domino_tree.specs.declared.program.Item.{Item}
use Rattle.domino_tree.specs.declared.program.Program.{Program}
use Rattle.domino_tree.specs.Grammar.{item_tokens, packet_tokens, function_tokens}
use Rattle.domino_tree.specs.declared.token.Token.{Token}
use Rattle.domino_tree.specs.Text.{token_text, spaced, added, written, line, written_line, item_line, text_of}

pub written_spaced : (text : List ℕ) (tokens : List Token) → written text tokens ≡ text ++ spaced tokens
unfolding spaced
written_spaced text [] = sym (append-nil text)
written_spaced text (t ∷ ts) = written_spaced (added text t) ts ∙ append_assoc text (32 ∷ token_text t) (spaced ts)

pub written_line_is : (text : List ℕ) (tokens : List Token) → written_line text tokens ≡ text ++ line tokens
written_line_is text [] = refl
written_line_is text (t ∷ ts) =
    ap (λ x. x ++ (10 ∷ [])) (written_spaced (text ++ token_text t) ts ∙ append_assoc text (token_text t) (spaced ts))
    ∙ append_assoc text (token_text t ++ spaced ts) (10 ∷ [])
    ∙ ap (λ x. text ++ x) (append_assoc (token_text t) (spaced ts) (10 ∷ []))

-- the lines of the items, where one more is written
pub lines_more : (old out new : List ℕ) (items : List Item) (i : ℕ) (x : Item) → i < length items → x ≡ get_or items i x → out ≡ old ++ flat_map item_line (take i items) → new ≡ written_line out (item_tokens x) → new ≡ old ++ flat_map item_line (take (i + 1) items)
lines_more old out new items i x within here before after =
    after ∙ written_line_is out (item_tokens x)
    ∙ ap (λ text. text ++ item_line x) before
    ∙ flat_map_more item_line old (take i items) x
    ∙ ap (λ xs. old ++ flat_map item_line xs) (ap (λ y. take i items ++ y ∷ []) here ∙ sym (take_more items i x within))

-- the text of a program, from those of its parts
pub text_parts : (out1 out2 out3 out4 : List ℕ) (p : Program) → out1 ≡ flat_map item_line p.before → out2 ≡ written_line out1 (packet_tokens p.packet) → out3 ≡ out2 ++ flat_map item_line p.after → out4 ≡ written_line out3 (function_tokens p.function) → out4 ≡ text_of p
text_parts out1 out2 out3 out4 p e1 e2 e3 e4 =
    let before : List ℕ = flat_map item_line p.before in
    let packet : List ℕ = line (packet_tokens p.packet) in
    let after : List ℕ = flat_map item_line p.after in
    let function : List ℕ = line (function_tokens p.function) in
    let two : out2 ≡ before ++ packet = e2 ∙ written_line_is out1 (packet_tokens p.packet) ∙ ap (λ t. t ++ packet) e1 in
    let three : out3 ≡ (before ++ packet) ++ after = e3 ∙ ap (λ t. t ++ after) two in
    e4 ∙ written_line_is out3 (function_tokens p.function) ∙ ap (λ t. t ++ function) three
    ∙ append_assoc (before ++ packet) after function
    ∙ append_assoc before packet (after ++ function)
