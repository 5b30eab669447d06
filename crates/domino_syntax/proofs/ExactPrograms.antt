-- The parsers of the function and of the four parts of a program are exact.
use Rattle.std.proofs.Common.{◌≡◌, ℕ, Bool, true, false, ◌&&◌, List, [], ◌∷◌, ◌++◌, refl, ap, sym, subst, ◌∙◌}
use Rattle.std.specs.List.{list_all}
use Rattle.std.specs.Option.{is_none}
use Rattle.std.proofs.Math.Bool.{and-true}
use Rattle.std.proofs.lemmas.Bool.{and_from, and_parts}
use Rattle.std.proofs.lemmas.List.{append-nil}
use Rattle.domino_tree.specs.declared.token.Token.{Token}
use Rattle.domino_tree.specs.declared.token.Token.TheVariants as token
use Rattle.domino_tree.specs.declared.token.Keyword.TheVariants as keywords
use Rattle.domino_tree.specs.declared.token.Sign.TheVariants as signs
use Rattle.domino_tree.specs.declared.program.Item.{Item}
use Rattle.domino_tree.specs.declared.program.PacketDecl.{PacketDecl}
use Rattle.domino_tree.specs.declared.program.Function.{Function}
use Rattle.domino_tree.specs.Grammar.{is_name, is_item, packet_tokens, is_packet, function_tokens, is_function}
use Rattle.domino_tree.specs.Derives.{AreItems, none, more, Parts}
use Rattle.domino_syntax.specs.Parsers.{first}
use Rattle.domino_syntax.specs.ReadingPrograms.{statement, head, function, parts}
use Rattle.domino_syntax.proofs.Exact.{Grammar, Stops, anywhere, Exact, exact_as, exact_map, Image, IsEnd, exact_end, Then, Many, By}
use Rattle.domino_syntax.proofs.OneToken.{name_tokens, exact_sign, exact_keyword, exact_name}
use Rattle.domino_syntax.proofs.Known.{in_turn, rest_known, rest_token, rest_part, exact_by}
use Rattle.domino_syntax.proofs.ExactDeclarations.{ItemForm, no_item, exact_items, exact_packet}
use Rattle.domino_syntax.proofs.ExactStatements.{body_tokens, is_body, exact_block, exact_statement}

-- ---- the function

-- the function's own name, the struct's and the packet's
abbrev Names : Type 0
Names = List ℕ × List ℕ × List ℕ

abbrev head_tokens : Names → List Token
head_tokens x = token.Keyword keywords.Void ∷ token.Name x.0 ∷ token.Sign signs.OpenRound ∷ token.Keyword keywords.Struct ∷ token.Name x.1 ∷ token.Name x.2 ∷ token.Sign signs.CloseRound ∷ []

abbrev is_head : Names → Bool
is_head x = is_name x.0 && (is_name x.1 && is_name x.2)

same_names : (w of p : List ℕ) (y : Names) → y.0 ≡ w → y.1 ≡ of → y.2 ≡ p → y ≡ (w, of, p)
same_names w of p y is_own is_struct is_packet = rw (sym is_own, sym is_struct, sym is_packet)

exact_head : {n : ℕ} {stops : Stops} → Exact n head (By head_tokens is_head) stops
unfolding head
exact_head =
    exact_by head_tokens is_head
    (rest_token (token.Keyword keywords.Void) (exact_keyword keywords.Void)
    (rest_part (λ (y : Names). y.0) name_tokens is_name _ _ _ anywhere exact_name
    (λ w. rest_token (token.Sign signs.OpenRound) (exact_sign signs.OpenRound)
    (rest_token (token.Keyword keywords.Struct) (exact_keyword keywords.Struct)
    (rest_part (λ (y : Names). y.1) name_tokens is_name _ _ _ anywhere exact_name
    (λ of. rest_part (λ (y : Names). y.2) name_tokens is_name _ _ _ anywhere exact_name
    (λ p. rest_token (token.Sign signs.CloseRound) (exact_sign signs.CloseRound)
    (rest_known (λ (y : Names). ((Unit {0} × (y.0 ≡ w)) × (y.1 ≡ of)) × (y.2 ≡ p)) (w, of, p) (((tt, refl), refl), refl) (λ y h. same_names w of p y h.0.0.1 h.0.1 h.1)))
    (λ y rest stop. refl))
    (λ y rest stop. refl))))
    (λ y rest stop. refl)))
    (λ y. refl)
    (λ y. ap (λ b. is_name y.0 && (is_name y.1 && b)) (and-true (is_name y.2)))

abbrev names_of : Function → Names
names_of f = (f.name, f.of, f.packet)

same_function : (names : Names) (f : Function) → names_of f ≡ names → f ≡ record { name = names.0; of = names.1; packet = names.2; body = f.body }
same_function names f is = ap (λ (x : Names). record { name = x.0; of = x.1; packet = x.2; body = f.body }) is

function_tests : (name of packet body : Bool) → ((name && (of && packet)) && (body && true)) ≡ (name && (of && (packet && body)))
function_tests true true true body = and-true body
function_tests true true false body = refl
function_tests true false packet body = refl
function_tests false of packet body = refl

pub exact_function : {stops : Stops} (n : ℕ) → Exact n (function n) (By function_tokens is_function) stops
unfolding function
exact_function n =
    exact_by function_tokens is_function
    (rest_part names_of head_tokens is_head _ _ _ anywhere exact_head
    (λ names. rest_part (λ (f : Function). f.body) body_tokens is_body _ _ _ anywhere (exact_block (statement n) (exact_statement n))
    (λ body. rest_known (λ (f : Function). (Unit {0} × (names_of f ≡ names)) × (f.body ≡ body)) (record { name = names.0; of = names.1; packet = names.2; body = body }) ((tt, refl), refl)
    (λ f h. same_function names f h.0.1 ∙ ap (λ body. record { name = names.0; of = names.1; packet = names.2; body = body }) h.1))
    (λ y rest stop. refl))
    (λ y rest stop. refl))
    (λ f. ap (λ l. head_tokens (names_of f) ++ l) (append-nil (body_tokens f.body)))
    (λ f. function_tests (is_name f.name) (is_name f.of) (is_name f.packet) (is_body f.body))

-- ---- programs

-- items, the struct, items, the function
abbrev pub Four : Type 0
Four = List Item × PacketDecl × List Item × Function

abbrev pub PartsForm : Grammar Four
PartsForm used x = Parts used x.0 x.1 x.2 x.3

record ItemsForm (used : List Token) (items : List Item) : Type 0 where
  pub are : AreItems used items
  pub named : list_all is_item items ≡ true

items_to : (used : List Token) (items : List Item) → Many ItemForm used items → ItemsForm used items
items_to used [] h = record { are = subst (λ l. AreItems l []) (sym h) none; named = refl }
items_to used (i ∷ items) h =
    let later = items_to h.1 items h.4 in
    record { are = subst (λ l. AreItems l (i ∷ items)) (sym h.2) (more h.0 i h.1 items h.3.form later.are); named = and_from (is_item i) (list_all is_item items) h.3.named later.named }

items_from : (used : List Token) (items : List Item) → AreItems used items → list_all is_item items ≡ true → Many ItemForm used items
items_from _ _ none named = refl
items_from _ _ (more front i back items is_one are) named =
    let holds = and_parts (is_item i) (list_all is_item items) named in
    (front, back, refl, record { form = is_one; named = holds.0 }, items_from back items are holds.1)

abbrev IsPacket : Grammar PacketDecl
IsPacket = By packet_tokens is_packet

abbrev IsFunction : Grammar Function
IsFunction = By function_tokens is_function

abbrev FunctionLast : List Item → PacketDecl → List Item → Grammar Four
FunctionLast before p after = Then IsFunction (λ f. Image (λ _. (before, p, after, f)) IsEnd)

abbrev ItemsNext : List Item → PacketDecl → Grammar Four
ItemsNext before p = Then (Many ItemForm) (FunctionLast before p)

abbrev PacketNext : List Item → Grammar Four
PacketNext before = Then IsPacket (ItemsNext before)

parts_to : (used : List Token) (x : Four) → Then (Many ItemForm) PacketNext used x → PartsForm used x
parts_to used x h =
    let p = h.second in
    let i = p.second in
    let f = i.second in
    let before = items_to h.front h.value h.first in
    let after = items_to i.front i.value i.first in
    let last : i.back ≡ function_tokens f.value = f.parts ∙ (ap (λ l. l ++ f.back) f.first.text ∙ (ap (λ l. function_tokens f.value ++ l) f.second.form ∙ append-nil (function_tokens f.value))) in
    subst (PartsForm used) (sym f.second.is) (record {
      front = h.front;
      middle = i.front;
      spells = h.parts ∙ ap (λ l. h.front ++ l) (p.parts ∙ (ap (λ l. l ++ p.back) p.first.text ∙ ap (λ l. packet_tokens p.value ++ l) (i.parts ∙ ap (λ l. i.front ++ l) last)));
      items_before = before.are;
      items_after = after.are;
      stands = and_from (list_all is_item h.value) (is_packet p.value && (list_all is_item i.value && is_function f.value)) before.named
          (and_from (is_packet p.value) (list_all is_item i.value && is_function f.value) p.first.holds
          (and_from (list_all is_item i.value) (is_function f.value) after.named f.first.holds));
    })

parts_from : (used : List Token) (x : Four) → PartsForm used x → Then (Many ItemForm) PacketNext used x
parts_from used x h =
    let holds = and_parts (list_all is_item x.0) (is_packet x.1 && (list_all is_item x.2 && is_function x.3)) h.stands in
    let later = and_parts (is_packet x.1) (list_all is_item x.2 && is_function x.3) holds.1 in
    let last = and_parts (list_all is_item x.2) (is_function x.3) later.1 in
    record {
      value = x.0;
      front = h.front;
      back = packet_tokens x.1 ++ (h.middle ++ function_tokens x.3);
      parts = h.spells;
      first = items_from h.front x.0 h.items_before holds.0;
      second = record {
        value = x.1;
        front = packet_tokens x.1;
        back = h.middle ++ function_tokens x.3;
        parts = refl;
        first = record { text = refl; holds = later.0 };
        second = record {
          value = x.2;
          front = h.middle;
          back = function_tokens x.3;
          parts = refl;
          first = items_from h.middle x.2 h.items_after last.0;
          second = record {
            value = x.3;
            front = function_tokens x.3;
            back = [];
            parts = sym (append-nil (function_tokens x.3));
            first = record { text = refl; holds = last.1 };
            second = record { value = tt; form = refl; is = refl };
          };
        };
      };
    }

pub exact_parts : (n : ℕ) → Exact n (parts n) PartsForm is_none
unfolding parts
exact_parts n =
    exact_as PartsForm
    (in_turn no_item exact_items
    (λ before. in_turn anywhere exact_packet
    (λ p. in_turn no_item exact_items
    (λ after. in_turn anywhere (exact_function n) (λ f. exact_map (λ _. (before, p, after, f)) exact_end) (λ f used rest y h stop. refl))
    (λ after used rest y h stop. ap (λ l. no_item (first (l ++ rest))) (h.parts ∙ ap (λ l. l ++ h.back) h.first.text)))
    (λ p used rest y h stop. refl))
    (λ before used rest y h stop. ap (λ l. no_item (first (l ++ rest))) (h.parts ∙ ap (λ l. l ++ h.back) h.first.text)))
    parts_to parts_from
