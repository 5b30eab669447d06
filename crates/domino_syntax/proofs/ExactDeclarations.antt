-- The parsers of items and of the struct are exact.
use Rattle.std.proofs.Common.{◌≡◌, ◌≤◌, inl, inr, ℕ, ℤ, true, false, not, ◌&&◌, List, [], ◌∷◌, ◌++◌, length, Option, Some, None, refl, ap, sym, subst, ◌∙◌, append_assoc, arith}
use Rattle.std.specs.List.{list_all, flat_map}
use Rattle.std.proofs.Math.Bool.{and-true}
use Rattle.std.proofs.lemmas.Bool.{and_from, and_parts, not-true}
use Rattle.mp5_words.specs.Words.{op1}
use Rattle.mp5_words.specs.declared.op.Op1.TheVariants.{Neg}
use Rattle.domino_tree.specs.declared.token.Token.{Token}
use Rattle.domino_tree.specs.declared.token.Token.TheVariants as token
use Rattle.domino_tree.specs.declared.token.Keyword.TheVariants as keywords
use Rattle.domino_tree.specs.declared.token.Sign.TheVariants as signs
use Rattle.domino_tree.specs.declared.program.Size.{Size}
use Rattle.domino_tree.specs.declared.program.Size.TheVariants as sizes
use Rattle.domino_tree.specs.declared.program.Start.{Start}
use Rattle.domino_tree.specs.declared.program.Start.TheVariants as starts
use Rattle.domino_tree.specs.declared.program.Item.{Item}
use Rattle.domino_tree.specs.declared.program.Item.TheVariants as items_of
use Rattle.domino_tree.specs.declared.program.PacketDecl.{PacketDecl}
use Rattle.domino_tree.specs.Grammar.{is_name, size_tokens, is_size, length_tokens, is_length, is_start, is_item, declaration, packet_tokens, is_packet, in_curly}
use Rattle.domino_tree.specs.Derives.{IsNegated, IsValue, IsEntry, IsStart, IsItem}
use Rattle.domino_syntax.specs.Parsers.{first, sees_sign, sees_keyword, sees_define, sees_name}
use Rattle.domino_syntax.specs.ReadingPrograms.{negated, value, word, entry, size, bracketed, cells, braced, plain, start, definition, register, begins_item, item, items, field, fields, packet}
use Rattle.domino_syntax.proofs.Exact.{Grammar, Stops, anywhere, Exact, exact_as, exact_map, Image, exact_pure, Nothing, Then, Either, exact_choice, Many, exact_all, By, list_to, list_from}
use Rattle.domino_syntax.proofs.OneToken.{IsName, name_tokens, IsNumber, exact_sign, exact_keyword, exact_define, exact_name, exact_number, Behind, Closed, exact_closed}
use Rattle.domino_syntax.proofs.Known.{in_turn, behind, rest_known, rest_token, rest_part, exact_by}

-- ---- values, entries and sizes

exact_negated : {n : ℕ} {stops : Stops} → Exact n negated IsNegated stops
unfolding negated
exact_negated =
    exact_as IsNegated (behind (token.Sign signs.Minus) (exact_sign signs.Minus) (exact_map (op1 Neg) exact_number))
    (λ used x h. record { number = h.form.value; spells = h.text ∙ ap (λ l. token.Sign signs.Minus ∷ l) h.form.form; negates = h.form.is })
    (λ used x h. record { inner = token.Number h.number ∷ []; text = h.spells; form = record { value = h.number; form = refl; is = h.negates } })

value_to : (used : List Token) (x : ℤ) → Either IsNegated IsNumber used x → IsValue used x
value_to used x (inl h) = inr h
value_to used x (inr h) = inl h

value_from : (used : List Token) (x : ℤ) → IsValue used x → Either IsNegated IsNumber used x
value_from used x (inl h) = inr h
value_from used x (inr h) = inl h

pub exact_value : {n : ℕ} {stops : Stops} → Exact n value IsValue stops
unfolding value
exact_value =
    exact_as IsValue
    (exact_choice (sees_sign signs.Minus) exact_negated exact_number
    (λ used rest x h stop. ap (λ l. sees_sign signs.Minus (first (l ++ rest))) h.spells)
    (λ used rest x h stop. ap (λ l. sees_sign signs.Minus (first (l ++ rest))) h))
    value_to value_from

-- a word as a size
abbrev IsWord : Grammar Size
IsWord = Image sizes.Word IsName

exact_word : {n : ℕ} {stops : Stops} → Exact n word IsWord stops
unfolding word
exact_word = exact_map sizes.Word exact_name

word_sees : (used rest : List Token) (x : Size) → IsWord used x → sees_name (first (used ++ rest)) ≡ true
word_sees used rest x h = ap (λ l. sees_name (first (l ++ rest))) h.form.text

pub record EntryForm (used : List Token) (e : Size) : Type 0 where
  pub form : IsEntry used e
  pub named : is_size e ≡ true

entry_to : (used : List Token) (e : Size) → Either IsWord (Image sizes.Number IsValue) used e → EntryForm used e
entry_to used e (inl h) = subst (EntryForm used) (sym h.is) (record { form = h.form.text; named = h.form.holds })
entry_to used e (inr h) = subst (EntryForm used) (sym h.is) (record { form = h.form; named = refl })

entry_from : (used : List Token) (e : Size) → EntryForm used e → Either IsWord (Image sizes.Number IsValue) used e
entry_from used (sizes.Number n) h = inr (record { value = n; form = h.form; is = refl })
entry_from used (sizes.Word w) h = inl (record { value = w; form = record { text = h.form; holds = h.named }; is = refl })

value_sees_no_name : (used rest : List Token) (x : ℤ) → IsValue used x → sees_name (first (used ++ rest)) ≡ false
value_sees_no_name used rest x (inl h) = ap (λ l. sees_name (first (l ++ rest))) h
value_sees_no_name used rest x (inr h) = ap (λ l. sees_name (first (l ++ rest))) h.spells

pub exact_entry : {n : ℕ} {stops : Stops} → Exact n entry EntryForm stops
unfolding entry
exact_entry =
    exact_as EntryForm
    (exact_choice sees_name exact_word (exact_map sizes.Number exact_value)
    (λ used rest x h stop. word_sees used rest x h)
    (λ used rest x h stop. value_sees_no_name used rest h.value h.form))
    entry_to entry_from

size_to : (used : List Token) (s : Size) → Either IsWord (Image sizes.Number IsNumber) used s → By size_tokens is_size used s
size_to used s (inl h) = subst (By size_tokens is_size used) (sym h.is) (record { text = h.form.text; holds = h.form.holds })
size_to used s (inr h) = subst (By size_tokens is_size used) (sym h.is) (record { text = h.form; holds = refl })

size_from : (used : List Token) (s : Size) → By size_tokens is_size used s → Either IsWord (Image sizes.Number IsNumber) used s
size_from used (sizes.Number n) h = inr (record { value = n; form = h.text; is = refl })
size_from used (sizes.Word w) h = inl (record { value = w; form = record { text = h.text; holds = h.holds }; is = refl })

exact_size : {n : ℕ} {stops : Stops} → Exact n size (By size_tokens is_size) stops
unfolding size
exact_size =
    exact_as (By size_tokens is_size)
    (exact_choice sees_name exact_word (exact_map sizes.Number exact_number)
    (λ used rest x h stop. word_sees used rest x h)
    (λ used rest x h stop. ap (λ l. sees_name (first (l ++ rest))) h.form))
    size_to size_from

-- ---- the length of an array

abbrev no_sign : Stops
no_sign t = not (sees_sign signs.OpenSquare t)

abbrev IsBracketed : Grammar (Option Size)
IsBracketed = Behind (token.Sign signs.OpenSquare) (Closed (token.Sign signs.CloseSquare) Some (By size_tokens is_size))

exact_bracketed : {n : ℕ} {stops : Stops} → Exact n bracketed IsBracketed stops
unfolding bracketed
exact_bracketed =
    behind (token.Sign signs.OpenSquare) (exact_sign signs.OpenSquare)
    (exact_closed {stops = anywhere} (token.Sign signs.CloseSquare) Some exact_size refl (exact_sign signs.CloseSquare))

length_to : (used : List Token) (l : Option Size) → Either IsBracketed (Nothing None) used l → By length_tokens is_length used l
length_to used l (inl h) =
    subst (By length_tokens is_length used) (sym h.form.is)
    (record { text = h.text ∙ ap (λ l. token.Sign signs.OpenSquare ∷ l) (h.form.text ∙ ap (λ l. l ++ (token.Sign signs.CloseSquare ∷ [])) h.form.form.text); holds = h.form.form.holds })
length_to used l (inr h) = subst (By length_tokens is_length used) (sym h.is) (record { text = h.text; holds = refl })

length_from : (used : List Token) (l : Option Size) → By length_tokens is_length used l → Either IsBracketed (Nothing None) used l
length_from used None h = inr (record { text = h.text; is = refl })
length_from used (Some s) h = inl (record {
  inner = size_tokens s ++ (token.Sign signs.CloseSquare ∷ []);
  text = h.text;
  form = record { inner = size_tokens s; value = s; text = refl; form = record { text = refl; holds = h.holds }; is = refl };
})

exact_cells : {n : ℕ} → Exact n cells (By length_tokens is_length) no_sign
unfolding cells
exact_cells =
    exact_as (By length_tokens is_length)
    (exact_choice (sees_sign signs.OpenSquare) exact_bracketed (exact_pure None)
    (λ used rest x h stop. ap (λ l. sees_sign signs.OpenSquare (first (l ++ rest))) h.text)
    (λ used rest x h stop. ap (λ l. sees_sign signs.OpenSquare (first (l ++ rest))) h.text ∙ not-true (sees_sign signs.OpenSquare (first rest)) stop))
    length_to length_from

-- ---- the start value

abbrev no_start : Stops
no_start t = not (sees_sign signs.Assign t)

pub record StartForm (used : List Token) (s : Start) : Type 0 where
  pub form : IsStart used s
  pub named : is_start s ≡ true

abbrev IsInBraces : Grammar Start
IsInBraces = Behind (token.Sign signs.OpenCurly) (Closed (token.Sign signs.CloseCurly) starts.Braced EntryForm)

exact_braced : {n : ℕ} {stops : Stops} → Exact n braced IsInBraces stops
unfolding braced
exact_braced =
    behind (token.Sign signs.OpenCurly) (exact_sign signs.OpenCurly)
    (exact_closed {stops = anywhere} (token.Sign signs.CloseCurly) starts.Braced exact_entry refl (exact_sign signs.CloseCurly))

exact_plain : {n : ℕ} {stops : Stops} → Exact n plain (Image starts.Plain EntryForm) stops
unfolding plain
exact_plain = exact_map starts.Plain exact_entry

-- what comes after `=`
abbrev IsGiven : Grammar Start
IsGiven = Behind (token.Sign signs.Assign) (Either IsInBraces (Image starts.Plain EntryForm))

entry_opens_no_brace : (used rest : List Token) (e : Size) → IsEntry used e → sees_sign signs.OpenCurly (first (used ++ rest)) ≡ false
entry_opens_no_brace used rest (sizes.Number n) (inl h) = ap (λ l. sees_sign signs.OpenCurly (first (l ++ rest))) h
entry_opens_no_brace used rest (sizes.Number n) (inr h) = ap (λ l. sees_sign signs.OpenCurly (first (l ++ rest))) h.spells
entry_opens_no_brace used rest (sizes.Word w) h = ap (λ l. sees_sign signs.OpenCurly (first (l ++ rest))) h

start_to : (used : List Token) (s : Start) → Either IsGiven (Nothing starts.Absent) used s → StartForm used s
start_to used s (inl h) = given used s h.inner h.text h.form
  where
    given : (used : List Token) (s : Start) (inner : List Token) → used ≡ token.Sign signs.Assign ∷ inner → Either IsInBraces (Image starts.Plain EntryForm) inner s → StartForm used s
    given used s inner is (inl h) =
        subst (StartForm used) (sym h.form.is)
        (record { form = record { inner = h.form.inner; spells = is ∙ ap (λ l. token.Sign signs.Assign ∷ l) (h.text ∙ ap (λ l. token.Sign signs.OpenCurly ∷ l) h.form.text); entered = h.form.form.form }; named = h.form.form.named })
    given used s inner is (inr h) =
        subst (StartForm used) (sym h.is) (record { form = record { inner = inner; spells = is; entered = h.form.form }; named = h.form.named })
start_to used s (inr h) = subst (StartForm used) (sym h.is) (record { form = h.text; named = refl })

start_from : (used : List Token) (s : Start) → StartForm used s → Either IsGiven (Nothing starts.Absent) used s
start_from used starts.Absent h = inr (record { text = h.form; is = refl })
start_from used (starts.Plain e) h =
    inl (record { inner = h.form.inner; text = h.form.spells; form = inr (record { value = e; form = record { form = h.form.entered; named = h.named }; is = refl }) })
start_from used (starts.Braced e) h = inl (record {
  inner = in_curly h.form.inner;
  text = h.form.spells;
  form = inl (record {
    inner = h.form.inner ++ (token.Sign signs.CloseCurly ∷ []);
    text = refl;
    form = record { inner = h.form.inner; value = e; text = refl; form = record { form = h.form.entered; named = h.named }; is = refl };
  });
})

exact_start : {n : ℕ} → Exact n start StartForm no_start
unfolding start
exact_start =
    exact_as StartForm
    (exact_choice (sees_sign signs.Assign)
    (behind (token.Sign signs.Assign) (exact_sign signs.Assign)
    (exact_choice (sees_sign signs.OpenCurly) exact_braced exact_plain
    (λ used rest x h stop. ap (λ l. sees_sign signs.OpenCurly (first (l ++ rest))) h.text)
    (λ used rest x h stop. entry_opens_no_brace used rest h.value h.form.form)))
    (exact_pure starts.Absent)
    (λ used rest x h stop. ap (λ l. sees_sign signs.Assign (first (l ++ rest))) h.text)
    (λ used rest x h stop. ap (λ l. sees_sign signs.Assign (first (l ++ rest))) h.text ∙ not-true (sees_sign signs.Assign (first rest)) stop))
    start_to start_from

-- ---- items

pub record ItemForm (used : List Token) (i : Item) : Type 0 where
  pub form : IsItem used i
  pub named : is_item i ≡ true

abbrev IsDefinition : Grammar Item
IsDefinition = Behind token.Define (Then IsName (λ w. Image (items_of.Define w) IsValue))

exact_definition : {n : ℕ} {stops : Stops} → Exact n definition IsDefinition stops
unfolding definition
exact_definition =
    behind token.Define exact_define (in_turn anywhere exact_name (λ w. exact_map (items_of.Define w) exact_value) (λ w used rest y h stop. refl))

-- what comes after the name of a register
abbrev AfterCells : List ℕ → Option Size → Grammar Item
AfterCells w l = Closed (token.Sign signs.Semicolon) (items_of.Array w l) StartForm

abbrev IsRegister : Grammar Item
IsRegister = Behind (token.Keyword keywords.Int) (Then IsName (λ w. Then (By length_tokens is_length) (AfterCells w)))

start_opens_no_square : (used rest : List Token) (s : Start) → IsStart used s → sees_sign signs.OpenSquare (first ((used ++ (token.Sign signs.Semicolon ∷ [])) ++ rest)) ≡ false
start_opens_no_square used rest starts.Absent h = ap (λ l. sees_sign signs.OpenSquare (first ((l ++ (token.Sign signs.Semicolon ∷ [])) ++ rest))) h
start_opens_no_square used rest (starts.Plain e) h = ap (λ l. sees_sign signs.OpenSquare (first ((l ++ (token.Sign signs.Semicolon ∷ [])) ++ rest))) h.spells
start_opens_no_square used rest (starts.Braced e) h = ap (λ l. sees_sign signs.OpenSquare (first ((l ++ (token.Sign signs.Semicolon ∷ [])) ++ rest))) h.spells

exact_register : {n : ℕ} {stops : Stops} → Exact n register IsRegister stops
unfolding register
exact_register =
    behind (token.Keyword keywords.Int) (exact_keyword keywords.Int)
    (in_turn anywhere exact_name
    (λ w. in_turn no_sign exact_cells
    (λ l. exact_closed (token.Sign signs.Semicolon) (items_of.Array w l) exact_start refl (exact_sign signs.Semicolon))
    (λ l used rest y h stop. ap (λ l. no_sign (first (l ++ rest))) h.text ∙ ap not (start_opens_no_square h.inner rest h.value h.form.form)))
    (λ w used rest y h stop. refl))

define_to : (used : List Token) (i : Item) → IsDefinition used i → ItemForm used i
define_to used i h =
    let called = h.form in
    subst (ItemForm used) (sym called.second.is) (record {
      form = record { inner = called.back; spells = h.text ∙ ap (λ l. token.Define ∷ l) (called.parts ∙ ap (λ l. l ++ called.back) called.first.text); valued = called.second.form };
      named = called.first.holds;
    })

register_to : (used : List Token) (i : Item) → IsRegister used i → ItemForm used i
register_to used i h =
    let called = h.form in
    let long = called.second in
    let last = long.second in
    subst (ItemForm used) (sym last.is) (record {
      form = record {
        inner = last.inner;
        spells = h.text ∙ ap (λ l. token.Keyword keywords.Int ∷ l) (called.parts ∙ (ap (λ l. l ++ called.back) called.first.text
            ∙ ap (λ l. token.Name called.value ∷ l) (long.parts ∙ (ap (λ l. l ++ long.back) long.first.text ∙ (ap (λ l. length_tokens long.value ++ l) last.text ∙ sym (append_assoc (length_tokens long.value) last.inner (token.Sign signs.Semicolon ∷ [])))))));
        started = last.form.form;
      };
      named = and_from (is_name called.value) (is_length long.value && is_start last.value) called.first.holds (and_from (is_length long.value) (is_start last.value) long.first.holds last.form.named);
    })

item_to : (used : List Token) (i : Item) → Either IsDefinition IsRegister used i → ItemForm used i
item_to used i (inl h) = define_to used i h
item_to used i (inr h) = register_to used i h

item_from : (used : List Token) (i : Item) → ItemForm used i → Either IsDefinition IsRegister used i
item_from used (items_of.Define w n) h = inl (record {
  inner = token.Name w ∷ h.form.inner;
  text = h.form.spells;
  form = record { value = w; front = token.Name w ∷ []; back = h.form.inner; parts = refl; first = record { text = refl; holds = h.named }; second = record { value = n; form = h.form.valued; is = refl } };
})
item_from used (items_of.Array w l s) h =
    let holds = and_parts (is_name w) (is_length l && is_start s) h.named in
    let later = and_parts (is_length l) (is_start s) holds.1 in
    let back = h.form.inner ++ (token.Sign signs.Semicolon ∷ []) in
    inr (record {
      inner = token.Name w ∷ (length_tokens l ++ back);
      text = h.form.spells ∙ ap (λ l. token.Keyword keywords.Int ∷ token.Name w ∷ l) (append_assoc (length_tokens l) h.form.inner (token.Sign signs.Semicolon ∷ []));
      form = record {
        value = w;
        front = token.Name w ∷ [];
        back = length_tokens l ++ back;
        parts = refl;
        first = record { text = refl; holds = holds.0 };
        second = record {
          value = l;
          front = length_tokens l;
          back = back;
          parts = refl;
          first = record { text = refl; holds = later.0 };
          second = record { inner = h.form.inner; value = s; text = refl; form = record { form = h.form.started; named = later.1 }; is = refl };
        };
      };
    })

exact_item : {n : ℕ} {stops : Stops} → Exact n item ItemForm stops
unfolding item
exact_item =
    exact_as ItemForm
    (exact_choice sees_define exact_definition exact_register
    (λ used rest x h stop. ap (λ l. sees_define (first (l ++ rest))) h.text)
    (λ used rest x h stop. ap (λ l. sees_define (first (l ++ rest))) h.text))
    item_to item_from

item_begins : (used rest : List Token) (i : Item) → ItemForm used i → begins_item (first (used ++ rest)) ≡ true
item_begins used rest (items_of.Define w n) h = ap (λ l. begins_item (first (l ++ rest))) h.form.spells
item_begins used rest (items_of.Array w l s) h = ap (λ l. begins_item (first (l ++ rest))) h.form.spells

item_long : (used : List Token) (i : Item) → ItemForm used i → 1 ≤ length used
item_long used (items_of.Define w n) h = omega (arith, ap length h.form.spells)
item_long used (items_of.Array w l s) h = omega (arith, ap length h.form.spells)

abbrev pub no_item : Stops
no_item t = not (begins_item t)

pub exact_items : {n : ℕ} → Exact n items (Many ItemForm) no_item
unfolding items
exact_items =
    exact_all ItemForm {between = anywhere} begins_item no_item exact_item item_long item_begins (λ t h. refl) (λ t h. not-true (begins_item t) h) (λ t h. refl)

-- ---- the struct

abbrev field_tokens : List ℕ → List Token
field_tokens w = declaration w []

exact_field : {n : ℕ} {stops : Stops} → Exact n field (By field_tokens is_name) stops
unfolding field
exact_field =
    exact_by field_tokens is_name
    (rest_token (token.Keyword keywords.Int) (exact_keyword keywords.Int)
    (rest_part (λ w. w) name_tokens is_name _ _ _ anywhere exact_name
    (λ w. rest_token (token.Sign signs.Semicolon) (exact_sign signs.Semicolon) (rest_known (λ y. Unit {0} × (y ≡ w)) w (tt, refl) (λ y h. h.1)))
    (λ y rest stop. refl)))
    (λ y. refl) (λ y. and-true (is_name y))

abbrev no_field : Stops
no_field t = not (sees_keyword keywords.Int t)

exact_fields : {n : ℕ} → Exact n fields (By (flat_map field_tokens) (list_all is_name)) no_field
unfolding fields
exact_fields =
    exact_as (By (flat_map field_tokens) (list_all is_name))
    (exact_all (By field_tokens is_name) {between = anywhere} (sees_keyword keywords.Int) no_field exact_field
    (λ used x h. omega (arith, ap length h.text))
    (λ used rest x h. ap (λ l. sees_keyword keywords.Int (first (l ++ rest))) h.text)
    (λ t h. refl) (λ t h. not-true (sees_keyword keywords.Int t) h) (λ t h. refl))
    (list_to field_tokens is_name) (list_from field_tokens is_name)

same_packet : (w : List ℕ) (names : List (List ℕ)) (y : PacketDecl) → y.name ≡ w → y.fields ≡ names → y ≡ record { name = w; fields = names }
same_packet w names y is_name is_fields = rw (sym is_name, sym is_fields)

pub exact_packet : {n : ℕ} {stops : Stops} → Exact n packet (By packet_tokens is_packet) stops
unfolding packet
exact_packet =
    exact_by packet_tokens is_packet
    (rest_token (token.Keyword keywords.Struct) (exact_keyword keywords.Struct)
    (rest_part (λ y. y.name) name_tokens is_name _ _ _ anywhere exact_name
    (λ w. rest_token (token.Sign signs.OpenCurly) (exact_sign signs.OpenCurly)
    (rest_part (λ y. y.fields) (flat_map field_tokens) (list_all is_name) _ _ _ no_field exact_fields
    (λ names. rest_token (token.Sign signs.CloseCurly) (exact_sign signs.CloseCurly)
    (rest_token (token.Sign signs.Semicolon) (exact_sign signs.Semicolon)
    (rest_known (λ y. (Unit {0} × (y.name ≡ w)) × (y.fields ≡ names)) (record { name = w; fields = names }) ((tt, refl), refl) (λ y h. same_packet w names y h.0.1 h.1))))
    (λ y rest stop. refl)))
    (λ y rest stop. refl)))
    (λ y. ap (λ l. token.Keyword keywords.Struct ∷ token.Name y.name ∷ token.Sign signs.OpenCurly ∷ l) (sym (append_assoc (flat_map field_tokens y.fields) (token.Sign signs.CloseCurly ∷ []) (token.Sign signs.Semicolon ∷ []))))
    (λ y. ap (λ b. is_name y.name && b) (and-true (list_all is_name y.fields)))
