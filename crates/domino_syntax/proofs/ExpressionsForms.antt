-- The parser of the forms without operators between expressions is exact, where those of the expressions in them
-- are.
use Rattle.std.proofs.Common.{◌≡◌, ℕ, suc, ◌≤◌, Bool, true, false, nat_le, List, [], ◌∷◌, ◌++◌, length, map, Some, None, inl, inr, refl, ap, sym, subst, ◌∙◌, append_assoc, arith, Option, IfSome, rules}
use Rattle.std.specs.List.{list_all}
use Rattle.std.proofs.lemmas.Bool.{and_from, and_parts}
use Rattle.std.proofs.lemmas.List.Concat.{flat_map-cons}
use Rattle.mp5_words.specs.declared.op.Op1.{Op1}
use Rattle.mp5_words.specs.declared.op.Op1.TheVariants as op1
use Rattle.mp5_words.specs.declared.op.Op2.{Op2}
use Rattle.mp5_words.specs.declared.op.Op2.TheVariants as op2
use Rattle.domino_tree.specs.declared.token.Token.{Token}
use Rattle.domino_tree.specs.declared.token.Token.TheVariants as token
use Rattle.domino_tree.specs.declared.token.Sign.{Sign}
use Rattle.domino_tree.specs.declared.token.Sign.TheVariants as signs
use Rattle.domino_tree.specs.declared.expr.Expr.{Expr}
use Rattle.domino_tree.specs.declared.expr.Expr.TheVariants as expr
use Rattle.domino_tree.specs.Grammar.{is_name, in_round, in_square, with_commas, separated, field_tokens, spelled, stands}
use denote.Enum.Bare.{same_true}
use Rattle.domino_tree.specs.contracts.token.Sign.{the_type as sign_type}
use Rattle.domino_tree.specs.Operators.{sign_before, level, same_sign, operators_before, operator_before}
use Rattle.domino_syntax.proofs.SignLemmas.{found}
use Rattle.domino_tree.proofs.ExprLemmas.{induct, spelled-Number, spelled-Word, spelled-Field, spelled-Cell, spelled-One, spelled-Two, spelled-Pick, spelled-Call, spelled-Group, stands-Number, stands-Word, stands-Field, stands-Cell, stands-One, stands-Two, stands-Pick, stands-Call, stands-Group}
use Rattle.domino_syntax.specs.Parsers.{Parser, first, sees, sees_sign, sees_number, name}
use Rattle.domino_syntax.specs.ReadingExpressions.{a_unary, unary, bracketed, argument, arguments, field, cell, call, behind_name, named, primary, operand}
use Rattle.domino_syntax.proofs.Exact.{Grammar, Stops, Exact, exact_below, exact_as, exact_one, exact_pure, exact_map, exact_next, exact_behind, exact_choice, exact_chain, Nothing, Image, Then, Either, Runs, Many, Adds, further_to, further_from, By}
use Rattle.domino_syntax.proofs.OneToken.{IsName, IsNumber, name_tokens, some_name, some_number, exact_sign, exact_name, exact_number, unseen_sign, stops_at_sign, sees_itself, Behind, behind_first, Closed, exact_opened, exact_closed}
use Rattle.domino_syntax.proofs.ExpressionsStops.{stops_at}

-- the expressions that may stand at a level
abbrev pub At : ℕ → Grammar Expr
At k = By spelled (λ e. stands e k)

-- the number 0 stands anywhere
pub some_expression : (k : ℕ) → (used : List Token) × (e : Expr) × At k used e
some_expression k = (spelled (expr.Number some_number.1), expr.Number some_number.1, record { text = refl; holds = stands-Number some_number.1 k })

-- ---- what an expression begins with

-- an operator before an expression, or `(`
abbrev begins_expression : Sign → Bool
begins_expression signs.Minus = true
begins_expression signs.Bang = true
begins_expression signs.Tilde = true
begins_expression signs.OpenRound = true
begins_expression _ = false

-- a number, a name, or such a sign
abbrev pub sees_expression : Stops
sees_expression None = false
sees_expression (Some (token.Name w)) = true
sees_expression (Some (token.Keyword k)) = false
sees_expression (Some token.Define) = false
sees_expression (Some (token.Number n)) = true
sees_expression (Some (token.Sign s)) = begins_expression s

before_begins : (op : Op1) → begins_expression (sign_before op) ≡ true
before_begins op1.Neg = refl
before_begins op1.Not = refl
before_begins op1.Flip = refl

pub begins : (e : Expr) (rest : List Token) → sees_expression (first (spelled e ++ rest)) ≡ true
begins e =
    induct (λ e. (rest : List Token) → sees_expression (first (spelled e ++ rest)) ≡ true)
    (λ n rest. ap (λ l. sees_expression (first (l ++ rest))) (spelled-Number n))
    (λ w rest. ap (λ l. sees_expression (first (l ++ rest))) (spelled-Word w))
    (λ p f rest. ap (λ l. sees_expression (first (l ++ rest))) (spelled-Field p f))
    (λ a i h rest. ap (λ l. sees_expression (first (l ++ rest))) (spelled-Cell a i))
    (λ op a h rest. ap (λ l. sees_expression (first (l ++ rest))) (spelled-One op a) ∙ before_begins op)
    (λ op a b h l rest. ap (λ l. sees_expression (first (l ++ rest))) (spelled-Two op a b) ∙ (ap (λ l. sees_expression (first l)) (append_assoc (spelled a) _ rest) ∙ h _))
    (λ c a b h l m rest. ap (λ l. sees_expression (first (l ++ rest))) (spelled-Pick c a b) ∙ (ap (λ l. sees_expression (first l)) (append_assoc (spelled c) _ rest) ∙ h _))
    (λ f args h rest. ap (λ l. sees_expression (first (l ++ rest))) (spelled-Call f args))
    (λ a h rest. ap (λ l. sees_expression (first (l ++ rest))) (spelled-Group a))
    e

pub at_begins : (k : ℕ) (used rest : List Token) (e : Expr) → At k used e → sees_expression (first (used ++ rest)) ≡ true
at_begins k used rest e h = ap (λ l. sees_expression (first (l ++ rest))) h.text ∙ begins e rest

pub at_long : (k : ℕ) (used : List Token) (e : Expr) → At k used e → 1 ≤ length used
at_long k used e h = has_token used (at_begins k used [] e h)
  where
    has_token : (used : List Token) → sees_expression (first (used ++ [])) ≡ true → 1 ≤ length used
    has_token [] h = cc
    has_token (t ∷ used) h = omega arith

-- ---- in brackets

abbrev pub Bracketed : Sign → Sign → Grammar Expr
Bracketed opening closing = Behind (token.Sign opening) (Closed (token.Sign closing) (λ e. e) (At 0))

pub exact_bracketed : {n : ℕ} {inner : Parser Expr} {stops : Stops} (opening closing : Sign) → Exact n inner (At 0) (stops_at 0) → stops_at 0 (Some (token.Sign closing)) ≡ true → Exact (suc n) (bracketed inner opening closing) (Bracketed opening closing) stops
unfolding bracketed
exact_bracketed opening closing exact ends =
    let s = some_expression 0 in
    exact_opened (token.Sign opening) (exact_sign opening) (exact_closed (token.Sign closing) (λ e. e) exact ends (exact_sign closing))
    (s.0 ++ (token.Sign closing ∷ []), s.1, record { inner = s.0; value = s.1; text = refl; form = s.2; is = refl })

bracketed_to : (opening closing : Sign) (used : List Token) (e : Expr) → Bracketed opening closing used e → (used ≡ token.Sign opening ∷ (spelled e ++ (token.Sign closing ∷ []))) × (stands e 0 ≡ true)
bracketed_to opening closing used e h =
    let same = sym h.form.is in
    (h.text ∙ ap (λ l. token.Sign opening ∷ l) (h.form.text ∙ ap (λ l. l ++ (token.Sign closing ∷ [])) (h.form.form.text ∙ ap spelled same)), ap (λ e. stands e 0) (sym same) ∙ h.form.form.holds)

bracketed_from : (opening closing : Sign) (e : Expr) → stands e 0 ≡ true → Bracketed opening closing (token.Sign opening ∷ (spelled e ++ (token.Sign closing ∷ []))) e
bracketed_from opening closing e h =
    record { inner = spelled e ++ (token.Sign closing ∷ []); text = refl; form = record { inner = spelled e; value = e; text = refl; form = record { text = refl; holds = h }; is = refl } }

-- ---- arguments

abbrev are_arguments : List Expr → Bool
are_arguments args = list_all (λ a. a 0) (map stands args)

-- expressions with `,` between them
abbrev pub Arguments : Grammar (List Expr)
Arguments = By (λ args. separated (map spelled args)) are_arguments

abbrev Argument : Grammar Expr
Argument = Behind (token.Sign signs.Comma) (At 0)

more_to : (used : List Token) (args : List Expr) → Many Argument used args → By (λ args. with_commas (map spelled args)) are_arguments used args
more_to used [] h = record { text = h; holds = refl }
more_to used (a ∷ args) h =
    let later = more_to h.1 args h.4 in
    record {
      text = h.2 ∙ (ap (λ l. l ++ h.1) (h.3.text ∙ ap (λ l. token.Sign signs.Comma ∷ l) h.3.form.text) ∙ (ap (λ l. (token.Sign signs.Comma ∷ spelled a) ++ l) later.text ∙ sym (flat_map-cons (λ tokens. token.Sign signs.Comma ∷ tokens) (spelled a) (map spelled args))));
      holds = and_from (stands a 0) (are_arguments args) h.3.form.holds later.holds;
    }

more_from : (used : List Token) (args : List Expr) → By (λ args. with_commas (map spelled args)) are_arguments used args → Many Argument used args
more_from used [] h = h.text
more_from used (a ∷ args) h =
    let holds = and_parts (stands a 0) (are_arguments args) h.holds in
    (token.Sign signs.Comma ∷ spelled a, with_commas (map spelled args), h.text ∙ flat_map-cons (λ tokens. token.Sign signs.Comma ∷ tokens) (spelled a) (map spelled args), record { inner = spelled a; text = refl; form = record { text = refl; holds = holds.0 } }, more_from (with_commas (map spelled args)) args (record { text = refl; holds = holds.1 }))

-- no argument, or one and those behind it
abbrev Parts : Grammar (List Expr)
Parts = Either (Nothing []) (Then (Adds (At 0) []) (Runs (Adds Argument)))

parts_to : (used : List Token) (args : List Expr) → Parts used args → Arguments used args
parts_to used args (inl h) = record { text = h.text ∙ ap (λ args. separated (map spelled args)) (sym h.is); holds = ap are_arguments h.is }
parts_to used args (inr h) =
    let further = further_to Argument h.value h.back args h.second in
    let more = more_to h.back further.more further.many in
    let is : args ≡ h.first.value ∷ further.more = further.is ∙ ap (λ l. l ++ further.more) h.first.is in
    record {
      text = h.parts ∙ (ap (λ l. l ++ h.back) h.first.form.text ∙ (ap (λ l. spelled h.first.value ++ l) more.text ∙ ap (λ args. separated (map spelled args)) (sym is)));
      holds = ap are_arguments is ∙ and_from (stands h.first.value 0) (are_arguments further.more) h.first.form.holds more.holds;
    }

parts_from : (used : List Token) (args : List Expr) → Arguments used args → Parts used args
parts_from used [] h = inl (record { text = h.text; is = refl })
parts_from used (a ∷ args) h =
    let holds = and_parts (stands a 0) (are_arguments args) h.holds in
    inr (record {
      value = a ∷ [];
      front = spelled a;
      back = with_commas (map spelled args);
      parts = h.text;
      first = record { value = a; form = record { text = refl; holds = holds.0 }; is = refl };
      second = further_from Argument args (a ∷ []) (with_commas (map spelled args)) (more_from (with_commas (map spelled args)) args (record { text = refl; holds = holds.1 }));
    })

-- before `)`
abbrev closes : Stops
closes = sees_sign signs.CloseRound

pub exact_arguments : {n : ℕ} {inner : Parser Expr} → Exact n inner (At 0) (stops_at 0) → Exact n (arguments inner) Arguments closes
unfolding arguments argument
exact_arguments {n = n} exact =
    exact_as Arguments
    (exact_choice closes (exact_pure [])
    (exact_chain (λ _. sees_sign signs.Comma) _ (Adds Argument) (stops_at 0) closes
    (λ found used args h. omega (arith, ap length h.form.text))
    (λ found used rest args h. ap (sees_sign signs.Comma) (behind_first (token.Sign signs.Comma) (At 0) used rest h.value h.form) ∙ sees_itself signs.Comma)
    (λ found. stops_at_sign signs.Comma (stops_at 0) refl)
    (λ found t stop. unseen_sign signs.Comma closes refl t stop)
    (stops_at_sign signs.CloseRound (stops_at 0) refl)
    (exact_map (λ a. [] ++ a ∷ []) exact)
    (λ found. exact_map (λ a. found ++ a ∷ []) (exact_below n (omega arith) (exact_opened (token.Sign signs.Comma) (exact_sign signs.Comma) exact (some_expression 0)))))
    (λ used rest args h stop. ap (λ l. closes (first (l ++ rest))) h.text ∙ stop)
    (λ used rest args h stop. unseen_sign signs.CloseRound sees_expression refl (first (used ++ rest)) (ap (λ l. sees_expression (first (l ++ rest))) h.parts ∙ (ap (λ l. sees_expression (first l)) (append_assoc h.front h.back rest) ∙ at_begins 0 h.front (h.back ++ rest) h.first.value h.first.form))))
    parts_to parts_from

-- ---- what begins with a name

abbrev Calls : List ℕ → Grammar Expr
Calls w = Behind (token.Sign signs.OpenRound) (Closed (token.Sign signs.CloseRound) (expr.Call w) Arguments)

abbrev Behinds : List ℕ → Grammar Expr
Behinds w =
    Either (Behind (token.Sign signs.Dot) (Image (expr.Field w) IsName))
    (Either (Image (expr.Cell w) (Bracketed signs.OpenSquare signs.CloseSquare))
    (Either (Calls w) (Nothing (expr.Word w))))

image_behind_first : {A B : Type 0} (f : A → B) (t : Token) (G : Grammar A) (used rest : List Token) (x : B) → Image f (Behind t G) used x → first (used ++ rest) ≡ Some t
image_behind_first f t G used rest x h = behind_first t G used rest h.value h.form

nothing_first : {A : Type 0} (x : A) (stops : Stops) (used rest : List Token) (y : A) → Nothing x used y → stops (first rest) ≡ true → stops (first (used ++ rest)) ≡ true
nothing_first x stops used rest y h stop = ap (λ l. stops (first (l ++ rest))) h.text ∙ stop

exact_behind_name : {n : ℕ} {inner : Parser Expr} (w : List ℕ) → Exact n inner (At 0) (stops_at 0) → Exact (suc n) (behind_name inner w) (Behinds w) (stops_at 11)
unfolding behind_name field cell call
exact_behind_name w exact =
    let s = some_name in
    exact_choice (sees_sign signs.Dot)
    (exact_opened (token.Sign signs.Dot) (exact_sign signs.Dot) (exact_map (expr.Field w) exact_name) (s.0, expr.Field w s.1, record { value = s.1; form = s.2; is = refl }))
    (exact_choice (sees_sign signs.OpenSquare)
    (exact_map (expr.Cell w) (exact_bracketed signs.OpenSquare signs.CloseSquare exact refl))
    (exact_choice (sees_sign signs.OpenRound)
    (exact_opened (token.Sign signs.OpenRound) (exact_sign signs.OpenRound) (exact_closed (token.Sign signs.CloseRound) (expr.Call w) (exact_arguments exact) (sees_itself signs.CloseRound) (exact_sign signs.CloseRound))
    (token.Sign signs.CloseRound ∷ [], expr.Call w [], record { inner = []; value = []; text = refl; form = record { text = refl; holds = refl }; is = refl }))
    (exact_pure (expr.Word w))
    (λ used rest e h stop. ap (sees_sign signs.OpenRound) (behind_first (token.Sign signs.OpenRound) _ used rest e h) ∙ sees_itself signs.OpenRound)
    (λ used rest e h stop. unseen_sign signs.OpenRound (stops_at 11) refl (first (used ++ rest)) (nothing_first (expr.Word w) (stops_at 11) used rest e h stop)))
    (λ used rest e h stop. ap (sees_sign signs.OpenSquare) (image_behind_first (expr.Cell w) (token.Sign signs.OpenSquare) _ used rest e h) ∙ sees_itself signs.OpenSquare)
    square_others)
    (λ used rest e h stop. ap (sees_sign signs.Dot) (behind_first (token.Sign signs.Dot) _ used rest e h) ∙ sees_itself signs.Dot)
    dot_others
  where
    square_others : (used rest : List Token) (e : Expr) → Either (Calls w) (Nothing (expr.Word w)) used e → stops_at 11 (first rest) ≡ true → sees_sign signs.OpenSquare (first (used ++ rest)) ≡ false
    square_others used rest e (inl h) stop = ap (sees_sign signs.OpenSquare) (behind_first (token.Sign signs.OpenRound) _ used rest e h)
    square_others used rest e (inr h) stop = unseen_sign signs.OpenSquare (stops_at 11) refl (first (used ++ rest)) (nothing_first (expr.Word w) (stops_at 11) used rest e h stop)

    dot_others : (used rest : List Token) (e : Expr) → Either (Image (expr.Cell w) (Bracketed signs.OpenSquare signs.CloseSquare)) (Either (Calls w) (Nothing (expr.Word w))) used e → stops_at 11 (first rest) ≡ true → sees_sign signs.Dot (first (used ++ rest)) ≡ false
    dot_others used rest e (inl h) stop = ap (sees_sign signs.Dot) (image_behind_first (expr.Cell w) (token.Sign signs.OpenSquare) _ used rest e h)
    dot_others used rest e (inr (inl h)) stop = ap (sees_sign signs.Dot) (behind_first (token.Sign signs.OpenRound) _ used rest e h)
    dot_others used rest e (inr (inr h)) stop = unseen_sign signs.Dot (stops_at 11) refl (first (used ++ rest)) (nothing_first (expr.Word w) (stops_at 11) used rest e h stop)

abbrev Named : Grammar Expr
Named = Then IsName Behinds

exact_named : {n : ℕ} {inner : Parser Expr} → Exact n inner (At 0) (stops_at 0) → Exact (suc n) (named inner) Named (stops_at 11)
unfolding named
exact_named exact = exact_next exact_name (λ w. exact_behind_name w exact) (λ w. ([], expr.Word w, inr (inr (inr (record { text = refl; is = refl })))))

-- ---- forms without operators

abbrev Primary : Grammar Expr
Primary = Either (Image expr.Number IsNumber) (Either (Image expr.Group (Bracketed signs.OpenRound signs.CloseRound)) Named)

named_first : (used rest : List Token) (e : Expr) → Named used e → (w : List ℕ) × (first (used ++ rest) ≡ Some (token.Name w))
named_first used rest e h = (h.value, ap (λ l. first (l ++ rest)) h.parts ∙ ap (λ l. first ((l ++ h.back) ++ rest)) h.first.text)

exact_primary : {n : ℕ} {inner : Parser Expr} → Exact n inner (At 0) (stops_at 0) → Exact (suc n) (primary inner) Primary (stops_at 11)
unfolding primary
exact_primary exact =
    exact_choice sees_number (exact_map expr.Number exact_number)
    (exact_choice (sees_sign signs.OpenRound) (exact_map expr.Group (exact_bracketed signs.OpenRound signs.CloseRound exact refl)) (exact_named exact)
    (λ used rest e h stop. ap (sees_sign signs.OpenRound) (image_behind_first expr.Group (token.Sign signs.OpenRound) _ used rest e h) ∙ sees_itself signs.OpenRound)
    (λ used rest e h stop. ap (sees_sign signs.OpenRound) (named_first used rest e h).1))
    (λ used rest e h stop. ap (λ l. sees_number (first (l ++ rest))) h.form)
    number_others
  where
    number_others : (used rest : List Token) (e : Expr) → Either (Image expr.Group (Bracketed signs.OpenRound signs.CloseRound)) Named used e → stops_at 11 (first rest) ≡ true → sees_number (first (used ++ rest)) ≡ false
    number_others used rest e (inl h) stop = ap sees_number (image_behind_first expr.Group (token.Sign signs.OpenRound) _ used rest e h)
    number_others used rest e (inr h) stop = ap sees_number (named_first used rest e h).1

-- ---- operators before expressions

abbrev IsUnary : Grammar Op1
IsUnary used op = used ≡ token.Sign (sign_before op) ∷ []

unary_is : (s : Sign) (op : Op1) → operator_before s ≡ Some op → s ≡ sign_before op
unary_is s op h = sym (same_true sign_type (search rules) (sign_before op) s (of_some (operator_before s) h (found (λ op. same_sign (sign_before op) s) operators_before)))
  where
    of_some : (o : Option Op1) → o ≡ Some op → IfSome o (λ op. same_sign (sign_before op) s ≡ true) → same_sign (sign_before op) s ≡ true
    of_some o is h = subst (λ o. IfSome o (λ op. same_sign (sign_before op) s ≡ true)) is h

unary_to : (t : Token) (op : Op1) → a_unary t ≡ Some op → IsUnary (t ∷ []) op
unary_to (token.Name w) op h = cc
unary_to (token.Keyword k) op h = cc
unary_to token.Define op h = cc
unary_to (token.Number n) op h = cc
unary_to (token.Sign s) op h = ap (λ s. token.Sign s ∷ []) (unary_is s op h)

unary_taken : (op : Op1) → a_unary (token.Sign (sign_before op)) ≡ Some op
unary_taken op1.Neg = refl
unary_taken op1.Not = refl
unary_taken op1.Flip = refl

exact_unary : {n : ℕ} {stops : Stops} → Exact n unary IsUnary stops
unfolding unary
exact_unary = exact_one (record {
  to = λ t op named h. unary_to t op h;
  from = λ used op h. (token.Sign (sign_before op), h, unary_taken op);
  some = (token.Sign signs.Minus ∷ [], op1.Neg, refl);
})

abbrev Unary : Grammar Expr
Unary = Then IsUnary (λ op. Image (expr.One op) (At 11))

-- an operator and its operand, or a form without operators
abbrev Operand : Grammar Expr
Operand = Either Unary Primary

primary_others : (used rest : List Token) (e : Expr) → Primary used e → stops_at 11 (first rest) ≡ true → sees a_unary (first (used ++ rest)) ≡ false
primary_others used rest e (inl h) stop = ap (λ l. sees a_unary (first (l ++ rest))) h.form
primary_others used rest e (inr (inl h)) stop = ap (sees a_unary) (image_behind_first expr.Group (token.Sign signs.OpenRound) _ used rest e h)
primary_others used rest e (inr (inr h)) stop = ap (sees a_unary) (named_first used rest e h).1

unary_seen : (op : Op1) → sees a_unary (Some (token.Sign (sign_before op))) ≡ true
unary_seen op1.Neg = refl
unary_seen op1.Not = refl
unary_seen op1.Flip = refl

unary_starts : (used rest : List Token) (e : Expr) → Unary used e → sees a_unary (first (used ++ rest)) ≡ true
unary_starts used rest e h =
    ap (λ l. sees a_unary (first (l ++ rest))) h.parts ∙ (ap (λ l. sees a_unary (first ((l ++ h.back) ++ rest))) h.first ∙ unary_seen h.value)

operand_forms : {n : ℕ} {tight inner : Parser Expr} → Exact n tight (At 11) (stops_at 11) → Exact n inner (At 0) (stops_at 0) → Exact (suc n) (operand tight inner) Operand (stops_at 11)
unfolding operand
operand_forms below exact =
    let s = some_expression 11 in
    exact_choice (sees a_unary)
    (exact_behind exact_unary (λ op. exact_map (expr.One op) below) (λ used op h. omega (arith, ap length h)) (λ op. (s.0, expr.One op s.1, record { value = s.1; form = s.2; is = refl })))
    (exact_primary exact)
    (λ used rest e h stop. unary_starts used rest e h)
    primary_others

-- ---- these are the expressions of the lowest level

-- an expression with these tokens
spells : (k : ℕ) (e f : Expr) (used tokens : List Token) → f ≡ e → used ≡ tokens → spelled e ≡ tokens → stands e k ≡ true → At k used f
spells k e f used tokens is text spelt holds = record { text = text ∙ (sym spelt ∙ ap spelled (sym is)); holds = ap (λ e. stands e k) is ∙ holds }

unary_at : (used : List Token) (e : Expr) → Unary used e → At 11 used e
unary_at used e h =
    let a = h.second.value in
    spells 11 (expr.One h.value a) e used (token.Sign (sign_before h.value) ∷ spelled a) h.second.is
    (h.parts ∙ (ap (λ l. l ++ h.back) h.first ∙ ap (λ l. token.Sign (sign_before h.value) ∷ l) h.second.form.text))
    (spelled-One h.value a) (stands-One h.value a 11 ∙ h.second.form.holds)

behinds_at : (w : List ℕ) (front back : List Token) (e : Expr) → IsName front w → Behinds w back e → At 11 (front ++ back) e
behinds_at w front back e name (inl h) =
    let f = h.form.value in
    spells 11 (expr.Field w f) e (front ++ back) (field_tokens w f) h.form.is
    (ap (λ l. l ++ back) name.text ∙ ap (λ l. token.Name w ∷ l) (h.text ∙ ap (λ l. token.Sign signs.Dot ∷ l) h.form.form.text))
    (spelled-Field w f) (stands-Field w f 11 ∙ and_from (is_name w) (is_name f) name.holds h.form.form.holds)
behinds_at w front back e name (inr (inl h)) =
    let i = h.value in
    let inside = bracketed_to signs.OpenSquare signs.CloseSquare back i h.form in
    spells 11 (expr.Cell w i) e (front ++ back) (token.Name w ∷ in_square (spelled i)) h.is
    (ap (λ l. l ++ back) name.text ∙ ap (λ l. token.Name w ∷ l) inside.0)
    (spelled-Cell w i) (stands-Cell w i 11 ∙ and_from (is_name w) (stands i 0) name.holds inside.1)
behinds_at w front back e name (inr (inr (inl h))) =
    let args = h.form.value in
    spells 11 (expr.Call w args) e (front ++ back) (token.Name w ∷ in_round (separated (map spelled args))) h.form.is
    (ap (λ l. l ++ back) name.text ∙ ap (λ l. token.Name w ∷ l) (h.text ∙ ap (λ l. token.Sign signs.OpenRound ∷ l) (h.form.text ∙ ap (λ l. l ++ (token.Sign signs.CloseRound ∷ [])) h.form.form.text)))
    (spelled-Call w args) (stands-Call w args 11 ∙ and_from (is_name w) (are_arguments args) name.holds h.form.form.holds)
behinds_at w front back e name (inr (inr (inr h))) =
    spells 11 (expr.Word w) e (front ++ back) (token.Name w ∷ []) h.is
    (ap (λ l. l ++ back) name.text ∙ ap (λ l. token.Name w ∷ l) h.text)
    (spelled-Word w) (stands-Word w 11 ∙ name.holds)

operand_to : (used : List Token) (e : Expr) → Operand used e → At 11 used e
operand_to used e (inl h) = unary_at used e h
operand_to used e (inr (inl h)) =
    spells 11 (expr.Number h.value) e used (token.Number h.value ∷ []) h.is h.form (spelled-Number h.value) (stands-Number h.value 11)
operand_to used e (inr (inr (inl h))) =
    let a = h.value in
    let inside = bracketed_to signs.OpenRound signs.CloseRound used a h.form in
    spells 11 (expr.Group a) e used (in_round (spelled a)) h.is inside.0 (spelled-Group a) (stands-Group a 11 ∙ inside.1)
operand_to used e (inr (inr (inr h))) = subst (λ l. At 11 l e) (sym h.parts) (behinds_at h.value h.front h.back e h.first h.second)

no_two : (op : Op2) (a b : Expr) → stands (expr.Two op a b) 11 ≡ true → ⊥
no_two op a b h = too_tight op (and_parts (nat_le 11 (level op)) _ (sym (stands-Two op a b 11) ∙ h)).0
  where
    too_tight : (op : Op2) → nat_le 11 (level op) ≡ true → ⊥
    too_tight op2.Mul h = cc
    too_tight op h = cc

abbrev IsForm : Expr → Type 0
IsForm e = stands e 11 ≡ true → Operand (spelled e) e

-- what begins with a name, from its tokens
named_form : (w : List ℕ) (back tokens : List Token) (e : Expr) → tokens ≡ token.Name w ∷ back → is_name w ≡ true → Behinds w back e → Operand tokens e
named_form w back tokens e text holds h =
    inr (inr (inr (record { value = w; front = name_tokens w; back = back; parts = text; first = record { text = refl; holds = holds }; second = h })))

is_form : (e : Expr) → IsForm e
is_form e =
    induct IsForm
    (λ n h. inr (inl (record { value = n; form = spelled-Number n; is = refl })))
    (λ w h. named_form w [] (spelled (expr.Word w)) (expr.Word w) (spelled-Word w) (sym (stands-Word w 11) ∙ h) (inr (inr (inr (record { text = refl; is = refl })))))
    (λ p f h.
    let holds = and_parts (is_name p) (is_name f) (sym (stands-Field p f 11) ∙ h) in
    named_form p (token.Sign signs.Dot ∷ name_tokens f) (spelled (expr.Field p f)) (expr.Field p f) (spelled-Field p f) holds.0
    (inl (record { inner = name_tokens f; text = refl; form = record { value = f; form = record { text = refl; holds = holds.1 }; is = refl } })))
    (λ a i form h.
    let holds = and_parts (is_name a) (stands i 0) (sym (stands-Cell a i 11) ∙ h) in
    named_form a (in_square (spelled i)) (spelled (expr.Cell a i)) (expr.Cell a i) (spelled-Cell a i) holds.0
    (inr (inl (record { value = i; form = bracketed_from signs.OpenSquare signs.CloseSquare i holds.1; is = refl }))))
    (λ op a form h.
    inl (record { value = op; front = token.Sign (sign_before op) ∷ []; back = spelled a; parts = spelled-One op a; first = refl; second = record { value = a; form = record { text = refl; holds = sym (stands-One op a 11) ∙ h }; is = refl } }))
    (λ op a b form other h. absurd (no_two op a b h))
    (λ c a b form other last h. let e = stands-Pick c a b 11 in cc)
    (λ f args forms h.
    let holds = and_parts (is_name f) (are_arguments args) (sym (stands-Call f args 11) ∙ h) in
    named_form f (in_round (separated (map spelled args))) (spelled (expr.Call f args)) (expr.Call f args) (spelled-Call f args) holds.0
    (inr (inr (inl (record { inner = separated (map spelled args) ++ (token.Sign signs.CloseRound ∷ []); text = refl; form = record { inner = separated (map spelled args); value = args; text = refl; form = record { text = refl; holds = holds.1 }; is = refl } })))))
    (λ a form h.
    inr (inr (inl (record { value = a; form = subst (λ l. Bracketed signs.OpenRound signs.CloseRound l a) (sym (spelled-Group a)) (bracketed_from signs.OpenRound signs.CloseRound a (sym (stands-Group a 11) ∙ h)); is = refl }))))
    e

operand_from : (used : List Token) (e : Expr) → At 11 used e → Operand used e
operand_from used e h = subst (λ l. Operand l e) (sym h.text) (is_form e h.holds)

-- an operand is an expression of the lowest level
pub exact_operand : {n : ℕ} {tight inner : Parser Expr} → Exact n tight (At 11) (stops_at 11) → Exact n inner (At 0) (stops_at 0) → Exact (suc n) (operand tight inner) (At 11) (stops_at 11)
exact_operand below exact = exact_as (At 11) (operand_forms below exact) operand_to operand_from
