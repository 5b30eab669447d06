-- The parsers of one token are exact, and so is a form behind a token, or with one behind it.
use Rattle.std.proofs.Common.{◌≡◌, ℕ, suc, ℤ, pos, Bool, true, false, if◌then◌else◌, List, [], ◌∷◌, ◌++◌, length, Option, Some, None, refl, ap, sym, ◌∙◌, arith, rules}
use Rattle.std.specs.Option.{is_some}
use denote.Enum.Bare.{same_true, true_same}
use Rattle.domino_tree.specs.contracts.token.Sign.{the_type as sign_type}
use Rattle.domino_tree.specs.contracts.token.Keyword.{the_type as keyword_type}
use Rattle.domino_tree.specs.declared.token.Token.{Token}
use Rattle.domino_tree.specs.declared.token.Token.TheVariants as token
use Rattle.domino_tree.specs.declared.token.Keyword.{Keyword}
use Rattle.domino_tree.specs.declared.token.Sign.{Sign}
use Rattle.domino_tree.specs.Grammar.{is_name}
use Rattle.domino_tree.specs.Operators.{same_sign}
use Rattle.domino_syntax.specs.Tokens.{is_token}
use Rattle.domino_syntax.specs.Parsers.{Parser, first, ◌>>=◌, ◌>>◌, pure, same_keyword, that_sign, that_keyword, a_define, a_name, a_number, sign, keyword, define, name, number, sees_sign}
use Rattle.domino_syntax.proofs.Exact.{Grammar, Stops, anywhere, Exact, exact_as, exact_one, exact_pure, exact_then, exact_behind, Nothing, Then, By}

-- this token
abbrev pub IsToken : Token → Grammar (Unit {0})
IsToken t used x = used ≡ t ∷ []

-- ---- a sign

sign_is : (s : Sign) (t : Token) (x : Unit {0}) → that_sign s t ≡ Some x → t ≡ token.Sign s
sign_is s (token.Name w) x h = cc
sign_is s (token.Keyword k) x h = cc
sign_is s token.Define x h = cc
sign_is s (token.Number n) x h = cc
sign_is s (token.Sign t) x h = ap token.Sign (same_true sign_type (search rules) t s (when (same_sign t s) h))
  where
    when : (b : Bool) → (if b then Some tt else None) ≡ Some x → b ≡ true
    when true h = refl
    when false h = cc

sign_taken : (s : Sign) → that_sign s (token.Sign s) ≡ Some tt
sign_taken s = rw (true_same sign_type s s refl)

pub exact_sign : {n : ℕ} {stops : Stops} (s : Sign) → Exact n (sign s) (IsToken (token.Sign s)) stops
unfolding sign
exact_sign s = exact_one (record {
  to = λ t x named h. ap (λ t. t ∷ []) (sign_is s t x h);
  from = λ used x h. (token.Sign s, h, sign_taken s);
  some = (token.Sign s ∷ [], tt, refl);
})

-- the next token is a sign where it is seen
pub seen_sign : (s : Sign) (t : Option Token) → sees_sign s t ≡ true → t ≡ Some (token.Sign s)
seen_sign s None h = cc
seen_sign s (Some t) h = ap Some (found (that_sign s t) refl h)
  where
    found : (o : Option (Unit {0})) → that_sign s t ≡ o → is_some o ≡ true → t ≡ token.Sign s
    found None is h = cc
    found (Some x) is h = sign_is s t x is

pub sees_itself : (s : Sign) → sees_sign s (Some (token.Sign s)) ≡ true
sees_itself s = ap is_some (sign_taken s)

-- where a form may not end before a sign, no such sign is seen
pub unseen_sign : (s : Sign) (stops : Stops) → stops (Some (token.Sign s)) ≡ false → (t : Option Token) → stops t ≡ true → sees_sign s t ≡ false
unseen_sign s stops never t stop = by_test (sees_sign s t) refl
  where
    by_test : (b : Bool) → sees_sign s t ≡ b → sees_sign s t ≡ false
    by_test false h = h
    by_test true h =
        let e : true ≡ false = sym stop ∙ (ap stops (seen_sign s t h) ∙ never) in
        cc

-- where a form may end before a sign, it may end where such a sign is seen
pub stops_at_sign : (s : Sign) (stops : Stops) → stops (Some (token.Sign s)) ≡ true → (t : Option Token) → sees_sign s t ≡ true → stops t ≡ true
stops_at_sign s stops ends t h = ap stops (seen_sign s t h) ∙ ends

-- ---- a reserved name

keyword_is : (k : Keyword) (t : Token) (x : Unit {0}) → that_keyword k t ≡ Some x → t ≡ token.Keyword k
keyword_is k (token.Name w) x h = cc
keyword_is k (token.Keyword l) x h = ap token.Keyword (same_true keyword_type (search rules) l k (when (same_keyword l k) h))
  where
    when : (b : Bool) → (if b then Some tt else None) ≡ Some x → b ≡ true
    when true h = refl
    when false h = cc
keyword_is k token.Define x h = cc
keyword_is k (token.Number n) x h = cc
keyword_is k (token.Sign s) x h = cc

keyword_taken : (k : Keyword) → that_keyword k (token.Keyword k) ≡ Some tt
keyword_taken k = rw (true_same keyword_type k k refl)

pub exact_keyword : {n : ℕ} {stops : Stops} (k : Keyword) → Exact n (keyword k) (IsToken (token.Keyword k)) stops
unfolding keyword
exact_keyword k = exact_one (record {
  to = λ t x named h. ap (λ t. t ∷ []) (keyword_is k t x h);
  from = λ used x h. (token.Keyword k, h, keyword_taken k);
  some = (token.Keyword k ∷ [], tt, refl);
})

-- ---- `#define`

define_is : (t : Token) (x : Unit {0}) → a_define t ≡ Some x → t ≡ token.Define
define_is (token.Name w) x h = cc
define_is (token.Keyword k) x h = cc
define_is token.Define x h = refl
define_is (token.Number n) x h = cc
define_is (token.Sign s) x h = cc

pub exact_define : {n : ℕ} {stops : Stops} → Exact n define (IsToken token.Define) stops
unfolding define
exact_define = exact_one (record {
  to = λ t x named h. ap (λ t. t ∷ []) (define_is t x h);
  from = λ used x h. (token.Define, h, refl);
  some = (token.Define ∷ [], tt, refl);
})

-- ---- a name

abbrev pub name_tokens : List ℕ → List Token
name_tokens w = token.Name w ∷ []

abbrev pub IsName : Grammar (List ℕ)
IsName = By name_tokens is_name

name_is : (t : Token) (w : List ℕ) → is_token t ≡ true → a_name t ≡ Some w → IsName (t ∷ []) w
name_is (token.Name v) w named h = record { text = ap (λ v. token.Name v ∷ []) (same v w h); holds = ap is_name (sym (same v w h)) ∙ named }
  where
    same : (v w : List ℕ) → Some v ≡ Some w → v ≡ w
    same v w h = cc
name_is (token.Keyword k) w named h = cc
name_is token.Define w named h = cc
name_is (token.Number n) w named h = cc
name_is (token.Sign s) w named h = cc

-- the name `a`
pub some_name : (used : List Token) × (w : List ℕ) × IsName used w
unfolding is_name
some_name = (name_tokens (97 ∷ []), 97 ∷ [], record { text = refl; holds = refl })

pub exact_name : {n : ℕ} {stops : Stops} → Exact n name IsName stops
unfolding name
exact_name = exact_one (record {
  to = name_is;
  from = λ used w h. (token.Name w, h.text, refl);
  some = some_name;
})

-- ---- a number

abbrev pub IsNumber : Grammar ℤ
IsNumber used n = used ≡ token.Number n ∷ []

number_is : (t : Token) (n : ℤ) → a_number t ≡ Some n → t ≡ token.Number n
number_is (token.Name w) n h = cc
number_is (token.Keyword k) n h = cc
number_is token.Define n h = cc
number_is (token.Number m) n h = cc
number_is (token.Sign s) n h = cc

pub some_number : (used : List Token) × (n : ℤ) × IsNumber used n
some_number = (token.Number (pos 0) ∷ [], pos 0, refl)

pub exact_number : {n : ℕ} {stops : Stops} → Exact n number IsNumber stops
unfolding number
exact_number = exact_one (record {
  to = λ t n named h. ap (λ t. t ∷ []) (number_is t n h);
  from = λ used n h. (token.Number n, h, refl);
  some = some_number;
})

-- ---- a form behind a token

pub record Behind {A : Type 0} (t : Token) (G : Grammar A) (used : List Token) (x : A) : Type 0 where
  pub inner : List Token
  pub text : used ≡ t ∷ inner
  pub form : G inner x

-- a form behind a token begins with it
pub behind_first : {A : Type 0} (t : Token) (G : Grammar A) (used rest : List Token) (x : A) → Behind t G used x → first (used ++ rest) ≡ Some t
behind_first t G used rest x h = ap (λ l. first (l ++ rest)) h.text

module _ {A : Type 0} (t : Token) (G : Grammar A) where
  behind_to : (used : List Token) (x : A) → Then (IsToken t) (λ _. G) used x → Behind t G used x
  behind_to used x h = record { inner = h.back; text = h.parts ∙ ap (λ l. l ++ h.back) h.first; form = h.second }

  behind_from : (used : List Token) (x : A) → Behind t G used x → Then (IsToken t) (λ _. G) used x
  behind_from used x h = record { value = tt; front = t ∷ []; back = h.inner; parts = h.text; first = refl; second = h.form }

-- the form need only be decided in lists that are shorter by the token
pub exact_opened : {A : Type 0} {n : ℕ} {p : Parser (Unit {0})} {q : Parser A} {G : Grammar A} {stops : Stops} (t : Token) → Exact (suc n) p (IsToken t) anywhere → Exact n q G stops → ((used : List Token) × (x : A) × G used x) → Exact (suc n) (p >> q) (Behind t G) stops
exact_opened {G = G} t opening exact some =
    exact_as (Behind t G) (exact_behind opening (λ _. exact) (λ used x h. omega (arith, ap length h)) (λ _. some)) (behind_to t G) (behind_from t G)

-- ---- a form with a token behind it, of which something is made

pub record Closed {A B : Type 0} (t : Token) (f : A → B) (G : Grammar A) (used : List Token) (y : B) : Type 0 where
  pub inner : List Token
  pub value : A
  pub text : used ≡ inner ++ (t ∷ [])
  pub form : G inner value
  pub is : y ≡ f value

module _ {A B : Type 0} (t : Token) (f : A → B) (G : Grammar A) where
  abbrev Last : A → Grammar B
  Last x = Then (IsToken t) (λ _. Nothing (f x))

  last_text : (x : A) (used : List Token) (y : B) → Last x used y → used ≡ t ∷ []
  last_text x used y h = h.parts ∙ (ap (λ l. l ++ h.back) h.first ∙ ap (λ l. t ∷ l) h.second.text)

  closed_to : (used : List Token) (y : B) → Then G Last used y → Closed t f G used y
  closed_to used y h = record { inner = h.front; value = h.value; text = h.parts ∙ ap (λ l. h.front ++ l) (last_text h.value h.back y h.second); form = h.first; is = h.second.second.is }

  last_form : (x : A) → Last x (t ∷ []) (f x)
  last_form x = record { value = tt; front = t ∷ []; back = []; parts = refl; first = refl; second = record { text = refl; is = refl } }

  closed_from : (used : List Token) (y : B) → Closed t f G used y → Then G Last used y
  closed_from used y h = record {
    value = h.value;
    front = h.inner;
    back = t ∷ [];
    parts = h.text;
    first = h.form;
    second = record { value = tt; front = t ∷ []; back = []; parts = refl; first = refl; second = record { text = refl; is = h.is } };
  }

-- a form may end before the token
pub exact_closed : {A B : Type 0} {n : ℕ} {p : Parser A} {q : Parser (Unit {0})} {G : Grammar A} {stops later : Stops} (t : Token) (f : A → B) → Exact n p G stops → stops (Some t) ≡ true → Exact n q (IsToken t) anywhere → Exact n (p >>= (λ x. q >> pure (f x))) (Closed t f G) later
exact_closed {G = G} {stops = stops} t f exact ends closing =
    exact_as (Closed t f G)
    (exact_then exact
    (λ x. exact_then closing (λ _. exact_pure (f x)) (λ _ used rest y h stop. refl) (λ _. ([], f x, record { text = refl; is = refl })))
    (λ x used rest y h stop. ap (λ l. stops (first (l ++ rest))) (last_text t f G x used y h) ∙ ends)
    (λ x. (t ∷ [], f x, last_form t f G x)))
    (closed_to t f G) (closed_from t f G)
