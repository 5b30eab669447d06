-- Exact parsers of forms that are read part by part, into a value whose parts become known one after another.
use Rattle.std.proofs.Common.{◌≡◌, ℕ, suc, Bool, true, ◌&&◌, List, [], ◌∷◌, ◌++◌, Ok, Err, refl, ap, sym, subst, ◌∙◌, arith}
use Rattle.std.proofs.lemmas.Bool.{and_from, and_parts}
use Rattle.domino_tree.specs.declared.token.Token.{Token}
use Rattle.domino_syntax.specs.Parsers.{Outcome, Parser, first, ◌>>=◌, ◌>>◌, pure}
use Rattle.domino_syntax.proofs.Exact.{Grammar, Stops, anywhere, Exactly, Exact, exact_as, exact_pure, exact_then, exact_next, Then, By, join}
use Rattle.domino_syntax.proofs.OneToken.{IsToken, Behind, exact_opened}

-- ---- a grammar with a parser has a form

module _ {A : Type 0} (G : Grammar A) (stops : Stops) where
  some_of : (o : Outcome A) → Exactly G stops [] o → (used : List Token) × (x : A) × G used x
  some_of (Ok r) f = (f.used, r.0, f.form)
  some_of (Err rest) f = (f.used ++ f.begins.0, f.begins.1, f.begins.2)

pub exact_some : {A : Type 0} {n : ℕ} {p : Parser A} {G : Grammar A} {stops : Stops} → Exact n p G stops → (used : List Token) × (x : A) × G used x
exact_some {p = p} {G = G} {stops = stops} exact = some_of G stops (p []) (exact.reads [] (omega arith) refl)

-- ---- one form after another

pub in_turn : {A B : Type 0} {n : ℕ} {p : Parser A} {q : A → Parser B} {G : Grammar A} {H : A → Grammar B} {later : Stops} (stops : Stops) → Exact n p G stops → ((x : A) → Exact n (q x) (H x) later) → ((x : A) (used rest : List Token) (y : B) → H x used y → later (first rest) ≡ true → stops (first (used ++ rest)) ≡ true) → Exact n (p >>= q) (Then G H) later
in_turn stops exact second follows = exact_then exact second follows (λ x. exact_some (second x))

module _ {A : Type 0} (t : Token) (G : Grammar A) where
  behind_to : (used : List Token) (x : A) → Then (IsToken t) (λ _. G) used x → Behind t G used x
  behind_to used x h = record { inner = h.back; text = h.parts ∙ ap (λ l. l ++ h.back) h.first; form = h.second }

  behind_from : (used : List Token) (x : A) → Behind t G used x → Then (IsToken t) (λ _. G) used x
  behind_from used x h = record { value = tt; front = t ∷ []; back = h.inner; parts = h.text; first = refl; second = h.form }

pub behind : {A : Type 0} {n : ℕ} {p : Parser (Unit {0})} {q : Parser A} {G : Grammar A} {stops : Stops} (t : Token) → Exact n p (IsToken t) anywhere → Exact n q G stops → Exact n (p >> q) (Behind t G) stops
behind {G = G} t taken exact =
    exact_as (Behind t G) (exact_next taken (λ _. exact) (λ _. exact_some exact)) (behind_to t G) (behind_from t G)

pub opened : {A : Type 0} {n : ℕ} {p : Parser (Unit {0})} {q : Parser A} {G : Grammar A} {stops : Stops} (t : Token) → Exact (suc n) p (IsToken t) anywhere → Exact n q G stops → Exact (suc n) (p >> q) (Behind t G) stops
opened t taken exact = exact_opened t taken exact (exact_some exact)

-- ---- the rest of a form, where a part of its value is known

pub record Rest {B : Type 0} (spell : B → List Token) (test : B → Bool) (known : B → Type 0) (used : List Token) (y : B) : Type 0 where
  pub text : used ≡ spell y
  pub holds : test y ≡ true
  pub knows : known y

-- all is known
pub rest_known : {B : Type 0} {n : ℕ} {stops : Stops} (known : B → Type 0) (b : B) → known b → ((y : B) → known y → y ≡ b) → Exact n (pure b) (Rest (λ _. []) (λ _. true) known) stops
rest_known known b holds only =
    exact_as (Rest (λ _. []) (λ _. true) known) (exact_pure b)
    (λ used y h. record { text = h.text; holds = refl; knows = subst known (sym h.is) holds })
    (λ used y h. record { text = h.text; is = only y h.knows })

module _ {B : Type 0} (t : Token) (spell : B → List Token) (test : B → Bool) (known : B → Type 0) where
  token_to : (used : List Token) (y : B) → Behind t (Rest spell test known) used y → Rest (λ y. t ∷ spell y) test known used y
  token_to used y h = record { text = h.text ∙ ap (λ l. t ∷ l) h.form.text; holds = h.form.holds; knows = h.form.knows }

  token_from : (used : List Token) (y : B) → Rest (λ y. t ∷ spell y) test known used y → Behind t (Rest spell test known) used y
  token_from used y h = record { inner = spell y; text = h.text; form = record { text = refl; holds = h.holds; knows = h.knows } }

-- a token
pub rest_token : {B : Type 0} {n : ℕ} {p : Parser (Unit {0})} {q : Parser B} {spell : B → List Token} {test : B → Bool} {known : B → Type 0} {stops : Stops} (t : Token) → Exact n p (IsToken t) anywhere → Exact n q (Rest spell test known) stops → Exact n (p >> q) (Rest (λ y. t ∷ spell y) test known) stops
rest_token {spell = spell} {test = test} {known = known} t taken exact =
    exact_as (Rest (λ y. t ∷ spell y) test known) (behind t taken exact) (token_to t spell test known) (token_from t spell test known)

-- a token, after which the lists are shorter
pub rest_opened : {B : Type 0} {n : ℕ} {p : Parser (Unit {0})} {q : Parser B} {spell : B → List Token} {test : B → Bool} {known : B → Type 0} {stops : Stops} (t : Token) → Exact (suc n) p (IsToken t) anywhere → Exact n q (Rest spell test known) stops → Exact (suc n) (p >> q) (Rest (λ y. t ∷ spell y) test known) stops
rest_opened {spell = spell} {test = test} {known = known} t taken exact =
    exact_as (Rest (λ y. t ∷ spell y) test known) (opened t taken exact) (token_to t spell test known) (token_from t spell test known)

module _ {A B : Type 0} (get : B → A) (s : A → List Token) (t : A → Bool) (spell : B → List Token) (test : B → Bool) (known : B → Type 0) where
  -- the same rest, where the part is known too
  abbrev pub After : A → Grammar B
  After x = Rest spell test (λ y. known y × (get y ≡ x))

  abbrev pub Whole : Grammar B
  Whole = Rest (λ y. s (get y) ++ spell y) (λ y. t (get y) && test y) known

  part_to : (used : List Token) (y : B) → Then (By s t) After used y → Whole used y
  part_to used y h = record {
    text = join used h.front h.back (s (get y)) (spell y) h.parts (h.first.text ∙ ap s (sym h.second.knows.1)) h.second.text;
    holds = and_from (t (get y)) (test y) (ap t h.second.knows.1 ∙ h.first.holds) h.second.holds;
    knows = h.second.knows.0;
  }

  part_from : (used : List Token) (y : B) → Whole used y → Then (By s t) After used y
  part_from used y h =
      let holds = and_parts (t (get y)) (test y) h.holds in
      record {
        value = get y;
        front = s (get y);
        back = spell y;
        parts = h.text;
        first = record { text = refl; holds = holds.0 };
        second = record { text = refl; holds = holds.1; knows = (h.knows, refl) };
      }

  pub rest_part : {n : ℕ} {p : Parser A} {q : A → Parser B} {later : Stops} (stops : Stops) → Exact n p (By s t) stops → ((x : A) → Exact n (q x) (After x) later) → ((y : B) (rest : List Token) → later (first rest) ≡ true → stops (first (spell y ++ rest)) ≡ true) → Exact n (p >>= q) Whole later
  rest_part stops exact second follows =
      exact_as Whole
      (in_turn stops exact second (λ x used rest y h stop. ap (λ l. stops (first (l ++ rest))) h.text ∙ follows y rest stop))
      part_to part_from

-- nothing was known before, and the whole is the tokens of a tree and a test on it
pub exact_by : {B : Type 0} {n : ℕ} {p : Parser B} {spell : B → List Token} {test : B → Bool} {stops : Stops} (s : B → List Token) (t : B → Bool) → Exact n p (Rest spell test (λ _. Unit {0})) stops → ((y : B) → spell y ≡ s y) → ((y : B) → test y ≡ t y) → Exact n p (By s t) stops
exact_by s t exact spells tests =
    exact_as (By s t) exact
    (λ used y h. record { text = h.text ∙ spells y; holds = sym (tests y) ∙ h.holds })
    (λ used y h. record { text = h.text ∙ sym (spells y); holds = tests y ∙ h.holds; knows = tt })
