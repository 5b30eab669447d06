-- Parsers that decide a grammar. Where a parser reads a form, no other form of the grammar stands at the front
-- of a list that has the same tokens up to the next one; where it refuses, the tokens before the refused one
-- begin a form, and with the refused one they don't. A test on the next token says where a form may end.
use Rattle.std.proofs.Common.{◌≡◌, ◌⊎◌, ℕ, zero, suc, ◌≤◌, ◌+◌, Bool, true, false, if◌then◌else◌, List, [], ◌∷◌, ◌++◌, length, Option, Some, None, Result, Ok, Err, inl, inr, refl, ap, sym, subst, ◌∙◌, append_assoc, arith, length-append}
use Rattle.std.proofs.lemmas.Bool.{and_from, and_parts}
use Rattle.std.proofs.lemmas.List.{append-nil, append_cancel_left}
use Rattle.std.proofs.lemmas.List.Concat.{flat_map-cons}
use Rattle.std.specs.List.{list_all, flat_map}
use Rattle.std.specs.Option.{is_none}
use Rattle.std.proofs.lemmas.List.Folds.{list_all-append}
use Rattle.domino_tree.specs.declared.token.Token.{Token}
use Rattle.domino_syntax.specs.Tokens.{is_token}
use Rattle.domino_syntax.specs.Parsers.{Outcome, Parser, first, taken, one, end, and_then, ◌>>=◌, pure, choice, repeat, going_on, adding, all_of}

-- each name in the list is one
abbrev pub Named : List Token → Type 0
Named tokens = list_all is_token tokens ≡ true

-- which tokens make which form
abbrev pub Grammar : Type 0 → Type 1
Grammar A = List Token → A → Type 0

-- before which next token a form may end
abbrev pub Stops : Type 0
Stops = Option Token → Bool

-- anywhere
abbrev pub anywhere : Stops
anywhere t = true

-- ---- what an outcome says of the list

-- A form at the front of the list, and the tokens after it. There is no other form at the front of a list that
-- goes on with the same next token.
pub record ReadsForm {A : Type 0} (G : Grammar A) (stops : Stops) (tokens : List Token) (x : A) (rest : List Token) : Type 0 where
  pub used : List Token
  pub parts : tokens ≡ used ++ rest
  pub form : G used x
  pub only : (more front back : List Token) (y : A) → first more ≡ first rest → used ++ more ≡ front ++ back → G front y → stops (first back) ≡ true → (front ≡ used) × (y ≡ x)

-- Tokens that begin a form, and those after them. There is no form at the front of a list that goes on with the
-- same next token.
pub record Refuses {A : Type 0} (G : Grammar A) (stops : Stops) (tokens : List Token) (rest : List Token) : Type 0 where
  pub used : List Token
  pub parts : tokens ≡ used ++ rest
  pub begins : (more : List Token) × (x : A) × G (used ++ more) x
  pub none : (more front back : List Token) (y : A) → first more ≡ first rest → used ++ more ≡ front ++ back → G front y → stops (first back) ≡ true → ⊥

abbrev pub Exactly : {A : Type 0} → Grammar A → Stops → List Token → Outcome A → Type 0
Exactly G stops tokens (Ok r) = ReadsForm G stops tokens r.0 r.1
Exactly G stops tokens (Err rest) = Refuses G stops tokens rest

-- the parser decides the grammar on lists of so many tokens at most
pub record Exact {A : Type 0} (n : ℕ) (p : Parser A) (G : Grammar A) (stops : Stops) : Type 0 where
  pub reads : (tokens : List Token) → length tokens ≤ n → Named tokens → Exactly G stops tokens (p tokens)

-- ---- lists and their next token

some_same : {A : Type 0} (x y : A) → Some x ≡ Some y → x ≡ y
some_same x y h = cc

ok_same : {A B : Type 0} (x y : A) → Path (Result A B) (Ok x) (Ok y) → x ≡ y
ok_same x y h = cc

err_same : {A B : Type 0} (x y : B) → Path (Result A B) (Err x) (Err y) → x ≡ y
err_same x y h = cc

pub first_after : (used a b : List Token) → first a ≡ first b → first (used ++ a) ≡ first (used ++ b)
first_after [] a b h = h
first_after (t ∷ used) a b h = refl

pub first_none : (tokens : List Token) → first tokens ≡ None → tokens ≡ []
first_none [] h = refl
first_none (t ∷ tokens) h = cc

pub named_rest : (tokens used rest : List Token) → tokens ≡ used ++ rest → Named tokens → Named rest
named_rest tokens used rest parts named =
    (and_parts (list_all is_token used) (list_all is_token rest) (sym (list_all-append is_token used rest) ∙ (ap (list_all is_token) (sym parts) ∙ named))).1

pub exact_below : {A : Type 0} {n : ℕ} {p : Parser A} {G : Grammar A} {stops : Stops} (m : ℕ) → m ≤ n → Exact n p G stops → Exact m p G stops
exact_below m le exact = record { reads = λ tokens few named. exact.reads tokens (omega arith) named }

-- ---- the same grammar in other words, and where a form may end in fewer places

-- what a list begins with is what any list with the same next token begins with
same_next : (tokens used rest more front back : List Token) → tokens ≡ used ++ rest → first more ≡ first rest → used ++ more ≡ front ++ back → first (front ++ back) ≡ first tokens
same_next tokens used rest more front back parts next is = ap first (sym is) ∙ (first_after used more rest next ∙ ap first (sym parts))

-- Each form of the one grammar is one of the other. A form of the other is one of the first where it stands at the
-- front of a list that begins as this list does.
module _ {A : Type 0} (G H : Grammar A) (stops fewer : Stops) (tokens : List Token)
    (to : (used : List Token) (x : A) → G used x → H used x)
    (from : (front back : List Token) (x : A) → first (front ++ back) ≡ first tokens → H front x → fewer (first back) ≡ true → G front x × (stops (first back) ≡ true)) where
  exactly_as : (o : Outcome A) → Exactly G stops tokens o → Exactly H fewer tokens o
  exactly_as (Ok r) f = record {
    used = f.used;
    parts = f.parts;
    form = to f.used r.0 f.form;
    only = λ more front back y next is h stop.
        let g = from front back y (same_next tokens f.used r.1 more front back f.parts next is) h stop in
        f.only more front back y next is g.0 g.1;
  }
  exactly_as (Err rest) f = record {
    used = f.used;
    parts = f.parts;
    begins = (f.begins.0, f.begins.1, to (f.used ++ f.begins.0) f.begins.1 f.begins.2);
    none = λ more front back y next is h stop.
        let g = from front back y (same_next tokens f.used rest more front back f.parts next is) h stop in
        f.none more front back y next is g.0 g.1;
  }

pub exact_narrower : {A : Type 0} {n : ℕ} {p : Parser A} {G : Grammar A} {stops : Stops} (H : Grammar A) (fewer : Stops) → Exact n p G stops → ((used : List Token) (x : A) → G used x → H used x) → ((used : List Token) (x : A) → H used x → G used x) → ((t : Option Token) → fewer t ≡ true → stops t ≡ true) → Exact n p H fewer
exact_narrower {p = p} {G = G} {stops = stops} H fewer exact to from narrower = record {
  reads = λ tokens few named. exactly_as G H stops fewer tokens to (λ front back x begins h stop. (from front x h, narrower (first back) stop)) (p tokens) (exact.reads tokens few named);
}

pub exact_as : {A : Type 0} {n : ℕ} {p : Parser A} {G : Grammar A} {stops : Stops} (H : Grammar A) → Exact n p G stops → ((used : List Token) (x : A) → G used x → H used x) → ((used : List Token) (x : A) → H used x → G used x) → Exact n p H stops
exact_as {stops = stops} H exact to from = exact_narrower H stops exact to from (λ t stop. stop)

-- ---- no token

pub record Nothing {A : Type 0} (x : A) (used : List Token) (y : A) : Type 0 where
  pub text : used ≡ []
  pub is : y ≡ x

pub exact_pure : {A : Type 0} {n : ℕ} {stops : Stops} (x : A) → Exact n (pure x) (Nothing x) stops
exact_pure x = record {
  reads = λ tokens few named. record {
    used = [];
    parts = refl;
    form = record { text = refl; is = refl };
    only = λ more front back y next is h stop. (h.text, h.is);
  };
}

-- ---- one token

-- the forms are the tokens that the test takes
pub record Takes {A : Type 0} (test : Token → Option A) (G : Grammar A) : Type 0 where
  pub to : (t : Token) (x : A) → is_token t ≡ true → test t ≡ Some x → G (t ∷ []) x
  pub from : (used : List Token) (x : A) → G used x → (t : Token) × (used ≡ t ∷ []) × (test t ≡ Some x)
  pub some : (used : List Token) × (x : A) × G used x

module _ {A : Type 0} (test : Token → Option A) (G : Grammar A) (stops : Stops) (takes : Takes test G) where
  -- the token that a form at the front of a list is
  front_token : (more front back : List Token) (y : A) → more ≡ front ++ back → G front y → (t : Token) × (first more ≡ Some t) × (front ≡ t ∷ []) × (test t ≡ Some y)
  front_token more front back y is h =
      let f = takes.from front y h in
      (f.0, ap first is ∙ ap (λ l. first (l ++ back)) f.1, f.1, f.2)

  taken_exact : (t : Token) (rest : List Token) (o : Option A) → is_token t ≡ true → test t ≡ o → Exactly G stops (t ∷ rest) (taken o t rest)
  taken_exact t rest None named is_none = record {
    used = [];
    parts = refl;
    begins = takes.some;
    none = λ more front back y next is h stop.
        let f = front_token more front back y is h in
        let same : t ≡ f.0 = some_same _ _ (sym next ∙ f.1) in
        let e : None ≡ Some y = sym is_none ∙ (ap test same ∙ f.3) in
        cc;
  }
  taken_exact t rest (Some x) named is_some = record {
    used = t ∷ [];
    parts = refl;
    form = takes.to t x named is_some;
    only = λ more front back y next is h stop.
        let f = front_token (t ∷ more) front back y is h in
        let same : t ≡ f.0 = some_same _ _ f.1 in
        (f.2 ∙ ap (λ t. t ∷ []) (sym same), some_same _ _ (sym f.3 ∙ (ap test (sym same) ∙ is_some)));
  }

  one_exact : (tokens : List Token) → Named tokens → Exactly G stops tokens (one test tokens)
  one_exact [] named = record {
    used = [];
    parts = refl;
    begins = takes.some;
    none = λ more front back y next is h stop.
        let f = front_token more front back y is h in
        let e : None ≡ Some f.0 = sym next ∙ f.1 in
        cc;
  }
  one_exact (t ∷ rest) named = taken_exact t rest (test t) (and_parts (is_token t) (list_all is_token rest) named).0 refl

pub exact_one : {A : Type 0} {n : ℕ} {test : Token → Option A} {G : Grammar A} {stops : Stops} → Takes test G → Exact n (one test) G stops
exact_one {test = test} {G = G} {stops = stops} takes = record { reads = λ tokens few named. one_exact test G stops takes tokens named }

-- ---- the end

abbrev pub IsEnd : Grammar (Unit {0})
IsEnd used x = used ≡ []

end_exact : (tokens : List Token) → Exactly IsEnd is_none tokens (end tokens)
end_exact [] = record { used = []; parts = refl; form = refl; only = λ more front back y next is h stop. (h, refl) }
end_exact (t ∷ rest) = record {
  used = [];
  parts = refl;
  begins = ([], tt, refl);
  none = λ more front back y next is h stop.
      let e : Some t ≡ first back = sym next ∙ (ap first is ∙ ap (λ l. first (l ++ back)) h) in
      let e2 : is_none (Some t) ≡ true = ap is_none e ∙ stop in
      cc;
}

pub exact_end : {n : ℕ} → Exact n end IsEnd is_none
exact_end = record { reads = λ tokens few named. end_exact tokens }

-- ---- a form, of which something is made

pub record Image {A B : Type 0} (f : A → B) (G : Grammar A) (used : List Token) (y : B) : Type 0 where
  pub value : A
  pub form : G used value
  pub is : y ≡ f value

module _ {A B : Type 0} (f : A → B) (G : Grammar A) (stops : Stops) where
  map_exact : (tokens : List Token) (o : Outcome A) → Exactly G stops tokens o → Exactly (Image f G) stops tokens (and_then o (λ x. pure (f x)))
  map_exact tokens (Ok r) g = record {
    used = g.used;
    parts = g.parts;
    form = record { value = r.0; form = g.form; is = refl };
    only = λ more front back y next is h stop.
        let same = g.only more front back h.value next is h.form stop in
        (same.0, h.is ∙ ap f same.1);
  }
  map_exact tokens (Err rest) g = record {
    used = g.used;
    parts = g.parts;
    begins = (g.begins.0, f g.begins.1, record { value = g.begins.1; form = g.begins.2; is = refl });
    none = λ more front back y next is h stop. g.none more front back h.value next is h.form stop;
  }

pub exact_map : {A B : Type 0} {n : ℕ} {p : Parser A} {G : Grammar A} {stops : Stops} (f : A → B) → Exact n p G stops → Exact n (p >>= (λ x. pure (f x))) (Image f G) stops
exact_map {p = p} {G = G} {stops = stops} f exact = record { reads = λ tokens few named. map_exact f G stops tokens (p tokens) (exact.reads tokens few named) }

-- ---- one form after another

pub record Then {A B : Type 0} (G : Grammar A) (H : A → Grammar B) (used : List Token) (y : B) : Type 0 where
  pub value : A
  pub front : List Token
  pub back : List Token
  pub parts : used ≡ front ++ back
  pub first : G front value
  pub second : H value back y

-- two pieces in other words
pub join : (used front back first second : List Token) → used ≡ front ++ back → front ≡ first → back ≡ second → used ≡ first ++ second
join used front back first second parts is_first is_second =
    parts ∙ (ap (λ l. l ++ back) is_first ∙ ap (λ l. first ++ l) is_second)

module _ {A B : Type 0} (G : Grammar A) (H : A → Grammar B) (stops later : Stops) (follows : (x : A) (used rest : List Token) (y : B) → H x used y → later (first rest) ≡ true → stops (first (used ++ rest)) ≡ true) where
  -- what comes after the first form of two
  behind : (used more front back : List Token) (y : B) (h : Then G H front y) → used ++ more ≡ front ++ back → used ++ more ≡ h.front ++ (h.back ++ back)
  behind used more front back y h is = is ∙ (ap (λ l. l ++ back) h.parts ∙ append_assoc h.front h.back back)

  module _ (tokens middle : List Token) (x : A) (f : ReadsForm G stops tokens x middle) where
    -- the first form of any two is the one that was read
    same_first : (used rest more front back : List Token) (y : B) → middle ≡ used ++ rest → first more ≡ first rest → (f.used ++ used) ++ more ≡ front ++ back → (h : Then G H front y) → later (first back) ≡ true → (h.front ≡ f.used) × (h.value ≡ x) × (used ++ more ≡ h.back ++ back)
    same_first used rest more front back y parts next is h stop =
        let whole = behind f.used (used ++ more) front back y h (sym (append_assoc f.used used more) ∙ is) in
        let same = f.only (used ++ more) h.front (h.back ++ back) h.value (first_after used more rest next ∙ ap first (sym parts)) whole h.first (follows h.value h.back back y h.second stop) in
        (same.0, same.1, append_cancel_left f.used (used ++ more) (h.back ++ back) (whole ∙ ap (λ l. l ++ (h.back ++ back)) same.0))

    joined : (o : Outcome B) → Exactly (H x) later middle o → Exactly (Then G H) later tokens o
    joined (Ok r) g = record {
      used = f.used ++ g.used;
      parts = f.parts ∙ (ap (λ l. f.used ++ l) g.parts ∙ sym (append_assoc f.used g.used r.1));
      form = record { value = x; front = f.used; back = g.used; parts = refl; first = f.form; second = g.form };
      only = λ more front back y next is h stop.
          let same = same_first g.used r.1 more front back y g.parts next is h stop in
          let last = g.only more h.back back y next same.2 (subst (λ v. H v h.back y) same.1 h.second) stop in
          (join front h.front h.back f.used g.used h.parts same.0 last.0, last.1);
    }
    joined (Err rest) g = record {
      used = f.used ++ g.used;
      parts = f.parts ∙ (ap (λ l. f.used ++ l) g.parts ∙ sym (append_assoc f.used g.used rest));
      begins = (g.begins.0, g.begins.1, record { value = x; front = f.used; back = g.used ++ g.begins.0; parts = append_assoc f.used g.used g.begins.0; first = f.form; second = g.begins.2 });
      none = λ more front back y next is h stop.
          let same = same_first g.used rest more front back y g.parts next is h stop in
          g.none more h.back back y next same.2 (subst (λ v. H v h.back y) same.1 h.second) stop;
    }

  module _ (q : A → Parser B) (n m : ℕ) (takes : (used : List Token) (x : A) → G used x → n ≤ length used + m) (some : (x : A) → (used : List Token) × (y : B) × H x used y) (second : (x : A) → Exact m (q x) (H x) later) where
    then_exact : (tokens : List Token) (o : Outcome A) → length tokens ≤ n → Named tokens → Exactly G stops tokens o → Exactly (Then G H) later tokens (and_then o q)
    then_exact tokens (Ok r) few named f =
        joined tokens r.1 r.0 f (q r.0 r.1) ((second r.0).reads r.1 (omega (arith, few, takes f.used r.0 f.form, ap length f.parts, length-append f.used r.1)) (named_rest tokens f.used r.1 f.parts named))
    then_exact tokens (Err rest) few named f =
        let s = some f.begins.1 in
        record {
          used = f.used;
          parts = f.parts;
          begins = (f.begins.0 ++ s.0, s.1, record { value = f.begins.1; front = f.used ++ f.begins.0; back = s.0; parts = sym (append_assoc f.used f.begins.0 s.0); first = f.begins.2; second = s.2 });
          none = λ more front back y next is h stop.
              f.none more h.front (h.back ++ back) h.value next (behind f.used more front back y h is) h.first (follows h.value h.back back y h.second stop);
        }

-- Where a form of the second kind follows, or what may follow it, the first may end. The second parser need only
-- decide lists that are shorter by what the first takes.
pub exact_after : {A B : Type 0} {n m : ℕ} {p : Parser A} {q : A → Parser B} {G : Grammar A} {H : A → Grammar B} {stops later : Stops} → Exact n p G stops → ((x : A) → Exact m (q x) (H x) later) → ((used : List Token) (x : A) → G used x → n ≤ length used + m) → ((x : A) (used rest : List Token) (y : B) → H x used y → later (first rest) ≡ true → stops (first (used ++ rest)) ≡ true) → ((x : A) → (used : List Token) × (y : B) × H x used y) → Exact n (p >>= q) (Then G H) later
exact_after {n = n} {m = m} {p = p} {q = q} {G = G} {H = H} {stops = stops} {later = later} exact second takes follows some = record {
  reads = λ tokens few named. then_exact G H stops later follows q n m takes some second tokens (p tokens) few named (exact.reads tokens few named);
}

pub exact_then : {A B : Type 0} {n : ℕ} {p : Parser A} {q : A → Parser B} {G : Grammar A} {H : A → Grammar B} {stops later : Stops} → Exact n p G stops → ((x : A) → Exact n (q x) (H x) later) → ((x : A) (used rest : List Token) (y : B) → H x used y → later (first rest) ≡ true → stops (first (used ++ rest)) ≡ true) → ((x : A) → (used : List Token) × (y : B) × H x used y) → Exact n (p >>= q) (Then G H) later
exact_then exact second follows some = exact_after exact second (λ used x h. omega arith) follows some

-- where the first form may end anywhere
pub exact_next : {A B : Type 0} {n : ℕ} {p : Parser A} {q : A → Parser B} {G : Grammar A} {H : A → Grammar B} {later : Stops} → Exact n p G anywhere → ((x : A) → Exact n (q x) (H x) later) → ((x : A) → (used : List Token) × (y : B) × H x used y) → Exact n (p >>= q) (Then G H) later
exact_next exact second some = exact_then exact second (λ x used rest y h stop. refl) some

-- where the first form is one token
pub exact_behind : {A B : Type 0} {n : ℕ} {p : Parser A} {q : A → Parser B} {G : Grammar A} {H : A → Grammar B} {later : Stops} → Exact (suc n) p G anywhere → ((x : A) → Exact n (q x) (H x) later) → ((used : List Token) (x : A) → G used x → 1 ≤ length used) → ((x : A) → (used : List Token) × (y : B) × H x used y) → Exact (suc n) (p >>= q) (Then G H) later
exact_behind exact second long some = exact_after exact second (λ used x h. omega (arith, long used x h)) (λ x used rest y h stop. refl) some

-- ---- one form or another, by the next token

abbrev pub Either : {A : Type 0} → Grammar A → Grammar A → Grammar A
Either G H used x = G used x ⊎ H used x

module _ {A : Type 0} (begins : Stops) (G H : Grammar A) (stops : Stops) (starts : (used rest : List Token) (x : A) → G used x → stops (first rest) ≡ true → begins (first (used ++ rest)) ≡ true) (others : (used rest : List Token) (x : A) → H used x → stops (first rest) ≡ true → begins (first (used ++ rest)) ≡ false) (tokens : List Token) where
  is_one : begins (first tokens) ≡ true → (front back : List Token) (x : A) → first (front ++ back) ≡ first tokens → Either G H front x → stops (first back) ≡ true → G front x × (stops (first back) ≡ true)
  is_one sees front back x same (inl h) stop = (h, stop)
  is_one sees front back x same (inr h) stop =
      let e : false ≡ true = sym (others front back x h stop) ∙ (ap begins same ∙ sees) in
      cc

  is_other : begins (first tokens) ≡ false → (front back : List Token) (x : A) → first (front ++ back) ≡ first tokens → Either G H front x → stops (first back) ≡ true → H front x × (stops (first back) ≡ true)
  is_other sees front back x same (inl h) stop =
      let e : true ≡ false = sym (starts front back x h stop) ∙ (ap begins same ∙ sees) in
      cc
  is_other sees front back x same (inr h) stop = (h, stop)

  choice_exact : (o l : Outcome A) (b : Bool) → begins (first tokens) ≡ b → Exactly G stops tokens o → Exactly H stops tokens l → Exactly (Either G H) stops tokens (if b then o else l)
  choice_exact o l true sees f g = exactly_as G (Either G H) stops stops tokens (λ used x h. inl h) (is_one sees) o f
  choice_exact o l false sees f g = exactly_as H (Either G H) stops stops tokens (λ used x h. inr h) (is_other sees) l g

-- forms of the first kind begin as the test says, and those of the other kind, with what may follow them, don't
pub exact_choice : {A : Type 0} {n : ℕ} {p q : Parser A} {G H : Grammar A} {stops : Stops} (begins : Stops) → Exact n p G stops → Exact n q H stops → ((used rest : List Token) (x : A) → G used x → stops (first rest) ≡ true → begins (first (used ++ rest)) ≡ true) → ((used rest : List Token) (x : A) → H used x → stops (first rest) ≡ true → begins (first (used ++ rest)) ≡ false) → Exact n (choice begins p q) (Either G H) stops
exact_choice {p = p} {q = q} {G = G} {H = H} {stops = stops} begins one other starts others = record {
  reads = λ tokens few named. choice_exact begins G H stops starts others tokens (p tokens) (q tokens) (begins (first tokens)) refl (one.reads tokens few named) (other.reads tokens few named);
}

-- ---- one step after another

-- steps that lead from one value to another
pub data Runs {A : Type 0} (G : A → Grammar A) : A → List Token → A → Type 0 where
  stay : (x : A) → Runs G x [] x
  go : (x y z : A) (front back : List Token) → G x front y → Runs G y back z → Runs G x (front ++ back) z

module _ {A : Type 0} (G : A → Grammar A) where
  abbrev Cases : A → Grammar A
  Cases x = Either (Then (G x) (Runs G)) (Nothing x)

  run_to : (x : A) (used : List Token) (z : A) → Cases x used z → Runs G x used z
  run_to x used z (inl h) = subst (λ l. Runs G x l z) (sym h.parts) (go x h.value z h.front h.back h.first h.second)
  run_to x used z (inr h) = subst (λ l. Runs G x l z) (sym h.text) (subst (λ y. Runs G x [] y) (sym h.is) (stay x))

  run_from : (x : A) (used : List Token) (z : A) → Runs G x used z → Cases x used z
  run_from _ _ _ (stay x) = inr (record { text = refl; is = refl })
  run_from _ _ _ (go x y z front back h run) = inl (record { value = y; front = front; back = back; parts = refl; first = h; second = run })

  -- one step more, at the end
  pub run_on : (x : A) (used : List Token) (y : A) → Runs G x used y → (back : List Token) (z : A) → G y back z → Runs G x (used ++ back) z
  run_on _ _ _ (stay x) back z h = subst (λ l. Runs G x l z) (append-nil back) (go x z z back [] h (stay z))
  run_on _ _ _ (go x y w front middle g run) back z h = subst (λ l. Runs G x l z) (sym (append_assoc front middle back)) (go x y z front (middle ++ back) g (run_on y middle w run back z h))

module _ {A : Type 0} (begins : A → Option Token → Bool) (step : A → Parser A) (G : A → Grammar A) (between later : Stops)
    (long : (x : A) (used : List Token) (y : A) → G x used y → 1 ≤ length used)
    (starts : (x : A) (used rest : List Token) (y : A) → G x used y → begins x (first (used ++ rest)) ≡ true)
    (goes : (x : A) (t : Option Token) → begins x t ≡ true → between t ≡ true)
    (ends : (x : A) (t : Option Token) → later t ≡ true → begins x t ≡ false)
    (may : (t : Option Token) → later t ≡ true → between t ≡ true) where
  run_follows : (x : A) (used rest : List Token) (z : A) → Cases G x used z → later (first rest) ≡ true → between (first (used ++ rest)) ≡ true
  run_follows x used rest z (inl h) stop =
      goes x (first (used ++ rest)) (ap (λ l. begins x (first (l ++ rest))) h.parts ∙ (ap (λ l. begins x (first l)) (append_assoc h.front h.back rest) ∙ starts x h.front (h.back ++ rest) h.value h.first))
  run_follows x used rest z (inr h) stop = ap (λ l. between (first (l ++ rest))) h.text ∙ may (first rest) stop

  run_starts : (x : A) (used rest : List Token) (z : A) → Then (G x) (Runs G) used z → begins x (first (used ++ rest)) ≡ true
  run_starts x used rest z h = ap (λ l. begins x (first (l ++ rest))) h.parts ∙ (ap (λ l. begins x (first l)) (append_assoc h.front h.back rest) ∙ starts x h.front (h.back ++ rest) h.value h.first)

  -- nothing but the end of the list may follow where no token is left
  repeat_none : (x : A) (tokens : List Token) → length tokens ≤ 0 → Exactly (Cases G x) later tokens (Ok (x, tokens))
  repeat_none x tokens few = record {
    used = [];
    parts = refl;
    form = inr (record { text = refl; is = refl });
    only = λ more front back y next is h stop. at_end more front back y (first_none more (next ∙ ap first (empty tokens few))) is h;
  }
    where
      empty : (tokens : List Token) → length tokens ≤ 0 → tokens ≡ []
      empty [] few = refl
      empty (t ∷ tokens) few = absurd (omega arith)

      at_end : (more front back : List Token) (y : A) → more ≡ [] → more ≡ front ++ back → Cases G x front y → (front ≡ []) × (y ≡ x)
      at_end more front back y nothing is (inl h) =
          absurd (omega (arith, ap length nothing, ap length is, length-append front back, ap length h.parts, length-append h.front h.back, long x h.front h.value h.first))
      at_end more front back y nothing is (inr h) = (h.text, h.is)

  repeat_exact : (n : ℕ) → ((x : A) → Exact n (step x) (G x) between) → (k : ℕ) → k ≤ n → (x : A) → Exact k (repeat begins step k x) (Runs G x) later
  unfolding repeat
  repeat_exact n exact zero le x = exact_as (Runs G x) (record { reads = λ tokens few named. repeat_none x tokens few }) (run_to G x) (run_from G x)
  repeat_exact n exact (suc k) le x =
      exact_as (Runs G x)
      (exact_choice (begins x)
      (exact_after (exact_below (suc k) le (exact x)) (repeat_exact n exact k (omega arith)) (λ used y h. omega (arith, long x used y h)) (λ y used rest z run stop. run_follows y used rest z (run_from G y used z run) stop) (λ y. ([], y, stay y)))
      (exact_pure x)
      (λ used rest z h stop. run_starts x used rest z h)
      (λ used rest z h stop. ap (λ l. begins x (first (l ++ rest))) h.text ∙ ends x (first rest) stop))
      (run_to G x) (run_from G x)

  -- Each step takes a token and begins as the test says. Before the next step, and before what may follow them
  -- all, a step may end; there no step begins.
  pub exact_repeat : {n : ℕ} → ((x : A) → Exact n (step x) (G x) between) → (x : A) → Exact n (going_on begins step x) (Runs G x) later
  exact_repeat {n = n} exact x = record {
    reads = λ tokens few named. (repeat_exact n exact (length tokens) few x).reads tokens (omega arith) named;
  }

  -- a form, and steps that go on from it
  pub exact_chain : {n : ℕ} {p : Parser A} {H : Grammar A} → Exact n p H between → ((x : A) → Exact n (step x) (G x) between) → Exact n (p >>= going_on begins step) (Then H (Runs G)) later
  exact_chain exact steps =
      exact_then exact (exact_repeat steps) (λ x used rest z run stop. run_follows x used rest z (run_from G x used z run) stop) (λ x. ([], x, stay x))

-- ---- forms of one kind, one after another

abbrev pub Many : {A : Type 0} → Grammar A → Grammar (List A)
Many G used [] = used ≡ []
Many G used (x ∷ xs) = (front : List Token) × (back : List Token) × (used ≡ front ++ back) × G front x × Many G back xs

-- the list that was found already, and the forms after it
pub record Further {A : Type 0} (G : Grammar A) (found : List A) (used : List Token) (xs : List A) : Type 0 where
  pub more : List A
  pub is : xs ≡ found ++ more
  pub many : Many G used more

module _ {A : Type 0} (G : Grammar A) where
  -- one form more
  abbrev pub Adds : List A → Grammar (List A)
  Adds found = Image (λ x. found ++ x ∷ []) G

  pub further_to : (found : List A) (used : List Token) (xs : List A) → Runs Adds found used xs → Further G found used xs
  further_to _ _ _ (stay found) = record { more = []; is = sym (append-nil found); many = refl }
  further_to _ _ _ (go found next xs front back h run) =
      let f = further_to next back xs run in
      record {
        more = h.value ∷ f.more;
        is = f.is ∙ (ap (λ l. l ++ f.more) h.is ∙ append_assoc found (h.value ∷ []) f.more);
        many = (front, back, refl, h.form, f.many);
      }

  pub further_from : (xs found : List A) (used : List Token) → Many G used xs → Runs Adds found used (found ++ xs)
  further_from [] found used h =
      subst (λ l. Runs Adds found l (found ++ [])) (sym h) (subst (λ xs. Runs Adds found [] xs) (sym (append-nil found)) (stay found))
  further_from (x ∷ xs) found used h =
      subst (λ l. Runs Adds found l (found ++ x ∷ xs)) (sym h.2)
      (go found (found ++ x ∷ []) (found ++ x ∷ xs) h.0 h.1 (record { value = x; form = h.3; is = refl })
      (subst (λ l. Runs Adds (found ++ x ∷ []) h.1 l) (append_assoc found (x ∷ []) xs) (further_from xs (found ++ x ∷ []) h.1 h.4)))

  many_to : (used : List Token) (xs : List A) → Runs Adds [] used xs → Many G used xs
  many_to used xs run = let f = further_to [] used xs run in subst (Many G used) (sym f.is) f.many

  -- Each form takes a token and begins as the test says. Before the next form, and before what may follow them
  -- all, a form may end; there no form begins.
  pub exact_all : {n : ℕ} {form : Parser A} {between : Stops} (begins later : Stops) → Exact n form G between → ((used : List Token) (x : A) → G used x → 1 ≤ length used) → ((used rest : List Token) (x : A) → G used x → begins (first (used ++ rest)) ≡ true) → ((t : Option Token) → begins t ≡ true → between t ≡ true) → ((t : Option Token) → later t ≡ true → begins t ≡ false) → ((t : Option Token) → later t ≡ true → between t ≡ true) → Exact n (all_of begins form) (Many G) later
  exact_all {form = form} {between = between} begins later exact long starts goes ends may =
      exact_as (Many G)
      (exact_repeat (λ _. begins) (adding form) Adds between later
      (λ found used xs h. long used h.value h.form)
      (λ found used rest xs h. starts used rest h.value h.form)
      (λ found. goes)
      (λ found. ends)
      may
      (λ found. exact_map (λ x. found ++ x ∷ []) exact) [])
      many_to (λ used xs. further_from xs [] used)

-- ---- the tokens of a tree, and a test on it

pub record By {A : Type 0} (spell : A → List Token) (test : A → Bool) (used : List Token) (x : A) : Type 0 where
  pub text : used ≡ spell x
  pub holds : test x ≡ true

module _ {A : Type 0} (spell : A → List Token) (test : A → Bool) where
  pub list_to : (used : List Token) (xs : List A) → Many (By spell test) used xs → By (flat_map spell) (list_all test) used xs
  list_to used [] h = record { text = h; holds = refl }
  list_to used (x ∷ xs) h =
      let later = list_to h.1 xs h.4 in
      record { text = h.2 ∙ (ap (λ l. l ++ h.1) h.3.text ∙ (ap (λ l. spell x ++ l) later.text ∙ sym (flat_map-cons spell x xs))); holds = and_from (test x) (list_all test xs) h.3.holds later.holds }

  pub list_from : (used : List Token) (xs : List A) → By (flat_map spell) (list_all test) used xs → Many (By spell test) used xs
  list_from used [] h = h.text
  list_from used (x ∷ xs) h =
      (spell x, flat_map spell xs, h.text ∙ flat_map-cons spell x xs, record { text = refl; holds = (and_parts (test x) (list_all test xs) h.holds).0 }, list_from (flat_map spell xs) xs (record { text = refl; holds = (and_parts (test x) (list_all test xs) h.holds).1 }))

-- ---- a whole list

-- Tokens that begin a form, and those after them: with the next token, or where none is left, they make none.
pub record Breaks {A : Type 0} (G : Grammar A) (tokens rest : List Token) : Type 0 where
  pub used : List Token
  pub parts : tokens ≡ used ++ rest
  pub begins : (more : List Token) × (x : A) × G (used ++ more) x
  pub none : (more : List Token) (x : A) → first more ≡ first rest → G (used ++ more) x → ⊥

module _ {A : Type 0} (G : Grammar A) (stops : Stops) (last : stops None ≡ true) (tokens : List Token) where
  complete_at : (o : Outcome A) → Exactly G stops tokens o → (x : A) → G tokens x → o ≡ Ok (x, [])
  complete_at (Ok r) f x h =
      let same = f.only r.1 tokens [] x refl (sym f.parts ∙ sym (append-nil tokens)) h last in
      let over : r.1 ≡ [] = append_cancel_left f.used r.1 [] (sym f.parts ∙ (same.0 ∙ sym (append-nil f.used))) in
      ap (λ y. Ok (y, r.1)) (sym same.1) ∙ ap (λ l. Ok (x, l)) over
  complete_at (Err rest) f x h = absurd (f.none rest tokens [] x refl (sym f.parts ∙ sym (append-nil tokens)) h last)

  sound_at : (o : Outcome A) → Exactly G stops tokens o → (x : A) → o ≡ Ok (x, []) → G tokens x
  sound_at (Ok r) f x is =
      let same : r ≡ (x, []) = ok_same _ _ is in
      let whole : tokens ≡ f.used = f.parts ∙ (ap (λ (r : A × List Token). f.used ++ r.1) same ∙ append-nil f.used) in
      subst (λ l. G l x) (sym whole) (subst (λ y. G f.used y) (ap (λ (r : A × List Token). r.0) same) f.form)
  sound_at (Err rest) f x is = cc

  breaks_at : (o : Outcome A) (rest : List Token) → Exactly G stops tokens o → o ≡ Err rest → Breaks G tokens rest
  breaks_at (Ok r) rest f is = cc
  breaks_at (Err l) rest f is =
      let same : l ≡ rest = err_same _ _ is in
      record {
        used = f.used;
        parts = f.parts ∙ ap (λ l. f.used ++ l) same;
        begins = f.begins;
        none = λ more x next h. f.none more (f.used ++ more) [] x (next ∙ ap first (sym same)) (sym (append-nil (f.used ++ more))) h last;
      }

module _ {A : Type 0} {n : ℕ} {p : Parser A} {G : Grammar A} {stops : Stops} (exact : Exact n p G stops) (last : stops None ≡ true) (tokens : List Token) (few : length tokens ≤ n) (named : Named tokens) where
  -- what is read to the end is a form
  pub whole_sound : (x : A) → p tokens ≡ Ok (x, []) → G tokens x
  whole_sound = sound_at G stops last tokens (p tokens) (exact.reads tokens few named)

  -- a form is read
  pub whole_complete : (x : A) → G tokens x → p tokens ≡ Ok (x, [])
  whole_complete = complete_at G stops last tokens (p tokens) (exact.reads tokens few named)

  -- the list is refused at the place where it breaks
  pub whole_breaks : (rest : List Token) → p tokens ≡ Err rest → Breaks G tokens rest
  whole_breaks rest = breaks_at G stops last tokens (p tokens) rest (exact.reads tokens few named)

  -- no list has two forms
  pub whole_unique : (x y : A) → G tokens x → G tokens y → x ≡ y
  whole_unique x y h l = ap (λ (r : A × List Token). r.0) (ok_same _ _ (sym (whole_complete x h) ∙ whole_complete y l))
