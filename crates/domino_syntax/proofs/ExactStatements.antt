-- The parsers of statements are exact.
use Rattle.std.proofs.Common.{◌≡◌, ◌≤◌, inl, inr, ℕ, zero, suc, Bool, true, false, not, ◌&&◌, List, [], ◌∷◌, ◌++◌, length, map, Option, Some, None, Ok, Err, refl, ap, sym, subst, ◌∙◌, append_assoc, arith, length-append}
use Rattle.std.specs.List.{list_all, flat_map}
use Rattle.std.proofs.Math.Bool.{and-true}
use Rattle.std.proofs.lemmas.Bool.{and_from, and_parts, not-true}
use Rattle.std.proofs.lemmas.List.{append-nil}
use Rattle.std.proofs.lemmas.List.Concat.{flat_map-cons}
use Rattle.std.proofs.lemmas.List.Folds.{flat_map-map}
use Rattle.domino_tree.specs.declared.token.Token.{Token}
use Rattle.domino_tree.specs.declared.token.Token.TheVariants as token
use Rattle.domino_tree.specs.declared.token.Keyword.TheVariants as keywords
use Rattle.domino_tree.specs.declared.token.Sign.TheVariants as signs
use Rattle.domino_tree.specs.declared.expr.Expr.{Expr}
use Rattle.domino_tree.specs.declared.program.Target.{Target}
use Rattle.domino_tree.specs.declared.program.Target.TheVariants as targets
use Rattle.domino_tree.specs.declared.program.Stmt.{Stmt}
use Rattle.domino_tree.specs.declared.program.Stmt.TheVariants as stmt
use Rattle.domino_tree.specs.declared.program.Arm.{Arm}
use Rattle.domino_tree.specs.Grammar.{is_name, spelled, stands, target_tokens, is_target, in_square, block_tokens, with_elses, all_true, stmt_tokens, is_stmt, arm_tokens, is_arm}
use Rattle.domino_tree.proofs.StmtLemmas as lemmas
use Rattle.domino_syntax.specs.Parsers.{Parser, first, sees_sign, sees_keyword}
use Rattle.domino_syntax.specs.ReadingPrograms.{dotted, indexed, after_name, target, assignment, begins_statement, block, arm, links, conditional, statement}
use Rattle.domino_syntax.proofs.Exact.{Grammar, Stops, anywhere, Exactly, Exact, exact_below, exact_as, exact_map, Image, exact_pure, Nothing, Then, Either, exact_choice, Many, exact_all, By, list_to, list_from, first_none}
use Rattle.domino_syntax.proofs.OneToken.{IsName, name_tokens, exact_sign, exact_keyword, exact_name, Behind, Closed, exact_closed}
use Rattle.domino_syntax.proofs.Known.{exact_some, in_turn, behind, opened, Rest, rest_known, rest_token, rest_opened, rest_part, exact_by}
use Rattle.domino_syntax.proofs.ExpressionsStops.{stops_at}
use Rattle.domino_syntax.proofs.ExpressionsForms.{At}
use Rattle.domino_syntax.proofs.ExpressionsLevels.{exact_expression}

-- any expression
abbrev is_expression : Expr → Bool
is_expression e = stands e 0

abbrev IsExpression : Grammar Expr
IsExpression = At 0

abbrev ends_expression : Stops
ends_expression = stops_at 0

-- ---- targets

-- the name that a target begins with
abbrev word_of : Target → List ℕ
word_of (targets.Word w) = w
word_of (targets.Field p f) = p
word_of (targets.Cell a i) = a

-- the tokens after that name
abbrev after_word : Target → List Token
after_word (targets.Word w) = []
after_word (targets.Field p f) = token.Sign signs.Dot ∷ token.Name f ∷ []
after_word (targets.Cell a i) = in_square (spelled i)

abbrev holds_after : Target → Bool
holds_after (targets.Word w) = true
holds_after (targets.Field p f) = is_name f
holds_after (targets.Cell a i) = is_expression i

abbrev AfterWord : List ℕ → Grammar Target
AfterWord w = Rest after_word holds_after (λ t. Unit {0} × (word_of t ≡ w))

abbrev IsDotted : List ℕ → Grammar Target
IsDotted w = Behind (token.Sign signs.Dot) (Image (targets.Field w) IsName)

abbrev IsIndexed : List ℕ → Grammar Target
IsIndexed w = Behind (token.Sign signs.OpenSquare) (Closed (token.Sign signs.CloseSquare) (targets.Cell w) IsExpression)

abbrev no_suffix : Stops
no_suffix t = not (sees_sign signs.Dot t) && not (sees_sign signs.OpenSquare t)

exact_dotted : {n : ℕ} {stops : Stops} (w : List ℕ) → Exact n (dotted w) (IsDotted w) stops
unfolding dotted
exact_dotted w = behind (token.Sign signs.Dot) (exact_sign signs.Dot) (exact_map (targets.Field w) exact_name)

exact_indexed : {stops : Stops} (n : ℕ) (w : List ℕ) → Exact n (indexed n w) (IsIndexed w) stops
unfolding indexed
exact_indexed n w =
    behind (token.Sign signs.OpenSquare) (exact_sign signs.OpenSquare)
    (exact_closed {stops = ends_expression} (token.Sign signs.CloseSquare) (targets.Cell w) (exact_expression n) refl (exact_sign signs.CloseSquare))

abbrev Suffixes : List ℕ → Grammar Target
Suffixes w = Either (IsDotted w) (Either (IsIndexed w) (Nothing (targets.Word w)))

suffix_to : (w : List ℕ) (used : List Token) (t : Target) → Suffixes w used t → AfterWord w used t
suffix_to w used t (inl h) =
    subst (AfterWord w used) (sym h.form.is) (record { text = h.text ∙ ap (λ l. token.Sign signs.Dot ∷ l) h.form.form.text; holds = h.form.form.holds; knows = (tt, refl) })
suffix_to w used t (inr (inl h)) =
    subst (AfterWord w used) (sym h.form.is) (record {
      text = h.text ∙ ap (λ l. token.Sign signs.OpenSquare ∷ l) (h.form.text ∙ ap (λ l. l ++ (token.Sign signs.CloseSquare ∷ [])) h.form.form.text);
      holds = h.form.form.holds;
      knows = (tt, refl);
    })
suffix_to w used t (inr (inr h)) = subst (AfterWord w used) (sym h.is) (record { text = h.text; holds = refl; knows = (tt, refl) })

suffix_from : (w : List ℕ) (used : List Token) (t : Target) → AfterWord w used t → Suffixes w used t
suffix_from w used (targets.Word v) h = inr (inr (record { text = h.text; is = ap targets.Word h.knows.1 }))
suffix_from w used (targets.Field p f) h =
    inl (record { inner = token.Name f ∷ []; text = h.text; form = record { value = f; form = record { text = refl; holds = h.holds }; is = ap (λ p. targets.Field p f) h.knows.1 } })
suffix_from w used (targets.Cell a i) h = inr (inl (record {
  inner = spelled i ++ (token.Sign signs.CloseSquare ∷ []);
  text = h.text;
  form = record { inner = spelled i; value = i; text = refl; form = record { text = refl; holds = h.holds }; is = ap (λ a. targets.Cell a i) h.knows.1 };
}))

exact_after_name : (n : ℕ) (w : List ℕ) → Exact n (after_name n w) (AfterWord w) no_suffix
unfolding after_name
exact_after_name n w =
    exact_as (AfterWord w)
    (exact_choice (sees_sign signs.Dot) (exact_dotted w)
    (exact_choice (sees_sign signs.OpenSquare) (exact_indexed n w) (exact_pure (targets.Word w))
    (λ used rest x h stop. ap (λ l. sees_sign signs.OpenSquare (first (l ++ rest))) h.text)
    (λ used rest x h stop. ap (λ l. sees_sign signs.OpenSquare (first (l ++ rest))) h.text ∙ not-true (sees_sign signs.OpenSquare (first rest)) (both (first rest) stop).1))
    (λ used rest x h stop. ap (λ l. sees_sign signs.Dot (first (l ++ rest))) h.text)
    others)
    (suffix_to w) (suffix_from w)
  where
    both : (t : Option Token) → no_suffix t ≡ true → (not (sees_sign signs.Dot t) ≡ true) × (not (sees_sign signs.OpenSquare t) ≡ true)
    both t h = and_parts (not (sees_sign signs.Dot t)) (not (sees_sign signs.OpenSquare t)) h

    others : (used rest : List Token) (x : Target) → Either (IsIndexed w) (Nothing (targets.Word w)) used x → no_suffix (first rest) ≡ true → sees_sign signs.Dot (first (used ++ rest)) ≡ false
    others used rest x (inl h) stop = ap (λ l. sees_sign signs.Dot (first (l ++ rest))) h.text
    others used rest x (inr h) stop = ap (λ l. sees_sign signs.Dot (first (l ++ rest))) h.text ∙ not-true (sees_sign signs.Dot (first rest)) (both (first rest) stop).0

target_spells : (t : Target) → name_tokens (word_of t) ++ after_word t ≡ target_tokens t
target_spells (targets.Word w) = refl
target_spells (targets.Field p f) = refl
target_spells (targets.Cell a i) = refl

target_tests : (t : Target) → (is_name (word_of t) && holds_after t) ≡ is_target t
target_tests (targets.Word w) = and-true (is_name w)
target_tests (targets.Field p f) = refl
target_tests (targets.Cell a i) = refl

exact_target : (n : ℕ) → Exact n (target n) (By target_tokens is_target) no_suffix
unfolding target
exact_target n =
    exact_by target_tokens is_target
    (rest_part word_of name_tokens is_name after_word holds_after (λ _. Unit {0}) anywhere exact_name (exact_after_name n) (λ y rest stop. refl))
    target_spells target_tests

-- ---- assignments

pub record IsSet (used : List Token) (s : Stmt) : Type 0 where
  pub to : Target
  pub value : Expr
  pub text : used ≡ target_tokens to ++ (token.Sign signs.Assign ∷ (spelled value ++ (token.Sign signs.Semicolon ∷ [])))
  pub holds : (is_target to && is_expression value) ≡ true
  pub is : s ≡ stmt.Set to value

abbrev AfterTarget : Target → Grammar Stmt
AfterTarget to = Behind (token.Sign signs.Assign) (Closed (token.Sign signs.Semicolon) (stmt.Set to) IsExpression)

exact_assignment : {stops : Stops} (n : ℕ) → Exact n (assignment n) IsSet stops
unfolding assignment
exact_assignment n =
    exact_as IsSet
    (in_turn no_suffix (exact_target n)
    (λ to. behind (token.Sign signs.Assign) (exact_sign signs.Assign)
    (exact_closed {stops = ends_expression} (token.Sign signs.Semicolon) (stmt.Set to) (exact_expression n) refl (exact_sign signs.Semicolon)))
    (λ to used rest y h stop. ap (λ l. no_suffix (first (l ++ rest))) h.text))
    set_to set_from
  where
    set_to : (used : List Token) (s : Stmt) → Then (By target_tokens is_target) AfterTarget used s → IsSet used s
    set_to used s h =
        let last = h.second.form in
        record {
          to = h.value;
          value = last.value;
          text = h.parts ∙ (ap (λ l. l ++ h.back) h.first.text ∙ ap (λ l. target_tokens h.value ++ l) (h.second.text ∙ ap (λ l. token.Sign signs.Assign ∷ l) (last.text ∙ ap (λ l. l ++ (token.Sign signs.Semicolon ∷ [])) last.form.text)));
          holds = and_from (is_target h.value) (is_expression last.value) h.first.holds last.form.holds;
          is = last.is;
        }

    set_from : (used : List Token) (s : Stmt) → IsSet used s → Then (By target_tokens is_target) AfterTarget used s
    set_from used s h =
        let holds = and_parts (is_target h.to) (is_expression h.value) h.holds in
        record {
          value = h.to;
          front = target_tokens h.to;
          back = token.Sign signs.Assign ∷ (spelled h.value ++ (token.Sign signs.Semicolon ∷ []));
          parts = h.text;
          first = record { text = refl; holds = holds.0 };
          second = record {
            inner = spelled h.value ++ (token.Sign signs.Semicolon ∷ []);
            text = refl;
            form = record { inner = spelled h.value; value = h.value; text = refl; form = record { text = refl; holds = holds.1 }; is = h.is };
          };
        }

target_sees : (t : Target) (rest : List Token) → first (target_tokens t ++ rest) ≡ Some (token.Name (word_of t))
target_sees (targets.Word w) rest = refl
target_sees (targets.Field p f) rest = refl
target_sees (targets.Cell a i) rest = refl

set_sees : (used rest : List Token) (s : Stmt) (h : IsSet used s) → first (used ++ rest) ≡ Some (token.Name (word_of h.to))
set_sees used rest s h =
    ap (λ l. first (l ++ rest)) h.text ∙ (ap first (append_assoc (target_tokens h.to) _ rest) ∙ target_sees h.to _)

-- ---- chains

abbrev pub IsArm : Grammar Arm
IsArm = By arm_tokens is_arm

abbrev pub body_tokens : List Stmt → List Token
body_tokens body = block_tokens (map stmt_tokens body)

abbrev pub is_body : List Stmt → Bool
is_body body = all_true (map is_stmt body)

abbrev pub IsBlock : Grammar (List Stmt)
IsBlock = By body_tokens is_body

abbrev last_tokens : Option (List Stmt) → List Token
last_tokens None = []
last_tokens (Some body) = token.Keyword keywords.Else ∷ body_tokens body

abbrev is_last_body : Option (List Stmt) → Bool
is_last_body None = true
is_last_body (Some body) = is_body body

-- the tokens after an arm
abbrev links_tokens : List Arm → Option (List Stmt) → List Token
links_tokens more last = with_elses (map arm_tokens more) ++ last_tokens last

abbrev are_links : List Arm → Option (List Stmt) → Bool
are_links more last = all_true (map is_arm more) && is_last_body last

record IsLinks (arms : List Arm) (used : List Token) (s : Stmt) : Type 0 where
  pub more : List Arm
  pub last : Option (List Stmt)
  pub text : used ≡ links_tokens more last
  pub holds : are_links more last ≡ true
  pub is : s ≡ stmt.If (arms ++ more) last

pub record IsIf (used : List Token) (s : Stmt) : Type 0 where
  pub arm : Arm
  pub more : List Arm
  pub last : Option (List Stmt)
  pub text : used ≡ arm_tokens arm ++ links_tokens more last
  pub holds : (is_arm arm && are_links more last) ≡ true
  pub is : s ≡ stmt.If (arm ∷ more) last

abbrev pub no_else : Stops
no_else t = not (sees_keyword keywords.Else t)

arm_is : (a : Arm) → arm_tokens a ≡ token.Keyword keywords.If ∷ token.Sign signs.OpenRound ∷ ((spelled a.cond ++ (token.Sign signs.CloseRound ∷ [])) ++ body_tokens a.body)
arm_is a = lemmas.arm_tokens-Arm a.cond a.body

arm_sees : (a : Arm) (rest : List Token) → first (arm_tokens a ++ rest) ≡ Some (token.Keyword keywords.If)
arm_sees a rest = ap (λ l. first (l ++ rest)) (arm_is a)

-- what comes after `else`
abbrev AnotherArm : List Arm → Grammar Stmt
AnotherArm arms = Then IsArm (λ a. IsLinks (arms ++ a ∷ []))

abbrev LastBlock : List Arm → Grammar Stmt
LastBlock arms = Image (λ body. stmt.If arms (Some body)) IsBlock

abbrev Links : List Arm → Grammar Stmt
Links arms = Either (Behind (token.Keyword keywords.Else) (Either (AnotherArm arms) (LastBlock arms))) (Nothing (stmt.If arms None))

another_to : (arms : List Arm) (used inner : List Token) (s : Stmt) → used ≡ token.Keyword keywords.Else ∷ inner → AnotherArm arms inner s → IsLinks arms used s
another_to arms used inner s is h =
    let a = h.value in
    let later = h.second in
    record {
      more = a ∷ later.more;
      last = later.last;
      text = is ∙ (ap (λ l. token.Keyword keywords.Else ∷ l) (h.parts ∙ (ap (λ l. l ++ h.back) h.first.text ∙ ap (λ l. arm_tokens a ++ l) later.text))
          ∙ (sym (append_assoc (token.Keyword keywords.Else ∷ arm_tokens a) (with_elses (map arm_tokens later.more)) (last_tokens later.last))
          ∙ ap (λ l. l ++ last_tokens later.last) (sym (flat_map-cons (λ tokens. token.Keyword keywords.Else ∷ tokens) (arm_tokens a) (map arm_tokens later.more)))));
      holds =
          let holds = and_parts (all_true (map is_arm later.more)) (is_last_body later.last) later.holds in
          and_from (all_true (map is_arm (a ∷ later.more))) (is_last_body later.last) (and_from (is_arm a) (all_true (map is_arm later.more)) h.first.holds holds.0) holds.1;
      is = later.is ∙ ap (λ arms. stmt.If arms later.last) (append_assoc arms (a ∷ []) later.more);
    }

links_to : (arms : List Arm) (used : List Token) (s : Stmt) → Links arms used s → IsLinks arms used s
links_to arms used s (inl h) = after_else arms used h.inner s h.text h.form
  where
    after_else : (arms : List Arm) (used inner : List Token) (s : Stmt) → used ≡ token.Keyword keywords.Else ∷ inner → Either (AnotherArm arms) (LastBlock arms) inner s → IsLinks arms used s
    after_else arms used inner s is (inl h) = another_to arms used inner s is h
    after_else arms used inner s is (inr h) =
        record { more = []; last = Some h.value; text = is ∙ ap (λ l. token.Keyword keywords.Else ∷ l) h.form.text; holds = h.form.holds; is = h.is ∙ ap (λ arms. stmt.If arms (Some h.value)) (sym (append-nil arms)) }
links_to arms used s (inr h) = record { more = []; last = None; text = h.text; holds = refl; is = h.is ∙ ap (λ arms. stmt.If arms None) (sym (append-nil arms)) }

links_from_parts : (arms : List Arm) (used : List Token) (s : Stmt) (more : List Arm) (last : Option (List Stmt)) → used ≡ links_tokens more last → are_links more last ≡ true → s ≡ stmt.If (arms ++ more) last → Links arms used s
links_from_parts arms used s [] None text holds is = inr (record { text = text; is = is ∙ ap (λ arms. stmt.If arms None) (append-nil arms) })
links_from_parts arms used s [] (Some body) text holds is =
    inl (record { inner = body_tokens body; text = text; form = inr (record { value = body; form = record { text = refl; holds = holds }; is = is ∙ ap (λ arms. stmt.If arms (Some body)) (append-nil arms) }) })
links_from_parts arms used s (a ∷ more) last text holds is =
    let both = and_parts (all_true (map is_arm (a ∷ more))) (is_last_body last) holds in
    let all = and_parts (is_arm a) (all_true (map is_arm more)) both.0 in
    inl (record {
      inner = arm_tokens a ++ links_tokens more last;
      text = text
          ∙ (ap (λ l. l ++ last_tokens last) (flat_map-cons (λ tokens. token.Keyword keywords.Else ∷ tokens) (arm_tokens a) (map arm_tokens more))
          ∙ append_assoc (token.Keyword keywords.Else ∷ arm_tokens a) (with_elses (map arm_tokens more)) (last_tokens last));
      form = inl (record {
        value = a;
        front = arm_tokens a;
        back = links_tokens more last;
        parts = refl;
        first = record { text = refl; holds = all.0 };
        second = record { more = more; last = last; text = refl; holds = and_from (all_true (map is_arm more)) (is_last_body last) all.1 both.1; is = is ∙ ap (λ arms. stmt.If arms last) (sym (append_assoc arms (a ∷ []) more)) };
      });
    })

links_from : (arms : List Arm) (used : List Token) (s : Stmt) → IsLinks arms used s → Links arms used s
links_from arms used s h = links_from_parts arms used s h.more h.last h.text h.holds h.is

another_sees : (arms : List Arm) (used rest : List Token) (s : Stmt) → AnotherArm arms used s → sees_keyword keywords.If (first (used ++ rest)) ≡ true
another_sees arms used rest s h =
    ap (λ l. sees_keyword keywords.If (first (l ++ rest))) (h.parts ∙ ap (λ l. l ++ h.back) h.first.text)
    ∙ (ap (λ l. sees_keyword keywords.If (first l)) (append_assoc (arm_tokens h.value) h.back rest) ∙ ap (sees_keyword keywords.If) (arm_sees h.value (h.back ++ rest)))

module _ (d : ℕ) (another : Parser Arm) (last : Parser (List Stmt)) (exact_another : Exact (suc d) another IsArm anywhere) (exact_last : Exact d last IsBlock no_else) where
  links_none : (arms : List Arm) (tokens : List Token) → length tokens ≤ 0 → Exactly (Links arms) no_else tokens (Ok (stmt.If arms None, tokens))
  links_none arms tokens few = record {
    used = [];
    parts = refl;
    form = inr (record { text = refl; is = refl });
    only = λ more front back y next is h stop. at_end more front back y (first_none more (next ∙ ap first (empty tokens few))) is h;
  }
    where
      empty : (tokens : List Token) → length tokens ≤ 0 → tokens ≡ []
      empty [] few = refl
      empty (t ∷ tokens) few = absurd (omega arith)

      at_end : (more front back : List Token) (y : Stmt) → more ≡ [] → more ≡ front ++ back → Links arms front y → (front ≡ []) × (y ≡ stmt.If arms None)
      at_end more front back y nothing is (inl h) = absurd (omega (arith, ap length nothing, ap length is, length-append front back, ap length h.text))
      at_end more front back y nothing is (inr h) = (h.text, h.is)

  exact_links : (k : ℕ) → k ≤ suc d → (arms : List Arm) → Exact k (links another last k arms) (IsLinks arms) no_else
  unfolding links
  exact_links zero le arms = exact_as (IsLinks arms) (record { reads = λ tokens few named. links_none arms tokens few }) (links_to arms) (links_from arms)
  exact_links (suc k) le arms =
      exact_as (IsLinks arms)
      (exact_choice (sees_keyword keywords.Else)
      (opened (token.Keyword keywords.Else) (exact_keyword keywords.Else)
      (exact_choice (sees_keyword keywords.If)
      (in_turn anywhere (exact_below k (omega arith) exact_another) (λ a. exact_links k (omega arith) (arms ++ a ∷ [])) (λ a used rest y h stop. refl))
      (exact_map (λ body. stmt.If arms (Some body)) (exact_below k (omega arith) exact_last))
      (λ used rest s h stop. another_sees arms used rest s h)
      (λ used rest s h stop. ap (λ l. sees_keyword keywords.If (first (l ++ rest))) h.form.text)))
      (exact_pure (stmt.If arms None))
      (λ used rest s h stop. ap (λ l. sees_keyword keywords.Else (first (l ++ rest))) h.text)
      (λ used rest s h stop. ap (λ l. sees_keyword keywords.Else (first (l ++ rest))) h.text ∙ not-true (sees_keyword keywords.Else (first rest)) stop))
      (links_to arms) (links_from arms)

  exact_after_arm : (a : Arm) → Exact (suc d) (λ tokens. links another last (length tokens) (a ∷ []) tokens) (IsLinks (a ∷ [])) no_else
  exact_after_arm a = record { reads = λ tokens few named. (exact_links (length tokens) few (a ∷ [])).reads tokens (omega arith) named }

-- ---- blocks and arms

abbrev pub IsStmt : Grammar Stmt
IsStmt = By stmt_tokens is_stmt

set_form : (used : List Token) (s : Stmt) → IsSet used s → IsStmt used s
set_form used s h = record {
  text = h.text ∙ (sym (lemmas.stmt_tokens-Set h.to h.value) ∙ ap stmt_tokens (sym h.is));
  holds = ap is_stmt h.is ∙ (lemmas.is_stmt-Set h.to h.value ∙ h.holds);
}

chain_spells : (a : Arm) (more : List Arm) (last : Option (List Stmt)) → stmt_tokens (stmt.If (a ∷ more) last) ≡ arm_tokens a ++ links_tokens more last
chain_spells a more None = lemmas.stmt_tokens-If (a ∷ more) ∙ append_assoc (arm_tokens a) (with_elses (map arm_tokens more)) []
chain_spells a more (Some body) = lemmas.stmt_tokens-Else (a ∷ more) body ∙ append_assoc (arm_tokens a) (with_elses (map arm_tokens more)) (last_tokens (Some body))

and_assoc : (a b c : Bool) → ((a && b) && c) ≡ (a && (b && c))
and_assoc true b c = refl
and_assoc false b c = refl

chain_tests : (a : Arm) (more : List Arm) (last : Option (List Stmt)) → is_stmt (stmt.If (a ∷ more) last) ≡ (is_arm a && are_links more last)
chain_tests a more None = lemmas.is_stmt-If (a ∷ more) ∙ and_assoc (is_arm a) (all_true (map is_arm more)) true
chain_tests a more (Some body) = lemmas.is_stmt-Else (a ∷ more) body ∙ and_assoc (is_arm a) (all_true (map is_arm more)) (is_body body)

if_form : (used : List Token) (s : Stmt) → IsIf used s → IsStmt used s
if_form used s h = record {
  text = h.text ∙ (sym (chain_spells h.arm h.more h.last) ∙ ap stmt_tokens (sym h.is));
  holds = ap is_stmt h.is ∙ (chain_tests h.arm h.more h.last ∙ h.holds);
}

stmt_to : (used : List Token) (s : Stmt) → Either IsIf IsSet used s → IsStmt used s
stmt_to used s (inl h) = if_form used s h
stmt_to used s (inr h) = set_form used s h

-- a chain has an arm
chain_from : (used : List Token) (arms : List Arm) (last : Option (List Stmt)) → IsStmt used (stmt.If arms last) → Either IsIf IsSet used (stmt.If arms last)
chain_from used [] None h = absurd (let e = sym (lemmas.is_stmt-If []) ∙ h.holds in cc)
chain_from used [] (Some body) h = absurd (let e = sym (lemmas.is_stmt-Else [] body) ∙ h.holds in cc)
chain_from used (a ∷ more) last h =
    inl (record { arm = a; more = more; last = last; text = h.text ∙ chain_spells a more last; holds = sym (chain_tests a more last) ∙ h.holds; is = refl })

stmt_cases : (s : Stmt) (used : List Token) → IsStmt used s → Either IsIf IsSet used s
stmt_cases =
    lemmas.induct (λ s. (used : List Token) → IsStmt used s → Either IsIf IsSet used s) (λ a. Unit {0})
    (λ t x used h. inr (record { to = t; value = x; text = h.text ∙ lemmas.stmt_tokens-Set t x; holds = sym (lemmas.is_stmt-Set t x) ∙ h.holds; is = refl }))
    (λ arms each used h. chain_from used arms None h)
    (λ arms body each more used h. chain_from used arms (Some body) h)
    (λ cond body each. tt)

stmt_from : (used : List Token) (s : Stmt) → IsStmt used s → Either IsIf IsSet used s
stmt_from used s h = stmt_cases s used h

if_sees : (used rest : List Token) (s : Stmt) → IsIf used s → first (used ++ rest) ≡ Some (token.Keyword keywords.If)
if_sees used rest s h =
    ap (λ l. first (l ++ rest)) h.text ∙ (ap first (append_assoc (arm_tokens h.arm) (links_tokens h.more h.last) rest) ∙ arm_sees h.arm (links_tokens h.more h.last ++ rest))

stmt_begins : (used rest : List Token) (s : Stmt) → Either IsIf IsSet used s → begins_statement (first (used ++ rest)) ≡ true
stmt_begins used rest s (inl h) = ap begins_statement (if_sees used rest s h)
stmt_begins used rest s (inr h) = ap begins_statement (set_sees used rest s h)

stmt_long : (used : List Token) (s : Stmt) → Either IsIf IsSet used s → 1 ≤ length used
stmt_long used s (inl h) = omega (arith, ap length h.text, length-append (arm_tokens h.arm) (links_tokens h.more h.last), ap length (arm_is h.arm))
stmt_long used s (inr h) = omega (arith, ap length h.text, length-append (target_tokens h.to) (token.Sign signs.Assign ∷ (spelled h.value ++ (token.Sign signs.Semicolon ∷ []))))

-- no statement goes on or begins
abbrev no_statement : Stops
no_statement t = not (begins_statement t) && no_else t

begins_no_else : (t : Option Token) → begins_statement t ≡ true → no_else t ≡ true
begins_no_else None h = refl
begins_no_else (Some (token.Name w)) h = refl
begins_no_else (Some (token.Keyword keywords.Struct)) h = refl
begins_no_else (Some (token.Keyword keywords.Int)) h = refl
begins_no_else (Some (token.Keyword keywords.Void)) h = refl
begins_no_else (Some (token.Keyword keywords.If)) h = refl
begins_no_else (Some (token.Keyword keywords.Else)) h = h
begins_no_else (Some token.Define) h = refl
begins_no_else (Some (token.Number n)) h = refl
begins_no_else (Some (token.Sign s)) h = refl

all_each : {A : Type 0} (test : A → Bool) (xs : List A) → all_true (map test xs) ≡ list_all test xs
all_each test [] = refl
all_each test (x ∷ xs) = ap (λ b. test x && b) (all_each test xs)

block_to : (used : List Token) (body : List Stmt) → Behind (token.Sign signs.OpenCurly) (Closed (token.Sign signs.CloseCurly) (λ body. body) (Many IsStmt)) used body → IsBlock used body
block_to used body h =
    let many = list_to stmt_tokens is_stmt h.form.inner h.form.value h.form.form in
    subst (IsBlock used) (sym h.form.is) (record {
      text = h.text ∙ ap (λ l. token.Sign signs.OpenCurly ∷ l) (h.form.text ∙ ap (λ l. l ++ (token.Sign signs.CloseCurly ∷ [])) (many.text ∙ sym (flat_map-map (λ l. l) stmt_tokens h.form.value)));
      holds = all_each is_stmt h.form.value ∙ many.holds;
    })

block_from : (used : List Token) (body : List Stmt) → IsBlock used body → Behind (token.Sign signs.OpenCurly) (Closed (token.Sign signs.CloseCurly) (λ body. body) (Many IsStmt)) used body
block_from used body h = record {
  inner = flat_map stmt_tokens body ++ (token.Sign signs.CloseCurly ∷ []);
  text = h.text ∙ ap (λ l. token.Sign signs.OpenCurly ∷ (l ++ (token.Sign signs.CloseCurly ∷ []))) (flat_map-map (λ l. l) stmt_tokens body);
  form = record { inner = flat_map stmt_tokens body; value = body; text = refl; form = list_from stmt_tokens is_stmt (flat_map stmt_tokens body) body (record { text = refl; holds = sym (all_each is_stmt body) ∙ h.holds }); is = refl };
}

pub exact_block : {n : ℕ} {stops : Stops} (form : Parser Stmt) → Exact n form IsStmt no_else → Exact n (block form) IsBlock stops
unfolding block
exact_block form exact =
    exact_as IsBlock
    (behind (token.Sign signs.OpenCurly) (exact_sign signs.OpenCurly)
    (exact_closed {stops = no_statement} (token.Sign signs.CloseCurly) (λ body. body)
    (exact_all IsStmt {between = no_else} begins_statement no_statement exact
    (λ used s h. stmt_long used s (stmt_from used s h))
    (λ used rest s h. stmt_begins used rest s (stmt_from used s h))
    begins_no_else
    (λ t h. not-true (begins_statement t) (and_parts (not (begins_statement t)) (no_else t) h).0)
    (λ t h. (and_parts (not (begins_statement t)) (no_else t) h).1))
    refl (exact_sign signs.CloseCurly)))
    block_to block_from

same_arm : (cond : Expr) (body : List Stmt) (y : Arm) → y.cond ≡ cond → y.body ≡ body → y ≡ record { cond = cond; body = body }
same_arm cond body y is_cond is_body = rw (sym is_cond, sym is_body)

exact_arm : {stops : Stops} (d : ℕ) (form : Parser Stmt) → Exact d form IsStmt no_else → Exact (suc d) (arm d form) IsArm stops
unfolding arm
exact_arm d form exact =
    exact_by arm_tokens is_arm
    (rest_opened (token.Keyword keywords.If) (exact_keyword keywords.If)
    (rest_token (token.Sign signs.OpenRound) (exact_sign signs.OpenRound)
    (rest_part (λ a. a.cond) spelled is_expression _ _ _ ends_expression (exact_expression d)
    (λ cond. rest_token (token.Sign signs.CloseRound) (exact_sign signs.CloseRound)
    (rest_part (λ a. a.body) body_tokens is_body _ _ _ anywhere (exact_block form exact)
    (λ body. rest_known (λ y. (Unit {0} × (y.cond ≡ cond)) × (y.body ≡ body)) (record { cond = cond; body = body }) ((tt, refl), refl) (λ y h. same_arm cond body y h.0.1 h.1))
    (λ y rest stop. refl)))
    (λ y rest stop. refl))))
    (λ a. ap (λ l. token.Keyword keywords.If ∷ token.Sign signs.OpenRound ∷ l)
    (ap (λ l. spelled a.cond ++ (token.Sign signs.CloseRound ∷ l)) (append-nil (body_tokens a.body)) ∙ sym (append_assoc (spelled a.cond) (token.Sign signs.CloseRound ∷ []) (body_tokens a.body)))
    ∙ sym (arm_is a))
    (λ a. ap (λ b. is_expression a.cond && b) (and-true (is_body a.body)) ∙ sym (lemmas.is_arm-Arm a.cond a.body))

-- ---- statements

exact_conditional : (d : ℕ) (form : Parser Stmt) → Exact d form IsStmt no_else → Exact (suc d) (conditional d form) IsIf no_else
unfolding conditional
exact_conditional d form exact =
    exact_as IsIf
    (in_turn anywhere (exact_arm d form exact) (exact_after_arm d (arm d form) (block form) (exact_arm d form exact) (exact_block form exact)) (λ a used rest y h stop. refl))
    (λ used s h. record {
      arm = h.value;
      more = h.second.more;
      last = h.second.last;
      text = h.parts ∙ (ap (λ l. l ++ h.back) h.first.text ∙ ap (λ l. arm_tokens h.value ++ l) h.second.text);
      holds = and_from (is_arm h.value) (are_links h.second.more h.second.last) h.first.holds h.second.holds;
      is = h.second.is;
    })
    (λ used s h.
    let holds = and_parts (is_arm h.arm) (are_links h.more h.last) h.holds in
    record {
      value = h.arm;
      front = arm_tokens h.arm;
      back = links_tokens h.more h.last;
      parts = h.text;
      first = record { text = refl; holds = holds.0 };
      second = record { more = h.more; last = h.last; text = refl; holds = holds.1; is = h.is };
    })

some_statement : (used : List Token) × (s : Stmt) × IsStmt used s
some_statement =
    let some = exact_some {stops = no_else} (exact_assignment 0) in
    (some.0, some.1, set_form some.0 some.1 some.2)

no_tokens : (tokens : List Token) → length tokens ≤ 0 → Exactly IsStmt no_else tokens (Err tokens)
no_tokens [] few = record {
  used = [];
  parts = refl;
  begins = some_statement;
  none = λ more front back s next is h stop.
      omega (arith, ap length (first_none more next), ap length is, length-append front back, stmt_long front s (stmt_from front s h));
}
no_tokens (t ∷ tokens) few = absurd (omega arith)

pub exact_statement : (d : ℕ) → Exact d (statement d) IsStmt no_else
unfolding statement
exact_statement zero = record { reads = λ tokens few named. no_tokens tokens few }
exact_statement (suc d) =
    exact_as IsStmt
    (exact_choice (sees_keyword keywords.If) (exact_conditional d (statement d) (exact_statement d)) (exact_assignment (suc d))
    (λ used rest s h stop. ap (sees_keyword keywords.If) (if_sees used rest s h))
    (λ used rest s h stop. ap (sees_keyword keywords.If) (set_sees used rest s h)))
    stmt_to stmt_from
