-- The parser of expressions is exact at each level, and so for any expression.
use Rattle.std.proofs.Common.{◌≡◌, ℕ, zero, suc, ◌+◌, ◌-◌, ◌≤◌, Bool, true, false, ◌&&◌, if◌then◌else◌, nat_le, nat_eq, List, [], ◌∷◌, ◌++◌, length, Option, Some, None, Err, inl, inr, refl, ap, sym, subst, ◌∙◌, append_assoc, arith, length-append, IfSome, rules}
use Rattle.std.specs.Option.{is_some}
use Rattle.std.proofs.lemmas.Bool.{and_from, and_parts, eqb-true, eq-eqb, ne_eqb, leb-true, le-leb}
use Rattle.std.proofs.lemmas.List.{append-nil}
use Rattle.mp5_words.specs.declared.op.Op2.{Op2}
use Rattle.mp5_words.specs.declared.op.Op2.TheVariants as op2
use Rattle.domino_tree.specs.declared.token.Token.{Token}
use Rattle.domino_tree.specs.declared.token.Token.TheVariants as token
use Rattle.domino_tree.specs.declared.token.Sign.{Sign}
use Rattle.domino_tree.specs.declared.token.Sign.TheVariants as signs
use Rattle.domino_tree.specs.declared.expr.Expr.{Expr}
use Rattle.domino_tree.specs.declared.expr.Expr.TheVariants as expr
use Rattle.domino_tree.specs.Grammar.{spelled, stands}
use denote.Enum.Bare.{same_true}
use Rattle.domino_tree.specs.contracts.token.Sign.{the_type as sign_type}
use Rattle.domino_tree.specs.Operators.{sign_of, level, same_sign, operators, operator_between}
use Rattle.domino_syntax.proofs.SignLemmas.{found}
use Rattle.domino_tree.proofs.ExprLemmas.{induct, spelled-Two, spelled-Pick, stands-Number, stands-Word, stands-Field, stands-Cell, stands-One, stands-Two, stands-Pick, stands-Call, stands-Group}
use Rattle.domino_syntax.specs.Parsers.{Parser, first, sees, sees_sign, ◌>>=◌}
use Rattle.domino_syntax.specs.ReadingExpressions.{of_level, a_binary, binary, joined, chain, pick, loosest, behind_level, tier, expression_at, expression}
use Rattle.domino_syntax.proofs.Exact.{Grammar, Stops, Exact, exact_below, exact_as, exact_one, exact_pure, exact_map, exact_then, exact_next, exact_choice, exact_chain, first_none, Nothing, Image, Then, Either, Runs, stay, go, run_on, By}
use Rattle.domino_syntax.proofs.OneToken.{exact_sign, unseen_sign, sees_itself, Behind, behind_first, exact_opened}
use Rattle.domino_syntax.proofs.ExpressionsStops.{stops_at, stops_above, stops_binary, binary_stops}
use Rattle.domino_syntax.proofs.ExpressionsForms.{At, some_expression, at_long, exact_operand}

-- ---- levels of expressions

-- what may stand at a level may stand at a looser one
looser : (k : ℕ) (e : Expr) → stands e (suc k) ≡ true → stands e k ≡ true
looser k e =
    induct (λ e. stands e (suc k) ≡ true → stands e k ≡ true)
    (λ n h. stands-Number n k)
    (λ w h. stands-Word w k ∙ (sym (stands-Word w (suc k)) ∙ h))
    (λ p f h. stands-Field p f k ∙ (sym (stands-Field p f (suc k)) ∙ h))
    (λ a i _ h. stands-Cell a i k ∙ (sym (stands-Cell a i (suc k)) ∙ h))
    (λ op a _ h.
    let holds = and_parts (nat_le (suc k) 11) (stands a 11) (sym (stands-One op a (suc k)) ∙ h) in
    stands-One op a k ∙ and_from (nat_le k 11) (stands a 11) (le-leb k 11 (omega (arith, leb-true (suc k) 11 holds.0))) holds.1)
    (λ op a b _ _ h.
    let holds = and_parts (nat_le (suc k) (level op)) _ (sym (stands-Two op a b (suc k)) ∙ h) in
    stands-Two op a b k ∙ and_from (nat_le k (level op)) _ (le-leb k (level op) (omega (arith, leb-true (suc k) (level op) holds.0))) holds.1)
    (λ c a b _ _ _ h.
    let holds = and_parts (nat_eq (suc k) 0) _ (sym (stands-Pick c a b (suc k)) ∙ h) in
    absurd (omega (arith, eqb-true (suc k) 0 holds.0)))
    (λ f args _ h. stands-Call f args k ∙ (sym (stands-Call f args (suc k)) ∙ h))
    (λ a _ h. stands-Group a k ∙ (sym (stands-Group a (suc k)) ∙ h))
    e

-- What may stand at a level may stand at the next, but for an operator of the level and, at the loosest, for
-- `c ? a : b`.
module _ (k : ℕ) (few : k ≤ 10) (P : Expr → Type 0)
    (whole : (e : Expr) → stands e (suc k) ≡ true → P e)
    (two : (op : Op2) (a b : Expr) → level op ≡ k → stands a k ≡ true → stands b (suc k) ≡ true → P a → P (expr.Two op a b))
    (picks : (c a b : Expr) → k ≡ 0 → stands c 1 ≡ true → stands a 0 ≡ true → stands b 0 ≡ true → P (expr.Pick c a b)) where
  abbrev Held : Expr → Type 0
  Held e = stands e k ≡ true → P e

  by_level : (op : Op2) (a b : Expr) (same : Bool) → nat_eq (level op) k ≡ same → Held a → nat_le k (level op) ≡ true → (stands a (level op) && stands b (suc (level op))) ≡ true → P (expr.Two op a b)
  by_level op a b true is held le holds =
      let same = eqb-true (level op) k is in
      let parts = and_parts (stands a (level op)) (stands b (suc (level op))) holds in
      let left : stands a k ≡ true = ap (stands a) (sym same) ∙ parts.0 in
      two op a b same left (ap (λ n. stands b (suc n)) (sym same) ∙ parts.1) (held left)
  by_level op a b false is held le holds =
      whole (expr.Two op a b) (stands-Two op a b (suc k) ∙ and_from (nat_le (suc k) (level op)) _ (le-leb (suc k) (level op) (omega (arith, leb-true k (level op) le, differs))) holds)
    where
      differs : level op ≡ k → ⊥
      differs e = let same = eq-eqb (level op) k e in cc

  pub unfold_level : (e : Expr) → Held e
  unfold_level e =
      induct Held
      (λ n h. whole (expr.Number n) (stands-Number n (suc k)))
      (λ w h. whole (expr.Word w) (stands-Word w (suc k) ∙ (sym (stands-Word w k) ∙ h)))
      (λ p f h. whole (expr.Field p f) (stands-Field p f (suc k) ∙ (sym (stands-Field p f k) ∙ h)))
      (λ a i _ h. whole (expr.Cell a i) (stands-Cell a i (suc k) ∙ (sym (stands-Cell a i k) ∙ h)))
      (λ op a _ h.
      let holds = and_parts (nat_le k 11) (stands a 11) (sym (stands-One op a k) ∙ h) in
      whole (expr.One op a) (stands-One op a (suc k) ∙ and_from (nat_le (suc k) 11) (stands a 11) (le-leb (suc k) 11 (omega (arith, few))) holds.1))
      (λ op a b held _ h.
      let holds = and_parts (nat_le k (level op)) _ (sym (stands-Two op a b k) ∙ h) in
      by_level op a b (nat_eq (level op) k) refl held holds.0 holds.1)
      (λ c a b _ _ _ h.
      let holds = and_parts (nat_eq k 0) _ (sym (stands-Pick c a b k) ∙ h) in
      let parts = and_parts (stands c 1) _ holds.1 in
      let last = and_parts (stands a 0) (stands b 0) parts.1 in
      picks c a b (eqb-true k 0 holds.0) parts.0 last.0 last.1)
      (λ f args _ h. whole (expr.Call f args) (stands-Call f args (suc k) ∙ (sym (stands-Call f args k) ∙ h)))
      (λ a _ h. whole (expr.Group a) (stands-Group a (suc k) ∙ (sym (stands-Group a k) ∙ h)))
      e

-- ---- an operator of a level

abbrev IsBinary : ℕ → Grammar Op2
IsBinary k = By (λ op. token.Sign (sign_of op) ∷ []) (λ op. nat_eq (level op) k)

between_is : (s : Sign) (op : Op2) → operator_between s ≡ Some op → s ≡ sign_of op
between_is s op h = sym (same_true sign_type (search rules) (sign_of op) s (of_some (operator_between s) h (found (λ op. same_sign (sign_of op) s) operators)))
  where
    of_some : (o : Option Op2) → o ≡ Some op → IfSome o (λ op. same_sign (sign_of op) s ≡ true) → same_sign (sign_of op) s ≡ true
    of_some o is h = subst (λ o. IfSome o (λ op. same_sign (sign_of op) s ≡ true)) is h

between_of : (op : Op2) → operator_between (sign_of op) ≡ Some op
between_of op2.Mul = refl
between_of op = refl

level_is : (k : ℕ) (s : Sign) (o : Option Op2) (op : Op2) → operator_between s ≡ o → of_level k o ≡ Some op → IsBinary k (token.Sign s ∷ []) op
level_is k s None op is h = cc
level_is k s (Some other) op is h = kept (nat_eq (level other) k) refl h
  where
    kept : (b : Bool) → nat_eq (level other) k ≡ b → (if b then Some other else None) ≡ Some op → IsBinary k (token.Sign s ∷ []) op
    kept true same h =
        let e : other ≡ op = cc in
        record { text = ap (λ s. token.Sign s ∷ []) (between_is s op (is ∙ h)); holds = ap (λ op. nat_eq (level op) k) (sym e) ∙ same }
    kept false same h = cc

binary_to : (k : ℕ) (t : Token) (op : Op2) → a_binary k t ≡ Some op → IsBinary k (t ∷ []) op
binary_to k (token.Name w) op h = cc
binary_to k (token.Keyword l) op h = cc
binary_to k token.Define op h = cc
binary_to k (token.Number n) op h = cc
binary_to k (token.Sign s) op h = level_is k s (operator_between s) op refl h

binary_taken : (k : ℕ) (op : Op2) → nat_eq (level op) k ≡ true → a_binary k (token.Sign (sign_of op)) ≡ Some op
binary_taken k op same = ap (of_level k) (between_of op) ∙ ap (λ b. if b then Some op else None) same

-- each of the ten levels has an operator
some_binary : (k : ℕ) → 1 ≤ k → k ≤ 10 → (op : Op2) × (nat_eq (level op) k ≡ true)
some_binary zero some few = absurd (omega arith)
some_binary (suc zero) some few = (op2.Or, refl)
some_binary (suc (suc zero)) some few = (op2.And, refl)
some_binary (suc (suc (suc zero))) some few = (op2.BitOr, refl)
some_binary (suc (suc (suc (suc zero)))) some few = (op2.BitXor, refl)
some_binary (suc (suc (suc (suc (suc zero))))) some few = (op2.BitAnd, refl)
some_binary (suc (suc (suc (suc (suc (suc zero)))))) some few = (op2.Eq, refl)
some_binary (suc (suc (suc (suc (suc (suc (suc zero))))))) some few = (op2.Lt, refl)
some_binary (suc (suc (suc (suc (suc (suc (suc (suc zero)))))))) some few = (op2.Shl, refl)
some_binary (suc (suc (suc (suc (suc (suc (suc (suc (suc zero))))))))) some few = (op2.Add, refl)
some_binary (suc (suc (suc (suc (suc (suc (suc (suc (suc (suc zero)))))))))) some few = (op2.Mul, refl)
some_binary (suc (suc (suc (suc (suc (suc (suc (suc (suc (suc (suc k))))))))))) some few = absurd (omega (arith, few))

exact_binary : {n : ℕ} {stops : Stops} (k : ℕ) → 1 ≤ k → k ≤ 10 → Exact n (binary k) (IsBinary k) stops
unfolding binary
exact_binary k some few =
    let op = some_binary k some few in
    exact_one (record {
      to = λ t op named h. binary_to k t op h;
      from = λ used op h. (token.Sign (sign_of op), h.text, binary_taken k op h.holds);
      some = (token.Sign (sign_of op.0) ∷ [], op.0, record { text = refl; holds = op.1 });
    })

-- ---- operators of a level, to the left

-- one operator more, and an expression of the next level
abbrev Joins : ℕ → Expr → Grammar Expr
Joins k left = Then (IsBinary k) (λ op. Image (expr.Two op left) (At (suc k)))

join_text : (k : ℕ) (left e : Expr) (used : List Token) → Joins k left used e → spelled e ≡ spelled left ++ used
join_text k left e used h =
    let right = h.second.value in
    ap spelled h.second.is ∙ (spelled-Two h.value left right ∙ ap (λ l. spelled left ++ l) (sym (h.parts ∙ (ap (λ l. l ++ h.back) h.first.text ∙ ap (λ l. token.Sign (sign_of h.value) ∷ l) h.second.form.text))))

join_stands : (k : ℕ) (left e : Expr) (used : List Token) → Joins k left used e → stands left k ≡ true → stands e k ≡ true
join_stands k left e used h holds =
    let op = h.value in
    let right = h.second.value in
    let same : level op ≡ k = eqb-true (level op) k h.first.holds in
    ap (λ e. stands e k) h.second.is ∙ (stands-Two op left right k ∙ and_from (nat_le k (level op)) _ (le-leb k (level op) (omega (arith, same))) (and_from (stands left (level op)) _ (ap (stands left) same ∙ holds) (ap (λ n. stands right (suc n)) same ∙ h.second.form.holds)))

joins_to : (k : ℕ) (left : Expr) (used : List Token) (e : Expr) → Runs (Joins k) left used e → stands left k ≡ true → (spelled e ≡ spelled left ++ used) × (stands e k ≡ true)
joins_to k _ _ _ (stay left) holds = (sym (append-nil (spelled left)), holds)
joins_to k _ _ _ (go left middle e front back h run) holds =
    let later = joins_to k middle back e run (join_stands k left middle front h holds) in
    (later.0 ∙ (ap (λ l. l ++ back) (join_text k left middle front h) ∙ append_assoc (spelled left) front back), later.1)

-- an expression of the next level, and operators that go on from it
abbrev Chained : ℕ → Grammar Expr
Chained k = Then (At (suc k)) (Runs (Joins k))

chained_to : (k : ℕ) (used : List Token) (e : Expr) → Chained k used e → At k used e
chained_to k used e h =
    let whole = joins_to k h.value h.back e h.second (looser k h.value h.first.holds) in
    record { text = h.parts ∙ (ap (λ l. l ++ h.back) h.first.text ∙ sym whole.0); holds = whole.1 }

chained_from : (k : ℕ) → 1 ≤ k → k ≤ 10 → (used : List Token) (e : Expr) → At k used e → Chained k used e
chained_from k some few used e h = subst (λ l. Chained k l e) (sym h.text) (unfold_level k few (λ e. Chained k (spelled e) e) whole two picks e h.holds)
  where
    whole : (e : Expr) → stands e (suc k) ≡ true → Chained k (spelled e) e
    whole e h = record { value = e; front = spelled e; back = []; parts = sym (append-nil (spelled e)); first = record { text = refl; holds = h }; second = stay e }

    two : (op : Op2) (a b : Expr) → level op ≡ k → stands a k ≡ true → stands b (suc k) ≡ true → Chained k (spelled a) a → Chained k (spelled (expr.Two op a b)) (expr.Two op a b)
    two op a b same left right h =
        let step = token.Sign (sign_of op) ∷ spelled b in
        record {
          value = h.value;
          front = h.front;
          back = h.back ++ step;
          parts = spelled-Two op a b ∙ (ap (λ l. l ++ step) h.parts ∙ append_assoc h.front h.back step);
          first = h.first;
          second = run_on (Joins k) h.value h.back a h.second step (expr.Two op a b) (record {
            value = op;
            front = token.Sign (sign_of op) ∷ [];
            back = spelled b;
            parts = refl;
            first = record { text = refl; holds = eq-eqb (level op) k same };
            second = record { value = b; form = record { text = refl; holds = right }; is = refl };
          });
        }

    picks : (c a b : Expr) → k ≡ 0 → stands c 1 ≡ true → stands a 0 ≡ true → stands b 0 ≡ true → Chained k (spelled (expr.Pick c a b)) (expr.Pick c a b)
    picks c a b is h l m = absurd (omega (arith, is, some))

joins_first : (k : ℕ) (left : Expr) (used rest : List Token) (e : Expr) → Joins k left used e → sees (a_binary k) (first (used ++ rest)) ≡ true
joins_first k left used rest e h =
    ap (λ l. sees (a_binary k) (first (l ++ rest))) h.parts ∙ (ap (λ l. sees (a_binary k) (first ((l ++ h.back) ++ rest))) h.first.text ∙ ap is_some (binary_taken k h.value h.first.holds))

exact_level : {n : ℕ} {same : Parser Expr} (k : ℕ) → 1 ≤ k → k ≤ 10 → Exact n same (At (suc k)) (stops_at (suc k)) → Exact n (same >>= chain same k) (At k) (stops_at k)
unfolding chain joined
exact_level k some few exact =
    let e = some_expression (suc k) in
    exact_as (At k)
    (exact_chain (λ _. sees (a_binary k)) _ (Joins k) (stops_at (suc k)) (stops_at k)
    (λ left used e h. omega (arith, ap length h.parts, length-append h.front h.back, ap length h.first.text))
    (joins_first k)
    (λ left. binary_stops k)
    (λ left. stops_binary k)
    (stops_above k)
    exact
    (λ left. exact_next (exact_binary k some few) (λ op. exact_map (expr.Two op left) exact) (λ op. (e.0, expr.Two op left e.1, record { value = e.1; form = e.2; is = refl }))))
    (chained_to k) (chained_from k some few)

-- ---- `c ? a : b`

abbrev Second : Expr → Expr → Grammar Expr
Second c a = Behind (token.Sign signs.Colon) (Image (expr.Pick c a) (At 0))

abbrev Picks : Expr → Grammar Expr
Picks c = Behind (token.Sign signs.Question) (Then (At 0) (Second c))

-- a condition and what is picked, or an expression of the next level
abbrev Picked : Grammar Expr
Picked = Then (At 1) (λ c. Either (Picks c) (Nothing c))

picked_to : (used : List Token) (e : Expr) → Picked used e → At 0 used e
picked_to used e h = choose h.second
  where
    choose : Either (Picks h.value) (Nothing h.value) h.back e → At 0 used e
    choose (inl p) =
        let c = h.value in
        let a = p.form.value in
        let b = p.form.second.form.value in
        let later = p.form.parts ∙ (ap (λ l. l ++ p.form.back) p.form.first.text ∙ ap (λ l. spelled a ++ l) (p.form.second.text ∙ ap (λ l. token.Sign signs.Colon ∷ l) p.form.second.form.form.text)) in
        record {
          text = h.parts ∙ (ap (λ l. l ++ h.back) h.first.text ∙ (ap (λ l. spelled c ++ l) (p.text ∙ ap (λ l. token.Sign signs.Question ∷ l) later) ∙ (sym (spelled-Pick c a b) ∙ ap spelled (sym p.form.second.form.is))));
          holds = ap (λ e. stands e 0) p.form.second.form.is ∙ (stands-Pick c a b 0 ∙ and_from (stands c 1) _ h.first.holds (and_from (stands a 0) (stands b 0) p.form.first.holds p.form.second.form.form.holds));
        }
    choose (inr p) =
        record {
          text = h.parts ∙ (ap (λ l. h.front ++ l) p.text ∙ (append-nil h.front ∙ (h.first.text ∙ ap spelled (sym p.is))));
          holds = ap (λ e. stands e 0) p.is ∙ looser 0 h.value h.first.holds;
        }

picked_from : (used : List Token) (e : Expr) → At 0 used e → Picked used e
picked_from used e h = subst (λ l. Picked l e) (sym h.text) (unfold_level 0 (omega arith) (λ e. Picked (spelled e) e) whole two picks e h.holds)
  where
    whole : (e : Expr) → stands e 1 ≡ true → Picked (spelled e) e
    whole e h = record { value = e; front = spelled e; back = []; parts = sym (append-nil (spelled e)); first = record { text = refl; holds = h }; second = inr (record { text = refl; is = refl }) }

    some_level : (op : Op2) → level op ≡ 0 → ⊥
    some_level op2.Mul h = omega (arith, h)
    some_level op h = omega (arith, h)

    two : (op : Op2) (a b : Expr) → level op ≡ 0 → stands a 0 ≡ true → stands b 1 ≡ true → Picked (spelled a) a → Picked (spelled (expr.Two op a b)) (expr.Two op a b)
    two op a b is left right h = absurd (some_level op is)

    picks : (c a b : Expr) → ◌≡◌ {A = ℕ} 0 0 → stands c 1 ≡ true → stands a 0 ≡ true → stands b 0 ≡ true → Picked (spelled (expr.Pick c a b)) (expr.Pick c a b)
    picks c a b is holds_c holds_a holds_b =
        let last = token.Sign signs.Colon ∷ spelled b in
        record {
          value = c;
          front = spelled c;
          back = token.Sign signs.Question ∷ (spelled a ++ last);
          parts = spelled-Pick c a b;
          first = record { text = refl; holds = holds_c };
          second = inl (record {
            inner = spelled a ++ last;
            text = refl;
            form = record {
              value = a;
              front = spelled a;
              back = last;
              parts = refl;
              first = record { text = refl; holds = holds_a };
              second = record { inner = spelled b; text = refl; form = record { value = b; form = record { text = refl; holds = holds_b }; is = refl } };
            };
          });
        }

exact_pick : {n : ℕ} {inner : Parser Expr} (c : Expr) → Exact n inner (At 0) (stops_at 0) → Exact (suc n) (pick inner c) (Either (Picks c) (Nothing c)) (stops_at 0)
unfolding pick
exact_pick {n = n} c exact =
    let s = some_expression 0 in
    exact_choice (sees_sign signs.Question)
    (exact_opened (token.Sign signs.Question) (exact_sign signs.Question)
    (exact_then exact
    (λ a. exact_below n (omega arith) (exact_opened (token.Sign signs.Colon) (exact_sign signs.Colon) (exact_map (expr.Pick c a) exact) (s.0, expr.Pick c a s.1, record { value = s.1; form = s.2; is = refl })))
    (λ a used rest e h stop. ap (stops_at 0) (behind_first (token.Sign signs.Colon) _ used rest e h))
    (λ a. (token.Sign signs.Colon ∷ s.0, expr.Pick c a s.1, record { inner = s.0; text = refl; form = record { value = s.1; form = s.2; is = refl } })))
    (s.0 ++ (token.Sign signs.Colon ∷ s.0), expr.Pick c s.1 s.1, record { value = s.1; front = s.0; back = token.Sign signs.Colon ∷ s.0; parts = refl; first = s.2; second = record { inner = s.0; text = refl; form = record { value = s.1; form = s.2; is = refl } } }))
    (exact_pure c)
    (λ used rest e h stop. ap (sees_sign signs.Question) (behind_first (token.Sign signs.Question) _ used rest e h) ∙ sees_itself signs.Question)
    (λ used rest e h stop. unseen_sign signs.Question (stops_at 0) refl (first (used ++ rest)) (ap (λ l. stops_at 0 (first (l ++ rest))) h.text ∙ stop))

exact_loosest : {n : ℕ} {same inner : Parser Expr} → Exact (suc n) same (At 1) (stops_at 1) → Exact n inner (At 0) (stops_at 0) → Exact (suc n) (same >>= pick inner) (At 0) (stops_at 0)
exact_loosest exact below =
    exact_as (At 0) (exact_then exact (λ c. exact_pick c below) follows (λ c. ([], c, inr (record { text = refl; is = refl })))) picked_to picked_from
  where
    follows : (c : Expr) (used rest : List Token) (e : Expr) → Either (Picks c) (Nothing c) used e → stops_at 0 (first rest) ≡ true → stops_at 1 (first (used ++ rest)) ≡ true
    follows c used rest e (inl h) stop = ap (stops_at 1) (behind_first (token.Sign signs.Question) _ used rest e h)
    follows c used rest e (inr h) stop = ap (λ l. stops_at 1 (first (l ++ rest))) h.text ∙ stops_above 0 (first rest) stop

-- ---- each level, and any expression

module _ (within : ℕ → Parser Expr) (same : Parser Expr) (j : ℕ) where
  level_pick : j ≡ 10 → behind_level within same j ≡ pick (within loosest)
  level_pick is = ap (λ b. λ left. if b then pick (within loosest) left else chain same (10 - j) left) (eq-eqb j 10 is)

  level_chain : (k : ℕ) → j + suc k ≡ 10 → behind_level within same j ≡ chain same (suc k)
  level_chain k is =
      let left : 10 - j ≡ suc k = omega (arith, is) in
      ap (λ b. λ left. if b then pick (within loosest) left else chain same (10 - j) left) (ne_eqb j 10 (λ e. omega (arith, e, is))) ∙ ap (chain same) left

exact_tier : {n : ℕ} (within : ℕ → Parser Expr) → Exact n (within 0) (At 11) (stops_at 11) → Exact n (within loosest) (At 0) (stops_at 0) → (j k : ℕ) → j + k ≡ 11 → Exact (suc n) (tier within j) (At k) (stops_at k)
unfolding tier
exact_tier {n = n} within tight inner zero k is =
    subst (λ k. Exact (suc n) (tier within zero) (At k) (stops_at k)) (omega (arith, is)) (exact_operand tight inner)
exact_tier {n = n} within tight inner (suc j) zero is =
    subst (λ q. Exact (suc n) (tier within j >>= q) (At 0) (stops_at 0)) (sym (level_pick within (tier within j) j (omega (arith, is)))) (exact_loosest (exact_tier within tight inner j 1 (omega (arith, is))) inner)
exact_tier {n = n} within tight inner (suc j) (suc k) is =
    subst (λ q. Exact (suc n) (tier within j >>= q) (At (suc k)) (stops_at (suc k))) (sym (level_chain within (tier within j) j k (omega (arith, is)))) (exact_level (suc k) (omega arith) (omega (arith, is)) (exact_tier within tight inner j (suc (suc k)) (omega (arith, is))))

exact_none : (k : ℕ) → Exact 0 (λ tokens. Err tokens) (At k) (stops_at k)
exact_none k = record {
  reads = λ tokens few named.
      let s = some_expression k in
      record {
        used = [];
        parts = refl;
        begins = s;
        none = λ more front back e next is h stop.
            let empty = first_none more (next ∙ ap first (no_tokens tokens few)) in
            omega (arith, ap length empty, ap length is, length-append front back, at_long k front e h);
      };
}
  where
    no_tokens : (tokens : List Token) → length tokens ≤ 0 → tokens ≡ []
    no_tokens [] few = refl
    no_tokens (t ∷ tokens) few = absurd (omega (arith, few))

-- at each level, in lists of at most `depth` tokens
pub exact_expression_at : (depth below k : ℕ) → below + k ≡ 11 → Exact depth (expression_at depth below) (At k) (stops_at k)
unfolding expression_at
exact_expression_at zero below k is = exact_none k
exact_expression_at (suc depth) below k is =
    exact_tier (expression_at depth) (exact_expression_at depth 0 11 refl) (exact_expression_at depth 11 0 refl) below k is

-- an expression is read exactly, in lists of at most `depth` tokens
pub exact_expression : (depth : ℕ) → Exact depth (expression depth) (At 0) (stops_at 0)
exact_expression depth = exact_expression_at depth loosest 0 refl
