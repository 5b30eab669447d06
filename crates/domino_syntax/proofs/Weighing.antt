-- The canonical tokens of what is derived from light tokens are light: only a `-` in a value is left out, and
-- that makes no counter greater.
use Rattle.std.proofs.Common.{◌≡◌, inl, inr, ◌≤◌, ℕ, ◌+◌, ℤ, nat_le, Bool, true, false, ◌&&◌, List, [], ◌∷◌, ◌++◌, length, sum, drop, flat_map, refl, sym, ap, subst, ◌∙◌, arith}
use Rattle.std.proofs.lemmas.Bool.{le-leb, leb-true}
use Rattle.std.specs.List.{fold}
use Rattle.std.proofs.lemmas.List.Sums.{fold-append}
use Rattle.domino_tree.specs.declared.token.Token.{Token}
use Rattle.domino_tree.specs.declared.token.Token.TheVariants as token
use Rattle.domino_tree.specs.declared.token.Keyword.TheVariants as keyword
use Rattle.domino_tree.specs.declared.token.Effect.{Effect}
use Rattle.domino_tree.specs.declared.token.Effect.TheVariants as effect
use Rattle.domino_tree.specs.Operators.{sign_row}
use Rattle.domino_tree.specs.declared.token.Sign.TheVariants as sign
use Rattle.domino_tree.specs.declared.program.Size.{Size}
use Rattle.domino_tree.specs.declared.program.Size.TheVariants as size
use Rattle.domino_tree.specs.declared.program.Start.{Start}
use Rattle.domino_tree.specs.declared.program.Start.TheVariants as start
use Rattle.domino_tree.specs.declared.program.Item.{Item}
use Rattle.domino_tree.specs.declared.program.Item.TheVariants as item
use Rattle.domino_tree.specs.declared.program.PacketDecl.{PacketDecl}
use Rattle.domino_tree.specs.declared.program.Function.{Function}
use Rattle.domino_tree.specs.Grammar.{size_tokens, length_tokens, start_tokens, item_tokens, packet_tokens, function_tokens, program_tokens}
use Rattle.domino_tree.specs.Weight.{cleared, counted, after_effect, after_token, load, stays_light, is_light}
use Rattle.domino_tree.specs.Derives.{IsValue, IsEntry, IsStart, IsItem, AreItems, none, more, Parts}

-- ---- counters

-- as many counters, none greater
abbrev Below : List ℕ → List ℕ → Type 0
Below [] [] = Unit {0}
Below [] (n ∷ ns) = ⊥
Below (m ∷ ms) [] = ⊥
Below (m ∷ ms) (n ∷ ns) = (m ≤ n) × Below ms ns

below_same : (ns : List ℕ) → Below ns ns
below_same [] = tt
below_same (n ∷ ns) = (omega arith, below_same ns)

below_counted : (ms ns : List ℕ) → Below ms ns → Below (counted ms) (counted ns)
below_counted [] [] h = tt
below_counted [] (n ∷ ns) h = absurd h
below_counted (m ∷ ms) [] h = absurd h
below_counted (m ∷ ms) (n ∷ ns) h = (omega (arith, h.0), h.1)

below_more : (ms ns : List ℕ) → Below ms ns → Below ms (counted ns)
below_more [] [] h = tt
below_more [] (n ∷ ns) h = absurd h
below_more (m ∷ ms) [] h = absurd h
below_more (m ∷ ms) (n ∷ ns) h = (omega (arith, h.0), h.1)

below_cleared : (ms ns : List ℕ) → Below ms ns → Below (cleared ms) (cleared ns)
below_cleared [] [] h = tt
below_cleared [] (n ∷ ns) h = absurd h
below_cleared (m ∷ ms) [] h = absurd h
below_cleared (m ∷ ms) (n ∷ ns) h = (omega arith, h.1)

below_closed : (ms ns : List ℕ) → Below ms ns → Below (drop 1 ms) (drop 1 ns)
below_closed [] [] h = tt
below_closed [] (n ∷ ns) h = absurd h
below_closed (m ∷ ms) [] h = absurd h
below_closed (m ∷ ms) (n ∷ ns) h = h.1

below_opened : (ms ns : List ℕ) → Below ms ns → Below (0 ∷ ms) (0 ∷ ns)
below_opened ms ns h = (omega arith, h)

below_effect : (ms ns : List ℕ) (e : Effect) → Below ms ns → Below (after_effect ms e) (after_effect ns e)
below_effect ms ns effect.Counts h = below_counted ms ns h
below_effect ms ns effect.Opens h = below_opened ms ns h
below_effect ms ns effect.Closes h = below_closed ms ns h
below_effect ms ns effect.Clears h = below_cleared ms ns h
below_effect ms ns effect.Keeps h = h

below_token : (ms ns : List ℕ) (t : Token) → Below ms ns → Below (after_token ms t) (after_token ns t)
below_token ms ns (token.Name w) h = h
below_token ms ns (token.Keyword k) h = h
below_token ms ns token.Define h = h
below_token ms ns (token.Number n) h = h
below_token ms ns (token.Sign s) h = below_effect ms ns (sign_row s).effect h

sum_from : (a : ℕ) (ns : List ℕ) → fold ◌+◌ a ns ≡ a + sum ns
sum_from a [] = omega arith
sum_from a (n ∷ ns) = omega (arith, sum_from (a + n) ns, sum_from (0 + n) ns)

sum_cons : (n : ℕ) (ns : List ℕ) → sum (n ∷ ns) ≡ n + sum ns
sum_cons n ns = omega (arith, sum_from (0 + n) ns)

-- what is below is no heavier
below_load : (ms ns : List ℕ) → Below ms ns → load ms ≤ load ns
below_load [] [] h = omega arith
below_load [] (n ∷ ns) h = absurd h
below_load (m ∷ ms) [] h = absurd h
below_load (m ∷ ms) (n ∷ ns) h =
    omega (arith, sum_cons m ms, sum_cons n ns, h.0, below_load ms ns h.1)

below_light : (ms ns : List ℕ) → Below ms ns → nat_le (load ns) 64 ≡ true → nat_le (load ms) 64 ≡ true
below_light ms ns h light = le-leb (load ms) 64 (omega (arith, below_load ms ns h, leb-true (load ns) 64 light))

-- ---- tokens that weigh no more than others

both_left : (a b : Bool) → (a && b) ≡ true → a ≡ true
both_left true b e = refl
both_left false b e = e

both_right : (a b : Bool) → (a && b) ≡ true → b ≡ true
both_right true b e = e
both_right false b e = absurd (let no = e in cc)

both : (a b : Bool) → a ≡ true → b ≡ true → (a && b) ≡ true
both a b p q = rw (p, q) refl

light-append : (ns : List ℕ) (xs ys : List Token) → stays_light ns (xs ++ ys) ≡ (stays_light ns xs && stays_light (fold after_token ns xs) ys)
light-append ns [] ys = refl
light-append ns (x ∷ xs) ys = ap (λ b. nat_le (load (after_token ns x)) 64 && b) (light-append (after_token ns x) xs ys) ∙ grouped (nat_le (load (after_token ns x)) 64) (stays_light (after_token ns x) xs) (stays_light (fold after_token (after_token ns x) xs) ys)
  where
    grouped : (a b c : Bool) → (a && (b && c)) ≡ ((a && b) && c)
    grouped true b c = refl
    grouped false b c = refl

-- from counters that are no greater, the first are light where the others are, and leave counters that are no
-- greater
record Lighter (xs ys : List Token) : Type 0 where
  light : (ms ns : List ℕ) → Below ms ns → stays_light ns ys ≡ true → stays_light ms xs ≡ true
  below : (ms ns : List ℕ) → Below ms ns → stays_light ns ys ≡ true → Below (fold after_token ms xs) (fold after_token ns ys)

lighter_none : Lighter [] []
lighter_none = record { light = λ ms ns h e. refl; below = λ ms ns h e. h }

lighter_one : (t : Token) → Lighter (t ∷ []) (t ∷ [])
lighter_one t = record {
  light = λ ms ns h e. both (nat_le (load (after_token ms t)) 64) true (below_light (after_token ms t) (after_token ns t) (below_token ms ns t h) (both_left (nat_le (load (after_token ns t)) 64) true e)) refl;
  below = λ ms ns h e. below_token ms ns t h;
}

lighter_append : (xs ys vs ws : List Token) → Lighter xs ys → Lighter vs ws → Lighter (xs ++ vs) (ys ++ ws)
lighter_append xs ys vs ws front back = record {
  light = λ ms ns h e.
      let parts = sym (light-append ns ys ws) ∙ e in
      let first = both_left (stays_light ns ys) (stays_light (fold after_token ns ys) ws) parts in
      let second = both_right (stays_light ns ys) (stays_light (fold after_token ns ys) ws) parts in
      light-append ms xs vs ∙ both (stays_light ms xs) (stays_light (fold after_token ms xs) vs) (front.light ms ns h first) (back.light (fold after_token ms xs) (fold after_token ns ys) (front.below ms ns h first) second);
  below = λ ms ns h e.
      let parts = sym (light-append ns ys ws) ∙ e in
      let first = both_left (stays_light ns ys) (stays_light (fold after_token ns ys) ws) parts in
      let second = both_right (stays_light ns ys) (stays_light (fold after_token ns ys) ws) parts in
      rw (fold-append after_token ms xs vs, fold-append after_token ns ys ws) (back.below (fold after_token ms xs) (fold after_token ns ys) (front.below ms ns h first) second);
}

lighter_cons : (t : Token) (xs ys : List Token) → Lighter xs ys → Lighter (t ∷ xs) (t ∷ ys)
lighter_cons t xs ys h = lighter_append (t ∷ []) (t ∷ []) xs ys (lighter_one t) h

lighter_same : (xs : List Token) → Lighter xs xs
lighter_same [] = lighter_none
lighter_same (t ∷ ts) = lighter_cons t ts ts (lighter_same ts)

-- a number weighs no more than `-` and a number
lighter_negated : (value number : ℤ) → Lighter (token.Number value ∷ []) (token.Sign sign.Minus ∷ token.Number number ∷ [])
lighter_negated value number = record {
  light = λ ms ns h e. both (nat_le (load ms) 64) true (below_light ms (counted ns) (below_more ms ns h) (both_left (nat_le (load (counted ns)) 64) (nat_le (load (counted ns)) 64 && true) e)) refl;
  below = λ ms ns h e. below_more ms ns h;
}

-- ---- the canonical tokens

lighter_value : (tokens : List Token) (value : ℤ) → IsValue tokens value → Lighter (token.Number value ∷ []) tokens
lighter_value tokens value (inl e) = subst (Lighter (token.Number value ∷ [])) (sym e) (lighter_same (token.Number value ∷ []))
lighter_value tokens value (inr n) = subst (Lighter (token.Number value ∷ [])) (sym n.spells) (lighter_negated value n.number)

lighter_entry : (tokens : List Token) (entry : Size) → IsEntry tokens entry → Lighter (size_tokens entry) tokens
lighter_entry tokens (size.Number n) h = lighter_value tokens n h
lighter_entry tokens (size.Word w) e = subst (Lighter (token.Name w ∷ [])) (sym e) (lighter_same (token.Name w ∷ []))

lighter_start : (tokens : List Token) (value : Start) → IsStart tokens value → Lighter (start_tokens value) tokens
lighter_start tokens start.Absent e = subst (Lighter []) (sym e) lighter_none
lighter_start tokens (start.Plain entry) h =
    subst (Lighter (start_tokens (start.Plain entry))) (sym h.spells) (lighter_cons (token.Sign sign.Assign) (size_tokens entry) h.inner (lighter_entry h.inner entry h.entered))
lighter_start tokens (start.Braced entry) h =
    let close : List Token = token.Sign sign.CloseCurly ∷ [] in
    subst (Lighter (start_tokens (start.Braced entry))) (sym h.spells)
    (lighter_cons (token.Sign sign.Assign) (token.Sign sign.OpenCurly ∷ (size_tokens entry ++ close)) (token.Sign sign.OpenCurly ∷ (h.inner ++ close))
    (lighter_cons (token.Sign sign.OpenCurly) (size_tokens entry ++ close) (h.inner ++ close)
    (lighter_append (size_tokens entry) h.inner close close (lighter_entry h.inner entry h.entered) (lighter_same close))))

lighter_item : (tokens : List Token) (i : Item) → IsItem tokens i → Lighter (item_tokens i) tokens
lighter_item tokens (item.Define name value) h =
    subst (Lighter (item_tokens (item.Define name value))) (sym h.spells)
    (lighter_cons token.Define (token.Name name ∷ token.Number value ∷ []) (token.Name name ∷ h.inner)
    (lighter_cons (token.Name name) (token.Number value ∷ []) h.inner (lighter_value h.inner value h.valued)))
lighter_item tokens (item.Array name length value) h =
    let semicolon : List Token = token.Sign sign.Semicolon ∷ [] in
    let size : List Token = length_tokens length in
    subst (Lighter (item_tokens (item.Array name length value))) (sym h.spells)
    (lighter_cons (token.Keyword keyword.Int) (token.Name name ∷ ((size ++ start_tokens value) ++ semicolon)) (token.Name name ∷ ((size ++ h.inner) ++ semicolon))
    (lighter_cons (token.Name name) ((size ++ start_tokens value) ++ semicolon) ((size ++ h.inner) ++ semicolon)
    (lighter_append (size ++ start_tokens value) (size ++ h.inner) semicolon semicolon
    (lighter_append size size (start_tokens value) h.inner (lighter_same size) (lighter_start h.inner value h.started))
    (lighter_same semicolon))))

lighter_items : (tokens : List Token) (items : List Item) → AreItems tokens items → Lighter (flat_map item_tokens items) tokens
lighter_items tokens items none = lighter_none
lighter_items tokens items (more front first back others here later) =
    lighter_append (item_tokens first) front (flat_map item_tokens others) back (lighter_item front first here) (lighter_items back others later)

-- the canonical tokens of what is derived from light tokens are light
pub canonical_light : (tokens : List Token) (before : List Item) (packet : PacketDecl) (after : List Item) (function : Function) → is_light tokens ≡ true → Parts tokens before packet after function → is_light (program_tokens before packet after function) ≡ true
canonical_light tokens before packet after function light parts =
    let P : List Token = packet_tokens packet in
    let F : List Token = function_tokens function in
    let lighter =
    lighter_append (flat_map item_tokens before) parts.front (P ++ (flat_map item_tokens after ++ F)) (P ++ (parts.middle ++ F)) (lighter_items parts.front before parts.items_before)
    (lighter_append P P (flat_map item_tokens after ++ F) (parts.middle ++ F) (lighter_same P)
    (lighter_append (flat_map item_tokens after) parts.middle F F (lighter_items parts.middle after parts.items_after) (lighter_same F))) in
    lighter.light [] [] tt (rw (← parts.spells) light)
