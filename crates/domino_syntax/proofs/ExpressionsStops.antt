-- Before which next token an expression of a level may end.
use Rattle.std.proofs.Common.{◌≡◌, ℕ, suc, Bool, true, false, not, ◌&&◌, if◌then◌else◌, nat_le, nat_eq, Option, Some, None, refl, ap, sym, arith}
use Rattle.std.specs.Option.{is_some}
use Rattle.std.proofs.lemmas.Bool.{and_from, and_parts, eqb-true, ne_eqb, leb-false, lt-leb}
use Rattle.mp5_words.specs.declared.op.Op2.{Op2}
use Rattle.domino_tree.specs.declared.token.Token.{Token}
use Rattle.domino_tree.specs.declared.token.Token.TheVariants as token
use Rattle.domino_tree.specs.declared.token.Sign.{Sign}
use Rattle.domino_tree.specs.declared.token.Sign.TheVariants as signs
use Rattle.domino_tree.specs.Operators.{level, operator_between}
use Rattle.domino_syntax.specs.Parsers.{sees}
use Rattle.domino_syntax.specs.ReadingExpressions.{of_level, a_binary}
use Rattle.domino_syntax.proofs.Exact.{Stops}

-- `.`, `[` and `(` go on from a name
abbrev pub goes_on_name : Sign → Bool
goes_on_name signs.Dot = true
goes_on_name signs.OpenSquare = true
goes_on_name signs.OpenRound = true
goes_on_name _ = false

-- an operator of this level or a tighter one
abbrev pub at_least : ℕ → Option Op2 → Bool
at_least k None = false
at_least k (Some op) = nat_le k (level op)

-- `?`, at the loosest level
abbrev pub asks : ℕ → Sign → Bool
asks k signs.Question = nat_eq k 0
asks k _ = false

-- no sign that goes on from a name, no operator of this level or a tighter one, and no `?` at the loosest level
abbrev pub stops_at : ℕ → Stops
stops_at k None = true
stops_at k (Some (token.Name w)) = true
stops_at k (Some (token.Keyword l)) = true
stops_at k (Some token.Define) = true
stops_at k (Some (token.Number n)) = true
stops_at k (Some (token.Sign s)) = not (goes_on_name s) && (not (at_least k (operator_between s)) && not (asks k s))

-- ---- one level tighter

tighter : (k : ℕ) (o : Option Op2) → not (at_least k o) ≡ true → not (at_least (suc k) o) ≡ true
tighter k None h = refl
tighter k (Some op) h = ap not (lt-leb (suc k) (level op) (omega (arith, leb-false k (level op) (false_of (nat_le k (level op)) h))))
  where
    false_of : (b : Bool) → not b ≡ true → b ≡ false
    false_of true h = sym h
    false_of false h = refl

never_asks : (k : ℕ) (s : Sign) → not (asks (suc k) s) ≡ true
never_asks k signs.Question = ap not (ne_eqb (suc k) 0 (λ e. omega (arith, e)))
never_asks k _ = refl

pub stops_above : (k : ℕ) (t : Option Token) → stops_at k t ≡ true → stops_at (suc k) t ≡ true
stops_above k None h = refl
stops_above k (Some (token.Name w)) h = refl
stops_above k (Some (token.Keyword l)) h = refl
stops_above k (Some token.Define) h = refl
stops_above k (Some (token.Number n)) h = refl
stops_above k (Some (token.Sign s)) h =
    let parts = and_parts (not (goes_on_name s)) _ h in
    let later = and_parts (not (at_least k (operator_between s))) _ parts.1 in
    and_from (not (goes_on_name s)) _ parts.0 (and_from (not (at_least (suc k) (operator_between s))) _ (tighter k (operator_between s) later.0) (never_asks k s))

-- ---- operators of a level

no_level : (k : ℕ) (o : Option Op2) → not (at_least k o) ≡ true → is_some (of_level k o) ≡ false
no_level k None h = refl
no_level k (Some op) h = ap (λ b. is_some (if b then Some op else None)) (ne_eqb (level op) k (λ e. below (nat_le k (level op)) refl h e))
  where
    below : (b : Bool) → nat_le k (level op) ≡ b → not b ≡ true → level op ≡ k → ⊥
    below true is h e = cc
    below false is h e = omega (arith, leb-false k (level op) is, e)

-- where an expression of a level may end, no operator of that level comes next
pub stops_binary : (k : ℕ) (t : Option Token) → stops_at k t ≡ true → sees (a_binary k) t ≡ false
stops_binary k None h = refl
stops_binary k (Some (token.Name w)) h = refl
stops_binary k (Some (token.Keyword l)) h = refl
stops_binary k (Some token.Define) h = refl
stops_binary k (Some (token.Number n)) h = refl
stops_binary k (Some (token.Sign s)) h =
    let parts = and_parts (not (goes_on_name s)) _ h in
    no_level k (operator_between s) (and_parts (not (at_least k (operator_between s))) _ parts.1).0

one_tighter : (k : ℕ) (o : Option Op2) → is_some (of_level k o) ≡ true → not (at_least (suc k) o) ≡ true
one_tighter k None h = refl
one_tighter k (Some op) h = ap not (lt-leb (suc k) (level op) (omega (arith, eqb-true (level op) k (when (nat_eq (level op) k) h))))
  where
    when : (b : Bool) → is_some (if b then Some op else None) ≡ true → b ≡ true
    when true h = refl
    when false h = cc

no_name : (s : Sign) (k : ℕ) → is_some (of_level k (operator_between s)) ≡ true → not (goes_on_name s) ≡ true
no_name signs.Dot k h = cc
no_name signs.OpenSquare k h = cc
no_name signs.OpenRound k h = cc
no_name _ k h = refl

-- an expression of the next level may end before an operator
pub binary_stops : (k : ℕ) (t : Option Token) → sees (a_binary k) t ≡ true → stops_at (suc k) t ≡ true
binary_stops k None h = cc
binary_stops k (Some (token.Name w)) h = cc
binary_stops k (Some (token.Keyword l)) h = cc
binary_stops k (Some token.Define) h = cc
binary_stops k (Some (token.Number n)) h = cc
binary_stops k (Some (token.Sign s)) h =
    and_from (not (goes_on_name s)) _ (no_name s k h) (and_from (not (at_least (suc k) (operator_between s))) _ (one_tighter k (operator_between s) h) (never_asks k s))
