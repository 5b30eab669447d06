-- The sign at the front of a text has some of its bytes.
use Rattle.std.proofs.Common.{◌≡◌, ◌≤◌, ℕ, Bool, true, false, nat_eq, List, [], ◌∷◌, length, take, Option, Some, None, IfSome, refl, sym, ap, if◌then◌else◌, arith}
use Rattle.std.proofs.lemmas.List.{length-take}
use Rattle.std.specs.Cmp.Lexicographic.{same_text}
use Rattle.std.specs.List.{find, starts_with}
use Rattle.domino_tree.specs.declared.token.Sign.{Sign}
use Rattle.domino_tree.specs.declared.token.Sign.TheVariants as sign
use Rattle.domino_tree.specs.Operators.{sign_text, signs}
use Rattle.domino_syntax.specs.Tokens.{first_sign}

-- what is found passes the test
pub found : {X : Type 0} (p : X → Bool) (xs : List X) → IfSome (find p xs) (λ x. p x ≡ true)
found p [] = tt
found p (x ∷ xs) = here (p x) refl (found p xs)
  where
    here : (b : Bool) → p x ≡ b → IfSome (find p xs) (λ x. p x ≡ true) → IfSome (if b then Some x else find p xs) (λ x. p x ≡ true)
    here true is later = is
    here false is later = later

-- a sign has a byte
pub some_text : (s : Sign) → 1 ≤ length (sign_text s)
some_text sign.Plus = omega arith
some_text s = omega arith

-- what begins a text is no longer
begins_fits : (text front : List ℕ) → starts_with nat_eq text front ≡ true → length front ≤ length text
begins_fits text front e =
    let same : front ≡ take (length front) text = same_text front (take (length front) text) (sym e) in
    omega (arith, ap (λ l. length l) same, length-take (length front) text)

pub some_fits : (m : ℕ) (text : List ℕ) (o : Option Sign) → length text ≡ m → IfSome o (λ s. starts_with nat_eq text (sign_text s) ≡ true) → IfSome o (λ s. length (sign_text s) ≤ m)
some_fits m text None long h = tt
some_fits m text (Some s) long h = omega (arith, long, begins_fits text (sign_text s) h)

-- the sign at the front is no longer than the text
pub first_fits : (text : List ℕ) → IfSome (first_sign text) (λ s. length (sign_text s) ≤ length text)
unfolding first_sign
first_fits text = some_fits (length text) text (find (λ s. starts_with nat_eq text (sign_text s)) signs) refl (found (λ s. starts_with nat_eq text (sign_text s)) signs)
