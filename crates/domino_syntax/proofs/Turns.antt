-- One turn of the parser's loops, and what `?` hands on.
use Rattle.std.proofs.Common.{◌≡◌, ℕ, zero, suc, Bool, true, false, refl, List, [], ◌∷◌, ◌++◌, Option, Result, Ok, Err, subst, sym}
use Rattle.domino_tree.specs.declared.token.Token.{Token}
use Rattle.std.specs.Result.{IsErrAnd, IsErrOf}
use Rattle.domino_syntax.specs.declared.reader.Stop.{Stop}
use Rattle.domino_syntax.specs.declared.reader.Stop.TheVariants as stop
use Rattle.domino_syntax.specs.Parsers.{Parser, Outcome, Reads, first, repeat, adding}

module _ {A : Type 0} (begins : A → Option Token → Bool) (step : A → Parser A) (found : A) (tokens rest : List Token) where
  pub repeat_turn : (n m : ℕ) (next : A) → n ≡ suc m → begins found (first tokens) ≡ true → step found tokens ≡ Ok (next, rest) → repeat begins step n found tokens ≡ repeat begins step m next rest
  unfolding repeat
  repeat_turn n m next is_suc sees read = rw (is_suc, sees, read)

  pub repeat_refuses : (n m : ℕ) → n ≡ suc m → begins found (first tokens) ≡ true → step found tokens ≡ Err rest → repeat begins step n found tokens ≡ Err rest
  unfolding repeat
  repeat_refuses n m is_suc sees read = rw (is_suc, sees, read)

  pub repeat_ends : (n : ℕ) → begins found (first tokens) ≡ false → repeat begins step n found tokens ≡ Ok (found, tokens)
  unfolding repeat
  repeat_ends zero ends = refl
  repeat_ends (suc n) ends = rw ends

  pub repeat_over : (n : ℕ) → n ≡ 0 → repeat begins step n found tokens ≡ Ok (found, tokens)
  unfolding repeat
  repeat_over n is_zero = rw is_zero

-- one turn of a loop over all the forms of one kind
pub all_turn : {A : Type 0} (begins : Option Token → Bool) (form : Parser A) (n m : ℕ) (found : List A) (tokens rest : List Token) (x : A) → n ≡ suc m → begins (first tokens) ≡ true → form tokens ≡ Ok (x, rest) → repeat (λ _. begins) (adding form) n found tokens ≡ repeat (λ _. begins) (adding form) m (found ++ x ∷ []) rest
unfolding repeat
all_turn begins form n m found tokens rest x is_suc sees read = rw (is_suc, sees, read)

pub all_refuses : {A : Type 0} (begins : Option Token → Bool) (form : Parser A) (n m : ℕ) (found : List A) (tokens rest : List Token) → n ≡ suc m → begins (first tokens) ≡ true → form tokens ≡ Err rest → repeat (λ _. begins) (adding form) n found tokens ≡ Err rest
unfolding repeat
all_refuses begins form n m found tokens rest is_suc sees read = rw (is_suc, sees, read)

-- what `?` hands on
pub passes_on : {A B : Type 0} (read : Outcome A) (whole : Outcome B) (e : Stop) (result : Result B Stop) (rest : List Token) → IsErrAnd result (λ f. f ≡ e) → (read ≡ Err rest → whole ≡ Err rest) → Reads read (Err e) rest → Reads whole result rest
passes_on read whole e (Ok x) rest is step was = absurd is
passes_on read whole stop.Syntax (Err f) rest is step was =
    let P : Stop → Type 0 = λ f. Reads whole (Err f) rest in subst P (sym is) (step was)
passes_on read whole stop.NoMemory (Err f) rest is step was =
    let P : Stop → Type 0 = λ f. Reads whole (Err f) rest in subst P (sym is) tt

-- where `?` hands on that a text isn't read, the parser refused
pub refusal_from : {A B : Type 0} (read : Outcome A) (e : Stop) (result : Result B Stop) (rest : List Token) → IsErrAnd result (λ f. f ≡ e) → Reads read (Err e) rest → IsErrOf result stop.Syntax → read ≡ Err rest
refusal_from read e (Ok x) rest is was said = absurd is
refusal_from read stop.Syntax (Err f) rest is was said = was
refusal_from read stop.NoMemory (Err f) rest is was said = cc
