-- The weight of tokens: how deep the brackets are, and how many operators stand in them. It is counted over a
-- stack of counters, the top one first: an opening bracket puts a counter on it, a closing one takes the
-- top counter away, `;` sets the top counter to 0, and an operator adds 1 to it.
use Rattle.std.specs.Prelude.{ℕ, suc, ◌+◌, Bool, true, ◌&&◌, nat_le, List, [], ◌∷◌, length, sum, drop}
use Rattle.std.specs.List.{fold}
use Rattle.domino_tree.specs.declared.token.Token.{Token}
use Rattle.domino_tree.specs.declared.token.Token.TheVariants as token
use Rattle.domino_tree.specs.declared.token.Sign.{Sign}
use Rattle.domino_tree.specs.declared.token.Effect.{Effect}
use Rattle.domino_tree.specs.declared.token.Effect.TheVariants as effect
use Rattle.domino_tree.specs.Operators.{sign_row}

-- the top counter after `;`, where there is one
abbrev pub cleared : List ℕ → List ℕ
cleared [] = []
cleared (n ∷ ns) = 0 ∷ ns

-- the top counter after an operator, where there is one
abbrev pub counted : List ℕ → List ℕ
counted [] = []
counted (n ∷ ns) = suc n ∷ ns

-- the counters after what a sign does to them
abbrev pub after_effect : List ℕ → Effect → List ℕ
after_effect ns effect.Counts = counted ns
after_effect ns effect.Opens = 0 ∷ ns
after_effect ns effect.Closes = drop 1 ns
after_effect ns effect.Clears = cleared ns
after_effect ns effect.Keeps = ns

-- the counters after a sign
abbrev pub after_sign : List ℕ → Sign → List ℕ
after_sign ns s = after_effect ns (sign_row s).effect

-- the counters after a token: only signs count
abbrev pub after_token : List ℕ → Token → List ℕ
after_token ns (token.Name w) = ns
after_token ns (token.Keyword k) = ns
after_token ns token.Define = ns
after_token ns (token.Number n) = ns
after_token ns (token.Sign s) = after_sign ns s

-- how many counters there are, and their sum
abbrev pub load : List ℕ → ℕ
load ns = length ns + sum ns

-- the weight after the last of the tokens
abbrev pub weight : List Token → ℕ
weight tokens = load (fold after_token [] tokens)

-- from these counters on, the weight is at most 64 after each token
abbrev pub stays_light : List ℕ → List Token → Bool
stays_light ns [] = true
stays_light ns (t ∷ ts) = nat_le (load (after_token ns t)) 64 && stays_light (after_token ns t) ts

-- the weight never exceeds 64
abbrev pub is_light : List Token → Bool
is_light tokens = stays_light [] tokens
