-- Where the weight of tokens exceeds 64 for the first time.
use Rattle.std.specs.Prelude.{◌≡◌, ◌<◌, ◌≤◌, ℕ, ◌+◌, Bool, true, List, length, take, MatchBool}
use Rattle.domino_tree.specs.declared.token.Token.{Token}
use Rattle.domino_tree.specs.Weight.{load, weight, is_light}
use Rattle.domino_syntax.specs.declared.limits.TheConstants.{MAX_WEIGHT}

-- the first n tokens weigh at most 64 throughout, and the next one brings the weight over 64
pub record IsHeavyAt (tokens : List Token) (n : ℕ) : Type 0 where
  pub within : n < length tokens
  pub light : is_light (take n tokens) ≡ true
  pub heavy : MAX_WEIGHT < weight (take (n + 1) tokens)

-- the counters become the next ones, or those would be too heavy
abbrev pub Takes : Bool → List ℕ → List ℕ → Type 0
Takes result new next = MatchBool result ((new ≡ next) × (load next ≤ MAX_WEIGHT)) (MAX_WEIGHT < load next)
