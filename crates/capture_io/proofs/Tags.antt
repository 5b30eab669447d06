-- The bytes behind the tags of a frame.
use Rattle.std.proofs.Common.{◌≡◌, ℕ, ◌<◌, ◌≤◌, true, false, List, [], ◌∷◌, length, drop, refl, arith}
use Rattle.std.proofs.lemmas.Bool.{cond-true, cond-false}
use Rattle.capture_io.specs.Header.{number_at, is_tag, behind_tags}

-- behind a tag as before it
pub behind_tag : (bytes : List ℕ) → 4 ≤ length bytes → is_tag (number_at 2 0 bytes) ≡ true → behind_tags bytes ≡ behind_tags (drop 4 bytes)
unfolding behind_tags
behind_tag (a ∷ b ∷ c ∷ d ∷ rest) long tag = cond-true (is_tag (number_at 2 0 (a ∷ b ∷ c ∷ d ∷ rest))) (behind_tags rest) (a ∷ b ∷ c ∷ d ∷ rest) tag
behind_tag (a ∷ b ∷ c ∷ []) long tag = absurd (omega (arith, long))
behind_tag (a ∷ b ∷ []) long tag = absurd (omega (arith, long))
behind_tag (a ∷ []) long tag = absurd (omega (arith, long))
behind_tag [] long tag = absurd (omega (arith, long))

-- where no tag stands is the end
pub no_tag : (bytes : List ℕ) → is_tag (number_at 2 0 bytes) ≡ false → behind_tags bytes ≡ bytes
unfolding behind_tags
no_tag (a ∷ b ∷ c ∷ d ∷ rest) none = cond-false (is_tag (number_at 2 0 (a ∷ b ∷ c ∷ d ∷ rest))) (behind_tags rest) (a ∷ b ∷ c ∷ d ∷ rest) none
no_tag (a ∷ b ∷ c ∷ []) none = refl
no_tag (a ∷ b ∷ []) none = refl
no_tag (a ∷ []) none = refl
no_tag [] none = refl

-- a tag that is cut is none
pub too_short : (bytes : List ℕ) → length bytes < 4 → behind_tags bytes ≡ bytes
unfolding behind_tags
too_short (a ∷ b ∷ c ∷ d ∷ rest) short = absurd (omega (arith, short))
too_short (a ∷ b ∷ c ∷ []) short = refl
too_short (a ∷ b ∷ []) short = refl
too_short (a ∷ []) short = refl
too_short [] short = refl
