-- The weight of one more token.
use Rattle.std.proofs.Common.{◌≡◌, ◌≤◌, ◌<◌, ℕ, ◌+◌, nat_le, Bool, true, false, ◌&&◌, List, [], ◌∷◌, ◌++◌, length, get_or, take, refl, sym, ap, ◌∙◌}
use Rattle.std.proofs.lemmas.Bool.{le-leb}
use Rattle.std.proofs.lemmas.List.{take_more}
use Rattle.std.proofs.lemmas.List.Sums.{fold-append}
use Rattle.std.specs.List.{fold}
use Rattle.domino_tree.specs.declared.token.Token.{Token}
use Rattle.domino_tree.specs.Weight.{after_token, load, stays_light, is_light}
use Rattle.domino_syntax.specs.Weighing.{IsHeavyAt}

-- light tokens and one that isn't too heavy are light
pub light_more : (ns : List ℕ) (ts : List Token) (t : Token) → stays_light ns ts ≡ true → load (after_token (fold after_token ns ts) t) ≤ 64 → stays_light ns (ts ++ t ∷ []) ≡ true
light_more ns [] t e h = rw (le-leb (load (after_token ns t)) 64 h) refl
light_more ns (x ∷ xs) t e h = both (nat_le (load (after_token ns x)) 64) (stays_light (after_token ns x) xs) (stays_light (after_token ns x) (xs ++ t ∷ [])) e (λ later. light_more (after_token ns x) xs t later h)
  where
    both : (a b d : Bool) → (a && b) ≡ true → (b ≡ true → d ≡ true) → (a && d) ≡ true
    both true b d e f = f e
    both false b d e f = e

-- the counters after the next token
pub counters_more : (tokens : List Token) (i : ℕ) (x : Token) → i < length tokens → x ≡ get_or tokens i x → fold after_token [] (take (i + 1) tokens) ≡ after_token (fold after_token [] (take i tokens)) x
counters_more tokens i x within here =
    ap (fold after_token []) (take_more tokens i x within)
    ∙ fold-append after_token [] (take i tokens) (get_or tokens i x ∷ [])
    ∙ ap (after_token (fold after_token [] (take i tokens))) (sym here)

pub light_step : (tokens : List Token) (i : ℕ) (x : Token) (ns : List ℕ) → i < length tokens → x ≡ get_or tokens i x → ns ≡ fold after_token [] (take i tokens) → is_light (take i tokens) ≡ true → load (after_token ns x) ≤ 64 → is_light (take (i + 1) tokens) ≡ true
light_step tokens i x ns within here counted light h =
    ap is_light (take_more tokens i x within ∙ ap (λ y. take i tokens ++ y ∷ []) (sym here)) ∙ light_more [] (take i tokens) x light (rw (← counted) h)

pub heavy_here : (tokens : List Token) (i : ℕ) (x : Token) (ns : List ℕ) → i < length tokens → x ≡ get_or tokens i x → ns ≡ fold after_token [] (take i tokens) → is_light (take i tokens) ≡ true → 64 < load (after_token ns x) → IsHeavyAt tokens i
heavy_here tokens i x ns within here counted light h = record {
  within = within;
  light = light;
  heavy = rw (counters_more tokens i x within here, ← counted) h;
}
