-- The arrays of a set, one bit after another.
use Rattle.std.proofs.Common.{◌≡◌, ◌⊎◌, inl, inr, ℕ, suc, ◌+◌, ◌<◌, ◌/◌, ◌%◌, Bool, true, false, List, [], ◌∷◌, ◌++◌, length, drop, get_or, sym, ap, ◌∙◌, arith, append_assoc, drop-cons}
use Rattle.mp5_words.specs.Cells.{bits}
use Rattle.index_resolve.specs.Groups.{marked}

one_bit : (b : Bool) (ms : List Bool) (k rest : ℕ) (arrays all new : List ℕ) → rest ≡ bits (b ∷ ms) → arrays ++ marked k (b ∷ ms) ≡ all
    → ((rest % 2 ≡ 1) × (new ≡ arrays ++ k ∷ [])) ⊎ ((rest % 2 ≡ 1 → ⊥) × (new ≡ arrays))
    → (rest / 2 ≡ bits ms) × (new ++ marked (k + 1) ms ≡ all)
one_bit true ms k rest arrays all new is old (inl t) = (
  omega (arith, is),
  ap (λ l. l ++ marked (k + 1) ms) t.1 ∙ append_assoc arrays (k ∷ []) (marked (k + 1) ms) ∙ ap (λ n. arrays ++ k ∷ marked n ms) (omega arith) ∙ old,
)
one_bit true ms k rest arrays all new is old (inr t) = (let no : rest % 2 ≡ 1 → ⊥ = t.0 in elim (no (omega (arith, is))) [ ])
one_bit false ms k rest arrays all new is old (inl t) = (let odd : rest % 2 ≡ 1 = t.0 in absurd (omega (arith, is, odd)))
one_bit false ms k rest arrays all new is old (inr t) = (
  omega (arith, is),
  ap (λ l. l ++ marked (k + 1) ms) t.1 ∙ ap (λ n. arrays ++ marked n ms) (omega arith) ∙ old,
)

pub set_more : (marks : List Bool) (k rest : ℕ) (arrays all new : List ℕ) → k < length marks → rest ≡ bits (drop k marks) → arrays ++ marked k (drop k marks) ≡ all
    → ((rest % 2 ≡ 1) × (new ≡ arrays ++ k ∷ [])) ⊎ ((rest % 2 ≡ 1 → ⊥) × (new ≡ arrays))
    → (rest / 2 ≡ bits (drop (k + 1) marks)) × (new ++ marked (k + 1) (drop (k + 1) marks) ≡ all)
set_more marks k rest arrays all new less is old step =
    let next : suc k ≡ k + 1 = omega arith in
    let front : drop k marks ≡ get_or marks k false ∷ drop (k + 1) marks = drop-cons marks k false less ∙ ap (λ n. get_or marks k false ∷ drop n marks) next in
    one_bit (get_or marks k false) (drop (k + 1) marks) k rest arrays all new (is ∙ ap bits front) (ap (λ l. arrays ++ marked k l) (sym front) ∙ old) step
