-- Bytes that are mixed in one list after another.
use Rattle.std.proofs.Common.{◌≡◌, ℕ, ℤ, List, ◌++◌, sym, ap, ◌∙◌, w32, to_z, of_z, FitsSigned}
use Rattle.std.proofs.lemmas.List.Sums.{fold-append}
use Rattle.std.proofs.lemmas.Int.{to_z-of_z}
use Rattle.mp5_words.specs.Words.{mix, mixed, word_bytes}

-- three lists, one after another, are mixed in as one
pub mixed_three : (s0 s1 s2 s3 : ℕ) (A B C : List ℕ) → s1 ≡ mixed s0 A → s2 ≡ mixed s1 B → s3 ≡ mixed s2 C → s3 ≡ mixed s0 ((A ++ B) ++ C)
mixed_three s0 s1 s2 s3 A B C e1 e2 e3 =
    e3 ∙ ap (λ s. mixed s C) (e2 ∙ ap (λ s. mixed s B) e1 ∙ sym (fold-append mix s0 A B)) ∙ sym (fold-append mix s0 (A ++ B) C)

-- the bytes of a word that was passed
pub after_passed : (s t : ℕ) (a : ℤ) → FitsSigned w32 a → t ≡ mixed s (word_bytes (to_z w32 (of_z w32 a))) → t ≡ mixed s (word_bytes a)
after_passed s t a f e = e ∙ ap (λ x. mixed s (word_bytes x)) (to_z-of_z w32 a f)
