-- A set of few arrays is a small number.
use Rattle.std.proofs.Common.{◌≡◌, ℕ, zero, suc, ◌*◌, ◌<◌, ◌≤◌, Bool, true, false, arith, List, [], ◌∷◌, length, map, drop, length-drop}
use Rattle.std.proofs.lemmas.List.{length-map}
use Rattle.mp5_words.specs.Cells.{bits}

abbrev pub double : ℕ → ℕ
double zero = 1
double (suc n) = 2 * double n

positive : (k : ℕ) → 0 < double k
positive zero = omega arith
positive (suc k) = let h : 0 < double k = positive k in omega (arith, h)

pub room : (xs : List Bool) (k : ℕ) → length xs ≤ k → bits xs < double k
room [] k le = positive k
room (true ∷ xs) zero le = absurd (omega arith)
room (false ∷ xs) zero le = absurd (omega arith)
room (true ∷ xs) (suc k) le = let h : bits xs < double k = room xs k (omega (arith, le)) in omega (arith, h)
room (false ∷ xs) (suc k) le = let h : bits xs < double k = room xs k (omega (arith, le)) in omega (arith, h)

pub few_bits : {A : Type 0} (test : A → Bool) (of : List A) (k : ℕ) → length of ≡ 16 → 0 < k → bits (map test (drop k of)) < 32768
few_bits test of k long above = room (map test (drop k of)) 15 (let e = length-map (drop k of) test in let d = length-drop k of in omega (arith, e, d, long, above))
