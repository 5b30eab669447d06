-- Marks as a number.
use Rattle.std.proofs.Common.{◌≡◌, ℕ, zero, suc, ◌+◌, ◌*◌, ◌^◌, ◌%◌, ◌<◌, Bool, true, false, not, List, [], ◌∷◌, length, get_or, slice_set, sym, ap, subst, ◌∙◌, arith, lit<}
use Rattle.std.proofs.Math.Nat.{pow-suc}
use Rattle.std.specs.Int.{from_bool}
use Rattle.std.proofs.lemmas.List.{length-set}
use Rattle.std.proofs.Math.Pow.{shl_exact}
use Rattle.mp5_words.specs.Cells.{bits}

-- so many marks give no more than so many bits
bits_lt : (marks : List Bool) → bits marks < 2 ^ length marks
bits_lt [] = lit< tt
bits_lt (true ∷ marks) = rw pow-suc (omega (arith, bits_lt marks))
bits_lt (false ∷ marks) = rw pow-suc (omega (arith, bits_lt marks))

doubled : (mark : Bool) (n : ℕ) → from_bool mark * (n * 2) ≡ 2 * (from_bool mark * n)
doubled true n = omega arith
doubled false n = omega arith

-- a mark adds its bit, where it isn't there
bits_set : (marks : List Bool) (a : ℕ) (d : Bool) → a < length marks
    → bits (slice_set marks a true) ≡ bits marks + from_bool (not (get_or marks a d)) * 2 ^ a
bits_set [] a d less = elim less [ ]
bits_set (true ∷ marks) zero d less = omega arith
bits_set (false ∷ marks) zero d less = omega arith
bits_set (true ∷ marks) (suc a) d less =
    let rest = bits_set marks a d (omega (arith, less)) in
    rw pow-suc (omega (arith, rest, doubled (not (get_or marks a d)) (2 ^ a)))
bits_set (false ∷ marks) (suc a) d less =
    let rest = bits_set marks a d (omega (arith, less)) in
    rw pow-suc (omega (arith, rest, doubled (not (get_or marks a d)) (2 ^ a)))

bit_of_16 : (mark : Bool) (a : ℕ) → a < 16 → (from_bool mark * 2 ^ a) % 65536 ≡ from_bool mark * 2 ^ a
bit_of_16 true a less = shl_exact 1 a 16 (lit< tt) (omega (arith, less))
bit_of_16 false a less = shl_exact 1 a 16 (lit< tt) (omega (arith, less))

-- the number of the marks with one more
pub added_bit : (marks : List Bool) (set a n : ℕ) (d : Bool) → length marks ≡ 16 → a < 16 → set ≡ bits marks
    → n ≡ from_bool (not (get_or marks a d)) → set + (n * 2 ^ a) % 65536 ≡ bits (slice_set marks a true)
added_bit marks set a n d long less is bit =
    let inside : a < length marks = omega (arith, less, long) in
    (λ j. is j + (bit j * 2 ^ a) % 65536)
    ∙ ap (λ x. bits marks + x) (bit_of_16 (not (get_or marks a d)) a less)
    ∙ sym (bits_set marks a d inside)

pub added_fits : (marks : List Bool) (x a : ℕ) → length marks ≡ 16 → x ≡ bits (slice_set marks a true) → x < 65536
added_fits marks x a long is =
    let few : length (slice_set marks a true) ≡ 16 = length-set marks a true ∙ long in
    let most : bits (slice_set marks a true) < 2 ^ 16 = subst (λ n. bits (slice_set marks a true) < 2 ^ n) few (bits_lt (slice_set marks a true)) in
    omega (arith, is, most)
