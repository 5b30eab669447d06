-- Rounds of arrivals: each has the arrivals from its start to the next one's.
use Rattle.std.proofs.Common.{◌≡◌, ℕ, ◌+◌, ◌*◌, ◌/◌, ◌<◌, ◌≤◌, arith, le-div_iff_mul-le, div-lt_iff_lt-mul}

-- an arrival between the ends of a round is of that round
pub round_is : (size t r : ℕ) → 0 < size → r * size ≤ t → t < (r + 1) * size → t / size ≡ r
round_is size t r some low high =
    let least : r ≤ t / size = (le-div_iff_mul-le some).1 low in
    let most : t / size < r + 1 = (div-lt_iff_lt-mul some).1 high in
    omega arith

-- and an arrival of it, or of a later one, is behind its start
pub round_low : (size t r : ℕ) → 0 < size → r ≤ t / size → r * size ≤ t
round_low size t r some least = (le-div_iff_mul-le some).0 least

-- an arrival of it, or of an earlier one, is before its end
pub round_high : (size t r : ℕ) → 0 < size → t / size ≤ r → t < (r + 1) * size
round_high size t r some most = (div-lt_iff_lt-mul some).0 (omega (arith, most))
