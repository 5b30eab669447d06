use Rattle.std.proofs.Common.{◌≡◌, refl, ℕ, ◌+◌, ◌-◌, ◌*◌, ◌%◌, ◌^◌, pos, ◌-ℤ◌, ◌+ℤ◌, ap, sym, ◌∙◌, arith, to_z, w32}
use Rattle.std.proofs.lemmas.Int.{ints, to_z_pos, int_rem_euclid_is}
use Rattle.capture_io.proofs.reading.since.Goals as goal

pub returns : goal.returns
returns c =
    let timestamp = c.args.timestamp in
    let start = c.args.start in
    let sum : ℕ = timestamp + (2 ^ 64 - start) in
    let same : sum % 2 ^ 64 % 2 ^ 31 ≡ sum % 2 ^ 31 = omega arith in
    let whole : pos timestamp -ℤ pos start +ℤ pos (2 ^ 33 * 2 ^ 31) ≡ pos sum = omega (arith, ints) in
    ap (to_z w32) same ∙ (to_z_pos w32 (sum % 2 ^ 31) (omega arith) ∙ sym (int_rem_euclid_is (pos timestamp -ℤ pos start) (pos (2 ^ 31)) (2 ^ 31) (2 ^ 33) sum (omega arith) refl whole))
