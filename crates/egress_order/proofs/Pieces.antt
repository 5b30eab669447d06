-- Words that are written over others.
use Rattle.std.proofs.Common.{◌≡◌, ◌≢◌, ℕ, suc, ◌+◌, ◌-◌, ◌*◌, ◌<◌, ◌≤◌, ◌==◌, Bool, true, false, cond, nat_lt, List, ◌++◌, length, take, drop, ℤ, pos, slice_index_or, refl, ap, ◌∙◌, arith, length-append, length-take, length-drop}
use Rattle.std.proofs.Math.ListN.{get_or-append}
use Rattle.std.proofs.Math.Nat.{mul-le-mul_right}
use Rattle.std.proofs.lemmas.Bool.{ltb-true, ltb-false}
use Rattle.std.proofs.lemmas.List.{get_or-append_right, get_or-take, get_or-drop}
use Rattle.egress_order.specs.OwnPackets.{written}

module _ (xs : List ℤ) (from : ℕ) (ys : List ℤ) (le : from + length ys ≤ length xs) where
  front : length (take from xs) ≡ from
  front = let long = length-take from xs in omega arith

  -- there are as many words as before
  pub length_written : length (written xs from ys) ≡ length xs
  length_written =
      let all = length-append (take from xs) (ys ++ drop (from + length ys) xs) in
      let more = length-append ys (drop (from + length ys) xs) in
      let first = front in
      let rest = length-drop (from + length ys) xs in
      omega arith

  -- the words before the piece stay
  before_written : (i : ℕ) (d : ℤ) → i < from → slice_index_or (written xs from ys) i d ≡ slice_index_or xs i d
  before_written i d lt =
      let first = front in
      get_or-append (take from xs) (ys ++ drop (from + length ys) xs) d i (omega arith) ∙ get_or-take from xs i d lt

  -- the piece
  in_written : (i : ℕ) (d : ℤ) → i < length ys → slice_index_or (written xs from ys) (from + i) d ≡ slice_index_or ys i d
  in_written i d lt =
      let less : from + i - from ≡ i = omega arith in
      get_or-append_right (take from xs) (ys ++ drop (from + length ys) xs) from (from + i) d front (omega arith)
      ∙ ap (λ k. slice_index_or (ys ++ drop (from + length ys) xs) k d) less
      ∙ get_or-append ys (drop (from + length ys) xs) d i lt

  -- the words behind it stay
  after_written : (i : ℕ) (d : ℤ) → from + length ys ≤ i → slice_index_or (written xs from ys) i d ≡ slice_index_or xs i d
  after_written i d past =
      let back : from + length ys + (i - from - length ys) ≡ i = omega arith in
      get_or-append_right (take from xs) (ys ++ drop (from + length ys) xs) from i d front (omega arith)
      ∙ get_or-append_right ys (drop (from + length ys) xs) (length ys) (i - from) d refl (omega arith)
      ∙ get_or-drop (from + length ys) xs (i - from - length ys) d
      ∙ ap (λ k. slice_index_or xs k d) back

-- rows of so many words stand one after another
row_before : (t u fields field : ℕ) → field < fields → t < u → t * fields + field < u * fields
row_before t u fields field lt less =
    let rows : suc t * fields ≤ u * fields = mul-le-mul_right fields (omega arith) in
    omega arith

row_after : (t u fields field : ℕ) → u < t → u * fields + fields ≤ t * fields + field
row_after t u fields field less =
    let rows : suc u * fields ≤ t * fields = mul-le-mul_right fields (omega arith) in
    omega arith

-- a row that is written over another
pub row_written : (xs : List ℤ) (u : ℕ) (ys : List ℤ) (fields t field : ℕ) → length ys ≡ fields → u * fields + fields ≤ length xs → field < fields
    → slice_index_or (written xs (u * fields) ys) (t * fields + field) (pos 0) ≡ cond (t == u) (slice_index_or ys field (pos 0)) (slice_index_or xs (t * fields + field) (pos 0))
row_written xs u ys fields t field long room lt = by (t == u) refl
  where
    le : u * fields + length ys ≤ length xs
    le = omega arith

    by : (b : Bool) → (t == u) ≡ b → slice_index_or (written xs (u * fields) ys) (t * fields + field) (pos 0) ≡ cond b (slice_index_or ys field (pos 0)) (slice_index_or xs (t * fields + field) (pos 0))
    by true e =
        let same : t ≡ u = grind arith in
        rw same (in_written xs (u * fields) ys le field (pos 0) (omega arith))
    by false e =
        let other : t ≢ u = grind arith in
        side (nat_lt t u) refl other
      where
        side : (c : Bool) → nat_lt t u ≡ c → t ≢ u → slice_index_or (written xs (u * fields) ys) (t * fields + field) (pos 0) ≡ slice_index_or xs (t * fields + field) (pos 0)
        side true f ne = before_written xs (u * fields) ys le (t * fields + field) (pos 0) (row_before t u fields field lt (ltb-true t u f))
        side false f ne =
            let past : u ≤ t = ltb-false t u f in
            let after = row_after t u fields field (omega arith) in
            after_written xs (u * fields) ys le (t * fields + field) (pos 0) (omega arith)

-- how long a row is
pub row_length : (a fields : ℕ) → a + fields - a ≡ fields
row_length a fields = omega arith
