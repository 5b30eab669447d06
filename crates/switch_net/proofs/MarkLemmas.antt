-- The sums of a mark.
use Rattle.std.proofs.Common.{◌≡◌, ◌∙◌, ℕ, ◌+◌, ◌<◌, ◌%◌, ◌^◌, ℤ, pos, ◌+ℤ◌, List, length, take, slice_index_or, FitsSigned, to_z, of_z, w32, ap, sym}
use Rattle.std.specs.Int.{int_wrap}
use Rattle.std.proofs.lemmas.Int.{int_wrap-add_left, wrapping_add_onto}
use Rattle.std.proofs.lemmas.List.Sums.{fold_more}
use Rattle.switch_net.specs.Marks.{word_sum}

-- the sum of the first words and the next one is that of one word more
pub next_word : (words : List ℤ) (k bits : ℕ) → k < length words → bits < 2 ^ 32 → FitsSigned w32 (slice_index_or words k (pos 0))
    → to_z w32 bits ≡ word_sum (take k words)
    → to_z w32 ((bits + of_z w32 (slice_index_or words k (pos 0))) % 2 ^ 32) ≡ word_sum (take (k + 1) words)
next_word words k bits lt few fits is =
    wrapping_add_onto w32 bits (slice_index_or words k (pos 0)) few fits
    ∙ ap (λ z. int_wrap w32 (z +ℤ slice_index_or words k (pos 0))) is
    ∙ int_wrap-add_left w32 _ (slice_index_or words k (pos 0))
    ∙ ap (int_wrap w32) (sym (fold_more (λ (sum w : ℤ). sum +ℤ w) (pos 0) words k (pos 0) lt))
