-- Marks for what stands in lists.
use Rattle.std.proofs.Common.{◌≡◌, ◌≢◌, ℕ, ◌+◌, ◌<◌, ◌⊎◌, Bool, true, List, [], ◌∷◌, ◌++◌, length, drop, get_or, slice_set, inl, inr, subst, below_more, get_or-set_other, get_or-set_same, arith}
use Rattle.std.specs.Prelude.{◌↔◌}
use Rattle.dependence.specs.Tables.{at, has}
use Rattle.dependence.specs.Uses.{Member}
use Rattle.domino_check.specs.SourceGroups.{all_sources}
use Rattle.source_rows.proofs.ChainLemmas.{drop_next}

-- one more of what is left is marked
pub carried : {N O X R W : Type 0} → N ↔ (O ⊎ X) → (O ⊎ (X ⊎ R)) ↔ W → (N ⊎ R) ↔ W
carried n w = (
  (λ h. w.0 (elim h [ inl x ↦ elim (n.0 x) [ inl o ↦ inl o | inr y ↦ inr (inl y) ] | inr r ↦ inr (inr r) ])),
  (λ h. elim (w.1 h) [ inl o ↦ inl (n.1 (inl o)) | inr s ↦ elim s [ inl y ↦ inl (n.1 (inr y)) | inr r ↦ inr r ] ]),
)

pub joins_left : (b : ℕ) (xs ys : List ℕ) → Member b (xs ++ ys) → Member b xs ⊎ Member b ys
joins_left b [] ys m = inr m
joins_left b (x ∷ xs) ys m = elim m [ inl e ↦ inl (inl e) | inr rest ↦ elim (joins_left b xs ys rest) [ inl p ↦ inl (inr p) | inr q ↦ inr q ] ]

pub joins_first : (b : ℕ) (xs ys : List ℕ) → Member b xs → Member b (xs ++ ys)
joins_first b [] ys m = elim m [ ]
joins_first b (x ∷ xs) ys m = elim m [ inl e ↦ inl e | inr rest ↦ inr (joins_first b xs ys rest) ]

pub joins_second : (b : ℕ) (xs ys : List ℕ) → Member b ys → Member b (xs ++ ys)
joins_second b [] ys m = m
joins_second b (x ∷ xs) ys m = inr (joins_second b xs ys m)

-- the same with one list of lists more
pub carried_list : {N O W : Type 0} (b : ℕ) (xs : List ℕ) (lists : List (List ℕ)) → N ↔ (O ⊎ Member b xs) → (O ⊎ Member b (all_sources (xs ∷ lists))) ↔ W
    → (N ⊎ Member b (all_sources lists)) ↔ W
carried_list b xs lists n w = carried n (
  (λ h. w.0 (elim h [ inl o ↦ inl o | inr s ↦ elim s [ inl p ↦ inr (joins_first b xs (all_sources lists) p) | inr q ↦ inr (joins_second b xs (all_sources lists) q) ] ])),
  (λ h. elim (w.1 h) [ inl o ↦ inl o | inr m ↦ inr (joins_left b xs (all_sources lists) m) ]),
)

-- one list more of those at hand
pub more_lists : {N O W : Type 0} (b : ℕ) (lists : List (List ℕ)) (i : ℕ) (x y : List ℕ) → i < length lists → x ≡ get_or lists i x → y ≡ x
    → N ↔ (O ⊎ Member b y) → (O ⊎ Member b (all_sources (drop i lists))) ↔ W → (N ⊎ Member b (all_sources (drop (i + 1) lists))) ↔ W
more_lists {N} {O} {W} b lists i x y within here same n w =
    carried_list b x (drop (i + 1) lists) (subst (λ (l : List ℕ). N ↔ (O ⊎ Member b l)) same n)
    (subst (λ (l : List (List ℕ)). (O ⊎ Member b (all_sources l)) ↔ W) (drop_next lists i x within here) w)

-- one row more
pub rows_more : (table : List (List Bool)) (a : ℕ) (row : List Bool) (P : ℕ → ℕ → Type 0) → a < length table
    → ((k b : ℕ) → k < a → b < 16 → (at table k b ≡ true) ↔ P k b) → ((b : ℕ) → b < 16 → (has row b ≡ true) ↔ P a b)
    → (k b : ℕ) → k < a + 1 → b < 16 → (at (slice_set table a row) k b ≡ true) ↔ P k b
rows_more table a row P within so_far here k b h small =
    below_more (λ k. (at (slice_set table a row) k b ≡ true) ↔ P k b) a
    (λ k less. let ne : k ≢ a = omega arith in rw get_or-set_other (so_far k b less small))
    (rw get_or-set_same (here b small)) k h
