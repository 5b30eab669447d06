-- The small transaction of the tests is staged code.
use Rattle.std.proofs.Common.{◌≡◌, ℕ, zero, suc, ◌+◌, ◌*◌, ◌<◌, ◌≤◌, pos, Bool, true, false, if◌then◌else◌, List, [], ◌∷◌, Some, None, refl, sym, ap, subst, ◌∙◌, ◌⊎◌, inl, inr, lit<, lit≤, arith}
use Rattle.mp5_words.specs.declared.op.Op2.TheVariants as op
use Rattle.std.specs.List.{slice_index_or}
use Rattle.mp5_words.specs.Words.{cell}
use Rattle.mp5_words.specs.Cells.{word_at}
use Rattle.code_forms.specs.declared.flat.Operand.TheVariants as operand
use Rattle.code_forms.specs.declared.flat.Instr.{Instr}
use Rattle.code_forms.specs.declared.flat.Instr.TheVariants as instr
use Rattle.code_forms.specs.declared.flat.FlatArray.{FlatArray}
use Rattle.code_forms.specs.declared.parts.HeaderStep.{HeaderStep}
use Rattle.code_forms.specs.FlatMeaning.{flat_length}
use Rattle.code_forms.specs.Staged.{Staged, Member, slot_of_index, uses, last_slots, number_at, runs, point, accessed, group_at, group_of, stored_operand, InPart, IsWritten, of_header, of_instr, AreParts, IsOrder, IsGroup, IsStaged}
use Rattle.code_forms.specs.StagedMeaning.{staged_values, PlacesAreIndexes}

abbrev pub row_instrs : List Instr
row_instrs =
    instr.Two op.Gt (operand.Slot 0) (operand.Number (pos 2))
    ∷ instr.Yes (operand.Number (pos 1)) (operand.Slot 2)
    ∷ instr.No (operand.Number (pos 1)) (operand.Slot 2)
    ∷ instr.Index 0 (operand.Slot 0)
    ∷ instr.Load 0
    ∷ instr.Two op.Add (operand.Slot 6) (operand.Slot 1)
    ∷ instr.Pick (operand.Slot 3) (operand.Slot 7) (operand.Slot 6)
    ∷ instr.Pick (operand.Slot 3) (operand.Slot 8) (operand.Slot 1)
    ∷ instr.Store 0 (operand.Slot 8)
    ∷ []

abbrev pub row_arrays : List FlatArray
row_arrays = record { length = 4; start = pos 7; same = 0; touched = operand.Slot 3 ∷ []; copies = 6 ∷ [] } ∷ []

abbrev pub row_header : List HeaderStep
row_header =
    record { instr = instr.Two op.Gt (operand.Slot 0) (operand.Number (pos 2)); slot = 2 }
    ∷ record { instr = instr.Yes (operand.Number (pos 1)) (operand.Slot 2); slot = 3 }
    ∷ record { instr = instr.No (operand.Number (pos 1)) (operand.Slot 2); slot = 4 }
    ∷ record { instr = instr.Index 0 (operand.Slot 0); slot = 5 }
    ∷ []

abbrev pub row : Staged
row = record {
  fields = 2;
  arrays = row_arrays;
  instrs = row_instrs;
  last = operand.Slot 0 ∷ operand.Slot 9 ∷ [];
  order = 0 ∷ 1 ∷ 2 ∷ 3 ∷ 4 ∷ 5 ∷ 6 ∷ 8 ∷ 7 ∷ [];
  ends = 4 ∷ 8 ∷ 9 ∷ [];
  groups = record { arrays = 0 ∷ []; sharded = true; depth = 2 } ∷ [];
  header = row_header;
  stages = 4;
}

-- what holds of each number below
abbrev Below : (ℕ → Type 0) → ℕ → Type 0
Below P zero = Unit {0}
Below P (suc n) = P n × Below P n

below : (P : ℕ → Type 0) (n : ℕ) → Below P n → (k : ℕ) → k < n → P k
below P zero all k less = absurd (omega (arith, less))
below P (suc n) all k less = elim (last k n less) [
  | inl same ↦ subst P (sym same) all.0
  | inr before ↦ below P n all.1 k before
] where
  last : (k n : ℕ) → k < suc n → (k ≡ n) ⊎ (k < n)
  last zero zero less = inl refl
  last zero (suc n) less = inr (omega arith)
  last (suc k) zero less = absurd (omega (arith, less))
  last (suc k) (suc n) less = elim (last k n (omega (arith, less))) [ inl same ↦ inl (ap suc same) | inr before ↦ inr (omega (arith, before)) ]

-- ---- the order

given : (p v w : ℕ) → w < 2 → v ≡ w → IsWritten row p v
given p v w less same = subst (IsWritten row p) (sym same) (of_header less)

made : (p q v w : ℕ) → q < p → w ≡ 2 + number_at row q → v ≡ w → IsWritten row p v
made p q v w less is same = of_instr q less (same ∙ is)

abbrev Ordered : ℕ → Type 0
Ordered p = (v : ℕ) → Member v (uses row (runs row p)) → IsWritten row p v

ordered-0 : Ordered 0
ordered-0 v (inl e) = given 0 v 0 (lit< tt) e
ordered-0 v (inr m) = elim m [ ]

ordered-1 : Ordered 1
ordered-1 v (inl e) = made 1 0 v 2 (lit< tt) refl e
ordered-1 v (inr m) = elim m [ ]

ordered-2 : Ordered 2
ordered-2 v (inl e) = made 2 0 v 2 (lit< tt) refl e
ordered-2 v (inr m) = elim m [ ]

ordered-3 : Ordered 3
ordered-3 v (inl e) = given 3 v 0 (lit< tt) e
ordered-3 v (inr m) = elim m [ ]

ordered-4 : Ordered 4
ordered-4 v (inl e) = made 4 3 v 5 (lit< tt) refl e
ordered-4 v (inr m) = elim m [ ]

ordered-5 : Ordered 5
ordered-5 v (inl e) = made 5 4 v 6 (lit< tt) refl e
ordered-5 v (inr (inl e)) = given 5 v 1 (lit< tt) e
ordered-5 v (inr (inr m)) = elim m [ ]

ordered-6 : Ordered 6
ordered-6 v (inl e) = made 6 1 v 3 (lit< tt) refl e
ordered-6 v (inr (inl e)) = made 6 5 v 7 (lit< tt) refl e
ordered-6 v (inr (inr (inl e))) = made 6 4 v 6 (lit< tt) refl e
ordered-6 v (inr (inr (inr m))) = elim m [ ]

ordered-7 : Ordered 7
ordered-7 v (inl e) = made 7 6 v 8 (lit< tt) refl e
ordered-7 v (inr (inl e)) = made 7 3 v 5 (lit< tt) refl e
ordered-7 v (inr (inr (inl e))) = made 7 1 v 3 (lit< tt) refl e
ordered-7 v (inr (inr (inr m))) = elim m [ ]

ordered-8 : Ordered 8
ordered-8 v (inl e) = made 8 1 v 3 (lit< tt) refl e
ordered-8 v (inr (inl e)) = made 8 6 v 8 (lit< tt) refl e
ordered-8 v (inr (inr (inl e))) = given 8 v 1 (lit< tt) e
ordered-8 v (inr (inr (inr m))) = elim m [ ]

ended : (v : ℕ) → Member v (last_slots row) → IsWritten row 9 v
ended v (inl e) = given 9 v 0 (lit< tt) e
ended v (inr (inl e)) = made 9 8 v 9 (lit< tt) refl e
ended v (inr (inr m)) = elim m [ ]

row_order : IsOrder row
row_order = record {
  known = below (λ p. number_at row p < 9) 9 (lit< tt, (lit< tt, (lit< tt, (lit< tt, (lit< tt, (lit< tt, (lit< tt, (lit< tt, (lit< tt, tt)))))))));
  ordered = λ p v less m. below Ordered 9 (ordered-8, (ordered-7, (ordered-6, (ordered-5, (ordered-4, (ordered-3, (ordered-2, (ordered-1, (ordered-0, tt))))))))) p less v m;
  ended = ended;
}

-- ---- parts, accesses and groups

row_parts : AreParts row
row_parts = record {
  few = lit≤ tt;
  count = refl;
  rising = below (λ k. point row k ≤ point row (k + 1)) 3 (lit≤ tt, (lit≤ tt, (lit≤ tt, tt)));
  whole = refl;
}

abbrev Inside : ℕ → Type 0
Inside p = (a : ℕ) → accessed (runs row p) ≡ Some a → (g : ℕ) × (g < 1) × (group_of row a ≡ Some g) × InPart row (2 * g + 1) p

nothing : {A : Type 0} (a : ℕ) → None ≡ Some a → A
nothing a e = absurd (cc)

here : (a : ℕ) → Some 0 ≡ Some a → group_of row a ≡ Some 0
here a e = let same : 0 ≡ a = cc in subst (λ n. group_of row n ≡ Some 0) same refl

row_inside : (p : ℕ) → p < 9 → Inside p
row_inside = below Inside 9 (
  λ a e. nothing a e,
  (
    λ a e. (0, lit< tt, here a e, (lit≤ tt, lit< tt)),
    (
      λ a e. nothing a e,
      (
        λ a e. nothing a e,
        (
          λ a e. (0, lit< tt, here a e, (lit≤ tt, lit< tt)),
          (
            λ a e. nothing a e,
            (
              λ a e. nothing a e,
              (
                λ a e. nothing a e,
                (
                  λ a e. nothing a e,
                  tt,
                ),
              ),
            ),
          ),
        ),
      ),
    ),
  ),
)

row_stored : (g a : ℕ) → g < 1 → Member a (group_at row g).arrays → (p : ℕ) × InPart row (2 * g + 1) p × (runs row p ≡ instr.Store a (stored_operand row.instrs a))
row_stored zero a less (inl e) = (7, (lit≤ tt, lit< tt), subst (λ n. runs row 7 ≡ instr.Store n (stored_operand row.instrs n)) (sym e) refl)
row_stored zero a less (inr m) = elim m [ ]
row_stored (suc g) a less m = absurd (omega (arith, less))

row_group : (g : ℕ) → g < 1 → IsGroup row g
row_group zero less = record { some = lit< tt; rising = refl; there = there; even = λ sharded. even } where
  there : (a : ℕ) → Member a (0 ∷ []) → (a < 1) × (group_of row a ≡ Some 0)
  there a (inl e) = (subst (λ n. n < 1) (sym e) (lit< tt), subst (λ n. group_of row n ≡ Some 0) (sym e) refl)
  there a (inr m) = elim m [ ]

  even : (a : ℕ) → Member a (0 ∷ []) → flat_length row_arrays a ≡ 4
  even a (inl e) = subst (λ n. flat_length row_arrays n ≡ 4) (sym e) refl
  even a (inr m) = elim m [ ]
row_group (suc g) less = absurd (omega (arith, less))

pub row_staged : IsStaged row
row_staged = record {
  code = refl;
  parts = row_parts;
  order = row_order;
  accesses = record { inside = λ p a less e. row_inside p less a e; stored = row_stored };
  groups = row_group;
  header = λ k d less. below (λ n. (slice_index_or row_header n d).slot < 11) 4 (lit< tt, (lit< tt, (lit< tt, (lit< tt, tt)))) k less;
}

-- ---- places

chosen : (b : Bool) (n u : ℕ) → (if b then Some n else None) ≡ Some u → n ≡ u
chosen true n u e = cc
chosen false n u e = absurd (cc)

pub row_places : PlacesAreIndexes row
row_places [] units long g u less sharded placed a m = absurd (cc)
row_places (x ∷ []) units long g u less sharded placed a m = absurd (omega (arith, long))
row_places (x ∷ y ∷ []) units long zero u less sharded placed a (inl e) =
    subst (λ n. word_at (staged_values row units (x ∷ y ∷ [])) (slot_of_index row n) ≡ pos u) (sym e) (ap pos (chosen _ (cell x 4) u placed))
row_places (x ∷ y ∷ []) units long zero u less sharded placed a (inr m) = elim m [ ]
row_places (x ∷ y ∷ []) units long (suc g) u less sharded placed a m = absurd (omega (arith, less))
row_places (x ∷ y ∷ z ∷ header) units long g u less sharded placed a m = absurd (omega (arith, long))
