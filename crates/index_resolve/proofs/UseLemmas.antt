-- What an instruction uses is written before it, and is what its node uses.
use Rattle.std.proofs.Common.{◌≡◌, ◌⊎◌, inl, inr, ℕ, zero, suc, ◌+◌, ◌-◌, ◌<◌, ◌≤◌, nat_lt, if◌then◌else◌, Bool, true, false, List, [], ◌∷◌, ◌++◌, length, map, flat_map, take, replicate, refl, sym, ap, subst, ◌∙◌, arith, append_assoc, append-nil}
use Rattle.std.specs.List.{list_all}
use Rattle.std.proofs.lemmas.Bool.Decides.{nat_tests}
use Rattle.code_forms.specs.declared.flat.Operand.{Operand}
use Rattle.code_forms.specs.declared.flat.Operand.TheVariants as operand
use Rattle.code_forms.specs.declared.flat.Instr.{Instr}
use Rattle.code_forms.specs.declared.flat.Instr.TheVariants as instr
use Rattle.code_forms.specs.FlatValid.{Written, is_written, is_guard, third_fits, instr_fits, instrs_fit, after, after_all, header_slots, writes, makes_guard, instr_at}
use Rattle.code_forms.specs.FlatValid.{at as slot_mark}
use Rattle.code_forms.specs.Staged.{Staged, Member, operand_slots, uses}
use Rattle.code_forms.proofs.ValidLemmas.{and_front, and_back}
use Rattle.code_forms.proofs.StagedLemmas.{member_front, member_back}
use Rattle.flat_graph.specs.Nodes.{writer, writers, used_by}

member_cases : (v : ℕ) (xs ys : List ℕ) → Member v (xs ++ ys) → Member v xs ⊎ Member v ys
member_cases v [] ys m = inr m
member_cases v (x ∷ xs) ys (inl e) = inl (inl e)
member_cases v (x ∷ xs) ys (inr m) = elim (member_cases v xs ys m) [ inl t ↦ inl (inr t) | inr t ↦ inr t ]

-- ---- slots that are written

-- a slot of the header, or of one of the first instructions, which writes a word
abbrev pub Wrote : ℕ → List Instr → ℕ → ℕ → Type 0
Wrote fields instrs k v = (v < fields) ⊎ ((j : ℕ) × (v ≡ fields + j) × (j < k) × (writes (instr_at instrs j) ≡ true))

words_are : (w : Written) (xs : List Instr) → (after_all w xs).words ≡ w.words ++ map writes xs
words_are w [] = sym (append-nil w.words)
words_are w (x ∷ xs) = words_are (after w x) xs ∙ append_assoc w.words (writes x ∷ []) (map writes xs)

guards_are : (w : Written) (xs : List Instr) → (after_all w xs).guards ≡ w.guards ++ map makes_guard xs
guards_are w [] = sym (append-nil w.guards)
guards_are w (x ∷ xs) = guards_are (after w x) xs ∙ append_assoc w.guards (makes_guard x ∷ []) (map makes_guard xs)

marks_at : (f : Instr → Bool) (k : ℕ) (instrs : List Instr) (j : ℕ) → slot_mark (map f (take k instrs)) j ≡ true → (j < k) × (f (instr_at instrs j) ≡ true)
marks_at f zero instrs j e = absurd cc
marks_at f (suc k) [] j e = absurd cc
marks_at f (suc k) (i ∷ instrs) zero e = (omega arith, e)
marks_at f (suc k) (i ∷ instrs) (suc j) e = let rest = marks_at f k instrs j e in (omega (arith, rest.0), rest.1)

behind : (b : Bool) (n : ℕ) (marks : List Bool) (v : ℕ) → slot_mark (replicate n b ++ marks) v ≡ true → (v < n) ⊎ ((j : ℕ) × (v ≡ n + j) × (slot_mark marks j ≡ true))
behind b zero marks v e = inr (v, omega arith, e)
behind b (suc n) marks zero e = inl (omega arith)
behind b (suc n) marks (suc v) e = elim (behind b n marks v e) [
  | inl t ↦ inl (omega (arith, t))
  | inr t ↦ (let is : v ≡ n + t.0 = t.1 in inr (t.0, omega (arith, is), t.2))
]

guard_writes : (i : Instr) → makes_guard i ≡ true → writes i ≡ true
guard_writes (instr.Yes g c) e = refl
guard_writes (instr.No g c) e = refl
guard_writes (instr.One op a) e = refl
guard_writes (instr.Two op a b) e = refl
guard_writes (instr.Pick c a b) e = refl
guard_writes (instr.Hash kind a b c) e = refl
guard_writes (instr.Move a) e = refl
guard_writes (instr.Index n a) e = refl
guard_writes (instr.Load n) e = refl
guard_writes (instr.Store n a) e = absurd cc

module _ (fields : ℕ) (instrs : List Instr) where
  abbrev pub before : ℕ → Written
  before k = after_all (header_slots fields) (take k instrs)

  pub word_wrote : (k v : ℕ) → slot_mark (before k).words v ≡ true → Wrote fields instrs k v
  word_wrote k v e = elim (behind true fields (map writes (take k instrs)) v (ap (λ l. slot_mark l v) (sym (words_are (header_slots fields) (take k instrs))) ∙ e)) [
    | inl t ↦ inl t
    | inr t ↦ (let m = marks_at writes k instrs t.0 t.2 in inr (t.0, t.1, m.0, m.1))
  ]

  pub guard_wrote : (k v : ℕ) → slot_mark (before k).guards v ≡ true → Wrote fields instrs k v
  guard_wrote k v e = elim (behind false fields (map makes_guard (take k instrs)) v (ap (λ l. slot_mark l v) (sym (guards_are (header_slots fields) (take k instrs))) ∙ e)) [
    | inl t ↦ inl t
    | inr t ↦ (let m = marks_at makes_guard k instrs t.0 t.2 in inr (t.0, t.1, m.0, guard_writes (instr_at instrs t.0) m.1))
  ]

  pub more_wrote : (k l v : ℕ) → k ≤ l → Wrote fields instrs k v → Wrote fields instrs l v
  more_wrote k l v le (inl t) = inl t
  more_wrote k l v le (inr t) = let less : t.0 < k = t.2 in inr (t.0, t.1, omega (arith, less, le), t.3)

-- each instruction fits behind those before it
pub fit_at : (n : ℕ) (w : Written) (instrs : List Instr) (k : ℕ) → k < length instrs → instrs_fit n w instrs ≡ true → instr_fits n (after_all w (take k instrs)) (instr_at instrs k) ≡ true
fit_at n w [] k less fit = absurd (omega arith)
fit_at n w (i ∷ instrs) zero less fit = and_front (instr_fits n w i) _ fit
fit_at n w (i ∷ instrs) (suc k) less fit = fit_at n (after w i) instrs k (omega (arith, less)) (and_back (instr_fits n w i) _ fit)

-- ---- operands

-- a slot that is written, and whose instruction, if it is one's, is among these
abbrev pub Good : ℕ → List Instr → ℕ → List ℕ → ℕ → Type 0
Good fields instrs k used v = Wrote fields instrs k v × ((j : ℕ) → v ≡ fields + j → Member j used)

writer_is : (fields s j : ℕ) → s ≡ fields + j → Member j (writer fields (operand.Slot s))
writer_is fields s j e = subst (λ b. Member j (if b then [] else (s - fields) ∷ [])) (sym past) (inl (omega (arith, e))) where
  past : nat_lt s fields ≡ false
  past = grind (arith, nat_tests, e)

module _ (fields : ℕ) (instrs : List Instr) (k : ℕ) where
  abbrev Fine : List ℕ → ℕ → Type 0
  Fine used v = Good fields instrs k used v

  op_good : (x : Operand) (v : ℕ) → is_written (before fields instrs k) x ≡ true → Member v (operand_slots x) → Fine (writer fields x) v
  op_good (operand.Slot s) v fits (inl e) = (word_wrote fields instrs k v (ap (λ n. slot_mark (before fields instrs k).words n) e ∙ fits), (λ j is. writer_is fields s j (sym e ∙ is)))
  op_good (operand.Slot s) v fits (inr m) = elim m [ ]
  op_good (operand.Number n) v fits m = elim m [ ]

  guard_good : (x : Operand) (v : ℕ) → is_guard (before fields instrs k) x ≡ true → Member v (operand_slots x) → Fine (writer fields x) v
  guard_good (operand.Slot s) v fits (inl e) = (guard_wrote fields instrs k v (ap (λ n. slot_mark (before fields instrs k).guards n) e ∙ fits), (λ j is. writer_is fields s j (sym e ∙ is)))
  guard_good (operand.Slot s) v fits (inr m) = elim m [ ]
  guard_good (operand.Number n) v fits m = elim m [ ]

  pub in_front : (xs ys : List ℕ) (v : ℕ) → Fine xs v → Fine (xs ++ ys) v
  in_front xs ys v good = (good.0, (λ j e. member_front j xs ys (good.1 j e)))

  pub in_back : (xs ys : List ℕ) (v : ℕ) → Fine ys v → Fine (xs ++ ys) v
  in_back xs ys v good = (good.0, (λ j e. member_back j xs ys (good.1 j e)))

  pub one_op : (a : Operand) (v : ℕ) → is_written (before fields instrs k) a ≡ true → Member v (operand_slots a) → Fine (writers fields (a ∷ [])) v
  one_op a v fit m = in_front (writer fields a) [] v (op_good a v fit m)

  two_ops : (a b : Operand) (v : ℕ) → is_written (before fields instrs k) a ≡ true → is_written (before fields instrs k) b ≡ true → Member v (operand_slots a ++ operand_slots b) → Fine (writers fields (a ∷ b ∷ [])) v
  two_ops a b v fa fb m = elim (member_cases v (operand_slots a) (operand_slots b) m) [
    | inl t ↦ in_front (writer fields a) (writers fields (b ∷ [])) v (op_good a v fa t)
    | inr t ↦ in_back (writer fields a) (writers fields (b ∷ [])) v (one_op b v fb t)
  ]

  guarded : (g b : Operand) (v : ℕ) → is_guard (before fields instrs k) g ≡ true → is_written (before fields instrs k) b ≡ true → Member v (operand_slots g ++ operand_slots b) → Fine (writers fields (g ∷ b ∷ [])) v
  guarded g b v fg fb m = elim (member_cases v (operand_slots g) (operand_slots b) m) [
    | inl t ↦ in_front (writer fields g) (writers fields (b ∷ [])) v (guard_good g v fg t)
    | inr t ↦ in_back (writer fields g) (writers fields (b ∷ [])) v (one_op b v fb t)
  ]

  three_ops : (a b x : Operand) (v : ℕ) → is_written (before fields instrs k) a ≡ true → is_written (before fields instrs k) b ≡ true → is_written (before fields instrs k) x ≡ true
      → Member v (operand_slots a ++ (operand_slots b ++ operand_slots x)) → Fine (writers fields (a ∷ b ∷ x ∷ [])) v
  three_ops a b x v fa fb fx m = elim (member_cases v (operand_slots a) (operand_slots b ++ operand_slots x) m) [
    | inl t ↦ in_front (writer fields a) (writers fields (b ∷ x ∷ [])) v (op_good a v fa t)
    | inr t ↦ in_back (writer fields a) (writers fields (b ∷ x ∷ [])) v (two_ops b x v fb fx t)
  ]

  -- the guards of a Store
  pub all_guards : (guards : List Operand) (v : ℕ) → list_all (is_guard (before fields instrs k)) guards ≡ true → Member v (flat_map operand_slots guards) → Fine (writers fields guards) v
  all_guards [] v fit m = elim m [ ]
  all_guards (g ∷ guards) v fit m = elim (member_cases v (operand_slots g) (flat_map operand_slots guards) m) [
    | inl t ↦ in_front (writer fields g) (writers fields guards) v (guard_good g v (and_front (is_guard (before fields instrs k) g) _ fit) t)
    | inr t ↦ in_back (writer fields g) (writers fields guards) v (all_guards guards v (and_back (is_guard (before fields instrs k) g) _ fit) t)
  ]

  -- what an instruction uses that is no Load and no Store
  pub plain_uses : (c : Staged) (n : ℕ) (i : Instr) (v : ℕ) → c.fields ≡ fields → c.instrs ≡ instrs → ((a : ℕ) → i ≡ instr.Load a → ⊥) → writes i ≡ true → instr_fits n (before fields instrs k) i ≡ true
      → Member v (uses c i) → Fine (used_by fields c.arrays instrs i) v
  plain_uses c n (instr.One op a) v ef ei load does fits m = one_op a v fits m
  plain_uses c n (instr.Two op a b) v ef ei load does fits m = two_ops a b v (and_front _ _ fits) (and_back (is_written (before fields instrs k) a) _ fits) m
  plain_uses c n (instr.Pick x a b) v ef ei load does fits m =
      let rest = and_back (is_written (before fields instrs k) x) _ fits in
      three_ops x a b v (and_front _ _ fits) (and_front _ _ rest) (and_back (is_written (before fields instrs k) a) _ rest) m
  plain_uses c n (instr.Hash kind a b x) v ef ei load does fits m =
      let all = and_back (third_fits kind x) _ fits in
      let rest = and_back (is_written (before fields instrs k) a) _ all in
      three_ops a b x v (and_front _ _ all) (and_front _ _ rest) (and_back (is_written (before fields instrs k) b) _ rest) m
  plain_uses c n (instr.Move a) v ef ei load does fits m = one_op a v fits m
  plain_uses c n (instr.Yes g x) v ef ei load does fits m = guarded g x v (and_front _ _ fits) (and_back (is_guard (before fields instrs k) g) _ fits) m
  plain_uses c n (instr.No g x) v ef ei load does fits m = guarded g x v (and_front _ _ fits) (and_back (is_guard (before fields instrs k) g) _ fits) m
  plain_uses c n (instr.Index a x) v ef ei load does fits m = one_op x v (and_back (nat_lt a n) _ fits) m
  plain_uses c n (instr.Load a) v ef ei load does fits m = elim (load a refl) [ ]
  plain_uses c n (instr.Store a x) v ef ei load does fits m = absurd cc
