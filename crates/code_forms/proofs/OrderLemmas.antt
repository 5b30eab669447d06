-- In valid flat code each slot is written before its use, and each Load comes behind its array's one Index.
use Rattle.std.proofs.Common.{◌≡◌, ℕ, zero, suc, ◌+◌, ◌<◌, nat_lt, if◌then◌else◌, Bool, true, false, List, [], ◌∷◌, ◌++◌, length, replicate, refl, sym, ap, subst, ◌∙◌, ◌⊎◌, inl, inr, append_assoc, length-append, arith}
use Rattle.std.proofs.lemmas.Bool.Decides.{Decides-eqb, eqb_tells, nat_tests}
use Rattle.code_forms.specs.declared.flat.Operand.{Operand}
use Rattle.code_forms.specs.declared.flat.Operand.TheVariants as operand
use Rattle.code_forms.specs.declared.flat.Instr.{Instr}
use Rattle.code_forms.specs.declared.flat.Instr.TheVariants as instr
use Rattle.code_forms.specs.FlatValid.{Written, Event, Indexes, Loads, Stores, header_slots, is_written, is_guard, third_fits, instr_fits, after, after_all, instrs_fit, event_of, events, is_life}
use Rattle.code_forms.specs.FlatMeaning.{index_slot, index_operand, steps_in}
use Rattle.code_forms.proofs.ValidLemmas.{and_front, and_back}
use Rattle.code_forms.proofs.FitLemmas.{within, after_join, after_length, same_length, events_join, index_here, load_here}
use Rattle.code_forms.proofs.FlatLemmas.{Below, UsesBelow, Placed, InOrder}

pub length_replicate : {A : Type 0} (n : ℕ) (x : A) → length (replicate n x) ≡ n
length_replicate zero x = refl
length_replicate (suc n) x = ap suc (length_replicate n x)

-- ---- where an array's first Index stands

-- an instruction that does nothing to an array isn't its Index
pub slot_past : (i : Instr) (xs : List Instr) (at a : ℕ) → event_of a i ≡ [] → index_slot (i ∷ xs) at a ≡ index_slot xs (suc at) a
slot_past (instr.Index b x) xs at a none = elim (eqb_tells b a) [
  | inl same ↦ absurd (no_event (sym (ap (λ (t : Bool). if t then Indexes ∷ [] else []) same.0) ∙ none))
  | inr other ↦ ap (λ (t : Bool). if t then at else index_slot xs (suc at) a) other.0
] where
  no_event : Indexes ∷ [] ≡ [] → ⊥
  no_event e = cc
slot_past (instr.One op x) xs at a none = refl
slot_past (instr.Two op x y) xs at a none = refl
slot_past (instr.Pick c x y) xs at a none = refl
slot_past (instr.Hash kind x y z) xs at a none = refl
slot_past (instr.Move x) xs at a none = refl
slot_past (instr.Yes g c) xs at a none = refl
slot_past (instr.No g c) xs at a none = refl
slot_past (instr.Load b) xs at a none = refl
slot_past (instr.Store b x) xs at a none = refl

operand_past : (i : Instr) (xs : List Instr) (a : ℕ) → event_of a i ≡ [] → index_operand (i ∷ xs) a ≡ index_operand xs a
operand_past (instr.Index b x) xs a none = elim (eqb_tells b a) [
  | inl same ↦ absurd (no_event (sym (ap (λ (t : Bool). if t then Indexes ∷ [] else []) same.0) ∙ none))
  | inr other ↦ ap (λ (t : Bool). if t then x else index_operand xs a) other.0
] where
  no_event : Indexes ∷ [] ≡ [] → ⊥
  no_event e = cc
operand_past (instr.One op x) xs a none = refl
operand_past (instr.Two op x y) xs a none = refl
operand_past (instr.Pick c x y) xs a none = refl
operand_past (instr.Hash kind x y z) xs a none = refl
operand_past (instr.Move x) xs a none = refl
operand_past (instr.Yes g c) xs a none = refl
operand_past (instr.No g c) xs a none = refl
operand_past (instr.Load b) xs a none = refl
operand_past (instr.Store b x) xs a none = refl

-- no event in both lists
both_none : (es fs : List Event) → es ++ fs ≡ [] → (es ≡ []) × (fs ≡ [])
both_none [] fs e = (refl, e)
both_none (x ∷ es) fs e = absurd cc

-- behind instructions that do nothing to an array
pub slot_behind : (xs ys : List Instr) (at a : ℕ) → events a xs ≡ [] → index_slot (xs ++ ys) at a ≡ index_slot ys (at + length xs) a
slot_behind [] ys at a none = ap (λ n. index_slot ys n a) (omega arith)
slot_behind (x ∷ xs) ys at a none =
    let parts = both_none (event_of a x) (events a xs) none in
    slot_past x (xs ++ ys) at a parts.0 ∙ slot_behind xs ys (suc at) a parts.1 ∙ ap (λ n. index_slot ys n a) (omega arith)

pub operand_behind : (xs ys : List Instr) (a : ℕ) → events a xs ≡ [] → index_operand (xs ++ ys) a ≡ index_operand ys a
operand_behind [] ys a none = refl
operand_behind (x ∷ xs) ys a none =
    let parts = both_none (event_of a x) (events a xs) none in
    operand_past x (xs ++ ys) a parts.0 ∙ operand_behind xs ys a parts.1

pub slot_here : (a : ℕ) (x : Operand) (ys : List Instr) (at : ℕ) → index_slot (instr.Index a x ∷ ys) at a ≡ at
slot_here a x ys at = ap (λ (t : Bool). if t then at else index_slot ys (suc at) a) ((Decides-eqb a a).1 refl)

pub operand_here : (a : ℕ) (x : Operand) (ys : List Instr) → index_operand (instr.Index a x ∷ ys) a ≡ x
operand_here a x ys = ap (λ (t : Bool). if t then x else index_operand ys a) ((Decides-eqb a a).1 refl)

-- ---- an instruction is an array's Index, or does nothing first

-- the first event of an array is that of its first instruction that has one
pub first_event : (i : Instr) (a : ℕ) (es fs : List Event) → event_of a i ++ es ≡ Indexes ∷ fs → ((x : Operand) × (i ≡ instr.Index a x)) ⊎ (event_of a i ≡ [])
first_event (instr.Index b x) a es fs e = elim (eqb_tells b a) [
  | inl same ↦ inl (x, ap (λ n. instr.Index n x) same.1)
  | inr other ↦ inr (ap (λ (t : Bool). if t then Indexes ∷ [] else []) other.0)
]
first_event (instr.Load b) a es fs e = elim (eqb_tells b a) [
  | inl same ↦ absurd (not_first (ap (λ (t : Bool). (if t then Loads ∷ [] else []) ++ es) (sym same.0) ∙ e))
  | inr other ↦ inr (ap (λ (t : Bool). if t then Loads ∷ [] else []) other.0)
] where
  not_first : Loads ∷ es ≡ Indexes ∷ fs → ⊥
  not_first e = cc
first_event (instr.Store b x) a es fs e = elim (eqb_tells b a) [
  | inl same ↦ absurd (not_first (ap (λ (t : Bool). (if t then Stores ∷ [] else []) ++ es) (sym same.0) ∙ e))
  | inr other ↦ inr (ap (λ (t : Bool). if t then Stores ∷ [] else []) other.0)
] where
  not_first : Stores ∷ es ≡ Indexes ∷ fs → ⊥
  not_first e = cc
first_event (instr.One op x) a es fs e = inr refl
first_event (instr.Two op x y) a es fs e = inr refl
first_event (instr.Pick c x y) a es fs e = inr refl
first_event (instr.Hash kind x y z) a es fs e = inr refl
first_event (instr.Move x) a es fs e = inr refl
first_event (instr.Yes g c) a es fs e = inr refl
first_event (instr.No g c) a es fs e = inr refl

-- instructions that index an array first: its first Index stands among them, whatever comes behind
pub slot_within : (xs ys : List Instr) (at a : ℕ) (fs : List Event) → events a xs ≡ Indexes ∷ fs → index_slot (xs ++ ys) at a < at + length xs
slot_within [] ys at a fs e = absurd cc
slot_within (x ∷ xs) ys at a fs e = elim (first_event x a (events a xs) fs e) [
  | inl is ↦ (let here : index_slot (x ∷ (xs ++ ys)) at a ≡ at = ap (λ i. index_slot (i ∷ (xs ++ ys)) at a) is.1 ∙ slot_here a is.0 (xs ++ ys) at in omega (arith, here))
  | inr none ↦ (
      let past : index_slot (x ∷ (xs ++ ys)) at a ≡ index_slot (xs ++ ys) (suc at) a = slot_past x (xs ++ ys) at a none in
      let rest : index_slot (xs ++ ys) (suc at) a < suc at + length xs = slot_within xs ys (suc at) a fs (ap (λ l. l ++ events a xs) (sym none) ∙ e) in
      omega (arith, past, rest))
]

pub operand_within : (xs ys : List Instr) (a : ℕ) (fs : List Event) → events a xs ≡ Indexes ∷ fs → index_operand (xs ++ ys) a ≡ index_operand xs a
operand_within [] ys a fs e = absurd cc
operand_within (x ∷ xs) ys a fs e = elim (first_event x a (events a xs) fs e) [
  | inl is ↦ ap (λ i. index_operand (i ∷ (xs ++ ys)) a) is.1 ∙ operand_here a is.0 (xs ++ ys) ∙ sym (ap (λ i. index_operand (i ∷ xs) a) is.1 ∙ operand_here a is.0 xs)
  | inr none ↦ operand_past x (xs ++ ys) a none ∙ operand_within xs ys a fs (ap (λ l. l ++ events a xs) (sym none) ∙ e) ∙ sym (operand_past x xs a none)
]

-- ---- lives

-- in a life nothing comes before the Index
before_index : (t : Bool) (es fs : List Event) → is_life t (es ++ Indexes ∷ fs) ≡ true → es ≡ []
before_index true [] fs e = refl
before_index false [] fs e = refl
before_index false (x ∷ es) fs e = absurd cc
before_index true (Stores ∷ es) fs e = absurd cc
before_index true (Loads ∷ es) fs e = absurd cc
before_index true (Indexes ∷ []) fs e = absurd cc
before_index true (Indexes ∷ Indexes ∷ es) fs e = absurd cc
before_index true (Indexes ∷ Stores ∷ es) fs e = absurd cc
before_index true (Indexes ∷ Loads ∷ []) fs e = absurd cc
before_index true (Indexes ∷ Loads ∷ Indexes ∷ es) fs e = absurd cc
before_index true (Indexes ∷ Loads ∷ Loads ∷ es) fs e = absurd cc
before_index true (Indexes ∷ Loads ∷ Stores ∷ []) fs e = absurd cc
before_index true (Indexes ∷ Loads ∷ Stores ∷ x ∷ es) fs e = absurd cc

-- before the Load comes the Index
before_load : (t : Bool) (es fs : List Event) → is_life t (es ++ Loads ∷ fs) ≡ true → es ≡ Indexes ∷ []
before_load true [] fs e = absurd cc
before_load false [] fs e = absurd cc
before_load false (x ∷ es) fs e = absurd cc
before_load true (Stores ∷ es) fs e = absurd cc
before_load true (Loads ∷ es) fs e = absurd cc
before_load true (Indexes ∷ []) fs e = refl
before_load true (Indexes ∷ Indexes ∷ es) fs e = absurd cc
before_load true (Indexes ∷ Stores ∷ es) fs e = absurd cc
before_load true (Indexes ∷ Loads ∷ []) fs e = absurd cc
before_load true (Indexes ∷ Loads ∷ Indexes ∷ es) fs e = absurd cc
before_load true (Indexes ∷ Loads ∷ Loads ∷ es) fs e = absurd cc
before_load true (Indexes ∷ Loads ∷ Stores ∷ []) fs e = absurd cc
before_load true (Indexes ∷ Loads ∷ Stores ∷ x ∷ es) fs e = absurd cc

-- ---- each use is below

module _ (slots : ℕ → ℕ) (n : ℕ) (w : Written) (at : ℕ) (long : length w.words ≡ at) (same : length w.guards ≡ length w.words) where
  word_below : (x : Operand) → is_written w x ≡ true → Below at x
  word_below (operand.Slot k) e = let k_in : k < length w.words = within w.words k e in omega (arith, k_in, long)
  word_below (operand.Number z) e = tt

  guard_below : (x : Operand) → is_guard w x ≡ true → Below at x
  guard_below (operand.Slot k) e = let k_in : k < length w.guards = within w.guards k e in omega (arith, k_in, long, same)
  guard_below (operand.Number z) e = tt

  -- where an array is loaded its Index is below
  uses_below : (i : Instr) → instr_fits n w i ≡ true → ((a : ℕ) → i ≡ instr.Load a → slots a < at) → UsesBelow slots at i
  uses_below (instr.One op a) e load = word_below a e
  uses_below (instr.Two op a b) e load = (word_below a (and_front (is_written w a) _ e), word_below b (and_back (is_written w a) _ e))
  uses_below (instr.Pick c a b) e load =
      let rest = and_back (is_written w c) _ e in
      (word_below c (and_front (is_written w c) _ e), word_below a (and_front (is_written w a) _ rest), word_below b (and_back (is_written w a) _ rest))
  uses_below (instr.Hash kind a b c) e load =
      let all = and_back (third_fits kind c) _ e in
      let rest = and_back (is_written w a) _ all in
      (word_below a (and_front (is_written w a) _ all), word_below b (and_front (is_written w b) _ rest), word_below c (and_back (is_written w b) _ rest))
  uses_below (instr.Move a) e load = word_below a e
  uses_below (instr.Yes g c) e load = (guard_below g (and_front (is_guard w g) _ e), word_below c (and_back (is_guard w g) _ e))
  uses_below (instr.No g c) e load = (guard_below g (and_front (is_guard w g) _ e), word_below c (and_back (is_guard w g) _ e))
  uses_below (instr.Index a x) e load = word_below x (and_back (nat_lt a n) _ e)
  uses_below (instr.Load a) e load = load a refl
  uses_below (instr.Store a x) e load = word_below x (and_back (nat_lt a n) _ e)

-- each array below n has a life among the instructions
abbrev pub Lives : ℕ → List Instr → Type 0
Lives n whole = (a : ℕ) → a < n → (t : Bool) × (is_life t (events a whole) ≡ true)

module _ (fields n : ℕ) (whole : List Instr) (lives : Lives n whole) where
  abbrev slots : ℕ → ℕ
  slots = index_slot whole fields

  below_n : (a : ℕ) → nat_lt a n ≡ true → a < n
  below_n a e = grind (arith, nat_tests, e)

  placed_here : (pre rest : List Instr) (i : Instr) → whole ≡ pre ++ i ∷ rest → (w : Written) → instr_fits n w i ≡ true → Placed slots (fields + length pre) i
  placed_here pre rest (instr.Index a x) is w e =
      let life = lives a (below_n a (and_front (nat_lt a n) _ e)) in
      let parts : events a whole ≡ events a pre ++ (Indexes ∷ events a rest) = ap (events a) is ∙ events_join a pre (instr.Index a x ∷ rest) ∙ (λ j. events a pre ++ (index_here a x j ++ events a rest)) in
      let none : events a pre ≡ [] = before_index life.0 (events a pre) (events a rest) (ap (is_life life.0) (sym parts) ∙ life.1) in
      ap (λ l. index_slot l fields a) is ∙ slot_behind pre (instr.Index a x ∷ rest) fields a none ∙ slot_here a x rest (fields + length pre)
  placed_here pre rest (instr.One op a) is w e = tt
  placed_here pre rest (instr.Two op a b) is w e = tt
  placed_here pre rest (instr.Pick c a b) is w e = tt
  placed_here pre rest (instr.Hash kind a b c) is w e = tt
  placed_here pre rest (instr.Move a) is w e = tt
  placed_here pre rest (instr.Yes g c) is w e = tt
  placed_here pre rest (instr.No g c) is w e = tt
  placed_here pre rest (instr.Load a) is w e = tt
  placed_here pre rest (instr.Store a x) is w e = tt

  loaded_below : (pre rest : List Instr) (a : ℕ) → whole ≡ pre ++ instr.Load a ∷ rest → a < n → slots a < fields + length pre
  loaded_below pre rest a is below =
      let life = lives a below in
      let parts : events a whole ≡ events a pre ++ (Loads ∷ events a rest) = ap (events a) is ∙ events_join a pre (instr.Load a ∷ rest) ∙ (λ j. events a pre ++ (load_here a j ++ events a rest)) in
      let one : events a pre ≡ Indexes ∷ [] = before_load life.0 (events a pre) (events a rest) (ap (is_life life.0) (sym parts) ∙ life.1) in
      subst (λ l. index_slot l fields a < fields + length pre) (sym is) (slot_within pre (instr.Load a ∷ rest) fields a [] one)

  order_from : (pre rest : List Instr) (later : List (List ℕ)) (k : ℕ) → whole ≡ pre ++ rest → instrs_fit n (after_all (header_slots fields) pre) rest ≡ true → InOrder slots (fields + length pre) (steps_in later k rest)
  order_from pre [] later k is fit = tt
  order_from pre (i ∷ rest) later k is fit =
      let w : Written = after_all (header_slots fields) pre in
      let here : instr_fits n w i ≡ true = and_front (instr_fits n w i) _ fit in
      let long : length w.words ≡ fields + length pre = omega (arith, after_length (header_slots fields) pre, length_replicate fields true) in
      let seam : pre ++ (i ∷ rest) ≡ (pre ++ i ∷ []) ++ rest = sym (append_assoc pre (i ∷ []) rest) in
      let next : fields + length (pre ++ i ∷ []) ≡ suc (fields + length pre) = omega (arith, length-append pre (i ∷ [])) in
      let behind : after_all (header_slots fields) (pre ++ i ∷ []) ≡ after w i = after_join (header_slots fields) pre (i ∷ []) in (
        uses_below slots n w (fields + length pre) long (same_length (header_slots fields) pre (length_replicate fields false ∙ sym (length_replicate fields true))) i here
            (λ a e. loaded_below pre rest a (is ∙ ap (λ j. pre ++ j ∷ rest) e) (below_n a (ap (instr_fits n w) (sym e) ∙ here))),
        placed_here pre rest i is w here,
        subst (λ m. InOrder slots m (steps_in later (suc k) rest)) next
            (order_from (pre ++ i ∷ []) rest later (suc k) (is ∙ seam) (ap (λ v. instrs_fit n v rest) behind ∙ and_back (instr_fits n w i) _ fit)),
      )

  -- the instructions are in order, whatever the numbers of the later copies are
  pub in_order : (later : List (List ℕ)) → instrs_fit n (header_slots fields) whole ≡ true → InOrder slots fields (steps_in later 0 whole)
  in_order later fit = subst (λ m. InOrder slots m (steps_in later 0 whole)) (omega arith) (order_from [] whole later 0 refl fit)
