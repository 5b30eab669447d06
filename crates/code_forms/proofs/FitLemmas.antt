-- Which slots are written, through instructions one after another.
use Rattle.std.proofs.Common.{◌≡◌, ℕ, zero, suc, ◌+◌, ◌<◌, ◌≢◌, ◌==◌, if◌then◌else◌, inl, inr, Bool, true, false, List, [], ◌∷◌, ◌++◌, length, get_or, refl, ap, sym, append_assoc, subst, ◌∙◌, length-append, arith}
use Rattle.std.proofs.lemmas.List.{get_or_append_left}
use Rattle.std.proofs.Math.Seq.{get_or-append_seam}
use Rattle.std.proofs.lemmas.Bool.Decides.{Decides-eqb, eqb_tells}
use Rattle.code_forms.specs.declared.flat.Operand.{Operand}
use Rattle.code_forms.specs.declared.flat.Operand.TheVariants as operand
use Rattle.code_forms.specs.declared.flat.Instr.{Instr}
use Rattle.code_forms.specs.declared.flat.Instr.TheVariants as instr
use Rattle.code_forms.specs.FlatValid.{Written, is_written, is_guard, instr_fits, writes, makes_guard, after, after_all, instrs_fit, event_of, events, Indexes, Loads, Stores}
use Rattle.code_forms.proofs.ValidLemmas.{and_front, and_back, and_both}

-- instructions that fit, and others that fit behind them
pub fit_join : (n : ℕ) (w : Written) (xs ys : List Instr) → instrs_fit n w xs ≡ true → instrs_fit n (after_all w xs) ys ≡ true → instrs_fit n w (xs ++ ys) ≡ true
fit_join n w [] ys one two = two
fit_join n w (x ∷ xs) ys one two = and_both (instr_fits n w x) (instrs_fit n (after w x) (xs ++ ys)) (and_front (instr_fits n w x) _ one) (fit_join n (after w x) xs ys (and_back (instr_fits n w x) _ one) two)

pub after_join : (w : Written) (xs ys : List Instr) → after_all w (xs ++ ys) ≡ after_all (after_all w xs) ys
after_join w [] ys = refl
after_join w (x ∷ xs) ys = after_join (after w x) xs ys

pub after_length : (w : Written) (xs : List Instr) → length (after_all w xs).words ≡ length w.words + length xs
after_length w [] = omega arith
after_length w (x ∷ xs) = omega (arith, after_length (after w x) xs, length-append w.words (writes x ∷ []))

-- a place that is true is within
pub within : (l : List Bool) (k : ℕ) → get_or l k false ≡ true → k < length l
within [] k e = absurd cc
within (b ∷ l) zero e = omega arith
within (b ∷ l) (suc k) e = omega (arith, within l k e)

pub kept_one : (w : Written) (i : Instr) (x : Operand) → is_written w x ≡ true → is_written (after w i) x ≡ true
kept_one w i (operand.Slot k) e = get_or_append_left w.words (writes i ∷ []) false k (within w.words k e) ∙ e
kept_one w i (operand.Number n) e = refl

-- what is written stays written
pub kept : (w : Written) (xs : List Instr) (x : Operand) → is_written w x ≡ true → is_written (after_all w xs) x ≡ true
kept w [] x e = e
kept w (i ∷ xs) x e = kept (after w i) xs x (kept_one w i x e)

-- the slot of an instruction that writes one
pub new_slot : (w : Written) (i : Instr) (at : ℕ) → length w.words ≡ at → writes i ≡ true → is_written (after w i) (operand.Slot at) ≡ true
new_slot w i at long does = subst (λ k. get_or (w.words ++ writes i ∷ []) k false ≡ true) long (get_or-append_seam w.words (writes i) [] false ∙ does)

-- what instructions do to an array, one list after another
pub events_join : (a : ℕ) (xs ys : List Instr) → events a (xs ++ ys) ≡ events a xs ++ events a ys
events_join a [] ys = refl
events_join a (x ∷ xs) ys = ap (λ l. event_of a x ++ l) (events_join a xs ys) ∙ sym (append_assoc (event_of a x) (events a xs) (events a ys))

-- what is a guard stays one
pub kept_guard : (w : Written) (xs : List Instr) (x : Operand) → is_guard w x ≡ true → is_guard (after_all w xs) x ≡ true
kept_guard w [] x e = e
kept_guard w (i ∷ xs) x e = kept_guard (after w i) xs x (one x e) where
  one : (x : Operand) → is_guard w x ≡ true → is_guard (after w i) x ≡ true
  one (operand.Slot k) e = get_or_append_left w.guards (makes_guard i ∷ []) false k (within w.guards k e) ∙ e
  one (operand.Number n) e = e

-- the slot of an instruction that makes a guard
pub new_guard : (w : Written) (i : Instr) (at : ℕ) → length w.guards ≡ at → makes_guard i ≡ true → is_guard (after w i) (operand.Slot at) ≡ true
new_guard w i at long does = subst (λ k. get_or (w.guards ++ makes_guard i ∷ []) k false ≡ true) long (get_or-append_seam w.guards (makes_guard i) [] false ∙ does)

-- as many marks of guards as of words
pub same_length : (w : Written) (xs : List Instr) → length w.guards ≡ length w.words → length (after_all w xs).guards ≡ length (after_all w xs).words
same_length w [] e = e
same_length w (x ∷ xs) e = same_length (after w x) xs (length-append w.guards (makes_guard x ∷ []) ∙ ap (λ n. n + 1) e ∙ sym (length-append w.words (writes x ∷ [])))

itself : (a : ℕ) → (a == a) ≡ true
itself a = (Decides-eqb a a).1 refl

apart : (a b : ℕ) → a ≢ b → (a == b) ≡ false
apart a b other = elim (eqb_tells a b) [ inl same ↦ absurd (other same.1) | inr t ↦ t.0 ]

-- an instruction does something to its own array alone
pub index_here : (a : ℕ) (x : Operand) → event_of a (instr.Index a x) ≡ Indexes ∷ []
index_here a x = ap (λ (b : Bool). if b then Indexes ∷ [] else []) (itself a)

pub load_here : (a : ℕ) → event_of a (instr.Load a) ≡ Loads ∷ []
load_here a = ap (λ (b : Bool). if b then Loads ∷ [] else []) (itself a)

pub store_here : (a : ℕ) (x : Operand) → event_of a (instr.Store a x) ≡ Stores ∷ []
store_here a x = ap (λ (b : Bool). if b then Stores ∷ [] else []) (itself a)

pub index_other : (a b : ℕ) (x : Operand) → a ≢ b → event_of b (instr.Index a x) ≡ []
index_other a b x other = ap (λ (t : Bool). if t then Indexes ∷ [] else []) (apart a b other)

pub load_other : (a b : ℕ) → a ≢ b → event_of b (instr.Load a) ≡ []
load_other a b other = ap (λ (t : Bool). if t then Loads ∷ [] else []) (apart a b other)

pub store_other : (a b : ℕ) (x : Operand) → a ≢ b → event_of b (instr.Store a x) ≡ []
store_other a b x other = ap (λ (t : Bool). if t then Stores ∷ [] else []) (apart a b other)
