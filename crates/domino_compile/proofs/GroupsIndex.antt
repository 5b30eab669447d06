-- Where the Index, the Load and the Store of an array stand in flat code.
use Rattle.std.proofs.Common.{◌≡◌, ℕ, suc, ◌+◌, ◌<◌, ◌==◌, Bool, true, if◌then◌else◌, List, [], ◌∷◌, ◌++◌, length, inl, inr, ◌⊎◌, refl, sym, ap, subst, ◌∙◌, arith}
use Rattle.std.proofs.lemmas.Bool.Decides.{eqb_tells}
use Rattle.code_forms.specs.declared.flat.Operand.{Operand}
use Rattle.code_forms.specs.declared.flat.Instr.{Instr}
use Rattle.code_forms.specs.declared.flat.Instr.TheVariants as instr
use Rattle.code_forms.specs.FlatMeaning.{index_slot, index_operand}
use Rattle.code_forms.specs.FlatValid.{Event, Indexes, Loads, Stores, event_of, events, is_life, instr_at}
use Rattle.code_forms.proofs.OrderLemmas.{slot_past, slot_here, operand_here, operand_behind, first_event}

-- the life of a touched array
pub whole_life : (es : List Event) → is_life true es ≡ true → es ≡ Indexes ∷ Loads ∷ Stores ∷ []
whole_life [] e = absurd cc
whole_life (Loads ∷ es) e = absurd cc
whole_life (Stores ∷ es) e = absurd cc
whole_life (Indexes ∷ []) e = absurd cc
whole_life (Indexes ∷ Indexes ∷ es) e = absurd cc
whole_life (Indexes ∷ Stores ∷ es) e = absurd cc
whole_life (Indexes ∷ Loads ∷ []) e = absurd cc
whole_life (Indexes ∷ Loads ∷ Indexes ∷ es) e = absurd cc
whole_life (Indexes ∷ Loads ∷ Loads ∷ es) e = absurd cc
whole_life (Indexes ∷ Loads ∷ Stores ∷ []) e = refl
whole_life (Indexes ∷ Loads ∷ Stores ∷ x ∷ es) e = absurd cc

-- the place of an array's first Index among instructions
pub record IndexAt (xs : List Instr) (a : ℕ) : Type 0 where
  pub place : ℕ
  pub there : place < length xs
  pub instr_is : instr_at xs place ≡ instr.Index a (index_operand xs a)
  pub slot_is : (from : ℕ) → index_slot xs from a ≡ from + place

pub index_there : (xs : List Instr) (a : ℕ) (fs : List Event) → events a xs ≡ Indexes ∷ fs → IndexAt xs a
index_there [] a fs e = absurd cc
index_there (x ∷ xs) a fs e = elim (first_event x a (events a xs) fs e) [
  | inl is ↦ record {
    place = 0;
    there = omega arith;
    instr_is = is.1 ∙ ap (instr.Index a) (sym (ap (λ i. index_operand (i ∷ xs) a) is.1 ∙ operand_here a is.0 xs));
    slot_is = λ from. ap (λ i. index_slot (i ∷ xs) from a) is.1 ∙ slot_here a is.0 xs from ∙ omega arith;
  }
  | inr none ↦
      let rest : IndexAt xs a = index_there xs a fs (ap (λ l. l ++ events a xs) (sym none) ∙ e) in
      record {
        place = suc rest.place;
        there = omega (arith, rest.there);
        instr_is = rest.instr_is ∙ ap (instr.Index a) (sym (operand_behind (x ∷ []) xs a (ap (λ l. l ++ []) none)));
        slot_is = λ from. slot_past x xs from a none ∙ rest.slot_is (suc from) ∙ omega arith;
      }
]

-- ---- Load and Store

abbrev Has : Event → List Event → Type 0
Has e [] = ⊥
Has e (x ∷ es) = (x ≡ e) ⊎ Has e es

has_cases : (e : Event) (es fs : List Event) → Has e (es ++ fs) → Has e es ⊎ Has e fs
has_cases e [] fs h = inr h
has_cases e (x ∷ es) fs (inl is) = inl (inl is)
has_cases e (x ∷ es) fs (inr h) = elim (has_cases e es fs h) [ inl l ↦ inl (inr l) | inr r ↦ inr r ]

found : (e : Event) (a : ℕ) (xs : List Instr) → Has e (events a xs) → (i : ℕ) × (i < length xs) × Has e (event_of a (instr_at xs i))
found e a [] h = elim h [ ]
found e a (x ∷ xs) h = elim (has_cases e (event_of a x) (events a xs) h) [
  | inl l ↦ (0, omega arith, l)
  | inr r ↦ let rest = found e a xs r in (suc rest.0, omega (arith, rest.1), rest.2)
]

one_event : (e d : Event) (a b : ℕ) → Has e (if b == a then d ∷ [] else []) → (b ≡ a) × (d ≡ e)
one_event e d a b h = elim (eqb_tells b a) [
  | inl same ↦ (same.1, only (subst (λ (t : Bool). Has e (if t then d ∷ [] else [])) same.0 h))
  | inr other ↦ elim (subst (λ (t : Bool). Has e (if t then d ∷ [] else [])) other.0 h) [ ]
] where
  only : Has e (d ∷ []) → d ≡ e
  only (inl is) = is
  only (inr m) = elim m [ ]

is_load : (a : ℕ) (i : Instr) → Has Loads (event_of a i) → i ≡ instr.Load a
is_load a (instr.Load b) h = ap instr.Load (one_event Loads Loads a b h).0
is_load a (instr.Index b x) h = let no_way : Indexes ≡ Loads = (one_event Loads Indexes a b h).1 in absurd cc
is_load a (instr.Store b x) h = let no_way : Stores ≡ Loads = (one_event Loads Stores a b h).1 in absurd cc
is_load a (instr.One op x) h = elim h [ ]
is_load a (instr.Two op x y) h = elim h [ ]
is_load a (instr.Pick c x y) h = elim h [ ]
is_load a (instr.Hash kind x y z) h = elim h [ ]
is_load a (instr.Move x) h = elim h [ ]
is_load a (instr.Yes g c) h = elim h [ ]
is_load a (instr.No g c) h = elim h [ ]

is_store : (a : ℕ) (i : Instr) → Has Stores (event_of a i) → (x : Operand) × (i ≡ instr.Store a x)
is_store a (instr.Store b x) h = (x, ap (λ n. instr.Store n x) (one_event Stores Stores a b h).0)
is_store a (instr.Index b x) h = let no_way : Indexes ≡ Stores = (one_event Stores Indexes a b h).1 in absurd cc
is_store a (instr.Load b) h = let no_way : Loads ≡ Stores = (one_event Stores Loads a b h).1 in absurd cc
is_store a (instr.One op x) h = elim h [ ]
is_store a (instr.Two op x y) h = elim h [ ]
is_store a (instr.Pick c x y) h = elim h [ ]
is_store a (instr.Hash kind x y z) h = elim h [ ]
is_store a (instr.Move x) h = elim h [ ]
is_store a (instr.Yes g c) h = elim h [ ]
is_store a (instr.No g c) h = elim h [ ]

-- a touched array is loaded and stored somewhere
pub load_there : (xs : List Instr) (a : ℕ) → events a xs ≡ Indexes ∷ Loads ∷ Stores ∷ [] → (i : ℕ) × (i < length xs) × (instr_at xs i ≡ instr.Load a)
load_there xs a e = let h = found Loads a xs (subst (Has Loads) (sym e) (inr (inl refl))) in (h.0, h.1, is_load a (instr_at xs h.0) h.2)

pub store_there : (xs : List Instr) (a : ℕ) → events a xs ≡ Indexes ∷ Loads ∷ Stores ∷ [] → (i : ℕ) × (i < length xs) × ((x : Operand) × (instr_at xs i ≡ instr.Store a x))
store_there xs a e = let h = found Stores a xs (subst (Has Stores) (sym e) (inr (inr (inl refl)))) in (h.0, h.1, is_store a (instr_at xs h.0) h.2)
