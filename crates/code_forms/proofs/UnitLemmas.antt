-- The place of a header at a group is one of its units.
use Rattle.std.proofs.Common.{◌≡◌, ℕ, zero, suc, ◌+◌, ◌*◌, ◌<◌, ◌≤◌, ℤ, pos, negsuc, Bool, true, false, if◌then◌else◌, List, [], ◌∷◌, ◌++◌, length, Some, None, refl, sym, ap, subst, ◌∙◌, inl, inr, arith}
use Rattle.std.specs.List.{list_any}
use Rattle.code_forms.specs.declared.flat.Operand.{Operand}
use Rattle.code_forms.specs.declared.flat.Instr.{Instr}
use Rattle.code_forms.specs.declared.flat.Instr.TheVariants as instr
use Rattle.code_forms.specs.declared.parts.StagedGroup.{StagedGroup}
use Rattle.code_forms.specs.FlatValid.{Event, Indexes, Loads, Stores, event_of, events, is_life, instr_at}
use Rattle.code_forms.specs.FlatMeaning.{index_slot, instr_value, operand_value, flat_length}
use Rattle.code_forms.specs.Staged.{Staged, slot_of_index, number_at, group_at, first_array, unit_count, stored_operand, IsStaged}
use Rattle.code_forms.specs.StagedMeaning.{Units, is_touching, unit_number, header_words, place_on, staged_loads, staged_values, HasUnits, PlacesAreIndexes}
use Rattle.mp5_words.specs.Words.{cell}
use Rattle.mp5_words.specs.Cells.{word_at, natural}
use Rattle.mp5_words.specs.Domain.{words}
use Rattle.code_forms.proofs.FitLemmas.{store_here}
use Rattle.code_forms.proofs.OrderLemmas.{slot_here, slot_past, first_event}
use Rattle.code_forms.proofs.StagedLemmas.{first_member, array_at, valued}
use Rattle.code_forms.proofs.PartLemmas.{inside_order}

-- an index is below the length
pub cell_below : (z : ℤ) (n : ℕ) → 1 ≤ n → cell z n < n
cell_below (pos a) n some = omega (arith, some)
cell_below (negsuc a) n some = omega (arith, some)

-- what is stored has an event
stored_event : (instrs : List Instr) (k a : ℕ) (x : Operand) → k < length instrs → instr_at instrs k ≡ instr.Store a x → events a instrs ≡ [] → ⊥
stored_event [] k a x within is none = absurd (omega (arith, within))
stored_event (i ∷ instrs) zero a x within is none = no_event (sym (ap (λ l. l ++ events a instrs) (ap (event_of a) is ∙ store_here a x)) ∙ none) where
  no_event : Stores ∷ events a instrs ≡ [] → ⊥
  no_event e = cc
stored_event (i ∷ instrs) (suc k) a x within is none = stored_event instrs k a x (omega (arith, within)) is (rest (event_of a i) none) where
  rest : (es : List Event) → es ++ events a instrs ≡ [] → events a instrs ≡ []
  rest [] e = e
  rest (y ∷ es) e = absurd (cc)

-- a life that has an event begins with the Index
begins : (t : Bool) (es : List Event) → is_life t es ≡ true → (es ≡ [] → ⊥) → (fs : List Event) × (es ≡ Indexes ∷ fs)
begins t [] life some = absurd (some refl)
begins t (Indexes ∷ es) life some = (es, refl)
begins true (Loads ∷ es) life some = absurd (cc)
begins true (Stores ∷ es) life some = absurd (cc)
begins false (Loads ∷ es) life some = absurd (cc)
begins false (Stores ∷ es) life some = absurd (cc)

-- the Index stands in the slot at which it is looked for
index_there : (instrs : List Instr) (at a : ℕ) (fs : List Event) → events a instrs ≡ Indexes ∷ fs
    → (k : ℕ) × (k < length instrs) × (index_slot instrs at a ≡ at + k) × ((x : Operand) × (instr_at instrs k ≡ instr.Index a x))
index_there [] at a fs e = absurd (cc)
index_there (i ∷ instrs) at a fs e = elim (first_event i a (events a instrs) fs e) [
  | inl is ↦ (
      let here : index_slot (i ∷ instrs) at a ≡ at = ap (λ j. index_slot (j ∷ instrs) at a) is.1 ∙ slot_here a is.0 instrs at in
      let slot : index_slot (i ∷ instrs) at a ≡ at + 0 = omega (arith, here) in
      (0, omega arith, slot, (is.0, is.1)))
  | inr none ↦ (
      let rest = index_there instrs (suc at) a fs (ap (λ l. l ++ events a instrs) (sym none) ∙ e) in
      let past : index_slot (i ∷ instrs) at a ≡ index_slot instrs (suc at) a = slot_past i instrs at a none in
      let slot : index_slot (i ∷ instrs) at a ≡ at + suc rest.0 = omega (arith, past, rest.2) in
      (suc rest.0, omega (arith, rest.1), slot, rest.3))
]

-- no units at all
nothing : Units
nothing g u = []

-- the value of the Index of an array of a group is below the array's length
index_below : (c : Staged) (header : List ℤ) (g a u : ℕ) → IsStaged c → length header ≡ c.fields → g < length c.groups → a < length c.arrays
    → ((p : ℕ) × (p < length c.order) × (instr_at c.instrs (number_at c p) ≡ instr.Store a (stored_operand c.instrs a)))
    → word_at (staged_values c nothing header) (slot_of_index c a) ≡ pos u → u < flat_length c.arrays a
index_below c header g a u staged long below there store is =
    let life = (array_at c staged a there).2 in
    let known = staged.order.known store.0 store.1 in
    let same : 0 + a ≡ a = omega arith in
    let lives : is_life life.0 (events a c.instrs) ≡ true = subst (λ n. is_life life.0 (events n c.instrs) ≡ true) same life.1 in
    let first = begins life.0 (events a c.instrs) lives (stored_event c.instrs (number_at c store.0) a (stored_operand c.instrs a) known store.2) in
    let index = index_there c.instrs c.fields a first.0 first.1 in
    let vals : List ℤ = staged_values c nothing header in
    let z : ℤ = operand_value ℤ (words (flat_length c.arrays) (staged_loads c nothing header)) vals index.3.0 in
    let value : pos u ≡ pos (cell z (flat_length c.arrays a)) =
    sym is ∙ ap (word_at vals) index.2 ∙ valued c (staged_loads c nothing header) header index.0 staged long index.1
    ∙ ap (instr_value ℤ (words (flat_length c.arrays) (staged_loads c nothing header)) (slot_of_index c) vals) index.3.1 in
    let number : u ≡ cell z (flat_length c.arrays a) = cc in
    let bound : cell z (flat_length c.arrays a) < flat_length c.arrays a = cell_below z (flat_length c.arrays a) (array_at c staged a there).0 in
    omega (arith, number, bound)

-- a place at a group that isn't sharded is 0
pub zero_place : (c : Staged) (room : List ℤ) (g : StagedGroup) (u : ℕ) → g.sharded ≡ false → place_on c room g ≡ Some u → u ≡ 0
zero_place c room g u whole placed = chosen (list_any (is_touching c room) g.arrays) placed ∙ ap (λ (b : Bool). if b then natural (word_at room (slot_of_index c (first_array g))) else 0) whole where
  chosen : (b : Bool) → (if b then Some (unit_number c room g) else None) ≡ Some u → u ≡ unit_number c room g
  chosen true e = cc
  chosen false e = absurd (cc)

pub has_units : (c : Staged) (header : List ℤ) → IsStaged c → PlacesAreIndexes c → length header ≡ c.fields → HasUnits c header
has_units c header staged places long g u below placed = cases (group_at c g).sharded refl where
  cases : (b : Bool) → (group_at c g).sharded ≡ b → u < unit_count c (group_at c g)
  cases true sharded =
      let group = staged.groups g below in
      let first = first_member (group_at c g).arrays group.some in
      let a : ℕ = first_array (group_at c g) in
      let store = staged.accesses.stored g a below first in
      let within : store.0 < length c.order = inside_order c (2 * g + 1) store.0 staged.parts (omega (arith, below, staged.parts.count)) store.1 in
      let less : u < flat_length c.arrays a = index_below c header g a u staged long below (group.there a first).0 (store.0, within, store.2) (places header nothing long g u below sharded placed a first) in
      subst (λ (b : Bool). u < (if b then flat_length c.arrays a else 1)) (sym sharded) less
  cases false whole =
      let none : u ≡ 0 = zero_place c (header_words c header) (group_at c g) u whole placed in
      let less : u < 1 = omega (arith, none) in
      subst (λ (b : Bool). u < (if b then flat_length c.arrays (first_array (group_at c g)) else 1)) (sym whole) less
