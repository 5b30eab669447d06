-- What valid staged code says of the arrays of its groups: each is touched, and its Index is below its length.
use Rattle.std.proofs.Common.{◌≡◌, ℕ, suc, ◌+◌, ◌*◌, ◌<◌, ◌≤◌, ◌==◌, ℤ, pos, Bool, true, false, if◌then◌else◌, List, [], ◌∷◌, length, Some, refl, sym, ap, subst, ◌∙◌, arith}
use Rattle.std.specs.List.{list_any, slice_index_or}
use Rattle.mp5_words.specs.Words.{cell}
use Rattle.mp5_words.specs.Cells.{word_at}
use Rattle.mp5_words.specs.Domain.{Loads, words}
use Rattle.code_forms.specs.declared.flat.Operand.{Operand}
use Rattle.code_forms.specs.declared.parts.StagedGroup.{StagedGroup}
use Rattle.code_forms.specs.FlatValid.{Event, Indexes, Stores, event_of, events, is_some, is_touched}
use Rattle.code_forms.specs.FlatMeaning.{index_operand, instr_value, operand_value, flat_length}
use Rattle.code_forms.specs.Staged.{Staged, Member, no_group, group_from, group_of, group_at, number_at, runs, slot_of_index, guards_of, stored_operand, IsStaged}
use Rattle.code_forms.specs.StagedMeaning.{code_values}
use Rattle.code_forms.proofs.FitLemmas.{store_here}
use Rattle.code_forms.proofs.StagedLemmas.{array_at, valued}
use Rattle.code_forms.proofs.PartLemmas.{inside_order}
use Rattle.index_resolve.proofs.GroupFacts.{any_member}
use Rattle.index_resolve.proofs.OrderFacts.{life_some, life_of, some_event}
use Rattle.domino_compile.proofs.GroupsIndex.{IndexAt, index_there}

-- ---- groups

member_from : (groups : List StagedGroup) (n a g : ℕ) → group_from groups n a ≡ Some g
    → (k : ℕ) × (g ≡ n + k) × (k < length groups) × Member a (slice_index_or groups k no_group).arrays
member_from [] n a g e = absurd (cc)
member_from (x ∷ groups) n a g e = cases (list_any (λ b. b == a) x.arrays) refl e (λ h. member_from groups (suc n) a g h) where
  cases : (t : Bool) → list_any (λ b. b == a) x.arrays ≡ t → (if t then Some n else group_from groups (suc n) a) ≡ Some g
      → (group_from groups (suc n) a ≡ Some g → (k : ℕ) × (g ≡ suc n + k) × (k < length groups) × Member a (slice_index_or groups k no_group).arrays)
      → (k : ℕ) × (g ≡ n + k) × (k < length (x ∷ groups)) × Member a (slice_index_or (x ∷ groups) k no_group).arrays
  cases true has is rest = let same : n ≡ g = cc in (0, omega (arith, same), omega arith, any_member a x.arrays has)
  cases false has is rest = let r = rest is in (suc r.0, omega (arith, r.1), omega (arith, r.2), r.3)

-- the group of an array is there and has it
pub group_has : (c : Staged) (a g : ℕ) → group_of c a ≡ Some g → (g < length c.groups) × Member a (group_at c g).arrays
group_has c a g is =
    let r = member_from c.groups 0 a g is in
    let same : r.0 ≡ g = omega (arith, r.1) in
    (subst (λ n. n < length c.groups) same r.2, subst (λ n. Member a (slice_index_or c.groups n no_group).arrays) same r.3)

-- ---- an array of a group

module _ (c : Staged) (staged : IsStaged c) (g a : ℕ) (below : g < length c.groups) (m : Member a (group_at c g).arrays) where
  -- it is there
  pub array_there : a < length c.arrays
  array_there = ((staged.groups g below).there a m).0

  life_begins : (is_touched c.arrays a ≡ true) × ((fs : List Event) × (events a c.instrs ≡ Indexes ∷ fs))
  life_begins =
      let store = staged.accesses.stored g a below m in
      let within : store.0 < length c.order = inside_order c (2 * g + 1) store.0 staged.parts (omega (arith, below, staged.parts.count)) store.1 in
      let known = staged.order.known store.0 within in
      let stores : event_of a (runs c store.0) ≡ Stores ∷ [] = ap (event_of a) store.2 ∙ store_here a (stored_operand c.instrs a) in
      life_some (is_touched c.arrays a) (events a c.instrs) (life_of c staged.code a array_there) (λ none. no_event (sym stores ∙ some_event a c.instrs (number_at c store.0) known none)) where
        no_event : Stores ∷ [] ≡ [] → ⊥
        no_event e = cc

  -- it is touched
  pub group_touched : is_touched c.arrays a ≡ true
  group_touched = life_begins.0

  -- it has a cell at least
  pub group_sized : 1 ≤ flat_length c.arrays a
  group_sized = (array_at c staged a array_there).0

  -- its Index has the word of its operand, reduced
  pub index_value : (loads : Loads) (header : List ℤ) → length header ≡ c.fields
      → word_at (code_values c loads header) (slot_of_index c a)
      ≡ pos (cell (operand_value ℤ (words (flat_length c.arrays) loads) (code_values c loads header) (index_operand c.instrs a)) (flat_length c.arrays a))
  index_value loads header long =
      let index : IndexAt c.instrs a = index_there c.instrs a life_begins.1.0 life_begins.1.1 in
      ap (word_at (code_values c loads header)) (index.slot_is c.fields)
      ∙ valued c loads header index.place staged long index.there
      ∙ ap (instr_value ℤ (words (flat_length c.arrays) loads) (slot_of_index c) (code_values c loads header)) index.instr_is

-- an array that isn't touched has no guards
pub no_guards : (c : Staged) (a : ℕ) → is_touched c.arrays a ≡ false → guards_of c.arrays a ≡ []
no_guards c a none = empty (guards_of c.arrays a) none where
  empty : (xs : List Operand) → is_some xs ≡ false → xs ≡ []
  empty [] e = refl
  empty (x ∷ xs) e = absurd (cc)
