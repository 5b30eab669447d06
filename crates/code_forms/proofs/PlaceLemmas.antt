-- The header run, and what stands at the end.
use Rattle.std.proofs.Common.{◌≡◌, ℕ, ◌+◌, ◌-◌, ◌<◌, ◌≤◌, ℤ, pos, Bool, true, false, nat_lt, slice_index, if◌then◌else◌, List, [], ◌∷◌, ◌++◌, length, map, flat_map, fold, replicate, slice_set, Some, None, refl, sym, ap, subst, ◌∙◌, arith}
use Rattle.std.specs.List.{list_any}
use Rattle.std.proofs.lemmas.List.{get_or_past}
use Rattle.std.proofs.lemmas.Bool.{ltb-true, ltb-false}
use Rattle.code_forms.specs.declared.flat.Operand.{Operand}
use Rattle.code_forms.specs.declared.flat.Instr.{Instr}
use Rattle.code_forms.specs.declared.flat.Instr.TheVariants as instr
use Rattle.code_forms.specs.declared.parts.HeaderStep.{HeaderStep}
use Rattle.code_forms.specs.declared.parts.StagedGroup.{StagedGroup}
use Rattle.code_forms.specs.declared.spot.Spot.{Spot}
use Rattle.code_forms.specs.FlatMeaning.{instr_value, flat_length}
use Rattle.code_forms.specs.Staged.{Staged, slot_count, slot_of_index, operand_word, operand_slots, point, group_start, group_at, no_group, first_array, IsWritten, at_end, IsGroup, IsStaged}
use Rattle.code_forms.specs.StagedMeaning.{no_loads, is_touching, header_step, unit_number, place, place_on, place_code, staged_values, Finishes}
use Rattle.code_forms.specs.Spots.{spot_at, spot_value, spot_step, AreSpots}
use Rattle.mp5_words.specs.Domain.{words}
use Rattle.mp5_words.specs.Words.{cell}
use Rattle.mp5_words.specs.Cells.{word_at, natural}
use Rattle.code_forms.proofs.StagedLemmas.{first_member}
use Rattle.code_forms.specs.Needed.{Agrees, GivesPlaces}
use Rattle.code_forms.proofs.RunningLemmas.{agrees_front, agrees_back, operand_agrees, lengths_agree}

-- ---- the end

operands_same : (env vals : List ℤ) (xs : List Operand) → Agrees env vals (flat_map operand_slots xs) → map (operand_word env) xs ≡ map (operand_word vals) xs
operands_same env vals [] all = refl
operands_same env vals (x ∷ xs) all =
    let first = operand_agrees env vals x (agrees_front env vals (operand_slots x) (flat_map operand_slots xs) all) in
    let rest = operands_same env vals xs (agrees_back env vals (operand_slots x) (flat_map operand_slots xs) all) in
    λ j. first j ∷ rest j

pub finishes : (c : Staged) (env fields : List ℤ) → IsStaged c → fields ≡ map (operand_word env) c.last → Finishes c env fields
finishes c env fields staged is header units long fits =
    let all : group_start c (length c.groups) ≡ length c.order = ap (point c) (sym staged.parts.count) ∙ staged.parts.whole in
    is ∙ operands_same env (staged_values c units header) c.last (λ v m.
    fits.held v (subst (λ p. IsWritten c p v) (sym all) (staged.order.ended v m)) (at_end m))

-- ---- the header run

-- a step loads nothing but 0
header_value : (c : Staged) (spots : List Spot) → AreSpots c spots → (room : List ℤ) (i : Instr)
    → spot_value spots [] room i ≡ instr_value ℤ (words (flat_length c.arrays) no_loads) (slot_of_index c) room i
header_value c spots are room (instr.One op a) = refl
header_value c spots are room (instr.Two op a b) = refl
header_value c spots are room (instr.Pick x a b) = refl
header_value c spots are room (instr.Hash kind a b x) = refl
header_value c spots are room (instr.Move a) = refl
header_value c spots are room (instr.Yes guard x) = refl
header_value c spots are room (instr.No guard x) = refl
header_value c spots are room (instr.Index array a) = ap (λ n. pos (cell (operand_word room a) n)) (lengths_agree c spots are array)
header_value c spots are room (instr.Load array) = refl
header_value c spots are room (instr.Store array a) = refl

pub steps_same : (c : Staged) (spots : List Spot) → AreSpots c spots → (steps : List HeaderStep) (room : List ℤ) → fold (spot_step spots) room steps ≡ fold (header_step c) room steps
steps_same c spots are [] room = refl
steps_same c spots are (s ∷ steps) room =
    steps_same c spots are steps (spot_step spots room s) ∙ ap (λ z. fold (header_step c) (slice_set room s.slot z) steps) (header_value c spots are room s.instr)

-- the place after the steps that are needed
pub needed_place : (c : Staged) (spots table : List Spot) (needed : List HeaderStep) (header : List ℤ) (room : ℕ) (after : List ℤ) → AreSpots c spots
    → length header ≡ c.fields → room ≡ slot_count c → table ≡ spots → GivesPlaces c needed
    → after ≡ fold (spot_step table) (header ++ replicate (room - length header) (pos 0)) needed
    → (g : ℕ) → place_on c after (group_at c g) ≡ place c header g
needed_place c spots table needed header room after are long slots table_is gives is g =
    let start : List ℤ = header ++ replicate (length c.instrs) (pos 0) in
    let rest : room - length header ≡ length c.instrs = omega (arith, long, slots) in
    let same : after ≡ fold (header_step c) start needed =
    is ∙ (λ j. fold (spot_step (table_is j)) (header ++ replicate (rest j) (pos 0)) needed) ∙ steps_same c spots are needed start in
    ap (λ r. place_on c r (group_at c g)) same ∙ gives start g

-- a place at a sharded group
pub sharded_place : (c : Staged) (room : List ℤ) (g : StagedGroup) (n : ℕ) → list_any (is_touching c room) g.arrays ≡ true → g.sharded ≡ true
    → n ≡ natural (word_at room (slot_of_index c (first_array g))) → n + 1 ≡ place_code (place_on c room g)
sharded_place c room g n touched sharded is =
    ap (λ m. m + 1) (is ∙ sym (ap (λ (b : Bool). if b then natural (word_at room (slot_of_index c (first_array g))) else 0) sharded))
    ∙ sym (ap (λ (b : Bool). place_code (if b then Some (unit_number c room g) else None)) touched)

-- the slot of the first array's Index
pub first_slot : (c : Staged) (spots : List Spot) (g : ℕ) → AreSpots c spots → IsGroup c g → (spot_at spots (first_array (group_at c g))).index ≡ slot_of_index c (first_array (group_at c g))
first_slot c spots g are is =
    let first = first_member (group_at c g).arrays is.some in
    ap (λ (s : Spot). s.index) (are.each (first_array (group_at c g)) (is.there (first_array (group_at c g)) first).0)

-- ---- the places of all groups

-- there is none behind them
no_place : (c : Staged) (words : List ℤ) (g : ℕ) → length c.groups ≤ g → place_code (place_on c words (group_at c g)) ≡ 0
no_place c words g past = ap (λ x. place_code (place_on c words x)) (get_or_past c.groups g no_group past)

pub all_places : (c : Staged) (words : List ℤ) (out : List ℕ) (n : ℕ) → length c.groups ≤ n → ((k : ℕ) → k < n → slice_index out k ≡ place_code (place_on c words (group_at c k))) → ((k : ℕ) → n ≤ k → k < 16 → slice_index out k ≡ 0)
    → (g : ℕ) → g < 16 → slice_index out g ≡ place_code (place_on c words (group_at c g))
all_places c words out n all each rest g less = by (nat_lt g n) refl
  where
    by : (b : Bool) → nat_lt g n ≡ b → slice_index out g ≡ place_code (place_on c words (group_at c g))
    by true e = each g (ltb-true g n e)
    by false e = let past = ltb-false g n e in rest g past less ∙ sym (no_place c words g (omega arith))
