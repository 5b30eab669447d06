-- Serving a group writes the Stores of the meaning, and tells its touched arrays.
use Rattle.std.proofs.Common.{◌≡◌, ℕ, ◌+◌, ◌*◌, ◌<◌, ℤ, Bool, true, false, if◌then◌else◌, List, [], ◌∷◌, ◌||◌, length, filter, flat_map, fold, replicate, slice_set, Option, Some, refl, sym, ap, subst, ◌∙◌, inl, inr, arith}
use Rattle.std.proofs.lemmas.Bool.Decides.{Decides-eqb}
use Rattle.code_forms.specs.declared.flat.Operand.{Operand}
use Rattle.code_forms.specs.declared.flat.Instr.TheVariants as instr
use Rattle.code_forms.specs.declared.spot.Spot.{Spot}
use Rattle.code_forms.specs.declared.unit.Unit.{Unit as PlacedUnit}
use Rattle.code_forms.specs.Staged.{Staged, Member, operand_word, operand_slots, slot_of_index, guards_of, uses, runs, point, group_start, block_start, group_at, unit_cell, stored_operand, Fits, by_instr, IsStaged}
use Rattle.code_forms.specs.StagedMeaning.{Units, is_open, is_touching, place, placed_word, is_place, staged_values, store_cell, cells_after, units_after, array_set, touched_in, Leads, IsPlaced, Serves, Touches}
use Rattle.code_forms.specs.Spots.{spot_at, spot_of, spot_cell, home, group_or_none, spot_store, mark_open, AreSpots}
use Rattle.code_forms.specs.Running.{Holds, RunsPart}
use Rattle.mp5_words.specs.Words.{truth}
use Rattle.mp5_words.specs.Cells.{word_at, natural, touching, bits}
use Rattle.code_forms.proofs.EachLemmas.{Each}
use Rattle.code_forms.specs.Needed.{Agrees}
use Rattle.code_forms.proofs.RunningLemmas.{agrees_front, agrees_back, operand_agrees}
use Rattle.code_forms.proofs.PartLemmas.{written_still, inside_order, group_holds, group_fits}

-- ---- lists

fold_same : {X Y : Type 0} (f h : Y → X → Y) (P : X → Type 0) → ((x : X) → P x → (y : Y) → f y x ≡ h y x) → (xs : List X) (y : Y) → Each P xs → fold f y xs ≡ fold h y xs
fold_same f h P same [] y all = refl
fold_same f h P same (x ∷ xs) y all = ap (λ z. fold f z xs) (same x all.0 y) ∙ fold_same f h P same xs (h y x) all.1

all_members : (all xs : List ℕ) → ((a : ℕ) → Member a xs → Member a all) → Each (λ a. Member a all) xs
all_members all [] within = tt
all_members all (x ∷ xs) within = (within x (inl refl), all_members all xs (λ a m. within a (inr m)))

-- ---- guards

-- guards whose slots are the same are open alike
open_same : (env vals : List ℤ) (guards : List Operand) → Agrees env vals (flat_map operand_slots guards) → is_open env guards ≡ is_open vals guards
open_same env vals [] all = refl
open_same env vals (x ∷ guards) all =
    let first = operand_agrees env vals x (agrees_front env vals (operand_slots x) (flat_map operand_slots guards) all) in
    let rest = open_same env vals guards (agrees_back env vals (operand_slots x) (flat_map operand_slots guards) all) in
    λ j. truth (first j) || rest j

-- marking those that pass is marking what passes
marks_filter : (p : ℕ → Bool) (xs : List ℕ) (marks : List Bool) → fold (λ (m : List Bool) (a : ℕ). if p a then slice_set m a true else m) marks xs ≡ touching (filter p xs) marks
marks_filter p [] marks = refl
marks_filter p (x ∷ xs) marks = marks_filter p xs (if p x then slice_set marks x true else marks) ∙ choice (p x) where
  choice : (b : Bool) → touching (filter p xs) (if b then slice_set marks x true else marks) ≡ touching (if b then x ∷ filter p xs else filter p xs) marks
  choice true = refl
  choice false = refl

-- ---- a group that was served

module _ (c : Staged) (spots : List Spot) (staged : IsStaged c) (are : AreSpots c spots) (g : ℕ) (below : g < length c.groups) (vals env : List ℤ)
    (held : Holds c vals (group_start c g) (point c (2 * g + 1 + 1)) env) where
  -- what a Store of the group uses is there
  store_uses : (a : ℕ) → Member a (group_at c g).arrays → Agrees env vals (uses c (instr.Store a (stored_operand c.instrs a)))
  store_uses a member v used =
      let store = staged.accesses.stored g a below member in
      let within : store.0 < length c.order = inside_order c (2 * g + 1) store.0 staged.parts (omega (arith, below, staged.parts.count)) store.1 in
      let uses_it : Member v (uses c (runs c store.0)) = subst (λ i. Member v (uses c i)) (sym store.2) used in
      held.held v (written_still c store.0 (point c (2 * g + 1 + 1)) v (omega (arith, store.1.1)) (staged.order.ordered store.0 v within uses_it)) (by_instr store.0 store.1.0 within uses_it)

  store_same : (a : ℕ) → Member a (group_at c g).arrays → (cells : List ℤ) → spot_store spots env cells a ≡ store_cell c vals (group_at c g) cells a
  store_same a member cells =
      let there = (staged.groups g below).there a member in
      let spot : spot_at spots a ≡ spot_of c a = are.each a there.0 in
      let at_home : home c a ≡ group_at c g = ap (group_or_none c.groups) there.1 in
      let all = store_uses a member in
      let word : operand_word env (stored_operand c.instrs a) ≡ operand_word vals (stored_operand c.instrs a) =
      operand_agrees env vals (stored_operand c.instrs a) (agrees_front env vals (operand_slots (stored_operand c.instrs a)) (slot_of_index c a ∷ flat_map operand_slots (guards_of c.arrays a)) all) in
      let index : word_at env (slot_of_index c a) ≡ word_at vals (slot_of_index c a) =
      agrees_back env vals (operand_slots (stored_operand c.instrs a)) (slot_of_index c a ∷ flat_map operand_slots (guards_of c.arrays a)) all (slot_of_index c a) (inl refl) in
      ap (λ (s : Spot). slice_set cells (spot_cell s env) (operand_word env s.stored)) spot
      ∙ (λ j. slice_set cells (unit_cell c (at_home j) a (natural (index j))) (word j))

  pub stores_same : (cells : List ℤ) → fold (spot_store spots env) cells (group_at c g).arrays ≡ cells_after c vals (group_at c g) cells
  stores_same cells =
      let arrays : List ℕ = (group_at c g).arrays in
      fold_same (spot_store spots env) (store_cell c vals (group_at c g)) (λ a. Member a arrays) store_same arrays cells (all_members arrays arrays (λ a m. m))

  open_here : (a : ℕ) → Member a (group_at c g).arrays → is_open env (guards_of c.arrays a) ≡ is_touching c vals a
  open_here a member =
      let rest = agrees_back env vals (operand_slots (stored_operand c.instrs a)) (slot_of_index c a ∷ flat_map operand_slots (guards_of c.arrays a)) (store_uses a member) in
      open_same env vals (guards_of c.arrays a) (λ v m. rest v (inr m))

  pub touches_same : bits (fold (mark_open c.arrays env) (replicate 16 false) (group_at c g).arrays) ≡ array_set (touched_in c vals g)
  touches_same =
      let arrays : List ℕ = (group_at c g).arrays in
      ap bits (
      fold_same (mark_open c.arrays env) (λ (m : List Bool) (a : ℕ). if is_touching c vals a then slice_set m a true else m) (λ a. Member a arrays)
      (λ a member m. ap (λ (b : Bool). if b then slice_set m a true else m) (open_here a member)) arrays (replicate 16 false) (all_members arrays arrays (λ a m. m))
      ∙ marks_filter (is_touching c vals) arrays (replicate 16 false))

-- ---- the call

-- a placed unit's cells are what is loaded
placed_here : (c : Staged) (units : Units) (g u : ℕ) (o : Option ℕ) (cells : List ℤ) (a index : ℕ) → o ≡ Some u → units g u ≡ cells
    → placed_word c units g o a index ≡ word_at cells (unit_cell c (group_at c g) a index)
placed_here c units g u o cells a index is has = ap (λ p. placed_word c units g p a index) is ∙ ap (λ l. word_at l (unit_cell c (group_at c g) a index)) has

-- the units afterwards at the place
after_here : (c : Staged) (units : Units) (header : List ℤ) (g u : ℕ) (cells : List ℤ) → IsPlaced c g u cells header units
    → cells_after c (staged_values c units header) (group_at c g) cells ≡ units_after c units header g u
after_here c units header g u cells placed =
    let here : is_place (place c header g) u ≡ true = ap (λ o. is_place o u) placed.0 ∙ (Decides-eqb u u).1 refl in
    ap (cells_after c (staged_values c units header) (group_at c g)) (sym placed.1)
    ∙ sym (ap (λ (b : Bool). if b then cells_after c (staged_values c units header) (group_at c g) (units g u) else units g u) here)

module _ (c : Staged) (g : ℕ) (unit : PlacedUnit) (cells old env : List ℤ) (staged : IsStaged c) (below : g < length c.groups) (has : cells ≡ unit.cells)
    (runs : RunsPart c (2 * g + 1) cells old env) where
  serve_holds : (header : List ℤ) (units : Units) → length header ≡ c.fields → IsPlaced c g unit.number unit.cells header units
      → Fits c (staged_values c units header) (group_start c g) old → Holds c (staged_values c units header) (group_start c g) (point c (2 * g + 1 + 1)) env
  serve_holds header units long placed fits =
      group_holds c units header cells g old env staged below long
      (λ a index. placed_here c units g unit.number (place c header g) cells a index placed.0 (placed.1 ∙ sym has)) runs fits

  pub serve_leads : Leads c (IsPlaced c g unit.number unit.cells) (group_start c g) (block_start c (g + 1)) old env
  serve_leads header units long placed fits = group_fits c (staged_values c units header) g env staged below (serve_holds header units long placed fits)

  pub serve_stores : (spots : List Spot) (new : List ℤ) → AreSpots c spots → new ≡ fold (spot_store spots env) unit.cells (group_at c g).arrays → Serves c g unit old new
  serve_stores spots new are is header units long placed fits =
      let held = serve_holds header units long placed fits in
      is ∙ stores_same c spots staged are g below (staged_values c units header) env held unit.cells ∙ after_here c units header g unit.number unit.cells placed

  pub serve_touches : (spots : List Spot) (set : ℕ) → AreSpots c spots → set ≡ bits (fold (mark_open c.arrays env) (replicate 16 false) (group_at c g).arrays) → Touches c g unit old set
  serve_touches spots set are is header units long placed fits =
      let held = serve_holds header units long placed fits in
      is ∙ touches_same c spots staged are g below (staged_values c units header) env held
