-- Steps that are not needed can be left out.
use Rattle.std.proofs.Common.{◌≡◌, ◌≢◌, ℕ, zero, suc, ◌+◌, ◌-◌, ◌<◌, ◌≤◌, ◌==◌, ◌||◌, ℤ, pos, Bool, true, false, if◌then◌else◌, List, [], ◌∷◌, ◌++◌, length, flat_map, get_or, fold, reverse, drop, slice_set, Some, None, refl, sym, ap, subst, ◌∙◌, inl, inr, arith}
use Rattle.std.specs.List.{list_any}
use Rattle.std.proofs.lemmas.List.{length-set, get_or-set_same, get_or-set_other, get_or_past, reverse-append, drop_more, drop_all}
use Rattle.std.proofs.lemmas.Bool.{false≢true}
use Rattle.std.proofs.lemmas.Bool.Decides.{eqb_tells}
use Rattle.code_forms.specs.declared.flat.Operand.{Operand}
use Rattle.code_forms.specs.declared.flat.Instr.{Instr}
use Rattle.code_forms.specs.declared.flat.Instr.TheVariants as instr
use Rattle.code_forms.specs.declared.parts.HeaderStep.{HeaderStep}
use Rattle.code_forms.specs.declared.parts.StagedGroup.{StagedGroup}
use Rattle.code_forms.specs.declared.spot.Spot.{Spot}
use Rattle.code_forms.specs.Staged.{Staged, Member, slot_of_index, operand_slots, guards_of, group_at, no_group, first_array, IsStaged}
use Rattle.code_forms.specs.StagedMeaning.{is_open, is_touching, header_step, unit_number, place_on}
use Rattle.code_forms.specs.Spots.{spot_at, spot_value, spot_step, AreSpots}
use Rattle.code_forms.specs.Needed.{Agrees, read_slots, guard_slots, unit_slots, group_slots, Follows, Leaves, GivesPlaces}
use Rattle.mp5_words.specs.Domain.{words}
use Rattle.mp5_words.specs.Words.{op1, op2, hash, cell, truth}
use Rattle.mp5_words.specs.Cells.{word_at, natural, picked}
use Rattle.code_forms.proofs.StagedLemmas.{member_front, member_back}
use Rattle.code_forms.proofs.RunningLemmas.{agrees_front, agrees_back, operand_agrees, below_or_past}
use Rattle.code_forms.proofs.PlaceLemmas.{steps_same, first_slot}

-- ---- one step

-- an instruction gives the same where the words that it reads are the same
reads_same : (spots : List Spot) (room other : List ℤ) (i : Instr) → Agrees room other (read_slots i) → spot_value spots [] room i ≡ spot_value spots [] other i
reads_same spots room other (instr.One op a) all = ap (op1 op) (operand_agrees room other a all)
reads_same spots room other (instr.Two op a b) all =
    let first = operand_agrees room other a (agrees_front room other (operand_slots a) (operand_slots b) all) in
    let second = operand_agrees room other b (agrees_back room other (operand_slots a) (operand_slots b) all) in
    λ j. op2 op (first j) (second j)
reads_same spots room other (instr.Pick x a b) all =
    let both = agrees_back room other (operand_slots x) (operand_slots a ++ operand_slots b) all in
    let cond = operand_agrees room other x (agrees_front room other (operand_slots x) (operand_slots a ++ operand_slots b) all) in
    let first = operand_agrees room other a (agrees_front room other (operand_slots a) (operand_slots b) both) in
    let second = operand_agrees room other b (agrees_back room other (operand_slots a) (operand_slots b) both) in
    λ j. picked (cond j) (first j) (second j)
reads_same spots room other (instr.Hash kind a b x) all =
    let both = agrees_back room other (operand_slots a) (operand_slots b ++ operand_slots x) all in
    let first = operand_agrees room other a (agrees_front room other (operand_slots a) (operand_slots b ++ operand_slots x) all) in
    let second = operand_agrees room other b (agrees_front room other (operand_slots b) (operand_slots x) both) in
    let third = operand_agrees room other x (agrees_back room other (operand_slots b) (operand_slots x) both) in
    λ j. hash kind (first j) (second j) (third j)
reads_same spots room other (instr.Move a) all = operand_agrees room other a all
reads_same spots room other (instr.Yes guard x) all =
    let first = operand_agrees room other guard (agrees_front room other (operand_slots guard) (operand_slots x) all) in
    let second = operand_agrees room other x (agrees_back room other (operand_slots guard) (operand_slots x) all) in
    λ j. (words (λ a. (spot_at spots a).length) (λ a index. pos 0)).yes (first j) (second j)
reads_same spots room other (instr.No guard x) all =
    let first = operand_agrees room other guard (agrees_front room other (operand_slots guard) (operand_slots x) all) in
    let second = operand_agrees room other x (agrees_back room other (operand_slots guard) (operand_slots x) all) in
    λ j. (words (λ a. (spot_at spots a).length) (λ a index. pos 0)).no (first j) (second j)
reads_same spots room other (instr.Index array a) all = ap (λ w. pos (cell w (spot_at spots array).length)) (operand_agrees room other a all)
reads_same spots room other (instr.Load array) all = refl
reads_same spots room other (instr.Store array a) all = operand_agrees room other a all

-- the same word in the same slot of each
set_same : (room other : List ℤ) (slot : ℕ) (x y : ℤ) (v : ℕ) → length room ≡ length other → x ≡ y → word_at room v ≡ word_at other v
    → word_at (slice_set room slot x) v ≡ word_at (slice_set other slot y) v
set_same room other slot x y v long same before = elim (eqb_tells v slot) [
  | inl t ↦ elim (below_or_past slot (length room)) [
    | inl less ↦ (
        let there : slot < length other = omega (arith, less, long) in
        ap (word_at (slice_set room slot x)) t.1 ∙ get_or-set_same room slot x (pos 0) less ∙ same
        ∙ sym (get_or-set_same other slot y (pos 0) there) ∙ ap (word_at (slice_set other slot y)) (sym t.1))
    | inr past ↦ (
        let one : length (slice_set room slot x) ≤ v = omega (arith, past, length-set room slot x, t.1) in
        let two : length (slice_set other slot y) ≤ v = omega (arith, past, long, length-set other slot y, t.1) in
        get_or_past (slice_set room slot x) v (pos 0) one ∙ sym (get_or_past (slice_set other slot y) v (pos 0) two))
  ]
  | inr t ↦ (
      let apart : v ≢ slot = t.1 in
      get_or-set_other room slot v x (pos 0) apart ∙ before ∙ sym (get_or-set_other other slot v y (pos 0) apart))
]

-- ---- which slots are live

has : (a : ℕ) (xs : List ℕ) → list_any (λ b. b == a) xs ≡ true → Member a xs
has a [] none = elim (false≢true none) [ ]
has a (x ∷ xs) found = elim (eqb_tells x a) [
  | inl t ↦ inl (sym t.1)
  | inr t ↦ inr (has a xs (ap (λ b. b || list_any (λ y. y == a) xs) (sym t.0) ∙ found))
]

or_true : (b : Bool) → (b || true) ≡ true
or_true true = refl
or_true false = refl

found : (a : ℕ) (xs : List ℕ) → Member a xs → list_any (λ b. b == a) xs ≡ true
found a [] m = elim m [ ]
found a (x ∷ xs) (inl e) = elim (eqb_tells x a) [
  | inl t ↦ ap (λ b. b || list_any (λ y. y == a) xs) t.0
  | inr t ↦ elim (t.1 (sym e)) [ ]
]
found a (x ∷ xs) (inr m) = ap (λ b. (x == a) || b) (found a xs m) ∙ or_true (x == a)

lacks : (a v : ℕ) (xs : List ℕ) → list_any (λ b. b == a) xs ≡ false → Member v xs → v ≢ a
lacks a v xs none m is = false≢true (sym none ∙ found a xs (subst (λ n. Member n xs) is m))

-- ---- some steps and all

-- no step yet
pub follows_none : (asked : List ℕ) → Follows asked asked [] []
follows_none asked spots room other long same = same

-- a step that writes a live slot is taken
pub follows_more : (asked live : List ℕ) (some all : List HeaderStep) (s : HeaderStep) → Follows asked live some all
    → Follows asked (live ++ read_slots s.instr) (s ∷ some) (s ∷ all)
follows_more asked live some all s so_far spots room other long same =
    let x : ℤ = spot_value spots [] room s.instr in
    let y : ℤ = spot_value spots [] other s.instr in
    let value : x ≡ y = reads_same spots room other s.instr (agrees_back room other live (read_slots s.instr) same) in
    so_far spots (slice_set room s.slot x) (slice_set other s.slot y) (length-set room s.slot x ∙ long ∙ sym (length-set other s.slot y))
    (λ v m. set_same room other s.slot x y v long value (same v (member_front v live (read_slots s.instr) m)))

-- any other is left out
pub follows_less : (asked live : List ℕ) (some all : List HeaderStep) (s : HeaderStep) → list_any (λ b. b == s.slot) live ≡ false
    → Follows asked live some all → Follows asked live some (s ∷ all)
follows_less asked live some all s none so_far spots room other long same =
    let y : ℤ = spot_value spots [] other s.instr in
    so_far spots room (slice_set other s.slot y) (long ∙ sym (length-set other s.slot y))
    (λ v m. same v m ∙ sym (get_or-set_other other s.slot v y (pos 0) (lacks s.slot v live none m)))

-- put before the others, which stand last one first
pub follows_put : (asked old live : List ℕ) (some more all : List HeaderStep) (s : HeaderStep) → more ≡ some ++ s ∷ [] → live ≡ old ++ read_slots s.instr
    → Follows asked old (reverse some) all → Follows asked live (reverse more) (s ∷ all)
follows_put asked old live some more all s more_is live_is so_far =
    let turned : reverse more ≡ s ∷ reverse some = ap reverse more_is ∙ reverse-append some (s ∷ []) in
    subst (λ l. Follows asked l (reverse more) (s ∷ all)) (sym live_is)
    (subst (λ l. Follows asked (old ++ read_slots s.instr) l (s ∷ all)) (sym turned) (follows_more asked old (reverse some) all s so_far))

-- at the end of the steps
pub follows_end : (asked live : List ℕ) (header : List HeaderStep) → live ≡ asked → Follows asked live [] (drop (length header) header)
follows_end asked live header is =
    let all : length header ≤ length header = omega arith in
    subst (λ l. Follows asked l [] (drop (length header) header)) (sym is)
    (subst (λ l. Follows asked asked [] l) (sym (drop_all (length header) header all)) (follows_none asked))

-- one step before
pub follows_before : (asked live : List ℕ) (some header : List HeaderStep) (k : ℕ) (d : HeaderStep) → 0 < k → k ≤ length header
    → Follows asked live some (get_or header (k - 1) d ∷ drop k header) → Follows asked live some (drop (k - 1) header)
follows_before asked live some header k d least most so_far =
    let less : k - 1 < length header = omega (arith, least, most) in
    let next : k - 1 + 1 ≡ k = omega (arith, least) in
    let same : drop (k - 1) header ≡ get_or header (k - 1) d ∷ drop k header = drop_more header (k - 1) d less ∙ ap (λ n. get_or header (k - 1) d ∷ drop n header) next in
    subst (Follows asked live some) (sym same) so_far

-- at the first step
pub follows_all : (asked live : List ℕ) (some found all : List HeaderStep) → found ≡ some → Follows asked live some all → Leaves asked found all
follows_all asked live some found all is so_far spots room =
    subst (λ l. Agrees (fold (spot_step spots) room l) (fold (spot_step spots) room all) asked) (sym is) (so_far spots room room refl (λ v m. refl))

-- ---- places

open_same : (room other : List ℤ) (guards : List Operand) → Agrees room other (flat_map operand_slots guards) → is_open room guards ≡ is_open other guards
open_same room other [] all = refl
open_same room other (x ∷ guards) all =
    let first = operand_agrees room other x (agrees_front room other (operand_slots x) (flat_map operand_slots guards) all) in
    let rest = open_same room other guards (agrees_back room other (operand_slots x) (flat_map operand_slots guards) all) in
    λ j. truth (first j) || rest j

touched_same : (c : Staged) (room other : List ℤ) (arrays : List ℕ) → Agrees room other (flat_map (guard_slots c.arrays) arrays)
    → list_any (is_touching c room) arrays ≡ list_any (is_touching c other) arrays
touched_same c room other [] all = refl
touched_same c room other (a ∷ arrays) all =
    let first = open_same room other (guards_of c.arrays a) (agrees_front room other (guard_slots c.arrays a) (flat_map (guard_slots c.arrays) arrays) all) in
    let rest = touched_same c room other arrays (agrees_back room other (guard_slots c.arrays a) (flat_map (guard_slots c.arrays) arrays) all) in
    λ j. first j || rest j

unit_same : (c : Staged) (spots : List Spot) (room other : List ℤ) (g : StagedGroup) → (spot_at spots (first_array g)).index ≡ slot_of_index c (first_array g)
    → Agrees room other (unit_slots spots g) → unit_number c room g ≡ unit_number c other g
unit_same c spots room other g index = by g.sharded
  where
    k : ℕ
    k = (spot_at spots (first_array g)).index

    by : (b : Bool) → Agrees room other (if b then k ∷ [] else [])
        → (if b then natural (word_at room (slot_of_index c (first_array g))) else 0) ≡ (if b then natural (word_at other (slot_of_index c (first_array g))) else 0)
    by true same = subst (λ n. natural (word_at room n) ≡ natural (word_at other n)) index (ap natural (same k (inl refl)))
    by false same = refl

place_same : (c : Staged) (spots : List Spot) (room other : List ℤ) (g : StagedGroup) → (spot_at spots (first_array g)).index ≡ slot_of_index c (first_array g)
    → Agrees room other (group_slots c.arrays spots g) → place_on c room g ≡ place_on c other g
place_same c spots room other g index same =
    let touched = touched_same c room other g.arrays (agrees_front room other (flat_map (guard_slots c.arrays) g.arrays) (unit_slots spots g) same) in
    let unit = unit_same c spots room other g index (agrees_back room other (flat_map (guard_slots c.arrays) g.arrays) (unit_slots spots g) same) in
    λ j. if touched j then Some (unit j) else None

-- the slots of a group are among those of all
among : (f : StagedGroup → List ℕ) (groups : List StagedGroup) (g v : ℕ) → g < length groups → Member v (f (get_or groups g no_group)) → Member v (flat_map f groups)
among f [] g v less m = absurd (omega arith)
among f (x ∷ groups) zero v less m = member_front v (f x) (flat_map f groups) m
among f (x ∷ groups) (suc g) v less m = member_back v (f x) (flat_map f groups) (among f groups g v (omega (arith, less)) m)

-- steps that leave the words on which all places depend give the places
pub gives_places : (c : Staged) (spots : List Spot) (needed : List HeaderStep) (slots : List ℕ) → IsStaged c → AreSpots c spots
    → slots ≡ flat_map (group_slots c.arrays spots) c.groups → Leaves slots needed c.header → GivesPlaces c needed
gives_places c spots needed slots staged are is leaves room g = elim (below_or_past g (length c.groups)) [
  | inl less ↦ (
      let one : fold (spot_step spots) room needed ≡ fold (header_step c) room needed = steps_same c spots are needed room in
      let two : fold (spot_step spots) room c.header ≡ fold (header_step c) room c.header = steps_same c spots are c.header room in
      let all : Agrees (fold (spot_step spots) room needed) (fold (spot_step spots) room c.header) slots = leaves spots room in
      let here = place_same c spots (fold (spot_step spots) room needed) (fold (spot_step spots) room c.header) (group_at c g) (first_slot c spots g are (staged.groups g less))
      (λ v m. all v (subst (Member v) (sym is) (among (group_slots c.arrays spots) c.groups g v less m))) in
      ap (λ r. place_on c r (group_at c g)) (sym one) ∙ here ∙ ap (λ r. place_on c r (group_at c g)) two)
  | inr past ↦ (
      let none : group_at c g ≡ no_group = get_or_past c.groups g no_group past in
      ap (place_on c (fold (header_step c) room needed)) none ∙ sym (ap (place_on c (fold (header_step c) room c.header)) none))
]
