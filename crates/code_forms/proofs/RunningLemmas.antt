-- What running keeps, as plain data.
use Rattle.std.proofs.Common.{◌≡◌, ◌≢◌, ℕ, zero, suc, ◌+◌, ◌-◌, ◌<◌, ◌≤◌, ℤ, pos, List, ◌∷◌, ◌++◌, length, map, flat_map, get_or, slice_set, refl, sym, ap, subst, if◌then◌else◌, ◌∙◌, ◌⊎◌, inl, inr, arith, add-one}
use Rattle.std.proofs.lemmas.List.{length-set, get_or-set_same, get_or-set_other, get_or_past, get_or-map, length-map}
use Rattle.std.proofs.lemmas.Bool.Decides.{eqb_tells}
use Rattle.code_forms.specs.declared.flat.Operand.{Operand}
use Rattle.code_forms.specs.declared.flat.Operand.TheVariants as operand
use Rattle.code_forms.specs.declared.flat.Instr.{Instr}
use Rattle.code_forms.specs.declared.flat.Instr.TheVariants as instr
use Rattle.code_forms.specs.declared.flat.FlatArray.{FlatArray}
use Rattle.code_forms.specs.declared.parts.HeaderStep.{HeaderStep}
use Rattle.code_forms.specs.declared.spot.Spot.{Spot}
use Rattle.code_forms.specs.FlatMeaning.{instr_value, flat_length}
use Rattle.code_forms.specs.Staged.{Staged, slot_of_index, operand_word, operand_slots, guards_of, uses, number_at, runs, IsWritten, by_instr, point, InPart, AreParts, IsStaged}
use Rattle.code_forms.specs.StagedMeaning.{code_values}
use Rattle.code_forms.specs.Spots.{no_spot, spot_at, spot_of, spot_value, AreLengths, AreSpots}
use Rattle.code_forms.specs.Running.{Reads, Steps, RunsTo}
use Rattle.code_forms.specs.Needed.{Agrees, numbered_step, steps_of}
use Rattle.mp5_words.specs.Domain.{Loads, words}
use Rattle.mp5_words.specs.Words.{op1, op2, hash, cell}
use Rattle.mp5_words.specs.Cells.{word_at, natural, picked}
use Rattle.code_forms.proofs.StagedLemmas.{member_front, member_back, array_at, valued, written_cases}

-- ---- the table

pub below_or_past : (a n : ℕ) → (a < n) ⊎ (n ≤ a)
below_or_past a zero = inr (omega arith)
below_or_past zero (suc n) = inl (omega arith)
below_or_past (suc a) (suc n) = elim (below_or_past a n) [ inl less ↦ inl (omega (arith, less)) | inr past ↦ inr (omega (arith, past)) ]

-- the table has the length of each array
pub lengths_agree : (c : Staged) (spots : List Spot) → AreSpots c spots → (a : ℕ) → (spot_at spots a).length ≡ flat_length c.arrays a
lengths_agree c spots are a = elim (below_or_past a (length c.arrays)) [
  | inl less ↦ ap (λ (s : Spot). s.length) (are.each a less)
  | inr past ↦ ap (λ (s : Spot). s.length) (get_or_past spots a no_spot (omega (arith, past, are.long)))
      ∙ sym (get_or_past (map (λ (f : FlatArray). f.length) c.arrays) a 1 (omega (arith, past, length-map c.arrays (λ (f : FlatArray). f.length))))
]

-- each length is one of an array
pub lengths_fit : (c : Staged) (spots : List Spot) → IsStaged c → AreSpots c spots → AreLengths spots
lengths_fit c spots staged are a = elim (below_or_past a (length c.arrays)) [
  | inl less ↦ (
      let fit = array_at c staged a less in
      let same = lengths_agree c spots are a in
      (omega (arith, fit.0, same), omega (arith, fit.1, same)))
  | inr past ↦ (
      let same : (spot_at spots a).length ≡ 1 = ap (λ (s : Spot). s.length) (get_or_past spots a no_spot (omega (arith, past, are.long))) in
      (omega (arith, same), omega (arith, same)))
]

-- ---- values

pub agrees_front : (env vals : List ℤ) (xs ys : List ℕ) → Agrees env vals (xs ++ ys) → Agrees env vals xs
agrees_front env vals xs ys all v m = all v (member_front v xs ys m)

pub agrees_back : (env vals : List ℤ) (xs ys : List ℕ) → Agrees env vals (xs ++ ys) → Agrees env vals ys
agrees_back env vals xs ys all v m = all v (member_back v xs ys m)

-- an operand is the same where its slot is
pub operand_agrees : (env vals : List ℤ) (x : Operand) → Agrees env vals (operand_slots x) → operand_word env x ≡ operand_word vals x
operand_agrees env vals (operand.Slot k) all = all k (inl refl)
operand_agrees env vals (operand.Number n) all = refl

module _ (c : Staged) (spots : List Spot) (are : AreSpots c spots) (loads : Loads) (cells env vals : List ℤ) where
  -- an instruction gives what it gives on words that are the same in the slots that it uses
  pub value_agrees : (i : Instr) → Agrees env vals (uses c i) → Reads c loads cells i
      → spot_value spots cells env i ≡ instr_value ℤ (words (flat_length c.arrays) loads) (slot_of_index c) vals i
  value_agrees (instr.One op a) all reads = ap (op1 op) (operand_agrees env vals a all)
  value_agrees (instr.Two op a b) all reads =
      let first = operand_agrees env vals a (agrees_front env vals (operand_slots a) (operand_slots b) all) in
      let second = operand_agrees env vals b (agrees_back env vals (operand_slots a) (operand_slots b) all) in
      λ j. op2 op (first j) (second j)
  value_agrees (instr.Pick x a b) all reads =
      let both = agrees_back env vals (operand_slots x) (operand_slots a ++ operand_slots b) all in
      let cond = operand_agrees env vals x (agrees_front env vals (operand_slots x) (operand_slots a ++ operand_slots b) all) in
      let first = operand_agrees env vals a (agrees_front env vals (operand_slots a) (operand_slots b) both) in
      let second = operand_agrees env vals b (agrees_back env vals (operand_slots a) (operand_slots b) both) in
      λ j. picked (cond j) (first j) (second j)
  value_agrees (instr.Hash kind a b x) all reads =
      let both = agrees_back env vals (operand_slots a) (operand_slots b ++ operand_slots x) all in
      let first = operand_agrees env vals a (agrees_front env vals (operand_slots a) (operand_slots b ++ operand_slots x) all) in
      let second = operand_agrees env vals b (agrees_front env vals (operand_slots b) (operand_slots x) both) in
      let third = operand_agrees env vals x (agrees_back env vals (operand_slots b) (operand_slots x) both) in
      λ j. hash kind (first j) (second j) (third j)
  value_agrees (instr.Move a) all reads = operand_agrees env vals a all
  value_agrees (instr.Yes guard x) all reads =
      let first = operand_agrees env vals guard (agrees_front env vals (operand_slots guard) (operand_slots x) all) in
      let second = operand_agrees env vals x (agrees_back env vals (operand_slots guard) (operand_slots x) all) in
      λ j. (words (flat_length c.arrays) loads).yes (first j) (second j)
  value_agrees (instr.No guard x) all reads =
      let first = operand_agrees env vals guard (agrees_front env vals (operand_slots guard) (operand_slots x) all) in
      let second = operand_agrees env vals x (agrees_back env vals (operand_slots guard) (operand_slots x) all) in
      λ j. (words (flat_length c.arrays) loads).no (first j) (second j)
  value_agrees (instr.Index array a) all reads =
      let word = operand_agrees env vals a all in
      let long = lengths_agree c spots are array in
      λ j. pos (cell (word j) (long j))
  value_agrees (instr.Load array) all reads =
      let read = reads array refl in
      let spot : spot_at spots array ≡ spot_of c array = are.each array read.0 in
      ap (λ (s : Spot). word_at cells (s.start + (if s.sharded then 0 else natural (word_at env s.index)))) spot
      ∙ sym (read.1 (natural (word_at env (slot_of_index c array))))
      ∙ ap (λ z. loads array (natural z)) (all (slot_of_index c array) (inl refl))
  value_agrees (instr.Store array a) all reads =
      operand_agrees env vals a (agrees_front env vals (operand_slots a) (slot_of_index c array ∷ flat_map operand_slots (guards_of c.arrays array)) all)

-- ---- one step

-- one instruction leads from one place of the order to the next
run_step : (c : Staged) (spots : List Spot) (p : ℕ) (cells env : List ℤ) (x : ℤ) → IsStaged c → AreSpots c spots → p < length c.order
    → x ≡ spot_value spots cells env (runs c p)
    → Steps c p cells env (slice_set env (c.fields + number_at c p) x)
run_step c spots p cells env x staged are within is from loads header long less reads holds = record {
  long = length-set env slot x ∙ holds.long;
  held = λ v w u. elim (written_cases c p v (subst (λ n. IsWritten c n v) (add-one p) w)) [
    | inl before ↦ elim (eqb_tells v slot) [
      | inl same ↦ here v same.1
      | inr t ↦ (let other : v ≢ slot = t.1 in get_or-set_other env slot v x (pos 0) other ∙ holds.held v before u)
    ]
    | inr same ↦ here v same
  ];
} where
  slot : ℕ
  slot = c.fields + number_at c p

  vals : List ℤ
  vals = code_values c loads header

  here : (v : ℕ) → v ≡ c.fields + number_at c p → word_at (slice_set env (c.fields + number_at c p) x) v ≡ word_at (code_values c loads header) v
  here v same =
      let known : number_at c p < length c.instrs = staged.order.known p within in
      let room : c.fields + number_at c p < length env = omega (arith, known, holds.long) in
      ap (word_at (slice_set env (c.fields + number_at c p) x)) same
      ∙ get_or-set_same env (c.fields + number_at c p) x (pos 0) room
      ∙ is
      ∙ value_agrees c spots are loads cells env (code_values c loads header) (runs c p)
      (λ v m. holds.held v (staged.order.ordered p v within m) (by_instr p less within m)) reads
      ∙ sym (valued c loads header (number_at c p) staged long known)
      ∙ ap (word_at (code_values c loads header)) (sym same)

-- the step that the code makes
pub step_done : (c : Staged) (spots : List Spot) (steps : List HeaderStep) (p : ℕ) (d : HeaderStep) (x : ℤ) (cells env new : List ℤ)
    → IsStaged c → AreSpots c spots → steps ≡ steps_of c → p < length c.order
    → x ≡ spot_value spots cells env (get_or steps p d).instr
    → new ≡ slice_set env (get_or steps p d).slot x → Steps c p cells env new
step_done c spots steps p d x cells env new staged are kept within is new_is =
    let step : get_or steps p d ≡ numbered_step c.fields c.instrs (number_at c p) =
    ap (λ l. get_or l p d) kept ∙ get_or-map (numbered_step c.fields c.instrs) c.order p 0 d within in
    let word : x ≡ spot_value spots cells env (runs c p) = is ∙ (λ j. spot_value spots cells env (step j).instr) in
    let written : new ≡ slice_set env (c.fields + number_at c p) x = new_is ∙ (λ j. slice_set env (step j).slot x) in
    subst (λ n. Steps c p cells env n) (sym written) (run_step c spots p cells env x staged are within word)

-- where the arrays stand, by what the code is seen as
pub spots_seen : (code c : Staged) (table spots : List Spot) → code ≡ c → table ≡ spots → AreSpots code spots → AreSpots c table
spots_seen code c table spots view is are = subst (λ s. AreSpots s table) view (subst (λ l. AreSpots code l) (sym is) are)

-- ---- a part

-- a later point is no less
pub point_rises : (c : Staged) (k j : ℕ) → AreParts c → k + j ≤ length c.ends → point c k ≤ point c (k + j)
point_rises c k zero parts within =
    let same : k ≡ k + 0 = omega arith in
    let here : point c k ≤ point c k = omega arith in
    subst (λ n. point c k ≤ point c n) same here
point_rises c k (suc j) parts within =
    let before : point c k ≤ point c (k + j) = point_rises c k j parts (omega (arith, within)) in
    let here : point c (k + j) ≤ point c (k + j + 1) = parts.rising (k + j) (omega (arith, within)) in
    let next : k + j + 1 ≡ k + suc j = omega arith in
    let more : point c k ≤ point c (k + j + 1) = omega (arith, before, here) in
    subst (λ n. point c k ≤ point c n) next more

-- no point is past the order
pub point_within : (c : Staged) (k : ℕ) → AreParts c → k ≤ length c.ends → point c k ≤ length c.order
point_within c k parts within =
    let last : k + (length c.ends - k) ≡ length c.ends = omega (arith, within) in
    let less : point c k ≤ point c (k + (length c.ends - k)) = point_rises c k (length c.ends - k) parts (omega (arith, within)) in
    subst (λ n. point c k ≤ n) (ap (point c) last ∙ parts.whole) less

-- nothing ran yet
pub runs_none : (c : Staged) (k : ℕ) (cells env : List ℤ) → RunsTo c k (point c k) cells env env
runs_none c k cells env loads header long reads holds = holds

-- one more instruction ran
pub runs_more : (c : Staged) (k p : ℕ) (cells old env new : List ℤ) → InPart c k p → RunsTo c k p cells old env → Steps c p cells env new
    → RunsTo c k (p + 1) cells old new
runs_more c k p cells old env new inside so_far step loads header long reads holds =
    step (point c k) loads header long inside.0 (reads p inside) (so_far loads header long reads holds)
