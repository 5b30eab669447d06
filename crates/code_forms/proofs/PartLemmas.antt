-- From what running a part keeps to what blocks and groups do.
use Rattle.std.proofs.Common.{◌≡◌, ℕ, zero, suc, ◌+◌, ◌-◌, ◌*◌, ◌<◌, ◌≤◌, nat_lt, ℤ, pos, true, List, [], ◌∷◌, length, Option, Some, None, sym, ap, subst, ◌∙◌, inl, inr, arith}
use Rattle.std.proofs.lemmas.Bool.Decides.{nat_tests}
use Rattle.code_forms.specs.declared.flat.Instr.{Instr}
use Rattle.code_forms.specs.declared.flat.Instr.TheVariants as instr
use Rattle.code_forms.specs.declared.parts.StagedGroup.{StagedGroup}
use Rattle.code_forms.specs.FlatValid.{Written, instr_fits, instrs_fit, after, instr_at, header_slots}
use Rattle.code_forms.specs.Staged.{Staged, number_at, runs, point, block_start, group_start, accessed, group_at, group_of, unit_cell, InPart, AreParts, IsWritten, of_header, of_instr, Fits, IsStaged}
use Rattle.code_forms.specs.StagedMeaning.{Units, placed_word, loaded_word, staged_loads, staged_values, place, Leads, Always, IsUnplaced}
use Rattle.code_forms.specs.Spots.{home, group_or_none}
use Rattle.code_forms.specs.Running.{Holds, Reads, RunsPart}
use Rattle.mp5_words.specs.Domain.{Loads}
use Rattle.mp5_words.specs.Cells.{word_at}
use Rattle.code_forms.proofs.ValidLemmas.{and_front, and_back}
use Rattle.code_forms.proofs.StagedLemmas.{later, fitting}
use Rattle.code_forms.proofs.RunningLemmas.{below_or_past, point_rises, point_within}

-- ---- environments

pub holds_at : (c : Staged) (vals : List ℤ) (p : ℕ) (env : List ℤ) → Fits c vals p env → Holds c vals p p env
holds_at c vals p env fits = record { long = fits.long; held = fits.held }

pub fits_then : (c : Staged) (vals : List ℤ) (from to : ℕ) (env : List ℤ) → from ≤ to → Holds c vals from to env → Fits c vals to env
fits_then c vals from to env less holds = record { long = holds.long; held = λ v w u. holds.held v w (later c from to v less u) }

-- what is written stays written
pub written_still : (c : Staged) (p q v : ℕ) → p ≤ q → IsWritten c p v → IsWritten c q v
written_still c p q v less (of_header h) = of_header h
written_still c p q v less (of_instr r before e) = of_instr r (omega (arith, less, before)) e

-- ---- a place of the order is in one part

part_before : (c : Staged) (k l p : ℕ) → AreParts c → k < l → l ≤ length c.ends → InPart c k p → InPart c l p → ⊥
part_before c k l p parts less within one two =
    let there : k + 1 + (l - (k + 1)) ≡ l = omega (arith, less) in
    let rise : point c (k + 1) ≤ point c (k + 1 + (l - (k + 1))) = point_rises c (k + 1) (l - (k + 1)) parts (omega (arith, there, within)) in
    let up : point c (k + 1) ≤ point c l = subst (λ n. point c (k + 1) ≤ point c n) there rise in
    omega (arith, up, one.1, two.0)

pub one_part : (c : Staged) (k l p : ℕ) → AreParts c → k ≤ length c.ends → l ≤ length c.ends → InPart c k p → InPart c l p → k ≡ l
one_part c k l p parts k_in l_in one two = elim (below_or_past k l) [
  | inl less ↦ absurd (part_before c k l p parts less l_in one two)
  | inr past ↦ elim (below_or_past l k) [
    | inl less ↦ absurd (part_before c l k p parts less k_in two one)
    | inr again ↦ omega (arith, past, again)
  ]
]

-- ---- what is loaded

fits_at : (n : ℕ) (w : Written) (instrs : List Instr) (k : ℕ) → k < length instrs → instrs_fit n w instrs ≡ true → (v : Written) × (instr_fits n v (instr_at instrs k) ≡ true)
fits_at n w [] k within fit = absurd (omega (arith, within))
fits_at n w (i ∷ instrs) zero within fit = (w, and_front (instr_fits n w i) _ fit)
fits_at n w (i ∷ instrs) (suc k) within fit = fits_at n (after w i) instrs k (omega (arith, within)) (and_back (instr_fits n w i) _ fit)

-- a loaded array is there
loaded_there : (c : Staged) (p a : ℕ) → IsStaged c → p < length c.order → runs c p ≡ instr.Load a → a < length c.arrays
loaded_there c p a staged within is =
    let fit = fits_at (length c.arrays) (header_slots c.fields) c.instrs (number_at c p) (staged.order.known p within) (fitting c staged) in
    let below : nat_lt a (length c.arrays) ≡ true = subst (λ i. instr_fits (length c.arrays) fit.0 i ≡ true) is fit.1 in
    grind (arith, nat_tests, below)

-- what is loaded in the part of a group is what the group's array has there
group_reads : (c : Staged) (units : Units) (header cells : List ℤ) (g p : ℕ) → IsStaged c → g < length c.groups → p < length c.order → InPart c (2 * g + 1) p
    → ((a index : ℕ) → placed_word c units g (place c header g) a index ≡ word_at cells (unit_cell c (group_at c g) a index))
    → Reads c (staged_loads c units header) cells (runs c p)
group_reads c units header cells g p staged below within inside same a is =
    let access = staged.accesses.inside p a within (ap accessed is) in
    let count = staged.parts.count in
    let here : 2 * g + 1 ≡ 2 * access.0 + 1 = one_part c (2 * g + 1) (2 * access.0 + 1) p staged.parts (omega (arith, below, count)) (omega (arith, access.1, count)) inside access.3 in
    let same_group : access.0 ≡ g = omega (arith, here) in
    let of : group_of c a ≡ Some g = access.2 ∙ ap (λ n. Some n) same_group in
    let at_home : home c a ≡ group_at c g = ap (group_or_none c.groups) of in (
      loaded_there c p a staged within is,
      λ index. ap (λ o. loaded_word c units header o a index) of ∙ same a index ∙ ap (λ (h : StagedGroup). word_at cells (unit_cell c h a index)) (sym at_home),
    )

-- nothing is loaded in the part of a block
block_reads : (c : Staged) (loads : Loads) (cells : List ℤ) (b p : ℕ) → IsStaged c → b ≤ length c.groups → p < length c.order → InPart c (2 * b) p → Reads c loads cells (runs c p)
block_reads c loads cells b p staged below within inside a is =
    let access = staged.accesses.inside p a within (ap accessed is) in
    let count = staged.parts.count in
    let here : 2 * b ≡ 2 * access.0 + 1 = one_part c (2 * b) (2 * access.0 + 1) p staged.parts (omega (arith, below, count)) (omega (arith, access.1, count)) inside access.3 in
    absurd (odd b access.0 here) where
      odd : (m n : ℕ) → 2 * m ≡ 2 * n + 1 → ⊥
      odd m n e = omega (arith, e)

-- ---- parts

-- a place in a part is one of the order
pub inside_order : (c : Staged) (k p : ℕ) → AreParts c → k < length c.ends → InPart c k p → p < length c.order
inside_order c k p parts within inside =
    let last : point c (k + 1) ≤ length c.order = point_within c (k + 1) parts (omega (arith, within)) in
    omega (arith, last, inside.1)

-- a block leads from its start to that of its group
pub block_leads : (c : Staged) (b : ℕ) (old new : List ℤ) → IsStaged c → b ≤ length c.groups → RunsPart c (2 * b) [] old new
    → Leads c Always (block_start c b) (group_start c b) old new
block_leads c b old new staged below runs header units long any fits =
    let vals : List ℤ = staged_values c units header in
    let within : 2 * b < length c.ends = omega (arith, below, staged.parts.count) in
    let held : Holds c vals (point c (2 * b)) (point c (2 * b + 1)) new =
    runs (staged_loads c units header) header long
    (λ p inside. block_reads c (staged_loads c units header) [] b p staged below (inside_order c (2 * b) p staged.parts within inside) inside)
    (holds_at c vals (point c (2 * b)) old fits) in
    fits_then c vals (point c (2 * b)) (point c (2 * b + 1)) new (staged.parts.rising (2 * b) within) held

-- what running a group's part keeps, where the header has such a place
pub group_holds : (c : Staged) (units : Units) (header cells : List ℤ) (g : ℕ) (old new : List ℤ) → IsStaged c → g < length c.groups → length header ≡ c.fields
    → ((a index : ℕ) → placed_word c units g (place c header g) a index ≡ word_at cells (unit_cell c (group_at c g) a index))
    → RunsPart c (2 * g + 1) cells old new → Fits c (staged_values c units header) (group_start c g) old
    → Holds c (staged_values c units header) (group_start c g) (point c (2 * g + 1 + 1)) new
group_holds c units header cells g old new staged below long same runs fits =
    let within : 2 * g + 1 < length c.ends = omega (arith, below, staged.parts.count) in
    runs (staged_loads c units header) header long
    (λ p inside. group_reads c units header cells g p staged below (inside_order c (2 * g + 1) p staged.parts within inside) inside same)
    (holds_at c (staged_values c units header) (group_start c g) old fits)

-- the environment then fits where the next block starts
pub group_fits : (c : Staged) (vals : List ℤ) (g : ℕ) (env : List ℤ) → IsStaged c → g < length c.groups
    → Holds c vals (group_start c g) (point c (2 * g + 1 + 1)) env → Fits c vals (block_start c (g + 1)) env
group_fits c vals g env staged below held =
    let within : 2 * g + 1 < length c.ends = omega (arith, below, staged.parts.count) in
    let next : 2 * g + 1 + 1 ≡ 2 * (g + 1) = omega arith in
    subst (λ k. Fits c vals (point c k) env) next (fits_then c vals (group_start c g) (point c (2 * g + 1 + 1)) env (staged.parts.rising (2 * g + 1) within) held)

-- where there is no place 0 is loaded
unplaced_word : (c : Staged) (units : Units) (g : ℕ) (o : Option ℕ) (a index : ℕ) → o ≡ None → placed_word c units g o a index ≡ pos 0
unplaced_word c units g o a index none = ap (λ p. placed_word c units g p a index) none

pub skip_leads : (c : Staged) (g : ℕ) (old new : List ℤ) → IsStaged c → g < length c.groups → RunsPart c (2 * g + 1) [] old new
    → Leads c (IsUnplaced c g) (group_start c g) (block_start c (g + 1)) old new
skip_leads c g old new staged below runs header units long none fits =
    group_fits c (staged_values c units header) g new staged below
    (group_holds c units header [] g old new staged below long (λ a index. unplaced_word c units g (place c header g) a index none) runs fits)
