-- How the table of arrays is made.
use Rattle.std.proofs.Common.{◌≡◌, ℕ, suc, ◌+◌, ◌-◌, ◌<◌, ◌≤◌, ◌==◌, nat_le, Bool, true, false, if◌then◌else◌, List, [], ◌∷◌, length, drop, map, get_or, Some, refl, sym, ap, ◌∙◌, inl, inr, arith}
use Rattle.std.specs.List.{list_any}
use Rattle.std.proofs.lemmas.List.{drop_more, get_or_past, length-map}
use Rattle.std.proofs.lemmas.Bool.Decides.{nat_tests}
use Rattle.code_forms.specs.declared.flat.FlatArray.{FlatArray}
use Rattle.code_forms.specs.declared.parts.StagedGroup.{StagedGroup}
use Rattle.code_forms.specs.FlatValid.{ascends}
use Rattle.code_forms.specs.FlatMeaning.{flat_length}
use Rattle.code_forms.specs.Staged.{Staged, Member, no_group, group_at, group_from, IsStaged}
use Rattle.code_forms.specs.Spots.{AreFew, AreSmall}
use Rattle.code_forms.proofs.ValidLemmas.{and_front, and_back}
use Rattle.code_forms.proofs.StagedLemmas.{limited, array_at}
use Rattle.code_forms.proofs.RunningLemmas.{below_or_past}

-- the group at a place, and the others behind it
group_cons : (groups : List StagedGroup) (g a : ℕ) (x : StagedGroup) → g < length groups → x ≡ get_or groups g x
    → group_from (drop g groups) g a ≡ (if list_any (λ b. b == a) x.arrays then Some g else group_from (drop (g + 1) groups) (suc g) a)
group_cons groups g a x within is =
    ap (λ l. group_from l g a) (drop_more groups g x within)
    ∙ ap (λ (y : StagedGroup). if list_any (λ b. b == a) y.arrays then Some g else group_from (drop (g + 1) groups) (suc g) a) (sym is)

pub group_found : (groups : List StagedGroup) (g a : ℕ) (x : StagedGroup) → g < length groups → x ≡ get_or groups g x → list_any (λ b. b == a) x.arrays ≡ true
    → group_from (drop g groups) g a ≡ Some g
group_found groups g a x within is has =
    group_cons groups g a x within is ∙ ap (λ (b : Bool). if b then Some g else group_from (drop (g + 1) groups) (suc g) a) has

pub group_past : (groups : List StagedGroup) (g a : ℕ) (x : StagedGroup) → g < length groups → x ≡ get_or groups g x → list_any (λ b. b == a) x.arrays ≡ false
    → group_from (drop (g + 1) groups) (g + 1) a ≡ group_from (drop g groups) g a
group_past groups g a x within is has =
    let next : g + 1 ≡ suc g = omega arith in
    ap (λ n. group_from (drop (g + 1) groups) n a) next
    ∙ sym (group_cons groups g a x within is ∙ ap (λ (b : Bool). if b then Some g else group_from (drop (g + 1) groups) (suc g) a) has)

-- an ascending list below a number isn't long
ascending_few : (n m : ℕ) (xs : List ℕ) → ascends n xs ≡ true → ((a : ℕ) → Member a xs → a < m) → length xs ≤ m - n
ascending_few n m [] up below = omega arith
ascending_few n m (x ∷ xs) up below =
    let first : nat_le n x ≡ true = and_front (nat_le n x) _ up in
    let least : n ≤ x = grind (arith, nat_tests, first) in
    let here : x < m = below x (inl refl) in
    let rest : length xs ≤ m - suc x = ascending_few (suc x) m xs (and_back (nat_le n x) _ up) (λ a member. below a (inr member)) in
    omega (arith, least, here, rest)

-- a group has at most 16 arrays
pub small_groups : (c : Staged) → IsStaged c → AreSmall c.groups
small_groups c staged g = elim (below_or_past g (length c.groups)) [
  | inl less ↦ (
      let is = staged.groups g less in
      let all : nat_le (length c.arrays) 16 ≡ true = and_front (nat_le (length c.arrays) 16) _ (and_back (nat_le c.fields 32) _ (limited c staged)) in
      let sixteen : length c.arrays ≤ 16 = grind (arith, nat_tests, all) in
      let few : length (group_at c g).arrays ≤ length c.arrays - 0 = ascending_few 0 (length c.arrays) (group_at c g).arrays is.rising (λ a member. (is.there a member).0) in
      omega (arith, sixteen, few))
  | inr past ↦ (
      let none : length (group_at c g).arrays ≡ 0 = ap (λ (h : StagedGroup). length h.arrays) (get_or_past c.groups g no_group past) in
      omega (arith, none))
]

-- no array has more than 65,536 cells
pub few_cells : (c : Staged) → IsStaged c → AreFew c.arrays
few_cells c staged a = elim (below_or_past a (length c.arrays)) [
  | inl less ↦ (array_at c staged a less).1
  | inr past ↦ (
      let one : flat_length c.arrays a ≡ 1 = get_or_past (map (λ (f : FlatArray). f.length) c.arrays) a 1 (omega (arith, past, length-map c.arrays (λ (f : FlatArray). f.length))) in
      omega (arith, one))
]
