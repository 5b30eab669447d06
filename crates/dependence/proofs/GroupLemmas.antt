-- Groups say the same where reaching does, and the order of running.
use Rattle.std.proofs.Common.{◌≡◌, ℕ, suc, ◌+◌, ◌<◌, ◌≤◌, refl, sym, ap, ◌∙◌, arith, inl, inr, ◌⊎◌, List, Some, None, Option}
use Rattle.dependence.specs.Reach.{Reaches, here, step}
use Rattle.std.proofs.lemmas.Bool.Decides.{eqb_tells}
use Rattle.dependence.specs.Groups.{RestsOn, Before, AreGroups, group_of}
use Rattle.dependence.proofs.PathLemmas.{depth_along}
use Rattle.dependence.proofs.ReachLemmas.{join}

-- a relation that says the same of all arrays has the same groups
module _ (T : ℕ → Type 0) (Q S : ℕ → ℕ → Type 0) (to : (a b : ℕ) → Q a b → S a b) (from : (a b : ℕ) → S a b → Q a b) where
  rests : (a b : ℕ) → RestsOn Q a b → RestsOn S a b
  rests a b h = (to a b h.0, λ s. h.1 (from b a s))

  rests_back : (a b : ℕ) → RestsOn S a b → RestsOn Q a b
  rests_back a b h = (from a b h.0, λ s. h.1 (to b a s))

  before : (of : List (Option ℕ)) (a b : ℕ) → Before Q of a b → Before S of a b
  before of a b h = (h.0, h.1, depth_along (RestsOn Q) (RestsOn S) rests rests_back a h.0 h.2, depth_along (RestsOn Q) (RestsOn S) rests rests_back b h.1 h.3, h.4)

  pub groups_along : (count : ℕ) (of : List (Option ℕ)) → AreGroups T Q count of → AreGroups T S count of
  groups_along count of h = record {
    touched = h.touched;
    untouched = h.untouched;
    same = λ a b ta tb. (λ e. let q = (h.same a b ta tb).0 e in (to a b q.0, to b a q.1), λ s. (h.same a b ta tb).1 (from a b s.0, from b a s.1));
    used = h.used;
    ordered = λ a b g k ea eb less. before of a b (h.ordered a b g k ea eb less);
  }

-- a group reaches no later one
module _ (T : ℕ → Type 0) (Q : ℕ → ℕ → Type 0) (trans : (a b c : ℕ) → Q a b → Q b c → Q a c) (count : ℕ) (of : List (Option ℕ)) (groups : AreGroups T Q count of) where
  pub no_later : (a b g h : ℕ) → T a → T b → group_of of a ≡ Some g → group_of of b ≡ Some h → Q a b → g < h → ⊥
  no_later a b g h ta tb ea eb q less =
      let before : Before Q of a b = groups.ordered a b g h ea eb less in
      let apart : Q b a → ⊥ = (λ r. let e : Some g ≡ Some h = sym ea ∙ (groups.same a b ta tb).1 (q, r) ∙ eb in let n : g ≡ h = cc in absurd (omega arith)) in
      let longer : suc before.1 ≤ before.0 = before.2.longest (suc before.1) (b, (q, apart), before.3.has) in
      elim before.4 [ inl l ↦ absurd (omega arith) | inr l ↦ let e = l.0 in absurd (omega arith) ]

-- ---- the order of running: what an instruction uses stands in an earlier part or its own

module _ (R : ℕ → ℕ → Type 0) (spot : ℕ → Option ℕ) (block : ℕ → ℕ)
    (no_later_reached : (i j g h : ℕ) → Reaches R i j → spot i ≡ Some g → spot j ≡ Some h → h ≤ g)
    (one_class : (i j g : ℕ) → spot i ≡ Some g → spot j ≡ Some g → Reaches R i j)
    (closed : (i j g : ℕ) → spot i ≡ Some g → Reaches R i j → Reaches R j i → spot j ≡ Some g)
    (above : (i m g : ℕ) → spot i ≡ None → Reaches R i m → spot m ≡ Some g → g < block i)
    (least : (i : ℕ) → spot i ≡ None → (block i ≡ 0) ⊎ ((g : ℕ) × (m : ℕ) × (block i ≡ suc g) × Reaches R i m × (spot m ≡ Some g))) where
  abbrev pub part_of : Option ℕ → ℕ → ℕ
  part_of None b = b + b
  part_of (Some g) b = suc (g + g)

  abbrev pub part : ℕ → ℕ
  part i = part_of (spot i) (block i)

  pub uses_before : (i j : ℕ) → R i j → part j ≤ part i
  uses_before i j r = go (spot i) (spot j) refl refl where
    one : Reaches R i j
    one = step r here

    go : (s t : Option ℕ) → spot i ≡ s → spot j ≡ t → part_of (spot j) (block j) ≤ part_of (spot i) (block i)
    go (Some g) (Some h) ei ej = rw ei (rw ej (let le : h ≤ g = no_later_reached i j g h one ei ej in omega arith))
    go None (Some h) ei ej = rw ei (rw ej (let lt : h < block i = above i j h ei one ej in omega arith))
    go None None ei ej = rw ei (rw ej (elim (least j ej) [
      | inl z ↦ omega arith
      | inr l ↦ let lt : l.0 < block i = above i l.1 l.0 ei (step r l.3) l.4 in omega (arith, l.2)
    ]))
    go (Some g) None ei ej = rw ei (rw ej (elim (least j ej) [
      | inl z ↦ omega arith
      | inr l ↦
          let le : l.0 ≤ g = no_later_reached i l.1 g l.0 (step r l.3) ei l.4 in
          elim (eqb_tells l.0 g) [
            | inl t ↦
                let same : spot l.1 ≡ Some g = l.4 ∙ ap Some t.1 in
                let back : Reaches R j i = join l.3 (one_class l.1 i g same ei) in
                let inside : spot j ≡ Some g = closed i j g ei one back in
                let no_way : None ≡ Some g = sym ej ∙ inside in
                cc
            | inr t ↦ let other : l.0 ≡ g → ⊥ = t.1 in omega (arith, l.2)
          ]
    ]))
