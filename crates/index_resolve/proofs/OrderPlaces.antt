-- Each instruction has one place in the running order, in its part.
use Rattle.std.proofs.Common.{◌≡◌, inl, inr, ℕ, zero, suc, ◌+◌, ◌-◌, ◌*◌, ◌<◌, ◌≤◌, ◌==◌, Bool, true, false, List, [], ◌∷◌, ◌++◌, length, get_or, refl, sym, ap, subst, ◌∙◌, arith}
use Rattle.std.proofs.lemmas.List.{length-append, get_or_append_left}
use Rattle.std.proofs.lemmas.Bool.Decides.{nat_tests}
use Rattle.code_forms.specs.declared.flat.Instr.{Instr}
use Rattle.code_forms.specs.declared.layout.Spot.{Spot}
use Rattle.code_forms.specs.FlatValid.{instr_at}
use Rattle.code_forms.proofs.ValidLemmas.{and_front, and_back, and_both}
use Rattle.code_forms.proofs.RunningLemmas.{below_or_past}
use Rattle.index_resolve.specs.Order.{part_at, is_kind, is_in, one_if, chosen, part_order, running, part_ends}

-- ---- lists one after another

pub at_left : (xs ys : List ℕ) (k : ℕ) → k < length xs → get_or (xs ++ ys) k 0 ≡ get_or xs k 0
at_left xs ys k less = get_or_append_left xs ys 0 k less

pub at_right : (xs ys : List ℕ) (k : ℕ) → get_or (xs ++ ys) (length xs + k) 0 ≡ get_or ys k 0
at_right [] ys k = ap (λ n. get_or ys n 0) (omega arith)
at_right (x ∷ xs) ys k = ap (λ n. get_or (x ∷ (xs ++ ys)) n 0) (shift (length xs)) ∙ at_right xs ys k where
  shift : (n : ℕ) → suc n + k ≡ suc (n + k)
  shift n = omega arith

pub same_of : (a b : ℕ) → (a == b) ≡ true → a ≡ b
same_of a b e = grind (arith, nat_tests, e)

pub is_same : (a b : ℕ) → a ≡ b → (a == b) ≡ true
is_same a b e = grind (arith, nat_tests, e)

-- ---- what is chosen

-- an item is chosen, and stands behind those that are chosen before it
pub record IsPlace (test : ℕ → Bool) (n k i : ℕ) : Type 0 where
  pub below : i < n
  pub picked : test i ≡ true
  pub place : k ≡ length (chosen test i)

one_more : (test : ℕ → Bool) (n : ℕ) → test n ≡ true → length (chosen test (suc n)) ≡ suc (length (chosen test n))
one_more test n e = omega (arith, length-append (chosen test n) (one_if (test n) n), ap (λ b. length (one_if b n)) e)

none_more : (test : ℕ → Bool) (n : ℕ) → test n ≡ false → length (chosen test (suc n)) ≡ length (chosen test n)
none_more test n e = omega (arith, length-append (chosen test n) (one_if (test n) n), ap (λ b. length (one_if b n)) e)

grows : (test : ℕ → Bool) (n : ℕ) → length (chosen test n) ≤ length (chosen test (suc n))
grows test n = omega (arith, length-append (chosen test n) (one_if (test n) n))

pub chosen_few : (test : ℕ → Bool) (n : ℕ) → length (chosen test n) ≤ n
chosen_few test zero = omega arith
chosen_few test (suc n) = by (test n) refl (chosen_few test n) where
  by : (b : Bool) → test n ≡ b → length (chosen test n) ≤ n → length (chosen test (suc n)) ≤ suc n
  by true e le = omega (arith, one_more test n e, le)
  by false e le = omega (arith, none_more test n e, le)

pub up_to : (test : ℕ → Bool) (i n : ℕ) → i ≤ n → length (chosen test i) ≤ length (chosen test n)
up_to test i zero le = let same : i ≡ 0 = omega arith in subst (λ k. length (chosen test k) ≤ 0) (sym same) (omega arith)
up_to test i (suc n) le = elim (below_or_past i (suc n)) [
  | inl less ↦ (let rest = up_to test i n (omega (arith, less)) in omega (arith, rest, grows test n))
  | inr past ↦ (let same : i ≡ suc n = omega (arith, le, past) in subst (λ k. length (chosen test k) ≤ length (chosen test (suc n))) (sym same) (omega arith))
]

-- what is chosen earlier stands earlier
pub earlier : (test : ℕ → Bool) (j i : ℕ) → j < i → test j ≡ true → length (chosen test j) < length (chosen test i)
earlier test j i less e = let up = up_to test (suc j) i (omega (arith, less)) in omega (arith, up, one_more test j e)

-- what is chosen stands at its place
pub chosen_at : (test : ℕ → Bool) (n i : ℕ) → i < n → test i ≡ true → get_or (chosen test n) (length (chosen test i)) 0 ≡ i
chosen_at test zero i less e = absurd (omega (arith, less))
chosen_at test (suc n) i less e = elim (below_or_past i n) [
  | inl before ↦ at_left (chosen test n) (one_if (test n) n) (length (chosen test i)) (earlier test i n before e) ∙ chosen_at test n i before e
  | inr past ↦ (
      let same : i ≡ n = omega (arith, less, past) in
      ap (λ k. get_or (chosen test (suc n)) (length (chosen test k)) 0) same
      ∙ ap (λ k. get_or (chosen test (suc n)) k 0) (omega arith)
      ∙ at_right (chosen test n) (one_if (test n) n) 0
      ∙ ap (λ b. get_or (one_if b n) 0 0) (ap test (sym same) ∙ e) ∙ sym same)
]

-- each item is one that is chosen
pub placed : (test : ℕ → Bool) (n k : ℕ) → k < length (chosen test n) → IsPlace test n k (get_or (chosen test n) k 0)
placed test zero k less = absurd (omega (arith, less))
placed test (suc n) k less = elim (below_or_past k (length (chosen test n))) [
  | inl before ↦ (
      let old = placed test n k before in
      subst (IsPlace test (suc n) k) (sym (at_left (chosen test n) (one_if (test n) n) k before)) (record { below = omega (arith, old.below); picked = old.picked; place = old.place }))
  | inr past ↦ by (test n) refl past
] where
  by : (b : Bool) → test n ≡ b → length (chosen test n) ≤ k → IsPlace test (suc n) k (get_or (chosen test (suc n)) k 0)
  by true e past =
      let same : k ≡ length (chosen test n) + 0 = omega (arith, past, less, one_more test n e) in
      let found : get_or (chosen test (suc n)) k 0 ≡ n = ap (λ m. get_or (chosen test (suc n)) m 0) same ∙ at_right (chosen test n) (one_if (test n) n) 0 ∙ ap (λ b. get_or (one_if b n) 0 0) e in
      subst (IsPlace test (suc n) k) (sym found) (record { below = omega arith; picked = e; place = omega (arith, same) })
  by false e past = absurd (omega (arith, past, less, none_more test n e))

-- ---- the whole order

module _ (spots : List Spot) (instrs : List Instr) where
  abbrev order : ℕ → List ℕ
  order = running spots instrs

  abbrev kind : ℕ → Bool → List ℕ
  kind part stores = chosen (is_in spots instrs part stores) (length instrs)

  part_few : (part : ℕ) → length (part_order spots instrs part) ≤ 2 * length instrs
  part_few part = omega (arith, length-append (kind part false) (kind part true), chosen_few (is_in spots instrs part false) (length instrs), chosen_few (is_in spots instrs part true) (length instrs))

  pub running_few : (part : ℕ) → length instrs ≤ 1024 → length (order part) ≤ 2048 * part
  running_few zero few = omega arith
  running_few (suc part) few = omega (arith, length-append (order part) (part_order spots instrs part), running_few part few, part_few part, few)

  -- the place of an instruction in its part
  abbrev pub inner : Bool → ℕ → ℕ
  inner false i = length (chosen (is_in spots instrs (part_at spots i) false) i)
  inner true i = length (kind (part_at spots i) false) + length (chosen (is_in spots instrs (part_at spots i) true) i)

  -- the place of an instruction, which is a Store or none
  abbrev pub place : Bool → ℕ → ℕ
  place stores i = length (order (part_at spots i)) + inner stores i

  is_in_own : (stores : Bool) (i : ℕ) → is_kind stores (instr_at instrs i) ≡ true → is_in spots instrs (part_at spots i) stores i ≡ true
  is_in_own stores i e = and_both (part_at spots i == part_at spots i) (is_kind stores (instr_at instrs i)) (is_same (part_at spots i) (part_at spots i) refl) e

  inner_less : (stores : Bool) (i : ℕ) → i < length instrs → is_kind stores (instr_at instrs i) ≡ true → inner stores i < length (part_order spots instrs (part_at spots i))
  inner_less false i less e =
      let p = part_at spots i in
      let one = earlier (is_in spots instrs p false) i (length instrs) less (is_in_own false i e) in
      omega (arith, one, length-append (kind p false) (kind p true))
  inner_less true i less e =
      let p = part_at spots i in
      let one = earlier (is_in spots instrs p true) i (length instrs) less (is_in_own true i e) in
      omega (arith, one, length-append (kind p false) (kind p true))

  inner_at : (stores : Bool) (i : ℕ) → i < length instrs → is_kind stores (instr_at instrs i) ≡ true → get_or (part_order spots instrs (part_at spots i)) (inner stores i) 0 ≡ i
  inner_at false i less e =
      let p = part_at spots i in
      at_left (kind p false) (kind p true) (inner false i) (earlier (is_in spots instrs p false) i (length instrs) less (is_in_own false i e))
      ∙ chosen_at (is_in spots instrs p false) (length instrs) i less (is_in_own false i e)
  inner_at true i less e =
      let p = part_at spots i in
      at_right (kind p false) (kind p true) (length (chosen (is_in spots instrs p true) i)) ∙ chosen_at (is_in spots instrs p true) (length instrs) i less (is_in_own true i e)

  pub order_grows : (p : ℕ) → length (order p) ≤ length (order (suc p))
  order_grows p = omega (arith, length-append (order p) (part_order spots instrs p))

  pub order_up : (p q : ℕ) → p ≤ q → length (order p) ≤ length (order q)
  order_up p zero le = let same : p ≡ 0 = omega arith in subst (λ k. length (order k) ≤ 0) (sym same) (omega arith)
  order_up p (suc q) le = elim (below_or_past p (suc q)) [
    | inl less ↦ (let rest = order_up p q (omega (arith, less)) in omega (arith, rest, order_grows q))
    | inr past ↦ (let same : p ≡ suc q = omega (arith, le, past) in subst (λ k. length (order k) ≤ length (order (suc q))) (sym same) (omega arith))
  ]

  -- what stands at a place of some parts stands there in more
  pub order_same : (p q k : ℕ) → p ≤ q → k < length (order p) → get_or (order q) k 0 ≡ get_or (order p) k 0
  order_same p zero k le less = let same : p ≡ 0 = omega arith in ap (λ n. get_or (order n) k 0) (sym same)
  order_same p (suc q) k le less = elim (below_or_past p (suc q)) [
    | inl before ↦ (
        let up = order_up p q (omega (arith, before)) in
        at_left (order q) (part_order spots instrs q) k (omega (arith, less, up)) ∙ order_same p q k (omega (arith, before)) less)
    | inr past ↦ (let same : p ≡ suc q = omega (arith, le, past) in ap (λ n. get_or (order n) k 0) (sym same))
  ]

  -- an instruction stands in its part
  pub in_part : (stores : Bool) (i : ℕ) → i < length instrs → is_kind stores (instr_at instrs i) ≡ true
      → (length (order (part_at spots i)) ≤ place stores i) × (place stores i < length (order (suc (part_at spots i))))
  in_part stores i less e = (
    omega arith,
    omega (arith, inner_less stores i less e, length-append (order (part_at spots i)) (part_order spots instrs (part_at spots i))),
  )

  -- and at its place
  pub stands : (stores : Bool) (i parts : ℕ) → i < length instrs → part_at spots i < parts → is_kind stores (instr_at instrs i) ≡ true → get_or (order parts) (place stores i) 0 ≡ i
  stands stores i parts less within e =
      order_same (suc (part_at spots i)) parts (place stores i) (omega (arith, within)) (in_part stores i less e).1
      ∙ at_right (order (part_at spots i)) (part_order spots instrs (part_at spots i)) (inner stores i) ∙ inner_at stores i less e

  -- what stands at a place is an instruction at its place
  pub record Stands (parts k i : ℕ) : Type 0 where
    pub below : i < length instrs
    pub within : part_at spots i < parts
    pub stores : Bool
    pub of_kind : is_kind stores (instr_at instrs i) ≡ true
    pub at_place : k ≡ place stores i

  from_part : (part k : ℕ) → k < length (part_order spots instrs part) → Stands (suc part) (length (order part) + k) (get_or (part_order spots instrs part) k 0)
  from_part part k less = elim (below_or_past k (length (kind part false))) [
    | inl before ↦ (
        let test = is_in spots instrs part false in
        let one : IsPlace test (length instrs) k (get_or (kind part false) k 0) = placed test (length instrs) k before in
        let i = get_or (kind part false) k 0 in
        let own : part_at spots i ≡ part = same_of (part_at spots i) part (and_front (part_at spots i == part) _ one.picked) in
        subst (Stands (suc part) (length (order part) + k)) (sym (at_left (kind part false) (kind part true) k before)) (record {
          below = one.below;
          within = omega (arith, own);
          stores = false;
          of_kind = and_back (part_at spots i == part) _ one.picked;
          at_place = (λ j. length (order part) + one.place j) ∙ ap (λ p. length (order p) + length (chosen (is_in spots instrs p false) i)) (sym own);
        }))
    | inr past ↦ (
        let test = is_in spots instrs part true in
        let m = k - length (kind part false) in
        let split : k ≡ length (kind part false) + m = omega (arith, past) in
        let one : IsPlace test (length instrs) m (get_or (kind part true) m 0) = placed test (length instrs) m (omega (arith, less, split, length-append (kind part false) (kind part true))) in
        let i = get_or (kind part true) m 0 in
        let own : part_at spots i ≡ part = same_of (part_at spots i) part (and_front (part_at spots i == part) _ one.picked) in
        subst (Stands (suc part) (length (order part) + k)) (sym (ap (λ n. get_or (part_order spots instrs part) n 0) split ∙ at_right (kind part false) (kind part true) m)) (record {
          below = one.below;
          within = omega (arith, own);
          stores = true;
          of_kind = and_back (part_at spots i == part) _ one.picked;
          at_place = (λ j. length (order part) + split j) ∙ (λ j. length (order part) + (length (kind part false) + one.place j))
              ∙ ap (λ p. length (order p) + (length (kind p false) + length (chosen (is_in spots instrs p true) i))) (sym own);
        }))
  ]

  pub at_each : (parts k : ℕ) → k < length (order parts) → Stands parts k (get_or (order parts) k 0)
  at_each zero k less = absurd (omega (arith, less))
  at_each (suc parts) k less = elim (below_or_past k (length (order parts))) [
    | inl before ↦ (
        let old = at_each parts k before in
        subst (Stands (suc parts) k) (sym (at_left (order parts) (part_order spots instrs parts) k before))
        (record { below = old.below; within = omega (arith, old.within); stores = old.stores; of_kind = old.of_kind; at_place = old.at_place }))
    | inr past ↦ (
        let m = k - length (order parts) in
        let split : k ≡ length (order parts) + m = omega (arith, past) in
        let one = from_part parts m (omega (arith, less, split, length-append (order parts) (part_order spots instrs parts))) in
        subst (λ n. Stands (suc parts) n (get_or (order (suc parts)) n 0)) (sym split)
        (subst (Stands (suc parts) (length (order parts) + m)) (sym (at_right (order parts) (part_order spots instrs parts) m)) one))
  ]

  -- the ends of the parts
  pub ends_length : (parts : ℕ) → length (part_ends spots instrs parts) ≡ parts
  ends_length zero = refl
  ends_length (suc parts) = omega (arith, length-append (part_ends spots instrs parts) (length (order (suc parts)) ∷ []), ends_length parts)

  pub ends_at : (parts k : ℕ) → k < parts → get_or (part_ends spots instrs parts) k 0 ≡ length (order (suc k))
  ends_at zero k less = absurd (omega (arith, less))
  ends_at (suc parts) k less = elim (below_or_past k parts) [
    | inl before ↦ at_left (part_ends spots instrs parts) _ k (omega (arith, before, ends_length parts)) ∙ ends_at parts k before
    | inr past ↦ (
        let same : k ≡ parts = omega (arith, less, past) in
        ap (λ n. get_or (part_ends spots instrs (suc parts)) n 0) (split k same) ∙ at_right (part_ends spots instrs parts) (length (order (suc parts)) ∷ []) 0 ∙ ap (λ n. length (order (suc n))) (sym same))
  ] where
    split : (k : ℕ) → k ≡ parts → k ≡ length (part_ends spots instrs parts) + 0
    split k e = omega (arith, e, ends_length parts)
