-- One instruction after another, in running order, raises the depth of its codelet.
use Rattle.std.proofs.Common.{◌≡◌, ℕ, zero, suc, ◌+◌, ◌<◌, ◌≤◌, ◌==◌, nat_lt, Bool, false, if◌then◌else◌, refl, sym, ap, ◌∙◌, subst, arith, inl, inr, ◌⊎◌, List, length, slice_index, slice_set, get_or-set_same, get_or-set_other}
use Rattle.std.specs.Prelude.{replicate}
use Rattle.std.proofs.lemmas.Bool.{cases_lt}
use Rattle.std.proofs.lemmas.Bool.Decides.{eqb_tells, Decides-eqb, nat_tests}
use Rattle.code_forms.specs.declared.layout.Spot.{Spot}
use Rattle.dependence.specs.Counts.{how_many}
use Rattle.dependence.specs.Uses.{Node}
use Rattle.dependence.proofs.CountLemmas.{counts_one, counts_none, at_most}
use Rattle.dependence.proofs.LevelLemmas.{zero_at}
use Rattle.flat_graph.specs.Layouts.{class_at, part_of}
use Rattle.stage_packing.specs.Depths.{part_at, Needs, using, behind, IsNext, depth_at, Done, seen, Deep, IsRaised, InParts}

-- what is behind a group is of another part
pub later_part : (spots : List Spot) (i j : ℕ) → IsNext spots i j → part_at spots j < part_at spots i
later_part spots i j h =
    let ei : part_at spots i ≡ suc (suc h.0 + suc h.0) = ap part_of h.1 in
    let ej : part_at spots j ≡ suc (h.0 + h.0) = ap part_of h.2 in
    omega (arith, ei, ej)

abbrev one : Bool → ℕ
one b = if b then 1 else 0

split : (x p : ℕ) → one (nat_lt x p) + one (x == p) ≡ one (nat_lt x (p + 1))
split x p = grind (arith, nat_tests)

-- all of a part are counted where the next one begins
seen_on : (part : ℕ → ℕ) (p n : ℕ) → how_many (λ i. nat_lt (part i) p) n + how_many (λ i. part i == p) n ≡ how_many (λ i. nat_lt (part i) (p + 1)) n
seen_on part p zero = refl
seen_on part p (suc n) =
    let h : how_many (λ i. nat_lt (part i) p) n + how_many (λ i. part i == p) n ≡ how_many (λ i. nat_lt (part i) (p + 1)) n = seen_on part p n in
    let k : one (nat_lt (part n) p) + one (part n == p) ≡ one (nat_lt (part n) (p + 1)) = split (part n) p in
    omega (arith, h, k)

module _ (nodes : List Node) (classes : List ℕ) (spots : List Spot) (parts : InParts nodes classes spots) where
  n : ℕ
  n = length nodes

  needs_there : (i j : ℕ) → Needs nodes classes spots i j → (i < length nodes) × (j < length nodes)
  needs_there i j (using wi wj u) = (wi, wj)
  needs_there i j (behind wi wj u) = (wi, wj)

  needs_other : (i j : ℕ) → Needs nodes classes spots i j → class_at classes i ≡ class_at classes j → ⊥
  needs_other i j (using wi wj u) e = u.1 e
  needs_other i j (behind wi wj u) e = let l : part_at spots j < part_at spots i = later_part spots i j u in let s : part_at spots i ≡ part_at spots j = parts.one_part i j wi wj e in absurd (omega (arith, l, s))

  -- at an instruction in its part
  module _ (p k : ℕ) (depths : List ℕ) (wk : k < length nodes) (at : part_at spots k ≡ p) (h : Deep nodes classes spots p k depths) where
    -- no codelet on which one before depends is that of the instruction
    settled : (i j : ℕ) → Done nodes spots p k i → Needs nodes classes spots i j → class_at classes j ≡ class_at classes k → ⊥
    settled i j done needs e =
        let w = needs_there i j needs in
        let pj : part_at spots j ≡ part_at spots k = parts.one_part j k w.1 wk e in
        elim (parts.before i j needs) [
          | inl less ↦ elim done.1 [ inl l ↦ absurd (omega (arith, pj, at, less, l)) | inr l ↦ absurd (omega (arith, pj, at, less, l.0)) ]
          | inr same ↦ elim done.1 [
            | inl l ↦ absurd (omega (arith, pj, at, same.0, l))
            | inr l ↦
                let ne : j ≡ k → ⊥ = (λ f. absurd (omega (arith, same.1, l.1, f))) in
                needs_other i j needs (parts.whole k j i wk w.1 w.0 e ne (sym same.0 ∙ pj) ∙ sym e)
          ]
        ]

    -- what the instruction needs stands before
    needed : (j : ℕ) → Needs nodes classes spots k j → Done nodes spots p k j
    needed j needs = ((needs_there k j needs).1, elim (parts.before k j needs) [ inl less ↦ inl (omega (arith, less, at)) | inr same ↦ inr (same.0 ∙ at, same.1) ])

    module _ (d : ℕ) (raised : IsRaised nodes classes spots depths k d) (within : class_at classes k < length depths) where
      abbrev new : List ℕ
      new = slice_set depths (class_at classes k) d

      here : (c : ℕ) → c ≡ class_at classes k → slice_index new c ≡ d
      here c e = ap (slice_index new) e ∙ get_or-set_same depths (class_at classes k) d 0 within

      away : (c : ℕ) → (c ≡ class_at classes k → ⊥) → slice_index new c ≡ slice_index depths c
      away c ne = get_or-set_other depths (class_at classes k) c d 0 ne

      one_more : seen nodes spots p (k + 1) ≡ seen nodes spots p k + 1
      one_more =
          let c : how_many (λ i. part_at spots i == p) (suc k) ≡ how_many (λ i. part_at spots i == p) k + 1 = counts_one (λ i. part_at spots i == p) k ((Decides-eqb (part_at spots k) p).1 at) in
          let e : how_many (λ i. part_at spots i == p) (k + 1) ≡ how_many (λ i. part_at spots i == p) (suc k) = (let s : k + 1 ≡ suc k = omega arith in ap (how_many (λ i. part_at spots i == p)) s) in
          omega (arith, c, e)

      cases : (i : ℕ) → Done nodes spots p (k + 1) i → (i ≡ k) ⊎ Done nodes spots p k i
      cases i done = elim done.1 [
        | inl l ↦ inr (done.0, inl l)
        | inr l ↦ elim (eqb_tells i k) [ inl s ↦ inl s.1 | inr s ↦ let ne : i ≡ k → ⊥ = s.1 in inr (done.0, inr (l.0, omega (arith, l.1))) ]
      ]

      more : (i : ℕ) → Done nodes spots p k i → Done nodes spots p (k + 1) i
      more i done = (done.0, elim done.1 [ inl l ↦ inl l | inr l ↦ inr (l.0, omega (arith, l.1)) ])

      itself : Done nodes spots p (k + 1) k
      itself = (wk, inr (at, omega arith))

      -- a depth is at least what it was
      grows : (i : ℕ) → depth_at depths classes i ≤ depth_at new classes i
      grows i = elim (eqb_tells (class_at classes i) (class_at classes k)) [
        | inl s ↦ (let e : depth_at new classes i ≡ d = here (class_at classes i) s.1 in let f : depth_at depths classes i ≡ depth_at depths classes k = ap (slice_index depths) s.1 in omega (arith, e, f, raised.own))
        | inr s ↦ (let e : depth_at new classes i ≡ depth_at depths classes i = away (class_at classes i) s.1 in omega (arith, e))
      ]

      above : (i j : ℕ) → Done nodes spots p (k + 1) i → Needs nodes classes spots i j → depth_at new classes j < depth_at new classes i
      above i j done needs = elim (cases i done) [
        | inl e ↦
            let mine : Needs nodes classes spots k j = subst (λ x. Needs nodes classes spots x j) e needs in
            let less : depth_at depths classes j < d = raised.above j mine in
            let same : depth_at new classes j ≡ depth_at depths classes j = away (class_at classes j) (λ f. needs_other k j mine (sym f)) in
            let top : depth_at new classes i ≡ d = here (class_at classes i) (ap (class_at classes) e) in
            omega (arith, less, same, top)
        | inr old ↦
            let less : depth_at depths classes j < depth_at depths classes i = h.above i j old needs in
            let same : depth_at new classes j ≡ depth_at depths classes j = away (class_at classes j) (settled i j old needs) in
            let le : depth_at depths classes i ≤ depth_at new classes i = grows i in
            omega (arith, less, same, le)
      ]

      abbrev Least : ℕ → ℕ → Type 0
      Least c x = (x ≡ 0) ⊎ ((i : ℕ) × (j : ℕ) × Done nodes spots p (k + 1) i × Needs nodes classes spots i j × (class_at classes i ≡ c) × (x ≡ suc (depth_at new classes j)))

      -- what was least is so
      least_old : (c : ℕ) → Least c (slice_index depths c)
      least_old c = elim (h.least c) [
        | inl z ↦ inl z
        | inr l ↦
            let same : depth_at new classes l.1 ≡ depth_at depths classes l.1 = away (class_at classes l.1) (settled l.0 l.1 l.2 l.3) in
            inr (l.0, l.1, more l.0 l.2, l.3, l.4, l.5 ∙ ap suc (sym same))
      ]

      least : (c : ℕ) → Least c (slice_index new c)
      least c = elim (eqb_tells c (class_at classes k)) [
        | inl s ↦ elim raised.least [
          | inl e ↦ subst (Least c) (ap (slice_index depths) s.1 ∙ sym e ∙ sym (here c s.1)) (least_old c)
          | inr l ↦
              let same : depth_at new classes l.0 ≡ depth_at depths classes l.0 = away (class_at classes l.0) (λ f. needs_other k l.0 l.1 (sym f)) in
              inr (k, l.0, itself, l.1, sym s.1, here c s.1 ∙ l.2 ∙ ap suc (sym same))
        ]
        | inr s ↦ subst (Least c) (sym (away c s.1)) (least_old c)
      ]

      small : d ≤ seen nodes spots p k
      small = elim raised.least [
        | inl e ↦ (let m : depth_at depths classes k ≤ seen nodes spots p k = h.most (class_at classes k) in omega (arith, m, e))
        | inr l ↦ (let m : depth_at depths classes l.0 < seen nodes spots p k = h.done l.0 (needed l.0 l.1) in omega (arith, m, l.2))
      ]

      most : (c : ℕ) → slice_index new c ≤ seen nodes spots p (k + 1)
      most c = elim (eqb_tells c (class_at classes k)) [
        | inl s ↦ (let e : slice_index new c ≡ d = here c s.1 in omega (arith, e, small, one_more))
        | inr s ↦ (let e : slice_index new c ≡ slice_index depths c = away c s.1 in let m : slice_index depths c ≤ seen nodes spots p k = h.most c in omega (arith, e, m, one_more))
      ]

      below : (i : ℕ) → Done nodes spots p (k + 1) i → depth_at new classes i < seen nodes spots p (k + 1)
      below i done = elim (eqb_tells (class_at classes i) (class_at classes k)) [
        | inl s ↦ (let e : depth_at new classes i ≡ d = here (class_at classes i) s.1 in omega (arith, e, small, one_more))
        | inr s ↦
            let e : depth_at new classes i ≡ depth_at depths classes i = away (class_at classes i) s.1 in
            elim (cases i done) [
              | inl f ↦ absurd (s.1 (ap (class_at classes) f))
              | inr old ↦ (let m : depth_at depths classes i < seen nodes spots p k = h.done i old in omega (arith, e, m, one_more))
            ]
      ]

      pub deep_next : Deep nodes classes spots p (k + 1) new
      deep_next = record { above = above; least = least; most = most; done = below }

  -- an instruction of another part changes nothing
  pub deep_past : (p k : ℕ) (depths : List ℕ) → (part_at spots k ≡ p → ⊥) → Deep nodes classes spots p k depths → Deep nodes classes spots p (k + 1) depths
  deep_past p k depths other h = record {
    above = λ i j done needs. h.above i j (less i done) needs;
    least = λ c. elim (h.least c) [ inl z ↦ inl z | inr l ↦ inr (l.0, l.1, more l.0 l.2, l.3, l.4, l.5) ];
    most = λ c. let m : slice_index depths c ≤ seen nodes spots p k = h.most c in omega (arith, m, same);
    done = λ i done. let m : depth_at depths classes i < seen nodes spots p k = h.done i (less i done) in omega (arith, m, same);
  } where
    less : (i : ℕ) → Done nodes spots p (k + 1) i → Done nodes spots p k i
    less i done = (
      done.0,
      elim done.1 [
        | inl l ↦ inl l
        | inr l ↦ elim (eqb_tells i k) [ inl s ↦ absurd (other (ap (part_at spots) (sym s.1) ∙ l.0)) | inr s ↦ let ne : i ≡ k → ⊥ = s.1 in inr (l.0, omega (arith, l.1)) ]
      ],
    )

    more : (i : ℕ) → Done nodes spots p k i → Done nodes spots p (k + 1) i
    more i done = (done.0, elim done.1 [ inl l ↦ inl l | inr l ↦ inr (l.0, omega (arith, l.1)) ])

    test_false : (part_at spots k == p) ≡ false
    test_false = elim (eqb_tells (part_at spots k) p) [ inl s ↦ absurd (other s.1) | inr s ↦ s.0 ]

    same : seen nodes spots p (k + 1) ≡ seen nodes spots p k
    same =
        let c : how_many (λ i. part_at spots i == p) (suc k) ≡ how_many (λ i. part_at spots i == p) k = counts_none (λ i. part_at spots i == p) k test_false in
        let e : how_many (λ i. part_at spots i == p) (k + 1) ≡ how_many (λ i. part_at spots i == p) (suc k) = (let s : k + 1 ≡ suc k = omega arith in ap (how_many (λ i. part_at spots i == p)) s) in
        omega (arith, c, e)

  -- the next part begins
  pub deep_part : (p : ℕ) (depths : List ℕ) → Deep nodes classes spots p (length nodes) depths → Deep nodes classes spots (p + 1) 0 depths
  deep_part p depths h = record {
    above = λ i j done needs. h.above i j (back i done) needs;
    least = λ c. elim (h.least c) [ inl z ↦ inl z | inr l ↦ inr (l.0, l.1, on l.0 l.2, l.3, l.4, l.5) ];
    most = λ c. let m : slice_index depths c ≤ seen nodes spots p (length nodes) = h.most c in omega (arith, m, same);
    done = λ i done. let m : depth_at depths classes i < seen nodes spots p (length nodes) = h.done i (back i done) in omega (arith, m, same);
  } where
    back : (i : ℕ) → Done nodes spots (p + 1) 0 i → Done nodes spots p (length nodes) i
    back i done = (
      done.0,
      elim done.1 [
        | inl l ↦ elim (cases_lt (part_at spots i) p) [ inl less ↦ inl less | inr le ↦ inr (omega (arith, l, le), done.0) ]
        | inr l ↦ absurd (omega (arith, l.1))
      ],
    )

    on : (i : ℕ) → Done nodes spots p (length nodes) i → Done nodes spots (p + 1) 0 i
    on i done = (done.0, elim done.1 [ inl l ↦ inl (omega (arith, l)) | inr l ↦ inl (omega (arith, l.0)) ])

    same : seen nodes spots (p + 1) 0 ≡ seen nodes spots p (length nodes)
    same = let e = seen_on (part_at spots) p (length nodes) in omega (arith, e)

  -- at first all depths are 0
  pub deep_start : (count : ℕ) → Deep nodes classes spots 0 0 (replicate count 0)
  deep_start count = record {
    above = λ i j done needs. absurd (none i done);
    least = λ c. inl (zero_at count c);
    most = λ c. let z = zero_at count c in omega (arith, z);
    done = λ i done. absurd (none i done);
  } where
    none : (i : ℕ) → Done nodes spots 0 0 i → ⊥
    none i done = elim done.1 [ inl l ↦ absurd (omega (arith, l)) | inr l ↦ absurd (omega (arith, l.1)) ]

-- few stand before a place
pub seen_few : (nodes : List Node) (spots : List Spot) (p k : ℕ) → seen nodes spots p k ≤ length nodes + k
seen_few nodes spots p k =
    let a = at_most (λ i. nat_lt (part_at spots i) p) (length nodes) in
    let b = at_most (λ i. part_at spots i == p) k in
    omega (arith, a, b)
