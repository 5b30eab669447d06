-- Groups are numbered by level, and within a level by their least array.
use Rattle.std.proofs.Common.{◌≡◌, ℕ, zero, suc, ◌+◌, ◌*◌, ◌<◌, ◌≤◌, ◌↔◌, Bool, true, refl, sym, ap, ◌∙◌, subst, arith, inl, inr, ◌⊎◌, List, [], ◌∷◌, length, slice_index, Option, Some, None}
use Rattle.std.specs.Prelude.{is_some, replicate}
use Rattle.std.specs.List.{slice_index_or}
use Rattle.std.proofs.lemmas.Bool.{cases_lt}
use Rattle.std.proofs.lemmas.Bool.Decides.{eqb_tells}
use Rattle.dependence.specs.Paths.{IsDepth}
use Rattle.dependence.specs.Groups.{RestsOn, Before, AreGroups, group_of, IsOn, Linked, IsClosed}
use Rattle.dependence.specs.Levels.{AreLevels}
use Rattle.dependence.specs.Leaders.{Joined, IsLeader, AreLeaders, AreLeast, Leads, Gives, Numbered, leader_of, rank}
use Rattle.dependence.specs.declared.groups.ArrayGroups.{ArrayGroups}
use Rattle.dependence.proofs.CountLemmas.{more_by_one}
use Rattle.dependence.proofs.LevelLemmas.{level_small, level_join}

some_is : {m n : ℕ} → Some m ≡ Some n → m ≡ n
some_is e = cc

differ : {A : Type 0} {m : ℕ} → None ≡ Some m → A
differ e = cc

abbrev nones : ℕ → List (Option ℕ)
nones n = replicate n None

pub none_at : (n a : ℕ) → slice_index_or (nones n) a None ≡ None
none_at zero a = refl
none_at (suc n) zero = refl
none_at (suc n) (suc a) = none_at n a

-- at first nothing is numbered
pub nothing_numbered : (levels : List ℕ) (leaders : List (Option ℕ)) → Numbered levels leaders 0 (record { of = nones 16; count = 0 })
nothing_numbered levels leaders = record {
  long = refl;
  few = omega arith;
  none = λ a wa e. none_at 16 a;
  later = λ a l wa e le. none_at 16 a;
  numbers = λ a l wa e less. absurd (omega arith);
  used = λ g less. absurd (omega arith);
  ordered = λ a b g h l m wa wb ea eb la lb. differ (sym (none_at 16 a) ∙ ea);
}

-- ---- the next group in order

-- the place of a least array in the order tells it
apart : (levels : List ℕ) (l m k : ℕ) → l < 16 → m < 16 → rank levels l ≡ 16 * k + m → (l ≡ m) × (slice_index levels l ≡ k)
apart levels l m k wl wm e = (omega arith, omega arith)

module _ (levels : List ℕ) (leaders : List (Option ℕ)) (least : AreLeast leaders) (level i : ℕ) (wi : i < 16) where
  -- no group has its least array there, on this level
  pub passed : (old : ArrayGroups) → (Leads levels leaders level i → ⊥) → Numbered levels leaders (16 * level + i) old → Numbered levels leaders (16 * level + i + 1) old
  passed old other h = record {
    long = h.long;
    few = h.few;
    none = h.none;
    later = λ a l wa e le. h.later a l wa e (omega arith);
    numbers = λ a l wa e less. h.numbers a l wa e (below a l wa e less);
    used = h.used;
    ordered = h.ordered;
  } where
    below : (a l : ℕ) → a < 16 → leader_of leaders a ≡ Some l → rank levels l < 16 * level + i + 1 → rank levels l < 16 * level + i
    below a l wa e less = elim (eqb_tells (rank levels l) (16 * level + i)) [
      | inl s ↦
          let p = apart levels l i level (least.small a l wa e) wi s.1 in
          absurd (other (ap (slice_index levels) (sym p.0) ∙ p.1, subst (λ m. leader_of leaders m ≡ Some m) p.0 (least.own a l wa e)))
      | inr s ↦ let not : rank levels l ≡ 16 * level + i → ⊥ = s.1 in omega arith
    ]

  -- a group has its least array there
  module _ (old new : ArrayGroups) (at : slice_index levels i ≡ level) (own : leader_of leaders i ≡ Some i)
      (h : Numbered levels leaders (16 * level + i) old) (gives : Gives leaders i old new) (count : new.count ≡ old.count + 1) where
    -- an array is of this group, or is as before and of another
    abbrev Cases : ℕ → ℕ → Type 0
    Cases a l = ((l ≡ i) × (group_of new.of a ≡ Some old.count)) ⊎ ((l ≡ i → ⊥) × (group_of new.of a ≡ group_of old.of a))

    cases : (a l : ℕ) → a < 16 → leader_of leaders a ≡ Some l → Cases a l
    cases a l wa e = elim (eqb_tells l i) [
      | inl s ↦ inl (s.1, gives.given a (omega (arith, h.long)) (e ∙ ap Some s.1))
      | inr s ↦ inr (s.1, gives.left a (λ f. s.1 (some_is (sym e ∙ f))))
    ]

    none_left : (a : ℕ) → leader_of leaders a ≡ None → group_of new.of a ≡ group_of old.of a
    none_left a e = gives.left a (λ f. differ (sym e ∙ f))

    numbered_first : group_of old.of i ≡ None
    numbered_first = h.later i i wi own (omega (arith, at))

    some_of : {o : Option ℕ} {g : ℕ} → o ≡ Some g → is_some o ≡ true
    some_of e = ap is_some e

    -- what had a number keeps it
    keeps : (k : ℕ) → k < 16 → is_some (group_of old.of k) ≡ true → is_some (group_of new.of k) ≡ true
    keeps k w s = go (leader_of leaders k) refl where
      go : (o : Option ℕ) → leader_of leaders k ≡ o → is_some (group_of new.of k) ≡ true
      go None e = ap is_some (none_left k e) ∙ s
      go (Some l) e = elim (cases k l w e) [ inl c ↦ some_of c.1 | inr c ↦ ap is_some c.1 ∙ s ]

    old_less : (a g l : ℕ) → a < 16 → leader_of leaders a ≡ Some l → group_of old.of a ≡ Some g → rank levels l < 16 * level + i
    old_less a g l wa e f = elim (cases_lt (rank levels l) (16 * level + i)) [ inl lt ↦ lt | inr le ↦ differ (sym (h.later a l wa e le) ∙ f) ]

    old_below : (a g l : ℕ) → a < 16 → leader_of leaders a ≡ Some l → group_of old.of a ≡ Some g → g < old.count
    old_below a g l wa e f =
        let n = h.numbers a l wa e (old_less a g l wa e f) in
        let same : n.0 ≡ g = some_is (sym n.2 ∙ f) in
        omega (arith, n.1, same)

    here : rank levels i ≡ 16 * level + i
    here = omega (arith, at)

    order : (a b g k l m : ℕ) → a < 16 → b < 16 → group_of new.of a ≡ Some g → group_of new.of b ≡ Some k → leader_of leaders a ≡ Some l → leader_of leaders b ≡ Some m → (g < k) ↔ (rank levels l < rank levels m)
    order a b g k l m wa wb ea eb la lb =
        elim (cases a l wa la) [
          | inl p ↦
              let gi : g ≡ old.count = some_is (sym ea ∙ p.1) in
              let ri : rank levels l ≡ 16 * level + i = ap (rank levels) p.0 ∙ here in
              elim (cases b m wb lb) [
                | inl q ↦
                    let ki : k ≡ old.count = some_is (sym eb ∙ q.1) in
                    let si : rank levels m ≡ 16 * level + i = ap (rank levels) q.0 ∙ here in
                    (λ less. absurd (omega (arith, gi, ki, less)), λ less. absurd (omega (arith, ri, si, less)))
                | inr q ↦
                    let ko : k < old.count = old_below b k m wb lb (sym q.1 ∙ eb) in
                    let so : rank levels m < 16 * level + i = old_less b k m wb lb (sym q.1 ∙ eb) in
                    (λ less. absurd (omega (arith, gi, ko, less)), λ less. absurd (omega (arith, ri, so, less)))
              ]
          | inr p ↦
              let go : g < old.count = old_below a g l wa la (sym p.1 ∙ ea) in
              let ro : rank levels l < 16 * level + i = old_less a g l wa la (sym p.1 ∙ ea) in
              elim (cases b m wb lb) [
                | inl q ↦
                    let ki : k ≡ old.count = some_is (sym eb ∙ q.1) in
                    let si : rank levels m ≡ 16 * level + i = ap (rank levels) q.0 ∙ here in
                    (λ less. omega (arith, ro, si), λ less. omega (arith, go, ki))
                | inr q ↦ h.ordered a b g k l m wa wb (sym p.1 ∙ ea) (sym q.1 ∙ eb) la lb
              ]
        ]

    pub numbered_next : Numbered levels leaders (16 * level + i + 1) new
    numbered_next = record {
      long = gives.long ∙ h.long;
      few = (
          let more = more_by_one (λ a. is_some (group_of old.of a)) (λ a. is_some (group_of new.of a)) 16 i keeps wi
          (ap is_some numbered_first) (some_of (gives.given i (omega (arith, h.long)) own)) in
          omega (arith, more, h.few, count));
      none = λ a wa e. none_left a e ∙ h.none a wa e;
      later = λ a l wa e le. elim (cases a l wa e) [
        | inl c ↦ let r : rank levels l ≡ 16 * level + i = ap (rank levels) c.0 ∙ here in absurd (omega (arith, r, le))
        | inr c ↦ c.1 ∙ h.later a l wa e (omega arith)
      ];
      numbers = λ a l wa e less. elim (cases a l wa e) [
        | inl c ↦ (old.count, omega (arith, count), c.1)
        | inr c ↦
            let not : l ≡ i → ⊥ = c.0 in
            let down : rank levels l < 16 * level + i = elim (eqb_tells (rank levels l) (16 * level + i)) [
              | inl s ↦ absurd (not (apart levels l i level (least.small a l wa e) wi s.1).0)
              | inr s ↦ let other : rank levels l ≡ 16 * level + i → ⊥ = s.1 in omega arith
            ] in
            let n = h.numbers a l wa e down in
            (n.0, omega (arith, n.1, count), c.1 ∙ n.2)
      ];
      used = λ g less. elim (eqb_tells g old.count) [
        | inl s ↦ (i, wi, gives.given i (omega (arith, h.long)) own ∙ ap Some (sym s.1))
        | inr s ↦
            let other : g ≡ old.count → ⊥ = s.1 in
            let u = h.used g (omega (arith, count)) in
            (u.0, u.1, stays u.0 u.1 g u.2)
      ];
      ordered = order;
    } where
      stays : (a : ℕ) → a < 16 → (g : ℕ) → group_of old.of a ≡ Some g → group_of new.of a ≡ Some g
      stays a wa g e = go (leader_of leaders a) refl where
        go : (o : Option ℕ) → leader_of leaders a ≡ o → group_of new.of a ≡ Some g
        go None f = none_left a f ∙ e
        go (Some l) f = elim (cases a l wa f) [
          | inl c ↦ (let r : rank levels l < 16 * level + i = old_less a g l wa f e in let s : rank levels l ≡ 16 * level + i = ap (rank levels) c.0 ∙ here in absurd (omega (arith, r, s)))
          | inr c ↦ c.1 ∙ e
        ]

-- ---- the groups of all levels

module _ (touched : List Bool) (rows : List (List Bool)) (closed : IsClosed rows) (leaders : List (Option ℕ)) (lead : AreLeaders touched rows leaders) where
  -- what an array's least one is
  is_led : (a l : ℕ) → a < 16 → leader_of leaders a ≡ Some l → IsLeader touched rows a (Some l)
  is_led a l wa e = subst (IsLeader touched rows a) e (lead a wa)

  -- arrays that reach each other have the same least one
  one_leader : (a b l m : ℕ) → Joined rows a b → IsLeader touched rows a (Some l) → IsLeader touched rows b (Some m) → l ≡ m
  one_leader a b l m j h k = elim (cases_lt l m) [
    | inl lt ↦ absurd (k.3 l lt h.1 (closed b a l j.1 h.2.0, closed l a b h.2.1 j.0))
    | inr le ↦ elim (cases_lt m l) [
      | inl lt ↦ absurd (h.3 m lt k.1 (closed a b m j.0 k.2.0, closed m b a k.2.1 j.1))
      | inr ge ↦ omega arith
    ]
  ]

  pub are_least : AreLeast leaders
  are_least = record {
    small = λ a l wa e. (is_led a l wa e).1.0;
    own = λ a l wa e. own a l (is_led a l wa e) (leader_of leaders l) refl;
  } where
    own : (a l : ℕ) → IsLeader touched rows a (Some l) → (o : Option ℕ) → leader_of leaders l ≡ o → leader_of leaders l ≡ Some l
    own a l h None e = absurd (subst (IsLeader touched rows l) e (lead l h.1.0) h.1)
    own a l h (Some m) e = e ∙ ap Some (sym (one_leader a l l m h.2 h (is_led l m h.1.0 e)))

  module _ (levels : List ℕ) (are : AreLevels rows levels) (groups : ArrayGroups) (h : Numbered levels leaders 256 groups) where
    led : (a : ℕ) → a < 16 → IsOn touched a → (l : ℕ) × (leader_of leaders a ≡ Some l)
    led a wa t = go (leader_of leaders a) refl where
      go : (o : Option ℕ) → leader_of leaders a ≡ o → (l : ℕ) × (leader_of leaders a ≡ Some l)
      go None e = absurd (subst (IsLeader touched rows a) e (lead a wa) t)
      go (Some l) e = (l, e)

    led_by_number : (a g : ℕ) → a < 16 → group_of groups.of a ≡ Some g → (l : ℕ) × (leader_of leaders a ≡ Some l)
    led_by_number a g wa e = go (leader_of leaders a) refl where
      go : (o : Option ℕ) → leader_of leaders a ≡ o → (l : ℕ) × (leader_of leaders a ≡ Some l)
      go None f = differ (sym (h.none a wa f) ∙ e)
      go (Some l) f = (l, f)

    inside : (a g : ℕ) → group_of groups.of a ≡ Some g → a < 16
    inside a g e = let w : a < length groups.of = in_list groups.of a e in omega (arith, h.long) where
      in_list : (xs : List (Option ℕ)) (a : ℕ) → slice_index_or xs a None ≡ Some g → a < length xs
      in_list [] a e = differ e
      in_list (x ∷ xs) zero e = omega arith
      in_list (x ∷ xs) (suc a) e = let w : a < length xs = in_list xs a e in omega (arith, w)

    low : (a l : ℕ) → a < 16 → leader_of leaders a ≡ Some l → rank levels l < 256
    low a l wa e =
        let wl : l < 16 = (is_led a l wa e).1.0 in
        let s : slice_index levels l < 16 = level_small rows closed l (slice_index levels l) wl (are l wl) in
        omega (arith, wl, s)

    number : (a l : ℕ) → a < 16 → leader_of leaders a ≡ Some l → (g : ℕ) × (g < groups.count) × (group_of groups.of a ≡ Some g)
    number a l wa e = h.numbers a l wa e (low a l wa e)

    -- groups with one least array have one number, and with one number one least array
    one_number : (a b g k l : ℕ) → a < 16 → b < 16 → group_of groups.of a ≡ Some g → group_of groups.of b ≡ Some k → leader_of leaders a ≡ Some l → leader_of leaders b ≡ Some l → g ≡ k
    one_number a b g k l wa wb ea eb la lb = elim (cases_lt g k) [
      | inl lt ↦ absurd (let r = (h.ordered a b g k l l wa wb ea eb la lb).0 lt in omega arith)
      | inr le ↦ elim (cases_lt k g) [
        | inl lt ↦ absurd (let r = (h.ordered b a k g l l wb wa eb ea lb la).0 lt in omega arith)
        | inr ge ↦ omega arith
      ]
    ]

    one_rank : (a b g l m : ℕ) → a < 16 → b < 16 → group_of groups.of a ≡ Some g → group_of groups.of b ≡ Some g → leader_of leaders a ≡ Some l → leader_of leaders b ≡ Some m → rank levels l ≡ rank levels m
    one_rank a b g l m wa wb ea eb la lb = elim (cases_lt (rank levels l) (rank levels m)) [
      | inl lt ↦ absurd (let r = (h.ordered a b g g l m wa wb ea eb la lb).1 lt in omega arith)
      | inr le ↦ elim (cases_lt (rank levels m) (rank levels l)) [
        | inl lt ↦ absurd (let r = (h.ordered b a g g m l wb wa eb ea lb la).1 lt in omega arith)
        | inr ge ↦ omega arith
      ]
    ]

    one_least : (a b g l m : ℕ) → a < 16 → b < 16 → group_of groups.of a ≡ Some g → group_of groups.of b ≡ Some g → leader_of leaders a ≡ Some l → leader_of leaders b ≡ Some m → l ≡ m
    one_least a b g l m wa wb ea eb la lb =
        let r : rank levels l ≡ rank levels m = one_rank a b g l m wa wb ea eb la lb in
        (apart levels l m (slice_index levels m) (is_led a l wa la).1.0 (is_led b m wb lb).1.0 r).0

    same : (a b : ℕ) → IsOn touched a → IsOn touched b → (group_of groups.of a ≡ group_of groups.of b) ↔ (Linked rows a b × Linked rows b a)
    same a b ta tb =
        let la = led a ta.0 ta in
        let lb = led b tb.0 tb in
        let na = number a la.0 ta.0 la.1 in
        let nb = number b lb.0 tb.0 lb.1 in
        let ha = is_led a la.0 ta.0 la.1 in
        let hb = is_led b lb.0 tb.0 lb.1 in (
          λ e.
              let one : la.0 ≡ lb.0 = one_least a b na.0 la.0 lb.0 ta.0 tb.0 na.2 (sym e ∙ na.2) la.1 lb.1 in
              let to : Linked rows a lb.0 = subst (Linked rows a) one ha.2.0 in
              let from : Linked rows lb.0 a = subst (λ m. Linked rows m a) one ha.2.1 in
              (closed a lb.0 b to hb.2.1, closed b lb.0 a hb.2.0 from),
          λ j.
              let one : la.0 ≡ lb.0 = one_leader a b la.0 lb.0 j ha hb in
              na.2 ∙ ap Some (one_number a b na.0 nb.0 la.0 ta.0 tb.0 na.2 nb.2 la.1 (lb.1 ∙ ap Some (sym one))) ∙ sym nb.2,
        )

    -- an array's level is that of its least one
    level_at : (a l : ℕ) → a < 16 → leader_of leaders a ≡ Some l → IsDepth (RestsOn (Linked rows)) a (slice_index levels l)
    level_at a l wa e = let k = is_led a l wa e in level_join rows closed a l (slice_index levels l) k.2.0 k.2.1 (are l k.1.0)

    before : (a b g k : ℕ) → group_of groups.of a ≡ Some g → group_of groups.of b ≡ Some k → g < k → Before (Linked rows) groups.of a b
    before a b g k ea eb less =
        let wa : a < 16 = inside a g ea in
        let wb : b < 16 = inside b k eb in
        let la = led_by_number a g wa ea in
        let lb = led_by_number b k wb eb in
        let ha = is_led a la.0 wa la.1 in
        let hb = is_led b lb.0 wb lb.1 in
        let r : rank levels la.0 < rank levels lb.0 = (h.ordered a b g k la.0 lb.0 wa wb ea eb la.1 lb.1).0 less in (
          slice_index levels la.0,
          slice_index levels lb.0,
          level_at a la.0 wa la.1,
          level_at b lb.0 wb lb.1,
          elim (cases_lt (slice_index levels la.0) (slice_index levels lb.0)) [
            | inl lt ↦ inl lt
            | inr le ↦
                let eq : slice_index levels la.0 ≡ slice_index levels lb.0 = omega (arith, r, ha.1.0, hb.1.0) in
                let first : la.0 < lb.0 = omega (arith, r, eq) in
                let own : leader_of leaders la.0 ≡ Some la.0 = are_least.own a la.0 wa la.1 in
                let n = number la.0 la.0 ha.1.0 own in
                inr (
                  eq,
                  (
                    la.0,
                    n.2 ∙ ap Some (one_number la.0 a n.0 g la.0 ha.1.0 wa n.2 ea own la.1) ∙ sym ea,
                    λ e f. let low : lb.0 ≤ e = least_of b k lb.0 wb eb lb.1 e f in omega (arith, low, first),
                  ),
                )
          ],
        ) where
          least_of : (b k m : ℕ) → b < 16 → group_of groups.of b ≡ Some k → leader_of leaders b ≡ Some m → (e : ℕ) → group_of groups.of e ≡ group_of groups.of b → m ≤ e
          least_of b k m wb eb lb e f =
              let ee : group_of groups.of e ≡ Some k = f ∙ eb in
              let we : e < 16 = inside e k ee in
              let le = led_by_number e k we ee in
              let he = is_led e le.0 we le.1 in
              let one : le.0 ≡ m = one_least e b k le.0 m we wb ee eb le.1 lb in
              elim (cases_lt e le.0) [
                | inl lt ↦ absurd (he.3 e lt he.0 (inl refl, inl refl))
                | inr ge ↦ omega (arith, ge, one)
              ]

    pub are_groups : AreGroups (IsOn touched) (Linked rows) groups.count groups.of
    are_groups = record {
      touched = λ a w t. (let l = led a t.0 t in number a l.0 t.0 l.1);
      untouched = λ a w out. unnumbered a (omega (arith, h.long)) out (leader_of leaders a) refl;
      same = same;
      used = λ g less. (
          let u = h.used g less in
          let l = led_by_number u.0 g u.1 u.2 in
          (u.0, omega (arith, u.1, h.long), (is_led u.0 l.0 u.1 l.1).0, u.2));
      ordered = before;
    } where
      unnumbered : (a : ℕ) → a < 16 → (IsOn touched a → ⊥) → (o : Option ℕ) → leader_of leaders a ≡ o → group_of groups.of a ≡ None
      unnumbered a wa out None e = h.none a wa e
      unnumbered a wa out (Some l) e = absurd (out (is_led a l wa e).0)
