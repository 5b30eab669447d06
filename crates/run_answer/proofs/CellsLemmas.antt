-- Which group has an array, where its cells stand in a unit, and what the owner of a unit has in the end.
use Rattle.std.proofs.Common.{◌≡◌, ℕ, zero, suc, ◌+◌, ◌-◌, ◌*◌, ◌/◌, ◌%◌, ◌^◌, ◌<◌, ◌≤◌, ◌==◌, ◌≢◌, ◌⊎◌, ◌&&◌, ◌||◌, nat_le, min, ℤ, Bool, true, false, if◌then◌else◌, List, [], ◌∷◌, ◌++◌, length, get_or, set, replicate, append_assoc, Some, IsSome, refl, sym, ap, subst, ◌∙◌, inl, inr, arith}
use Rattle.std.specs.List.{list_any}
use Rattle.std.proofs.Math.Bool.{or-true}
use Rattle.std.proofs.Math.Nat.{div_self, div-eq_of_lt, mod-eq_of_lt}
use Rattle.std.proofs.lemmas.Bool.Decides.{eqb_tells, nat_tests}
use Rattle.std.proofs.lemmas.List.{length-set, length-replicate, get_or-replicate, get_or-set_other, take_all}
use Rattle.std.proofs.lemmas.Grind.{get_or-set_at}
use Rattle.std.proofs.lemmas.Nat.{div-add-mod'}
use Rattle.std.proofs.lemmas.Nat.Bits.{bit_at-suc, bit_at-zero, bit_at_lowest}
use Rattle.mp5_words.specs.Cells.{word_at, touching, bits}
use Rattle.shard_rounds.specs.declared.plan.Move.{Move}
use Rattle.shard_rounds.specs.Rounds.{owner_now, after_moves, first_owner, joined}
use Rattle.code_forms.specs.declared.unit.Unit.{Unit as PlacedUnit}
use Rattle.code_forms.specs.declared.parts.StagedGroup.{StagedGroup}
use Rattle.code_forms.specs.FlatValid.{ascends}
use Rattle.code_forms.specs.FlatMeaning.{flat_length}
use Rattle.code_forms.specs.Staged.{Staged, Member, group_at, group_of, first_array, unit_count, share, cells_before, IsGroup, HasSizes}
use Rattle.code_forms.specs.StagedMeaning.{Units, array_set}
use Rattle.code_forms.proofs.ValidLemmas.{and_front, and_back}
use Rattle.run_laws.specs.Run.{Run, arrivals, last_round, units_before}
use Rattle.run_laws.specs.LawfulPlans.{AreAllPlans, Owns, owners_after}
use Rattle.group_station.specs.Station.{Site, in_hand, OwnsAt, IsHeld, HasCells, own, later, IsStation}
use Rattle.pipe_worker.specs.Pipe.{Pipe, station}
use Rattle.pipe_worker.specs.Laws.{IsPipe}
use Rattle.switch_worker.specs.Finished.{IsFinished}
use Rattle.run_answer.specs.Cells.{unit_with, word_in, words_below, cell_count, has_array}
use Rattle.run_answer.proofs.CountsLemmas.{site_of, IsDone, is_done, finished_front}

-- ---- sets of arrays

-- a bit of a set is a mark
bit_is : (marks : List Bool) (a : ℕ) → (bits marks / 2 ^ a % 2 == 1) ≡ get_or marks a false
bit_is [] a = ap (λ n. n == 1) (bit_at-zero a)
bit_is (true ∷ marks) zero = ap (λ n. n == 1) (bit_at_lowest (1 + 2 * bits marks) ∙ (let one : (1 + 2 * bits marks) % 2 ≡ 1 = omega arith in one))
bit_is (false ∷ marks) zero = ap (λ n. n == 1) (bit_at_lowest (2 * bits marks) ∙ (let none : 2 * bits marks % 2 ≡ 0 = omega arith in none))
bit_is (true ∷ marks) (suc a) =
    let half : (1 + 2 * bits marks) / 2 ≡ bits marks = omega arith in
    ap (λ n. n == 1) (bit_at-suc (1 + 2 * bits marks) a ∙ ap (λ n. n / 2 ^ a % 2) half) ∙ bit_is marks a
bit_is (false ∷ marks) (suc a) =
    let half : 2 * bits marks / 2 ≡ bits marks = omega arith in
    ap (λ n. n == 1) (bit_at-suc (2 * bits marks) a ∙ ap (λ n. n / 2 ^ a % 2) half) ∙ bit_is marks a

-- the marks of the touched arrays are added
mark_is : (xs : List ℕ) (marks : List Bool) (a : ℕ) → a < length marks → get_or (touching xs marks) a false ≡ (list_any (λ x. x == a) xs || get_or marks a false)
mark_is [] marks a lt = refl
mark_is (x ∷ xs) marks a lt =
    mark_is xs (set marks x true) a (let long = length-set marks x true in omega (arith, lt, long)) ∙ by (eqb_tells x a)
  where
    by : (((x == a) ≡ true) × (x ≡ a)) ⊎ (((x == a) ≡ false) × (x ≢ a)) → (list_any (λ x. x == a) xs || get_or (set marks x true) a false) ≡ (((x == a) || list_any (λ x. x == a) xs) || get_or marks a false)
    by (inl is) =
        let marked : get_or (set marks x true) a false ≡ true = get_or-set_at marks x a true false (sym is.1) (let e = is.1 in omega (arith, lt, e)) in
        ap (λ r. list_any (λ x. x == a) xs || r) marked ∙ or-true (list_any (λ x. x == a) xs) ∙ ap (λ b. (b || list_any (λ x. x == a) xs) || get_or marks a false) (sym is.0)
    by (inr other) =
        let same : get_or (set marks x true) a false ≡ get_or marks a false = get_or-set_other marks x a true false (λ e. other.1 (sym e)) in
        ap (λ r. list_any (λ x. x == a) xs || r) same ∙ ap (λ b. (b || list_any (λ x. x == a) xs) || get_or marks a false) (sym other.0)

or_none : (b : Bool) → (b || false) ≡ b
or_none true = refl
or_none false = refl

-- so a bit of a set tells whether the array is in it
pub set_has : (n : ℕ) (xs : List ℕ) (a : ℕ) → n ≡ array_set xs → a < 16 → (n / 2 ^ a % 2 == 1) ≡ list_any (λ x. x == a) xs
set_has n xs a is lt =
    ap (λ m. m / 2 ^ a % 2 == 1) is
    ∙ bit_is (touching xs (replicate 16 false)) a
    ∙ mark_is xs (replicate 16 false) a (let long = length-replicate 16 false in omega (arith, lt, long))
    ∙ ap (λ r. list_any (λ x. x == a) xs || r) (get_or-replicate 16 a false false lt)
    ∙ or_none (list_any (λ x. x == a) xs)

-- an array that is among some is a member of them
pub member_of : (xs : List ℕ) (a : ℕ) → list_any (λ x. x == a) xs ≡ true → Member a xs
member_of [] a has = absurd (cc)
member_of (x ∷ xs) a has = elim (eqb_tells x a) [
  | inl is ↦ inl (sym is.1)
  | inr other ↦ inr (member_of xs a (ap (λ b. b || list_any (λ y. y == a) xs) (sym other.0) ∙ has))
]

-- ---- the cells before those of an array

-- the shares of those arrays below a number that are among some
abbrev pub shares_below : (ℕ → ℕ) → List ℕ → ℕ → ℕ
shares_below shares xs zero = 0
shares_below shares xs (suc b) = shares_below shares xs b + (if list_any (λ x. x == b) xs then shares b else 0)

-- a number below the least isn't among ascending ones
not_below : (n b : ℕ) (xs : List ℕ) → ascends n xs ≡ true → b < n → list_any (λ x. x == b) xs ≡ false
not_below n b [] up lt = refl
not_below n b (x ∷ xs) up lt =
    let first : nat_le n x ≡ true = and_front (nat_le n x) _ up in
    let least : n ≤ x = grind (arith, nat_tests, first) in
    let rest : list_any (λ y. y == b) xs ≡ false = not_below (suc x) b xs (and_back (nat_le n x) _ up) (omega (arith, least, lt)) in
    elim (eqb_tells x b) [
      | inl is ↦ absurd (let e = is.1 in omega (arith, least, e, lt))
      | inr other ↦ (ap (λ r. r || list_any (λ y. y == b) xs) other.0 ∙ rest)
    ]

none_below : (shares : ℕ → ℕ) (n : ℕ) (xs : List ℕ) (b : ℕ) → ascends n xs ≡ true → b ≤ n → shares_below shares xs b ≡ 0
none_below shares n xs zero up le = refl
none_below shares n xs (suc b) up le =
    let rest = none_below shares n xs b up (omega (arith, le)) in
    let here : ◌≡◌ {A = ℕ} (if list_any (λ x. x == b) xs then shares b else 0) 0 = ap (λ (r : Bool). if r then shares b else 0) (not_below n b xs up (omega (arith, le))) in
    omega (arith, rest, here)

-- the first of ascending ones comes first
first_before : (shares : ℕ → ℕ) (n x : ℕ) (xs : List ℕ) (b : ℕ) → ascends n (x ∷ xs) ≡ true → x < b → shares_below shares (x ∷ xs) b ≡ shares x + shares_below shares xs b
first_before shares n x xs zero up lt = absurd (omega (arith, lt))
first_before shares n x xs (suc b) up lt = by (λ less. first_before shares n x xs b up less) (eqb_tells x b)
  where
    from : ascends x (x ∷ xs) ≡ true
    from =
        let here : nat_le x x ≡ true = grind (arith, nat_tests) in
        ap (λ r. r && ascends (suc x) xs) here ∙ and_back (nat_le n x) _ up

    by : (x < b → shares_below shares (x ∷ xs) b ≡ shares x + shares_below shares xs b) → (((x == b) ≡ true) × (x ≡ b)) ⊎ (((x == b) ≡ false) × (x ≢ b))
        → shares_below shares (x ∷ xs) (suc b) ≡ shares x + shares_below shares xs (suc b)
    by earlier (inl is) =
        let at : x ≡ b = is.1 in
        let before : shares_below shares (x ∷ xs) b ≡ 0 = none_below shares x (x ∷ xs) b from (omega (arith, at)) in
        let others : shares_below shares xs (suc b) ≡ 0 = none_below shares (suc x) xs (suc b) (and_back (nat_le n x) _ up) (omega (arith, at)) in
        let here : ◌≡◌ {A = ℕ} (if (x == b) || list_any (λ y. y == b) xs then shares b else 0) (shares b) = ap (λ (r : Bool). if r || list_any (λ y. y == b) xs then shares b else 0) is.0 in
        let same : shares x ≡ shares b = ap shares at in
        omega (arith, before, others, here, same)
    by earlier (inr other) =
        let no = other.1 in
        let less : x < b = grind (arith, lt, no) in
        let rest = earlier less in
        let here : ◌≡◌ {A = ℕ} (if (x == b) || list_any (λ y. y == b) xs then shares b else 0) (if list_any (λ y. y == b) xs then shares b else 0) =
        ap (λ (r : Bool). if r || list_any (λ y. y == b) xs then shares b else 0) other.0 in
        omega (arith, rest, here)

-- so they are the cells before those of an array
pub before_is : (shares : ℕ → ℕ) (n : ℕ) (xs : List ℕ) (a : ℕ) → ascends n xs ≡ true → list_any (λ x. x == a) xs ≡ true → shares_below shares xs a ≡ cells_before shares xs a
before_is shares n [] a up has = absurd (cc)
before_is shares n (x ∷ xs) a up has = by (before_is shares (suc x) xs a after) (eqb_tells x a)
  where
    after : ascends (suc x) xs ≡ true
    after = and_back (nat_le n x) _ up

    from : ascends x (x ∷ xs) ≡ true
    from =
        let here : nat_le x x ≡ true = grind (arith, nat_tests) in
        ap (λ r. r && ascends (suc x) xs) here ∙ after

    past : list_any (λ y. y == a) xs ≡ true → (nat_le (suc x) a ≡ true) ⊎ (nat_le (suc x) a ≡ false) → x < a
    past there (inl less) = grind (arith, nat_tests, less)
    past there (inr most) =
        let low : a < suc x = grind (arith, nat_tests, most) in
        let none = not_below (suc x) a xs after low in
        absurd (let clash : true ≡ false = sym there ∙ none in cc)

    told : (b : Bool) → (b ≡ true) ⊎ (b ≡ false)
    told true = inl refl
    told false = inr refl

    by : (list_any (λ y. y == a) xs ≡ true → shares_below shares xs a ≡ cells_before shares xs a) → (((x == a) ≡ true) × (x ≡ a)) ⊎ (((x == a) ≡ false) × (x ≢ a))
        → shares_below shares (x ∷ xs) a ≡ cells_before shares (x ∷ xs) a
    by rest (inl is) =
        none_below shares x (x ∷ xs) a from (let at = is.1 in omega (arith, at))
        ∙ ap (λ (r : Bool). if r then 0 else (shares x + cells_before shares xs a)) (sym is.0)
    by rest (inr other) =
        let there : list_any (λ y. y == a) xs ≡ true = ap (λ r. r || list_any (λ y. y == a) xs) (sym other.0) ∙ has in
        let less : x < a = past there (told (nat_le (suc x) a)) in
        first_before shares n x xs a up less
        ∙ ap (λ k. shares x + k) (rest there)
        ∙ ap (λ (r : Bool). if r then 0 else (shares x + cells_before shares xs a)) (sym other.0)

-- ---- shares

units_by : (c : Staged) (h : StagedGroup) (b : Bool) → h.sharded ≡ b → unit_count c h ≡ (if b then flat_length c.arrays (first_array h) else 1)
units_by c h b e = ap (λ (r : Bool). if r then flat_length c.arrays (first_array h) else 1) e

share_by : (c : Staged) (h : StagedGroup) (a : ℕ) (b : Bool) → h.sharded ≡ b → share c h a ≡ (if b then 1 else flat_length c.arrays a)
share_by c h a b e = ap (λ (r : Bool). if r then 1 else flat_length c.arrays a) e

-- the arrays of a sharded group have a cell for each unit
even_units : (c : Staged) (g a : ℕ) → IsGroup c g → has_array (group_at c g) a ≡ true → (group_at c g).sharded ≡ true → flat_length c.arrays a ≡ unit_count c (group_at c g)
even_units c g a is has e = is.even e a (member_of (group_at c g).arrays a has) ∙ sym (units_by c (group_at c g) true e)

-- so the cells of an array, shared out among the units, are its share
pub share_is : (c : Staged) (g a : ℕ) → IsGroup c g → HasSizes c → g < length c.groups → has_array (group_at c g) a ≡ true
    → flat_length c.arrays a / unit_count c (group_at c g) ≡ share c (group_at c g) a
share_is c g a is sizes lt has = by (group_at c g).sharded refl
  where
    by : (b : Bool) → (group_at c g).sharded ≡ b → flat_length c.arrays a / unit_count c (group_at c g) ≡ share c (group_at c g) a
    by true e =
        let some : 0 < unit_count c (group_at c g) = let size = (sizes g lt).0 in omega (arith, size) in
        ap (λ n. n / unit_count c (group_at c g)) (even_units c g a is has e) ∙ div_self some ∙ sym (share_by c (group_at c g) a true e)
    by false e =
        let whole : flat_length c.arrays a / 1 ≡ flat_length c.arrays a = omega arith in
        ap (λ n. flat_length c.arrays a / n) (units_by c (group_at c g) false e) ∙ whole ∙ sym (share_by c (group_at c g) a false e)

-- where the cell of an array at an index stands: in which unit, and how far behind the array's first cell there
pub record IsSpot (c : Staged) (h : StagedGroup) (i part : ℕ) : Type 0 where
  pub within : i / part < unit_count c h
  pub unit : i / part ≡ unit_with h i
  pub cell : i % part ≡ (if h.sharded then 0 else i)

pub spot_is : (c : Staged) (g a i part : ℕ) → IsGroup c g → has_array (group_at c g) a ≡ true → part ≡ share c (group_at c g) a → i < flat_length c.arrays a → IsSpot c (group_at c g) i part
spot_is c g a i part is has e lt = by (group_at c g).sharded refl
  where
    by : (b : Bool) → (group_at c g).sharded ≡ b → IsSpot c (group_at c g) i part
    by true s =
        let units = even_units c g a is has s in
        let one : part ≡ 1 = e ∙ share_by c (group_at c g) a true s in
        let alone : i / part ≡ i = ap (λ n. i / n) one ∙ (let k : i / 1 ≡ i = omega arith in k) in
        let first : i % part ≡ 0 = ap (λ n. i % n) one ∙ (let k : i % 1 ≡ 0 = omega arith in k) in
        record {
          within = omega (arith, units, alone, lt);
          unit = alone ∙ ap (λ (r : Bool). if r then i else 0) (sym s);
          cell = first ∙ ap (λ (r : Bool). if r then 0 else i) (sym s);
        }
    by false s =
        let units = units_by c (group_at c g) false s in
        let all : part ≡ flat_length c.arrays a = e ∙ share_by c (group_at c g) a false s in
        let less : i < part = omega (arith, all, lt) in
        let first : i / part ≡ 0 = div-eq_of_lt less in
        let same : i % part ≡ i = mod-eq_of_lt less in
        record {
          within = omega (arith, units, first);
          unit = first ∙ ap (λ (r : Bool). if r then i else 0) (sym s);
          cell = same ∙ ap (λ (r : Bool). if r then 0 else i) (sym s);
        }

-- the word of an array of a group at an index, by that spot
pub word_is : (c : Staged) (units : Units) (g a i part offset : ℕ) (cells : List ℤ) → IsGroup c g → has_array (group_at c g) a ≡ true → IsSpot c (group_at c g) i part
    → offset ≡ cells_before (share c (group_at c g)) (group_at c g).arrays a → cells ≡ units g (i / part) → word_at cells (offset + i % part) ≡ word_in c units (group_of c a) a i
word_is c units g a i part offset cells is has spot before are =
    ap (λ l. word_at l (offset + i % part)) are
    ∙ (λ j. word_at (units g (spot.unit j)) (before j + spot.cell j))
    ∙ ap (λ o. word_in c units o a i) (sym ((is.there a (member_of (group_at c g).arrays a has)).1))

-- ---- lists of words

pub words_more : (c : Staged) (units : Units) (a i : ℕ) (w : ℤ) (first old new : List ℤ) → old ≡ first ++ words_below c units a i → w ≡ word_in c units (group_of c a) a i
    → new ≡ old ++ w ∷ [] → new ≡ first ++ words_below c units a (i + 1)
words_more c units a i w first old new before is more =
    more
    ∙ (λ j. before j ++ is j ∷ [])
    ∙ append_assoc first (words_below c units a i) (word_in c units (group_of c a) a i ∷ [])
    ∙ ap (λ n. first ++ words_below c units a n) (let k : suc i ≡ i + 1 = omega arith in k)

-- ---- room

-- the cells of an array more are among those of more arrays
pub count_within : (c : Staged) (a n : ℕ) → a < n → cell_count c a + flat_length c.arrays a ≤ cell_count c n
count_within c a zero lt = absurd (omega (arith, lt))
count_within c a (suc n) lt = elim (eqb_tells a n) [
  | inl is ↦ (
      let same : cell_count c a + flat_length c.arrays a ≡ cell_count c (suc n) = ap (λ k. cell_count c k + flat_length c.arrays k) is.1 in
      omega (arith, same))
  | inr other ↦ (
      let no = other.1 in
      let less : a < n = grind (arith, lt, no) in
      let rest = count_within c a n less in
      omega (arith, rest))
]

-- ---- the owner of a unit in the end

-- the owner by all plans owns the unit in the last round
owns_last : (run : Run) (plans : List (List Move)) (g u : ℕ) → AreAllPlans run plans → Owns run (last_round run) g u (owner_now (owners_after run plans) g u)
owns_last run plans g u all =
    (plans, all.lawful, omega (arith, all.all), ap (λ ps. after_moves g u (first_owner run.settings.pipelines g u) (joined ps)) (take_all (last_round run) plans (omega (arith, all.all))))

-- the last round ends past all arrivals
last_ends : (run : Run) → min (arrivals run) ((last_round run + 1) * run.settings.round) ≡ arrivals run
last_ends run =
    let some = run.settings.some_round in
    let split = div-add-mod' (arrivals run - 1) run.settings.round in
    let most : (arrivals run - 1) % run.settings.round < run.settings.round = omega arith in
    let wide : (last_round run + 1) * run.settings.round ≡ last_round run * run.settings.round + run.settings.round = omega arith in
    omega (arith, split, most, wide)

module _ (run : Run) (plans : List (List Move)) (p g u : ℕ) (s : Pipe) (all : AreAllPlans run plans) (mine : p ≡ owner_now (owners_after run plans) g u) (finished : IsFinished run p s) (pipe : IsPipe s)
    (is : IsStation (station s g)) (lt : g < length run.code.groups) (within : u < unit_count run.code (group_at run.code g)) where
  done : IsDone run p g (station s g)
  done = is_done run p g s finished pipe is lt

  round_is : (station s g).round ≡ last_round run
  round_is = done.done.round ∙ ap (λ (a : Site). last_round a.run) done.site

  front_is : is.front ≡ arrivals run
  front_is = finished_front (station s g) is done.done ∙ ap (λ (a : Site). arrivals a.run) done.site

  owned : Owns run (last_round run) g u p
  owned = subst (λ q. Owns run (last_round run) g u q) (sym mine) (owns_last run plans g u all)

  -- the unit is in hand at its owner
  pub unit_here : IsSome (in_hand (station s g) u)
  unit_here =
      done.done.units u
      (subst (λ (a : Site). u < unit_count a.run.code (group_at a.run.code a.group)) (sym done.site) within)
      (subst (λ (a : Site). OwnsAt a (station s g).round u) (sym done.site) (subst (λ r. OwnsAt (site_of run p g) r u) (sym round_is) owned))

  -- and has its cells after all arrivals
  pub cells_are : (unit : PlacedUnit) → Some unit ≡ in_hand (station s g) u → unit.cells ≡ units_before run (arrivals run) g u
  cells_are unit e = by held.cells
    where
      held : IsHeld (site_of run p g) (last_round run) (arrivals run) u unit
      held =
          subst (λ f. IsHeld (site_of run p g) (last_round run) f u unit) front_is
          (subst (λ r. IsHeld (site_of run p g) r is.front u unit) round_is
          (subst (λ (a : Site). IsHeld a (station s g).round is.front u unit) done.site (is.laws.units.known u unit (sym e))))

      by : HasCells (site_of run p g) (last_round run) (arrivals run) u unit.cells → unit.cells ≡ units_before run (arrivals run) g u
      by (own owns are) = are ∙ ap (λ n. units_before run n g u) (last_ends run)
      by (later e next past are) =
          let few = next.owned.1.few in
          let reach = next.owned.2 in
          absurd (omega (arith, few, reach, past))
