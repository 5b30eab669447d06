-- Each program passes the checks or is refused by a fault: what is amiss at a place can be tested.
use Rattle.std.proofs.Common.{◌≡◌, ◌∙◌, ◌⊎◌, inl, inr, ℕ, zero, suc, ◌<◌, ◌≤◌, ℤ, Bool, true, false, nat_lt, List, [], ◌∷◌, ◌++◌, length, Option, Some, None, refl, sym, ap, subst, append_assoc, append-nil, true≢false, is_some, arith}
use Rattle.std.specs.Prelude.{IsTrue, is_none}
use Rattle.std.specs.Coded.{Coded}
use Rattle.std.proofs.lemmas.Bool.{cases_lt, cases_order, false≢true}
use Rattle.std.proofs.lemmas.List.{get_or_past}
use base.Stored.{Gv, gnil, gnum, gcons}
use Rattle.domino_tree.specs.declared.program.Program.{Program}
use Rattle.domino_tree.specs.Value.{Array, names_of}
use Rattle.domino_names.specs.declared.fault.CheckFault.{CheckFault}
use Rattle.domino_names.specs.declared.fault.CheckFault.TheVariants as fault
use Rattle.domino_names.specs.First.{FirstFault, NoFault}
use Rattle.domino_names.specs.Uses.{uses_of}
use Rattle.domino_names.specs.Declarations.{declarations}
use Rattle.domino_names.specs.Checks.{TwiceAt, UnknownAt, WrongKindAt, ArityAt, BadLengthAt, TooManyAt, is_twice, kind_for, is_misused, is_miscalled, bad_length, item_name, kinds_in, counted, limit, count}
use Rattle.domino_names.specs.NamesRefused.{OrElse, RefusedNames, RefusedSizes, PassesNames, PassesSizes}
use Rattle.domino_names.proofs.FirstLemmas.{none_at_start, none_with, first_with}
use Rattle.domino_check.specs.declared.numbered.CheckedExpr.{CheckedExpr}
use Rattle.domino_check.specs.contracts.numbered.CheckedExpr.{the_row as tree_row}
use Rattle.domino_check.specs.Numbering.{accesses}
use Rattle.domino_check.specs.Indexes.{IsOther, IndexDiffersAt, array_name, index_of}
use Rattle.domino_check.specs.Sites.{Assigned, to_field, to_cell, nothing, Site, Moves, MovesFirst, IndexMovesAt, NoneMoves, is_touched, stands_in, index_mentions, program_indexes, program_sites}
use Rattle.domino_check.specs.Refused.{RefusedIndexes, PassesIndexes, Refused, Passes}

-- either holds
abbrev Either : Type 0 → Type 0
Either P = P ⊎ (P → ⊥)

-- ---- the first place at which something is amiss

-- it can be told whether something is amiss at a place, and what
abbrev Tells : {A : Type 0} → (List A → A → CheckFault → Type 0) → Type 0
Tells {A = A} Amiss = (before : List A) (x : A) → ((f : CheckFault) × Amiss before x f) ⊎ ((f : CheckFault) → Amiss before x f → ⊥)

-- something is amiss somewhere, or nowhere
abbrev Found : {A : Type 0} → (List A → A → CheckFault → Type 0) → List A → Type 0
Found Amiss places = ((f : CheckFault) × FirstFault Amiss places f) ⊎ NoFault Amiss places

module _ {A : Type 0} (Amiss : List A → A → CheckFault → Type 0) (tells : Tells Amiss) where
  -- behind places at which nothing is
  found_from : (front rest : List A) → NoFault Amiss front → Found Amiss (front ++ rest)
  found_from front [] fine = inr (subst (NoFault Amiss) (sym (append-nil front)) fine)
  found_from front (x ∷ rest) fine = by (found_from (front ++ x ∷ []) rest) (tells front x)
    where
      by : (NoFault Amiss (front ++ x ∷ []) → Found Amiss ((front ++ x ∷ []) ++ rest)) → ((f : CheckFault) × Amiss front x f) ⊎ ((f : CheckFault) → Amiss front x f → ⊥) → Found Amiss (front ++ x ∷ rest)
      by later (inl h) = inl (h.0, first_with Amiss front x rest h.0 fine h.1)
      by later (inr h) = subst (Found Amiss) (append_assoc front (x ∷ []) rest) (later (none_with Amiss front x fine h))

  found : (places : List A) → Found Amiss places
  found places = found_from [] places (none_at_start Amiss)

-- where a test tells that something is amiss, and the place what
by_test : (b : Bool) (g : CheckFault) → ((f : CheckFault) × (IsTrue b × (f ≡ g))) ⊎ ((f : CheckFault) → (IsTrue b × (f ≡ g)) → ⊥)
by_test true g = inl (g, (refl, refl))
by_test false g = inr (λ f h. true≢false (sym h.0))

by_word : (o : Option ℤ) (g : ℤ → CheckFault) → ((f : CheckFault) × ((n : ℤ) × (o ≡ Some n) × (f ≡ g n))) ⊎ ((f : CheckFault) → ((n : ℤ) × (o ≡ Some n) × (f ≡ g n)) → ⊥)
by_word (Some n) g = inl (g n, (n, refl, refl))
by_word None g = inr (λ f h. false≢true (ap is_some h.1))

-- ---- equal trees

gv_or : (x y : Gv) → Either (x ≡ y)
gv_or gnil gnil = inl refl
gv_or gnil (gnum n) = inr (λ e. (let b : ⊥ = cc in b))
gv_or gnil (gcons a b) = inr (λ e. (let b : ⊥ = cc in b))
gv_or (gnum m) gnil = inr (λ e. (let b : ⊥ = cc in b))
gv_or (gnum m) (gnum n) = by (cases_order m n)
  where
    by : (m ≡ n) ⊎ ((m < n) ⊎ (n < m)) → Either (gnum m ≡ gnum n)
    by (inl e) = inl (ap gnum e)
    by (inr (inl h)) = inr (λ e. (let k : m ≡ n = cc in omega (arith, h, k)))
    by (inr (inr h)) = inr (λ e. (let k : m ≡ n = cc in omega (arith, h, k)))
gv_or (gnum m) (gcons a b) = inr (λ e. (let b : ⊥ = cc in b))
gv_or (gcons a b) gnil = inr (λ e. (let b : ⊥ = cc in b))
gv_or (gcons a b) (gnum n) = inr (λ e. (let b : ⊥ = cc in b))
gv_or (gcons a b) (gcons c d) = by (gv_or a c) (gv_or b d)
  where
    by : Either (a ≡ c) → Either (b ≡ d) → Either (gcons a b ≡ gcons c d)
    by (inl h) (inl k) = inl (λ i. gcons (h i) (k i))
    by (inr h) k = inr (λ e. h (let same : a ≡ c = cc in same))
    by h (inr k) = inr (λ e. k (let same : b ≡ d = cc in same))

-- what has a code can be compared
same_or : {A : Type 0} (c : Coded A) (x y : A) → Either (x ≡ y)
same_or c x y = by (gv_or (c.code x) (c.code y))
  where
    by : Either (c.code x ≡ c.code y) → Either (x ≡ y)
    by (inl h) = inl (c.inj x y h)
    by (inr h) = inr (λ e. h (ap c.code e))

-- ---- indexes

other_or : (first index : Option CheckedExpr) → Either (IsOther first index)
other_or first None = inl tt
other_or None (Some i) = inr (λ h. h)
other_or (Some a) (Some b) = by (same_or tree_row.coded a b)
  where
    by : Either (a ≡ b) → Either (¬ (a ≡ b))
    by (inl e) = inr (λ n. n e)
    by (inr n) = inl n

tells_differs : (arrays : List Array) → Tells (IndexDiffersAt arrays)
tells_differs arrays before x = by (other_or (index_of before x.array) x.index)
  where
    by : Either (IsOther (index_of before x.array) x.index)
        → ((f : CheckFault) × IndexDiffersAt arrays before x f) ⊎ ((f : CheckFault) → IndexDiffersAt arrays before x f → ⊥)
    by (inl h) = inl (fault.IndexDiffers (array_name arrays x.array), (h, refl))
    by (inr same) = inr (λ f h. same h.0)

module _ (indexes : List (Option CheckedExpr)) (sites : List Site) where
  moves_or : (assigned : Assigned) (array : ℕ) → Either (Moves indexes sites assigned array)
  moves_or (to_field f) array = by (is_touched sites array) (stands_in indexes f array)
    where
      by : (b c : Bool) → Either (IsTrue b × IsTrue c)
      by true true = inl (refl, refl)
      by false c = inr (λ h. false≢true h.0)
      by true false = inr (λ h. false≢true h.1)
  moves_or (to_cell a) array = inr (λ h. h)
  moves_or nothing array = inr (λ h. h)

  -- the first of the arrays below n that are moved, or none of them is
  abbrev MovesBelow : Assigned → ℕ → Type 0
  MovesBelow assigned n = ((a : ℕ) × MovesFirst indexes sites assigned a) ⊎ ((a : ℕ) → a < n → Moves indexes sites assigned a → ⊥)

  first_below : (assigned : Assigned) (n : ℕ) → MovesBelow assigned n
  first_below assigned zero = inr (λ a h m. omega (arith, h))
  first_below assigned (suc n) = by (first_below assigned n) (moves_or assigned n)
    where
      none_more : ((a : ℕ) → a < n → Moves indexes sites assigned a → ⊥) → (Moves indexes sites assigned n → ⊥) → (a : ℕ) → a < suc n → Moves indexes sites assigned a → ⊥
      none_more none here a below m = elim (cases_lt a n) [
        | inl h ↦ none a h m
        | inr h ↦ (let same : a ≡ n = omega (arith, h, below) in here (subst (λ (k : ℕ). Moves indexes sites assigned k) same m))
      ]

      by : MovesBelow assigned n → Either (Moves indexes sites assigned n) → MovesBelow assigned (suc n)
      by (inl h) m = inl h
      by (inr none) (inl m) = inl (n, (m, none))
      by (inr none) (inr m) = inr (none_more none m)

  -- an array without an index isn't moved
  none_past : (assigned : Assigned) (a : ℕ) → length indexes ≤ a → Moves indexes sites assigned a → ⊥
  none_past (to_field f) a past m = false≢true (sym (ap (index_mentions f) (get_or_past indexes a None past)) ∙ m.1)
  none_past (to_cell b) a past m = m
  none_past nothing a past m = m

  first_of : (assigned : Assigned) (a : ℕ) → Moves indexes sites assigned a → (b : ℕ) × MovesFirst indexes sites assigned b
  first_of assigned a m = by (first_below assigned (suc a))
    where
      by : MovesBelow assigned (suc a) → (b : ℕ) × MovesFirst indexes sites assigned b
      by (inl h) = h
      by (inr none) = absurd (none a (omega arith) m)

tells_moves : (arrays : List Array) (indexes : List (Option CheckedExpr)) → Tells (IndexMovesAt arrays indexes)
tells_moves arrays indexes before x = by (first_below indexes (before ++ x ∷ []) x.assigns (length indexes))
  where
    none_at : ((a : ℕ) → a < length indexes → Moves indexes (before ++ x ∷ []) x.assigns a → ⊥) → (f : CheckFault) → IndexMovesAt arrays indexes before x f → ⊥
    none_at none f h = elim (cases_lt h.0 (length indexes)) [
      | inl below ↦ none h.0 below h.1.0
      | inr past ↦ none_past indexes (before ++ x ∷ []) x.assigns h.0 past h.1.0
    ]

    by : MovesBelow indexes (before ++ x ∷ []) x.assigns (length indexes)
        → ((f : CheckFault) × IndexMovesAt arrays indexes before x f) ⊎ ((f : CheckFault) → IndexMovesAt arrays indexes before x f → ⊥)
    by (inl h) = inl (fault.IndexMoves (array_name arrays h.0), (h.0, h.1, refl))
    by (inr none) = inr (none_at none)

-- where no site is told to move an index, none does
none_moves : (arrays : List Array) (indexes : List (Option CheckedExpr)) (sites : List Site) → NoFault (IndexMovesAt arrays indexes) sites → NoneMoves indexes sites
none_moves arrays indexes sites none before x after is array m =
    let first = first_of indexes (before ++ x ∷ []) x.assigns array m in
    none before x after (fault.IndexMoves (array_name arrays first.0)) is (first.0, first.1, refl)

-- ---- all checks

-- a check refuses or passes, and so does a later one
both : {N M : Type 0} (R L : CheckFault → Type 0) → ((f : CheckFault) × R f) ⊎ N → ((f : CheckFault) × L f) ⊎ M → ((f : CheckFault) × OrElse (R f) N (L f)) ⊎ (N × M)
both R L (inl r) later = inl (r.0, inl r.1)
both R L (inr n) (inl l) = inl (l.0, inr (n, l.1))
both R L (inr n) (inr m) = inr (n, m)

passing : {N M : Type 0} {R : CheckFault → Type 0} → (N → M) → ((f : CheckFault) × R f) ⊎ N → ((f : CheckFault) × R f) ⊎ M
passing g (inl r) = inl r
passing g (inr n) = inr (g n)

module _ (p : Program) where
  names_or : ((f : CheckFault) × RefusedNames p f) ⊎ PassesNames p
  names_or =
      passing (λ n. record { once = n.0; known = n.1.0; kinds = n.1.1.0; calls = n.1.1.1 })
      (both _ _ (found TwiceAt (λ before d. by_test (is_twice before d) (fault.Twice d.name)) (declarations p))
      (both _ _ (found (UnknownAt (kinds_in p)) (λ before u. by_test (is_none (kind_for (kinds_in p) u)) (fault.Unknown u.name)) (uses_of p))
      (both _ _ (found (WrongKindAt (kinds_in p)) (λ before u. by_test (is_misused u.role (kind_for (kinds_in p) u)) (fault.WrongKind u.name)) (uses_of p))
      (found ArityAt (λ before u. by_test (is_miscalled u.name u.role) (fault.Arity u.name)) (uses_of p)))))

  sizes_or : ((f : CheckFault) × RefusedSizes p f) ⊎ PassesSizes p
  sizes_or =
      passing (λ n. record { lengths = n.0; few = n.1 })
      (both _ _ (found (BadLengthAt (names_of p).defines) (λ before i. by_word (bad_length (names_of p).defines i) (fault.BadLength (item_name i))) (p.before ++ p.after))
      (found (TooManyAt (names_of p)) (λ before w. by_test (nat_lt (limit w) (count (names_of p) w)) (fault.TooMany w (count (names_of p) w))) counted))

  indexes_or : ((f : CheckFault) × RefusedIndexes p f) ⊎ PassesIndexes p
  indexes_or =
      passing (λ n. record { same = n.0; still = none_moves (names_of p).arrays (program_indexes p) (program_sites p) n.1 })
      (both _ _ (found (IndexDiffersAt (names_of p).arrays) (tells_differs (names_of p).arrays) (accesses p))
      (found (IndexMovesAt (names_of p).arrays (program_indexes p)) (tells_moves (names_of p).arrays (program_indexes p)) (program_sites p)))

  all_or : ((f : CheckFault) × Refused p f) ⊎ Passes p
  all_or = passing (λ n. record { names = n.0; sizes = n.1.0; indexes = n.1.1 }) (both _ _ names_or (both _ _ sizes_or indexes_or))

-- a program passes the checks, or is refused by a fault
pub passes_or_refused : (p : Program) → Passes p ⊎ ((f : CheckFault) × Refused p f)
passes_or_refused p = elim (all_or p) [ inl h ↦ inr h | inr n ↦ inl n ]
