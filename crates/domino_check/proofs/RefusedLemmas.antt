-- No program is refused by two faults, and none that passes is refused.
use Rattle.std.proofs.Common.{◌≡◌, ◌≢◌, ℕ, ◌≤◌, ℤ, Bool, true, false, nat_lt, List, [], ◌∷◌, ◌++◌, Option, Some, None, Result, Ok, Err, OnOk, IfErr, IsErrAnd, inl, inr, refl, sym, ap, ◌∙◌, true≢false, arith}
use Rattle.std.proofs.lemmas.Bool.{ltb-true, ltb-false}
use Rattle.std.proofs.lemmas.Result.{IfErr-weaker}
use Rattle.domino_tree.specs.declared.program.Item.{Item}
use Rattle.domino_tree.specs.declared.program.Program.{Program}
use Rattle.domino_tree.specs.Value.{Defined, Array, names_of}
use Rattle.domino_names.specs.declared.fault.CheckFault.{CheckFault}
use Rattle.domino_names.specs.declared.fault.CheckFault.TheVariants as fault
use Rattle.domino_check.specs.declared.numbered.CheckedExpr.{CheckedExpr}
use Rattle.domino_names.specs.Uses.{uses_of}
use Rattle.domino_names.specs.Declarations.{Declaration, declarations}
use Rattle.domino_names.specs.Checks.{TwiceAt, UnknownAt, WrongKindAt, ArityAt, BadLengthAt, TooManyAt, kinds_in, item_name, counted}
use Rattle.domino_check.specs.Numbering.{accesses}
use Rattle.domino_check.specs.Indexes.{IndexDiffersAt, array_name}
use Rattle.domino_check.specs.Sites.{Assigned, Site, MovesFirst, IndexMovesAt, program_indexes, program_sites}
use Rattle.domino_names.specs.NamesRefused.{OrElse, RefusedNames, RefusedSizes, PassesNames, PassesSizes}
use Rattle.domino_check.specs.Refused.{RefusedIndexes, PassesIndexes, Refused, Passes}
use Rattle.domino_names.proofs.FirstLemmas.{not_both, one_first}

-- ---- one fault at a place

some_int : (a b : ℤ) → Some a ≡ Some b → a ≡ b
some_int a b e = ap (λ (o : Option ℤ). elim o as (λ _. ℤ) [ None ↦ a | Some z ↦ z ]) e

one_twice : (before : List Declaration) (x : Declaration) (f g : CheckFault) → TwiceAt before x f → TwiceAt before x g → f ≡ g
one_twice before x f g a b = a.1 ∙ sym b.1

one_length : (defines : List Defined) (before : List Item) (x : Item) (f g : CheckFault) → BadLengthAt defines before x f → BadLengthAt defines before x g → f ≡ g
one_length defines before x f g a b = a.2 ∙ ap (fault.BadLength (item_name x)) (some_int a.0 b.0 (sym a.1 ∙ b.1)) ∙ sym b.2

one_array : (indexes : List (Option CheckedExpr)) (sites : List Site) (assigned : Assigned) (a b : ℕ) → MovesFirst indexes sites assigned a → MovesFirst indexes sites assigned b → a ≡ b
one_array indexes sites assigned a b h k = by (nat_lt a b) (nat_lt b a) refl refl
  where
    by : (x y : Bool) → nat_lt a b ≡ x → nat_lt b a ≡ y → a ≡ b
    by true y e d = absurd (k.1 a (ltb-true a b e) h.0)
    by false true e d = absurd (h.1 b (ltb-true b a d) k.0)
    by false false e d = let p : b ≤ a = ltb-false a b e in let q : a ≤ b = ltb-false b a d in omega arith

one_move : (arrays : List Array) (indexes : List (Option CheckedExpr)) (before : List Site) (x : Site) (f g : CheckFault) → IndexMovesAt arrays indexes before x f → IndexMovesAt arrays indexes before x g → f ≡ g
one_move arrays indexes before x f g a b =
    a.2 ∙ ap (λ n. fault.IndexMoves (array_name arrays n)) (one_array indexes (before ++ x ∷ []) x.assigns a.0 b.0 a.1 b.1) ∙ sym b.2

-- ---- one refusal

or_one : {Rf Rg N Lf Lg : Type 0} (f g : CheckFault) → (Rf → Rg → f ≡ g) → (Rf → N → ⊥) → (Rg → N → ⊥) → (Lf → Lg → f ≡ g) → OrElse Rf N Lf → OrElse Rg N Lg → f ≡ g
or_one f g same notf notg later (inl a) (inl b) = same a b
or_one f g same notf notg later (inl a) (inr b) = absurd (notf a b.0)
or_one f g same notf notg later (inr a) (inl b) = absurd (notg b a.0)
or_one f g same notf notg later (inr a) (inr b) = later a.1 b.1

or_not : {R N L : Type 0} → (R → N → ⊥) → (L → ⊥) → N → OrElse R N L → ⊥
or_not stops later n (inl r) = stops r n
or_not stops later n (inr l) = later l.1

module _ (p : Program) where
  names_not : (f : CheckFault) → RefusedNames p f → PassesNames p → ⊥
  names_not f r n =
      or_not (not_both TwiceAt (declarations p) f)
      (or_not (not_both (UnknownAt (kinds_in p)) (uses_of p) f)
      (or_not (not_both (WrongKindAt (kinds_in p)) (uses_of p) f) (λ a. not_both ArityAt (uses_of p) f a n.calls) n.kinds) n.known)
      n.once r

  sizes_not : (f : CheckFault) → RefusedSizes p f → PassesSizes p → ⊥
  sizes_not f r n = or_not (not_both (BadLengthAt (names_of p).defines) (p.before ++ p.after) f) (λ a. not_both (TooManyAt (names_of p)) counted f a n.few) n.lengths r

  indexes_not : (f : CheckFault) → RefusedIndexes p f → PassesIndexes p → ⊥
  indexes_not f r n =
      or_not (not_both (IndexDiffersAt (names_of p).arrays) (accesses p) f)
      (λ a. n.still a.front a.at a.back a.is a.amiss.0 a.amiss.1.0) n.same r

  pub not_refused : (f : CheckFault) → Passes p → Refused p f → ⊥
  not_refused f n r = or_not (names_not f) (or_not (sizes_not f) (λ a. indexes_not f a n.indexes) n.sizes) n.names r

  one_names : (f g : CheckFault) → RefusedNames p f → RefusedNames p g → f ≡ g
  one_names f g =
      or_one f g (one_first TwiceAt one_twice (declarations p) f g) (not_both TwiceAt (declarations p) f) (not_both TwiceAt (declarations p) g)
      (or_one f g (one_first (UnknownAt (kinds_in p)) (λ before x f g a b. a.1 ∙ sym b.1) (uses_of p) f g) (not_both (UnknownAt (kinds_in p)) (uses_of p) f) (not_both (UnknownAt (kinds_in p)) (uses_of p) g)
      (or_one f g (one_first (WrongKindAt (kinds_in p)) (λ before x f g a b. a.1 ∙ sym b.1) (uses_of p) f g) (not_both (WrongKindAt (kinds_in p)) (uses_of p) f) (not_both (WrongKindAt (kinds_in p)) (uses_of p) g)
      (one_first ArityAt (λ before x f g a b. a.1 ∙ sym b.1) (uses_of p) f g)))

  one_sizes : (f g : CheckFault) → RefusedSizes p f → RefusedSizes p g → f ≡ g
  one_sizes f g =
      let Lengths = BadLengthAt (names_of p).defines in
      or_one f g (one_first Lengths (one_length (names_of p).defines) (p.before ++ p.after) f g) (not_both Lengths (p.before ++ p.after) f) (not_both Lengths (p.before ++ p.after) g)
      (one_first (TooManyAt (names_of p)) (λ before x f g a b. a.1 ∙ sym b.1) counted f g)

  one_indexes : (f g : CheckFault) → RefusedIndexes p f → RefusedIndexes p g → f ≡ g
  one_indexes f g =
      let Differs = IndexDiffersAt (names_of p).arrays in
      let Moves = IndexMovesAt (names_of p).arrays (program_indexes p) in
      or_one f g (one_first Differs (λ before x f g a b. a.1 ∙ sym b.1) (accesses p) f g) (not_both Differs (accesses p) f) (not_both Differs (accesses p) g)
      (one_first Moves (one_move (names_of p).arrays (program_indexes p)) (program_sites p) f g)

  pub one_refusal : (f g : CheckFault) → Refused p f → Refused p g → f ≡ g
  one_refusal f g = or_one f g (one_names f g) (names_not f) (names_not g) (or_one f g (one_sizes f g) (sizes_not f) (sizes_not g) (one_indexes f g))

-- ---- both ways

abbrev is_memory : CheckFault → Bool
is_memory fault.NoMemory = true
is_memory f = false

memory_only : (f : CheckFault) → (f ≢ fault.NoMemory → ⊥) → f ≡ fault.NoMemory
memory_only (fault.Twice n) h = absurd (h (λ e. true≢false (sym (ap is_memory e))))
memory_only (fault.Unknown n) h = absurd (h (λ e. true≢false (sym (ap is_memory e))))
memory_only (fault.WrongKind n) h = absurd (h (λ e. true≢false (sym (ap is_memory e))))
memory_only (fault.Arity n) h = absurd (h (λ e. true≢false (sym (ap is_memory e))))
memory_only (fault.BadLength n z) h = absurd (h (λ e. true≢false (sym (ap is_memory e))))
memory_only (fault.TooMany w n) h = absurd (h (λ e. true≢false (sym (ap is_memory e))))
memory_only (fault.IndexDiffers n) h = absurd (h (λ e. true≢false (sym (ap is_memory e))))
memory_only (fault.IndexMoves n) h = absurd (h (λ e. true≢false (sym (ap is_memory e))))
memory_only fault.NoMemory h = refl

-- a program that passes is accepted, unless memory ran out
pub accepted : {T : Type 0} (p : Program) (r : Result T CheckFault) → IfErr r (λ f. f ≢ fault.NoMemory → Refused p f) → Passes p → IfErr r (λ f. f ≡ fault.NoMemory)
accepted p r h passes = IfErr-weaker r _ _ (λ f k. memory_only f (λ n. not_refused p f passes (k n))) h

-- a program that a fault refuses is refused by it, unless memory ran out
pub refused_by : {T : Type 0} (p : Program) (r : Result T CheckFault) → OnOk r (Passes p) → IfErr r (λ f. f ≢ fault.NoMemory → Refused p f) → (f : CheckFault) → Refused p f → IsErrAnd r (λ g. g ≢ fault.NoMemory → g ≡ f)
refused_by p (Ok x) passes refuses f h = absurd (not_refused p f passes h)
refused_by p (Err g) passes refuses f h = λ n. one_refusal p g f (refuses n) h
