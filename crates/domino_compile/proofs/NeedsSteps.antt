-- What the steps of lines take: a later copy is made of a value that is assigned, under a guard, from an older copy.
use Rattle.std.proofs.Common.{◌≡◌, ℕ, zero, suc, ◌+◌, ◌-◌, ◌<◌, inl, inr, ◌⊎◌, List, [], ◌∷◌, ◌++◌, length, map, get_or, slice_set, Option, None, Some, refl, sym, ap, subst, ◌∙◌, append-nil, length-append, length-set, arith}
use Rattle.std.specs.List.{fold}
use Rattle.std.proofs.lemmas.List.{get_or_append_left, get_or-set_same}
use Rattle.mp5_words.specs.Domain.{sources}
use Rattle.mp5_words.specs.Copies.{Copy}
use Rattle.code_forms.specs.declared.guard.ArrayShape.{ArrayShape}
use Rattle.code_forms.specs.declared.guard.GuardExpr.{GuardExpr}
use Rattle.code_forms.specs.declared.guard.GuardLine.{GuardLine}
use Rattle.code_forms.specs.declared.guard.GuardLine.TheVariants as line
use Rattle.code_forms.specs.declared.flat.Operand.{Operand}
use Rattle.code_forms.specs.declared.flat.Operand.TheVariants as operand
use Rattle.code_forms.specs.declared.flat.Instr.{Instr}
use Rattle.code_forms.specs.declared.flat.Instr.TheVariants as instr
use Rattle.code_forms.specs.FlatMeaning.{Step, plain_step}
use Rattle.code_forms.specs.GuardMeaning.{index_at}
use Rattle.code_forms.specs.GuardValid.{arrays_in, line_arrays}
use Rattle.code_forms.proofs.EachLemmas.{Each, each_join}
use Rattle.code_forms.proofs.GuardTrees
use Rattle.flat_graph.specs.Nodes.{array_of}
use Rattle.ssa_flatten.specs.Flattening.{Latest, Code, Emits, Sofar, operand_at, copy_operand, latest_operand, latest_in, in_turn, flat, flat_index, touch_new, touch_array, assigning, rewritten, flat_done, flat_line, flat_lines}
use Rattle.ssa_flatten.proofs.FlatExprs.{flat_gives, flat-Number, flat-Field, flat-Cell, flat-One, flat-Two, flat-Pick, flat-Hash}
use Rattle.ssa_flatten.proofs.Sound.{each_at, set_any}
use Rattle.ssa_flatten.proofs.StepsLemmas.{length_plain}

-- ---- the instructions of an expression load and store nothing

abbrev Quiet : Instr → Type 0
Quiet (instr.Load a) = ⊥
Quiet (instr.Store a x) = ⊥
Quiet (instr.One op x) = Unit {0}
Quiet (instr.Two op x y) = Unit {0}
Quiet (instr.Pick c x y) = Unit {0}
Quiet (instr.Hash kind x y z) = Unit {0}
Quiet (instr.Move x) = Unit {0}
Quiet (instr.Yes g c) = Unit {0}
Quiet (instr.No g c) = Unit {0}
Quiet (instr.Index a x) = Unit {0}

abbrev AllQuiet : Emits → Type 0
AllQuiet emits = (latest : Latest) (at : ℕ) → Each Quiet (emits latest at).instrs

args_quiet : (args : List GuardExpr) → Each (λ e. AllQuiet (flat e)) args → (latest : Latest) (at : ℕ) → Each Quiet (in_turn (map flat args) latest at).instrs
args_quiet [] held latest at = tt
args_quiet (e ∷ args) held latest at = each_join Quiet _ _ (held.0 latest at) (args_quiet args held.1 latest _)

flat_quiet : (e : GuardExpr) → AllQuiet (flat e)
flat_quiet = GuardTrees.guard_induct (λ e. AllQuiet (flat e))
    (λ n. subst AllQuiet (sym (flat-Number n)) (λ latest at. tt))
    (λ f. subst AllQuiet (sym (flat-Field f)) (λ latest at. tt))
    (λ a. subst AllQuiet (sym (flat-Cell a)) (λ latest at. tt))
    (λ op a h. subst AllQuiet (sym (flat-One op a)) (λ latest at. each_join Quiet _ _ (h latest at) (tt, tt)))
    (λ op a b h k. subst AllQuiet (sym (flat-Two op a b)) (λ latest at. each_join Quiet _ _ (each_join Quiet _ _ (h latest at) (k latest _)) (tt, tt)))
    (λ c a b l h k. subst AllQuiet (sym (flat-Pick c a b)) (λ latest at. each_join Quiet _ _ (each_join Quiet _ _ (l latest at) (each_join Quiet _ _ (h latest _) (k latest _))) (tt, tt)))
    (λ kind args held. subst AllQuiet (sym (flat-Hash kind args)) (λ latest at. each_join Quiet _ _ (args_quiet args held latest at) (tt, tt)))

index_quiet : (index : Option GuardExpr) → AllQuiet (flat_index index)
index_quiet None latest at = tt
index_quiet (Some e) latest at = flat_quiet e latest at

ends : (e : GuardExpr) (latest : Latest) (base : ℕ) → (flat e latest base).next ≡ base + length (flat e latest base).instrs
ends e latest base = (flat_gives (List ℕ) sources (λ a. 0) e latest base).ends

index_ends : (index : Option GuardExpr) (latest : Latest) (base : ℕ) → (flat_index index latest base).next ≡ base + length (flat_index index latest base).instrs
index_ends None latest base = omega arith
index_ends (Some e) latest base = ends e latest base

-- ---- lists

-- an operand stands in the list
abbrev pub Among : Operand → List Operand → Type 0
Among x [] = ⊥
Among x (y ∷ ys) = (x ≡ y) ⊎ Among x ys

among_front : (x : Operand) (xs ys : List Operand) → Among x xs → Among x (xs ++ ys)
among_front x [] ys m = elim m [ ]
among_front x (y ∷ xs) ys (inl e) = inl e
among_front x (y ∷ xs) ys (inr m) = inr (among_front x xs ys m)

among_last : (x : Operand) (xs : List Operand) → Among x (xs ++ x ∷ [])
among_last x [] = inl refl
among_last x (y ∷ xs) = inr (among_last x xs)

among_cases : (x y : Operand) (xs : List Operand) → Among x (xs ++ y ∷ []) → Among x xs ⊎ (x ≡ y)
among_cases x y [] (inl e) = inr e
among_cases x y [] (inr m) = elim m [ ]
among_cases x y (z ∷ xs) (inl e) = inl (inl e)
among_cases x y (z ∷ xs) (inr m) = elim (among_cases x y xs m) [ inl l ↦ inl (inr l) | inr r ↦ inr r ]

-- an item behind others
at_behind : {X : Type 0} (xs ys : List X) (n j : ℕ) (d : X) → n ≡ length xs + j → get_or (xs ++ ys) n d ≡ get_or ys j d
at_behind [] ys n j d e = ap (λ k. get_or ys k d) (omega (arith, e))
at_behind (x ∷ xs) ys zero j d e = absurd (omega (arith, e))
at_behind (x ∷ xs) ys (suc n) j d e = at_behind xs ys n j d (omega (arith, e))

pub at_both : {X : Type 0} (P : X → Type 0) (d : X) (xs ys : List X) → ((i : ℕ) → i < length xs → P (get_or xs i d)) → Each P ys → (i : ℕ) → i < length (xs ++ ys) → P (get_or (xs ++ ys) i d)
at_both P d [] ys first all i less = each_at P d ys i less all
at_both P d (x ∷ xs) ys first all zero less = first 0 (omega arith)
at_both P d (x ∷ xs) ys first all (suc i) less = at_both P d xs ys (λ j l. first (suc j) (omega (arith, l))) all i (omega (arith, less))

abbrev pub no_step : Step
no_step = plain_step (instr.Load 0)

-- ---- what is kept of the code so far

module _ (fields : ℕ) where
  -- the operand is the slot of a step of the array
  abbrev pub OfArray : List Step → ℕ → Operand → Type 0
  OfArray steps a x = (i : ℕ) × (i < length steps) × (x ≡ operand.Slot (fields + i)) × (array_of (get_or steps i no_step) ≡ Some a)

  -- the instruction makes a copy of the operand
  abbrev pub Takes : Instr → Operand → Type 0
  Takes (instr.Move v) x = x ≡ v
  Takes (instr.Pick c v old) x = x ≡ v
  Takes (instr.Load a) x = ⊥
  Takes (instr.Store a y) x = ⊥
  Takes (instr.One op y) x = ⊥
  Takes (instr.Two op y z) x = ⊥
  Takes (instr.Hash kind y z w) x = ⊥
  Takes (instr.Yes g c) x = ⊥
  Takes (instr.No g c) x = ⊥
  Takes (instr.Index a y) x = ⊥

  -- a later copy of the array is made of the operand
  abbrev pub StoredBy : List Step → ℕ → Operand → Type 0
  StoredBy steps a x = (i : ℕ) × (i < length steps) × ((get_or steps i no_step).copy ≡ Some a) × Takes (get_or steps i no_step).instr x

  -- what is known of an array in operands comes from its steps
  pub record KnownBy (steps : List Step) (a : ℕ) (c : Copy Operand) : Type 0 where
    pub latest : OfArray steps a c.latest
    pub stored : (x : Operand) → Among x c.stored → StoredBy steps a x

  -- what an instruction that makes a later copy takes
  abbrev pub CopyFine : List Step → Copy Operand → ℕ → Instr → Type 0
  CopyFine steps c a (instr.Move v) = Among v c.stored
  CopyFine steps c a (instr.Pick g v old) = Among g c.under × (Among v c.stored × OfArray steps a old)
  CopyFine steps c a (instr.Load b) = ⊥
  CopyFine steps c a (instr.Store b y) = ⊥
  CopyFine steps c a (instr.One op y) = ⊥
  CopyFine steps c a (instr.Two op y z) = ⊥
  CopyFine steps c a (instr.Hash kind y z w) = ⊥
  CopyFine steps c a (instr.Yes g y) = ⊥
  CopyFine steps c a (instr.No g y) = ⊥
  CopyFine steps c a (instr.Index b y) = ⊥

  -- an array that is loaded is known, and nothing is stored yet
  abbrev pub PlainFine : List (Option (Copy Operand)) → Instr → Type 0
  PlainFine cs (instr.Load a) = (c : Copy Operand) × (get_or cs a None ≡ Some c)
  PlainFine cs (instr.Store a x) = ⊥
  PlainFine cs (instr.Move v) = Unit {0}
  PlainFine cs (instr.Pick g v old) = Unit {0}
  PlainFine cs (instr.One op y) = Unit {0}
  PlainFine cs (instr.Two op y z) = Unit {0}
  PlainFine cs (instr.Hash kind y z w) = Unit {0}
  PlainFine cs (instr.Yes g y) = Unit {0}
  PlainFine cs (instr.No g y) = Unit {0}
  PlainFine cs (instr.Index b y) = Unit {0}

  abbrev pub StepFine : List Step → List (Option (Copy Operand)) → Option ℕ → Instr → Type 0
  StepFine steps cs None i = PlainFine cs i
  StepFine steps cs (Some a) i = (c : Copy Operand) × (get_or cs a None ≡ Some c) × CopyFine steps c a i

  pub record Owned (arrays : ℕ) (s : Sofar) : Type 0 where
    pub next : s.next ≡ fields + length s.steps
    pub many : length s.copies ≡ arrays
    pub steps : (i : ℕ) → i < length s.steps → StepFine s.steps s.copies (get_or s.steps i no_step).copy (get_or s.steps i no_step).instr
    pub known : (a : ℕ) (c : Copy Operand) → get_or s.copies a None ≡ Some c → KnownBy s.steps a c

  -- ---- more steps, and more known

  pub record Wider (c d : Copy Operand) : Type 0 where
    pub under : (x : Operand) → Among x c.under → Among x d.under
    pub stored : (x : Operand) → Among x c.stored → Among x d.stored

  abbrev pub Grows : List (Option (Copy Operand)) → List (Option (Copy Operand)) → Type 0
  Grows cs ds = (a : ℕ) (c : Copy Operand) → get_or cs a None ≡ Some c → (d : Copy Operand) × (get_or ds a None ≡ Some d) × Wider c d

  as_wide : (c : Copy Operand) → Wider c c
  as_wide c = record { under = λ x m. m; stored = λ x m. m }

  grows_set : (cs : List (Option (Copy Operand))) (a : ℕ) (n : Copy Operand) → ((c : Copy Operand) → get_or cs a None ≡ Some c → Wider c n) → Grows cs (slice_set cs a (Some n))
  grows_set cs a n wider b = set_any (λ b o. (c : Copy Operand) → get_or cs b None ≡ Some c → (d : Copy Operand) × (o ≡ Some d) × Wider c d) None cs a (Some n) (λ b c e. (c, e, as_wide c)) (λ c e. (n, refl, wider c e)) b

  of_more : (steps more : List Step) (a : ℕ) (x : Operand) → OfArray steps a x → OfArray (steps ++ more) a x
  of_more steps more a x h = (h.0, omega (arith, h.1, length-append steps more), h.2, ap array_of (get_or_append_left steps more no_step h.0 h.1) ∙ h.3)

  stored_more : (steps more : List Step) (a : ℕ) (x : Operand) → StoredBy steps a x → StoredBy (steps ++ more) a x
  stored_more steps more a x h = (
    h.0,
    omega (arith, h.1, length-append steps more),
    ap (λ (s : Step). s.copy) (get_or_append_left steps more no_step h.0 h.1) ∙ h.2,
    subst (λ (s : Step). Takes s.instr x) (sym (get_or_append_left steps more no_step h.0 h.1)) h.3,
  )

  pub known_more : (steps more : List Step) (a : ℕ) (c : Copy Operand) → KnownBy steps a c → KnownBy (steps ++ more) a c
  known_more steps more a c h = record { latest = of_more steps more a c.latest h.latest; stored = λ x m. stored_more steps more a x (h.stored x m) }

  copy_more : (steps more : List Step) (c d : Copy Operand) (a : ℕ) (i : Instr) → Wider c d → CopyFine steps c a i → CopyFine (steps ++ more) d a i
  copy_more steps more c d a (instr.Move v) w h = w.stored v h
  copy_more steps more c d a (instr.Pick g v old) w h = (w.under g h.0, (w.stored v h.1.0, of_more steps more a old h.1.1))
  copy_more steps more c d a (instr.Load b) w h = elim h [ ]
  copy_more steps more c d a (instr.Store b y) w h = elim h [ ]
  copy_more steps more c d a (instr.One op y) w h = elim h [ ]
  copy_more steps more c d a (instr.Two op y z) w h = elim h [ ]
  copy_more steps more c d a (instr.Hash kind y z u) w h = elim h [ ]
  copy_more steps more c d a (instr.Yes g y) w h = elim h [ ]
  copy_more steps more c d a (instr.No g y) w h = elim h [ ]
  copy_more steps more c d a (instr.Index b y) w h = elim h [ ]

  plain_more : (cs ds : List (Option (Copy Operand))) (i : Instr) → Grows cs ds → PlainFine cs i → PlainFine ds i
  plain_more cs ds (instr.Load a) w h = let r = w a h.0 h.1 in (r.0, r.1)
  plain_more cs ds (instr.Store b y) w h = elim h [ ]
  plain_more cs ds (instr.Move v) w h = tt
  plain_more cs ds (instr.Pick g v old) w h = tt
  plain_more cs ds (instr.One op y) w h = tt
  plain_more cs ds (instr.Two op y z) w h = tt
  plain_more cs ds (instr.Hash kind y z u) w h = tt
  plain_more cs ds (instr.Yes g y) w h = tt
  plain_more cs ds (instr.No g y) w h = tt
  plain_more cs ds (instr.Index b y) w h = tt

  pub fine_more : (steps more : List Step) (cs ds : List (Option (Copy Operand))) (o : Option ℕ) (i : Instr) → Grows cs ds → StepFine steps cs o i → StepFine (steps ++ more) ds o i
  fine_more steps more cs ds None i w h = plain_more cs ds i w h
  fine_more steps more cs ds (Some a) i w h = let r = w a h.0 h.1 in (r.0, r.1, copy_more steps more h.0 r.0 a i r.2 h.2)

  quiet_fine : (steps : List Step) (cs : List (Option (Copy Operand))) (xs : List Instr) → Each Quiet xs → Each (λ (s : Step). StepFine steps cs s.copy s.instr) (map plain_step xs)
  quiet_fine steps cs [] all = tt
  quiet_fine steps cs (x ∷ xs) all = (one x all.0, quiet_fine steps cs xs all.1) where
    one : (i : Instr) → Quiet i → PlainFine cs i
    one (instr.Load a) q = elim q [ ]
    one (instr.Store a y) q = elim q [ ]
    one (instr.Move v) q = tt
    one (instr.Pick g v old) q = tt
    one (instr.One op y) q = tt
    one (instr.Two op y z) q = tt
    one (instr.Hash kind y z u) q = tt
    one (instr.Yes g y) q = tt
    one (instr.No g y) q = tt
    one (instr.Index b y) q = tt

  -- steps come behind, of quiet instructions first
  module _ (arrays : ℕ) (s : Sofar) (h : Owned arrays s) (xs : List Instr) (quiet : Each Quiet xs) (last : List Step) where
    abbrev all : List Step
    all = s.steps ++ (map plain_step xs ++ last)

    all_long : length all ≡ length s.steps + (length xs + length last)
    all_long = omega (arith, length-append s.steps (map plain_step xs ++ last), length-append (map plain_step xs) last, length_plain xs)

    -- one of the last steps
    last_at : (j n : ℕ) → n ≡ length s.steps + (length xs + j) → get_or all n no_step ≡ get_or last j no_step
    last_at j n e =
        at_behind s.steps (map plain_step xs ++ last) n (length xs + j) no_step e
        ∙ at_behind (map plain_step xs) last (length xs + j) j no_step (omega (arith, length_plain xs))

    all_fine : (ds : List (Option (Copy Operand))) → Grows s.copies ds → Each (λ (t : Step). StepFine all ds t.copy t.instr) last → (i : ℕ) → i < length all → StepFine all ds (get_or all i no_step).copy (get_or all i no_step).instr
    all_fine ds grows fine =
        at_both (λ (t : Step). StepFine all ds t.copy t.instr) no_step s.steps (map plain_step xs ++ last)
        (λ i less. fine_more s.steps (map plain_step xs ++ last) s.copies ds _ _ grows (h.steps i less))
        (each_join (λ (t : Step). StepFine all ds t.copy t.instr) (map plain_step xs) last (quiet_fine all ds xs quiet) fine)

    -- one array is known anew
    known_set : (a : ℕ) (n : Copy Operand) → KnownBy all a n → (b : ℕ) (c : Copy Operand) → get_or (slice_set s.copies a (Some n)) b None ≡ Some c → KnownBy all b c
    known_set a n new b = set_any (λ b o. (c : Copy Operand) → o ≡ Some c → KnownBy all b c) None s.copies a (Some n)
        (λ b c e. known_more s.steps (map plain_step xs ++ last) b c (h.known b c e))
        (λ c e. subst (KnownBy all a) (some_is e) new) b where
          some_is : {c : Copy Operand} → Some n ≡ Some c → n ≡ c
          some_is e = cc

  -- ---- an array is touched

  pub record TouchedBy (arrays : ℕ) (s t : Sofar) : Type 0 where
    pub owned : Owned arrays t
    pub guards : t.guards ≡ s.guards
    pub grows : Grows s.copies t.copies

  abbrev UnderIn : Sofar → ℕ → Operand → Type 0
  UnderIn s a x = (c : Copy Operand) × (get_or s.copies a None ≡ Some c) × Among x c.under

  module _ (shapes : List ArrayShape) (arrays : ℕ) where
    touch_owned : (s : Sofar) (x : Operand) (a : ℕ) → a < arrays → Owned arrays s → TouchedBy arrays s (touch_array shapes x s a) × UnderIn (touch_array shapes x s a) a x
    touch_owned s x a there h = by_copy (get_or s.copies a None) refl where
      within : a < length s.copies
      within = omega (arith, there, h.many)

      by_copy : (o : Option (Copy Operand)) → get_or s.copies a None ≡ o → TouchedBy arrays s (touch_new shapes x s a o) × UnderIn (touch_new shapes x s a o) a x
      by_copy (Some c) is =
          let n : Copy Operand = record { index = c.index; latest = c.latest; under = c.under ++ x ∷ []; stored = c.stored } in
          let grows : Grows s.copies (slice_set s.copies a (Some n)) = grows_set s.copies a n (λ d e. subst (λ d. Wider d n) (some_is (sym is ∙ e)) (record { under = λ y m. among_front y c.under (x ∷ []) m; stored = λ y m. m })) in (
            record {
              owned = record {
                next = h.next;
                many = length-set s.copies a (Some n) ∙ h.many;
                steps = λ i less. still s.steps s.copies (slice_set s.copies a (Some n)) _ _ grows (h.steps i less);
                known = λ b. set_any (λ b o. (d : Copy Operand) → o ≡ Some d → KnownBy s.steps b d) None s.copies a (Some n) h.known
                    (λ d e. subst (KnownBy s.steps a) (some_is e) (let k = h.known a c is in record { latest = k.latest; stored = k.stored })) b;
              };
              guards = refl;
              grows = grows;
            },
            (n, get_or-set_same s.copies a (Some n) None within, among_last x c.under),
          ) where
            some_is : {c d : Copy Operand} → Some c ≡ Some d → c ≡ d
            some_is e = cc

            still : (steps : List Step) (cs ds : List (Option (Copy Operand))) (o : Option ℕ) (i : Instr) → Grows cs ds → StepFine steps cs o i → StepFine steps ds o i
            still steps cs ds o i w f = subst (λ l. StepFine l ds o i) (append-nil steps) (fine_more steps [] cs ds o i w f)
      by_copy None is =
          let code : Code = flat_index (index_at shapes a) (latest_in s) s.next in
          let last : List Step = plain_step (instr.Index a code.result) ∷ plain_step (instr.Load a) ∷ [] in
          let quiet : Each Quiet code.instrs = index_quiet (index_at shapes a) (latest_in s) s.next in
          let long = index_ends (index_at shapes a) (latest_in s) s.next in
          let n : Copy Operand = record { index = code.result; latest = operand.Slot (suc code.next); under = x ∷ []; stored = [] } in
          let steps : List Step = s.steps ++ (map plain_step code.instrs ++ last) in
          let many : length steps ≡ length s.steps + (length code.instrs + 2) = all_long arrays s h code.instrs quiet last in
          let grows : Grows s.copies (slice_set s.copies a (Some n)) = grows_set s.copies a n (λ d e. absurd (no_way (sym is ∙ e))) in
          let at_a : get_or (slice_set s.copies a (Some n)) a None ≡ Some n = get_or-set_same s.copies a (Some n) None within in
          let place : suc code.next ≡ fields + (length s.steps + (length code.instrs + 1)) = omega (arith, long, h.next) in
          let new : KnownBy steps a n = record {
            latest = (
              length s.steps + (length code.instrs + 1),
              omega (arith, many),
              ap operand.Slot place,
              ap array_of (last_at arrays s h code.instrs quiet last 1 (length s.steps + (length code.instrs + 1)) refl),
            );
            stored = λ y m. elim m [ ];
          } in (
            record {
              owned = record {
                next = omega (arith, long, h.next, many);
                many = length-set s.copies a (Some n) ∙ h.many;
                steps = all_fine arrays s h code.instrs quiet last (slice_set s.copies a (Some n)) grows (tt, ((n, at_a), tt));
                known = known_set arrays s h code.instrs quiet last a n new;
              };
              guards = refl;
              grows = grows;
            },
            (n, at_a, inl refl),
          ) where
            no_way : {d : Copy Operand} → None ≡ Some d → ⊥
            no_way e = cc

    both_grow : (cs ds es : List (Option (Copy Operand))) → Grows cs ds → Grows ds es → Grows cs es
    both_grow cs ds es one two a c e =
        let r = one a c e in
        let t = two a r.0 r.1 in
        (t.0, t.1, record { under = λ x m. t.2.under x (r.2.under x m); stored = λ x m. t.2.stored x (r.2.stored x m) })

    touches_owned : (bs : List ℕ) (s : Sofar) (x : Operand) → Each (λ a. a < arrays) bs → Owned arrays s → TouchedBy arrays s (fold (touch_array shapes x) s bs)
    touches_owned [] s x there h = record { owned = h; guards = refl; grows = λ a c e. (c, e, as_wide c) }
    touches_owned (b ∷ bs) s x there h =
        let one = (touch_owned s x b there.0 h).0 in
        let rest = touches_owned bs (touch_array shapes x s b) x there.1 one.owned in
        record { owned = rest.owned; guards = rest.guards ∙ one.guards; grows = both_grow s.copies _ _ one.grows rest.grows }

    -- ---- a line whose arrays are touched

    -- an assignment's last instruction
    assign_owner : (k a : ℕ) (guard value old : Operand) → array_of (record { instr = assigning k guard value old; copy = Some a }) ≡ Some a
    assign_owner zero a guard value old = refl
    assign_owner (suc k) a guard value old = refl

    assign_takes : (k : ℕ) (guard value old : Operand) → Takes (assigning k guard value old) value
    assign_takes zero guard value old = refl
    assign_takes (suc k) guard value old = refl

    assign_fine : (steps : List Step) (c : Copy Operand) (a k : ℕ) (guard value old : Operand) → Among guard c.under → Among value c.stored → OfArray steps a old → CopyFine steps c a (assigning k guard value old)
    assign_fine steps c a zero guard value old one two three = two
    assign_fine steps c a (suc k) guard value old one two three = (one, (two, three))

    assign_plain : (cs : List (Option (Copy Operand))) (k : ℕ) (guard value old : Operand) → PlainFine cs (assigning k guard value old)
    assign_plain cs zero guard value old = tt
    assign_plain cs (suc k) guard value old = tt

    -- the guard of a line stands among those of the array that it assigns
    abbrev Ready : GuardLine → Sofar → Type 0
    Ready (line.SetCell a k value) s = UnderIn s a (operand_at s.guards k)
    Ready (line.SetField f k value) s = Unit {0}
    Ready (line.Test cond under first second) s = Unit {0}

    same_grows : (cs : List (Option (Copy Operand))) → Grows cs cs
    same_grows cs a c e = (c, e, as_wide c)

    done_owned : (l : GuardLine) (s : Sofar) → Each (λ a. a < arrays) (line_arrays l) → Ready l s → Owned arrays s → Owned arrays (flat_done fields l s)
    done_owned (line.Test cond under first second) s there ready h =
        let code : Code = flat cond (latest_in s) s.next in
        let guard : Operand = operand_at s.guards under in
        let last : List Step = plain_step (instr.Yes guard code.result) ∷ plain_step (instr.No guard code.result) ∷ [] in
        let quiet : Each Quiet code.instrs = flat_quiet cond (latest_in s) s.next in
        record {
          next = omega (arith, ends cond (latest_in s) s.next, h.next, all_long arrays s h code.instrs quiet last);
          many = h.many;
          steps = all_fine arrays s h code.instrs quiet last s.copies (same_grows s.copies) (tt, (tt, tt));
          known = λ a c e. known_more s.steps (map plain_step code.instrs ++ last) a c (h.known a c e);
        }
    done_owned (line.SetField f k value) s there ready h =
        let code : Code = flat value (latest_in s) s.next in
        let last : List Step = plain_step (assigning k (operand_at s.guards k) code.result (operand_at s.fields f)) ∷ [] in
        let quiet : Each Quiet code.instrs = flat_quiet value (latest_in s) s.next in
        record {
          next = omega (arith, ends value (latest_in s) s.next, h.next, all_long arrays s h code.instrs quiet last);
          many = h.many;
          steps = all_fine arrays s h code.instrs quiet last s.copies (same_grows s.copies) (assign_plain s.copies k (operand_at s.guards k) code.result (operand_at s.fields f), tt);
          known = λ a c e. known_more s.steps (map plain_step code.instrs ++ last) a c (h.known a c e);
        }
    done_owned (line.SetCell a k value) s there ready h = subst After (sym ready.1) (by_copy ready.0 ready.1 ready.2) where
      code : Code
      code = flat value (latest_in s) s.next

      guard : Operand
      guard = operand_at s.guards k

      After : Option (Copy Operand) → Type 0
      After o = Owned arrays (record s {
        steps = s.steps ++ (map plain_step code.instrs ++ record { instr = assigning k guard code.result (copy_operand (latest_operand o)); copy = Some a } ∷ []);
        next = suc code.next;
        copies = slice_set s.copies a (rewritten (operand.Slot code.next) code.result o);
        later = slice_set s.later a (get_or s.later a [] ++ (code.next - fields) ∷ []);
      })

      by_copy : (c : Copy Operand) → get_or s.copies a None ≡ Some c → Among guard c.under → After (Some c)
      by_copy c is on =
          let last : List Step = record { instr = assigning k guard code.result c.latest; copy = Some a } ∷ [] in
          let quiet : Each Quiet code.instrs = flat_quiet value (latest_in s) s.next in
          let long = ends value (latest_in s) s.next in
          let steps : List Step = s.steps ++ (map plain_step code.instrs ++ last) in
          let many : length steps ≡ length s.steps + (length code.instrs + 1) = all_long arrays s h code.instrs quiet last in
          let n : Copy Operand = record { index = c.index; latest = operand.Slot code.next; under = c.under; stored = c.stored ++ code.result ∷ [] } in
          let grows : Grows s.copies (slice_set s.copies a (Some n)) = grows_set s.copies a n (λ d e. subst (λ d. Wider d n) (some_is (sym is ∙ e)) (record { under = λ y m. m; stored = λ y m. among_front y c.stored (code.result ∷ []) m })) in
          let at_a : get_or (slice_set s.copies a (Some n)) a None ≡ Some n = get_or-set_same s.copies a (Some n) None (omega (arith, there.0, h.many)) in
          let place : ℕ = length s.steps + (length code.instrs + 0) in
          let here : get_or steps place no_step ≡ record { instr = assigning k guard code.result c.latest; copy = Some a } = last_at arrays s h code.instrs quiet last 0 place refl in
          let slot : code.next ≡ fields + place = omega (arith, long, h.next) in
          let inside : place < length steps = omega (arith, many) in
          let old : KnownBy steps a c = known_more s.steps (map plain_step code.instrs ++ last) a c (h.known a c is) in
          let new : KnownBy steps a n = record {
            latest = (place, inside, ap operand.Slot slot, ap array_of here ∙ assign_owner k a guard code.result c.latest);
            stored = λ y m. elim (among_cases y code.result c.stored m) [
              | inl l ↦ old.stored y l
              | inr e ↦ (
                place,
                inside,
                ap (λ (t : Step). t.copy) here,
                subst (λ (t : Step). Takes t.instr y) (sym here) (subst (Takes (assigning k guard code.result c.latest)) (sym e) (assign_takes k guard code.result c.latest)),
              )
            ];
          } in
          record {
            next = omega (arith, long, h.next, many);
            many = length-set s.copies a (Some n) ∙ h.many;
            steps = all_fine arrays s h code.instrs quiet last (slice_set s.copies a (Some n)) grows ((n, at_a, assign_fine steps n a k guard code.result c.latest on (among_last code.result c.stored) old.latest), tt);
            known = known_set arrays s h code.instrs quiet last a n new;
          } where
            some_is : {c d : Copy Operand} → Some c ≡ Some d → c ≡ d
            some_is e = cc

    -- ---- lines

    line_owned : (l : GuardLine) (s : Sofar) → Each (λ a. a < arrays) (line_arrays l) → Owned arrays s → Owned arrays (flat_line fields shapes s l)
    line_owned (line.Test cond under first second) s there h = done_owned (line.Test cond under first second) _ there tt (touches_owned (arrays_in cond) s _ there h).owned
    line_owned (line.SetField f k value) s there h = done_owned (line.SetField f k value) _ there tt (touches_owned (arrays_in value) s _ there h).owned
    line_owned (line.SetCell a k value) s there h =
        let x : Operand = operand_at s.guards k in
        let one = touch_owned s x a there.0 h in
        let rest = touches_owned (arrays_in value) (touch_array shapes x s a) x there.1 one.0.owned in
        let wide = rest.grows a one.1.0 one.1.1 in
        let same : x ≡ operand_at (fold (touch_array shapes x) s (a ∷ arrays_in value)).guards k = ap (λ gs. operand_at gs k) (sym (rest.guards ∙ one.0.guards)) in
        done_owned (line.SetCell a k value) _ there (wide.0, wide.1, subst (λ y. Among y wide.0.under) same (wide.2.under x one.1.2)) rest.owned

    pub lines_owned : (lines : List GuardLine) (s : Sofar) → Each (λ l. Each (λ a. a < arrays) (line_arrays l)) lines → Owned arrays s → Owned arrays (flat_lines fields shapes lines s)
    lines_owned [] s there h = h
    lines_owned (l ∷ lines) s there h = lines_owned lines (flat_line fields shapes s l) there.1 (line_owned l s there.0 h)
