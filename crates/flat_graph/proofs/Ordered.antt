-- The nodes of valid code: uses are there, and those of an instruction of no array are earlier.
use Rattle.std.proofs.Common.{◌≡◌, ℕ, zero, suc, ◌+◌, ◌-◌, ◌<◌, ◌≤◌, ◌==◌, if◌then◌else◌, inl, inr, ◌⊎◌, Bool, true, false, nat_lt, nat_le, pos, All, List, [], ◌∷◌, ◌++◌, length, map, flat_map, take, get_or, Option, Some, None, refl, sym, ap, subst, ◌∙◌, arith}
use Rattle.std.specs.List.{list_all, list_any}
use Rattle.std.proofs.lemmas.List.{length-map, length-replicate, length-take-le}
use Rattle.std.proofs.lemmas.Bool.Decides.{eqb_tells, nat_tests}
use Rattle.code_forms.specs.declared.flat.FlatArray.{FlatArray}
use Rattle.code_forms.specs.declared.flat.Operand.{Operand}
use Rattle.code_forms.specs.declared.flat.Operand.TheVariants as operand
use Rattle.code_forms.specs.declared.flat.Instr.{Instr}
use Rattle.code_forms.specs.declared.flat.Instr.TheVariants as instr
use Rattle.code_forms.specs.FlatMeaning.{Step, index_slot, copy_in, steps_in, steps_of}
use Rattle.code_forms.specs.FlatValid.{Written, at, header_slots, is_written, is_guard, third_fits, instr_fits, instrs_fit, after, after_all, Event, Indexes, Loads, Stores, events, is_life, is_some, makes_copy, instr_at, is_copy, array_fits, arrays_fit, is_limited, cells_in, is_flat_code}
use Rattle.code_forms.proofs.ValidLemmas.{and_front, and_back}
use Rattle.code_forms.proofs.FitLemmas.{after_length, same_length}
use Rattle.dependence.specs.Uses.{Member, Node, node_at}
use Rattle.flat_graph.specs.Nodes.{writer, guards_of, taken_by, index_used, used_by, owner, node_of, nodes_in}
use Rattle.flat_graph.specs.Orders.{IsOrdered, HasArray, HaveArrays, AreWithin, copies_in}

-- ---- lists

member_cases : (x : ℕ) (xs ys : List ℕ) → Member x (xs ++ ys) → Member x xs ⊎ Member x ys
member_cases x [] ys m = inr m
member_cases x (y ∷ xs) ys (inl e) = inl (inl e)
member_cases x (y ∷ xs) ys (inr m) = elim (member_cases x xs ys m) [ inl l ↦ inl (inr l) | inr r ↦ inr r ]

-- a place that is marked is within
within : (l : List Bool) (k : ℕ) → at l k ≡ true → k < length l
within [] k e = absurd cc
within (b ∷ l) zero e = omega arith
within (b ∷ l) (suc k) e = omega (arith, within l k e)

-- ---- what an instruction takes is written before

-- the operand is a number or a slot below
abbrev Below : ℕ → Operand → Type 0
Below n (operand.Slot k) = k < n
Below n (operand.Number z) = Unit {0}

abbrev AllBelow : ℕ → List Operand → Type 0
AllBelow n [] = Unit {0}
AllBelow n (x ∷ xs) = Below n x × AllBelow n xs

written_below : (w : Written) (x : Operand) → is_written w x ≡ true → Below (length w.words) x
written_below w (operand.Slot k) e = within w.words k e
written_below w (operand.Number n) e = tt

guard_below : (w : Written) (x : Operand) → is_guard w x ≡ true → Below (length w.guards) x
guard_below w (operand.Slot k) e = within w.guards k e
guard_below w (operand.Number n) e = tt

-- the instruction that writes a slot below is earlier
writer_below : (fields n : ℕ) (x : Operand) (j : ℕ) → Below (fields + n) x → Member j (writer fields x) → j < n
writer_below fields n (operand.Slot k) j below m = go (nat_lt k fields) refl m where
  go : (b : Bool) → nat_lt k fields ≡ b → Member j (if b then [] else (k - fields) ∷ []) → j < n
  go true e m = elim m [ ]
  go false e (inl same) = let le : fields ≤ k = grind (arith, nat_tests, e) in omega (arith, same, below, le)
  go false e (inr m) = elim m [ ]
writer_below fields n (operand.Number z) j below m = elim m [ ]

writers_below : (fields n : ℕ) (xs : List Operand) (j : ℕ) → AllBelow (fields + n) xs → Member j (flat_map (writer fields) xs) → j < n
writers_below fields n [] j below m = elim m [ ]
writers_below fields n (x ∷ xs) j below m = elim (member_cases j (writer fields x) (flat_map (writer fields) xs) m) [
  | inl l ↦ writer_below fields n x j below.0 l
  | inr r ↦ writers_below fields n xs j below.1 r
]

below_more : (m n : ℕ) (xs : List Operand) → m ≤ n → AllBelow m xs → AllBelow n xs
below_more m n [] le below = tt
below_more m n (operand.Slot k ∷ xs) le below = (omega (arith, below.0), below_more m n xs le below.1)
below_more m n (operand.Number z ∷ xs) le below = (tt, below_more m n xs le below.1)

-- the operands alone
own_below : (n : ℕ) (w : Written) (i : Instr) → length w.guards ≡ length w.words → instr_fits n w i ≡ true → AllBelow (length w.words) (taken_by [] i)
own_below n w (instr.One op a) same e = (written_below w a e, tt)
own_below n w (instr.Two op a b) same e = (written_below w a (and_front (is_written w a) _ e), (written_below w b (and_back (is_written w a) _ e), tt))
own_below n w (instr.Pick c a b) same e =
    let both = and_back (is_written w c) _ e in
    (written_below w c (and_front (is_written w c) _ e), (written_below w a (and_front (is_written w a) _ both), (written_below w b (and_back (is_written w a) _ both), tt)))
own_below n w (instr.Hash kind a b c) same e =
    let all = and_back (third_fits kind c) _ e in
    let both = and_back (is_written w a) _ all in
    (written_below w a (and_front (is_written w a) _ all), (written_below w b (and_front (is_written w b) _ both), (written_below w c (and_back (is_written w b) _ both), tt)))
own_below n w (instr.Move a) same e = (written_below w a e, tt)
own_below n w (instr.Yes guard c) same e = (subst (λ m. Below m guard) same (guard_below w guard (and_front (is_guard w guard) _ e)), (written_below w c (and_back (is_guard w guard) _ e), tt))
own_below n w (instr.No guard c) same e = (subst (λ m. Below m guard) same (guard_below w guard (and_front (is_guard w guard) _ e)), (written_below w c (and_back (is_guard w guard) _ e), tt))
own_below n w (instr.Index array a) same e = (written_below w a (and_back (nat_lt array n) _ e), tt)
own_below n w (instr.Load array) same e = tt
own_below n w (instr.Store array a) same e = (written_below w a (and_back (nat_lt array n) _ e), tt)

-- the operands, and the guards of a Store
all_below : (m : ℕ) (arrays : List FlatArray) (i : Instr) → ((a : ℕ) → AllBelow m (guards_of arrays a)) → AllBelow m (taken_by [] i) → AllBelow m (taken_by arrays i)
all_below m arrays (instr.One op a) guards below = below
all_below m arrays (instr.Two op a b) guards below = below
all_below m arrays (instr.Pick c a b) guards below = below
all_below m arrays (instr.Hash kind a b c) guards below = below
all_below m arrays (instr.Move a) guards below = below
all_below m arrays (instr.Yes guard c) guards below = below
all_below m arrays (instr.No guard c) guards below = below
all_below m arrays (instr.Index array a) guards below = below
all_below m arrays (instr.Load array) guards below = below
all_below m arrays (instr.Store array a) guards below = (below.0, guards array)

-- an instruction of no array takes its operands alone, and no Index
record Plain (arrays : List FlatArray) (instrs : List Instr) (i : Instr) : Type 0 where
  taken : taken_by arrays i ≡ taken_by [] i
  index : index_used instrs i ≡ []

plain : (arrays : List FlatArray) (instrs : List Instr) (i : Instr) (copy : Option ℕ) → owner i copy ≡ None → Plain arrays instrs i
plain arrays instrs (instr.One op a) copy e = record { taken = refl; index = refl }
plain arrays instrs (instr.Two op a b) copy e = record { taken = refl; index = refl }
plain arrays instrs (instr.Pick c a b) copy e = record { taken = refl; index = refl }
plain arrays instrs (instr.Hash kind a b c) copy e = record { taken = refl; index = refl }
plain arrays instrs (instr.Move a) copy e = record { taken = refl; index = refl }
plain arrays instrs (instr.Yes guard c) copy e = record { taken = refl; index = refl }
plain arrays instrs (instr.No guard c) copy e = record { taken = refl; index = refl }
plain arrays instrs (instr.Index array a) copy e = record { taken = refl; index = refl }
plain arrays instrs (instr.Load array) copy e = absurd cc
plain arrays instrs (instr.Store array a) copy e = absurd cc

-- ---- instructions and arrays one after another

fits_at : (n : ℕ) (w : Written) (instrs : List Instr) (i : ℕ) → i < length instrs → instrs_fit n w instrs ≡ true → instr_fits n (after_all w (take i instrs)) (instr_at instrs i) ≡ true
fits_at n w [] i less e = absurd (omega arith)
fits_at n w (x ∷ xs) zero less e = and_front (instr_fits n w x) _ e
fits_at n w (x ∷ xs) (suc i) less e = fits_at n (after w x) xs i (omega (arith, less)) (and_back (instr_fits n w x) _ e)

has_array : (n : ℕ) (w : Written) (i : Instr) → instr_fits n w i ≡ true → HasArray n i
has_array n w (instr.One op a) e = tt
has_array n w (instr.Two op a b) e = tt
has_array n w (instr.Pick c a b) e = tt
has_array n w (instr.Hash kind a b c) e = tt
has_array n w (instr.Move a) e = tt
has_array n w (instr.Yes guard c) e = tt
has_array n w (instr.No guard c) e = tt
has_array n w (instr.Index array a) e = let f = and_front (nat_lt array n) _ e in grind (arith, nat_tests, f)
has_array n w (instr.Load array) e = grind (arith, nat_tests, e)
has_array n w (instr.Store array a) e = let f = and_front (nat_lt array n) _ e in grind (arith, nat_tests, f)

abbrev no_array : FlatArray
no_array = record { length = 0; start = pos 0; same = 0; touched = []; copies = [] }

-- one of the arrays that fit
array_at : (instrs : List Instr) (w : Written) (k : ℕ) (arrays : List FlatArray) (a : ℕ) (d : FlatArray) → a < length arrays → arrays_fit instrs w k arrays ≡ true → array_fits instrs w (k + a) (get_or arrays a d) ≡ true
array_at instrs w k [] a d less e = absurd (omega arith)
array_at instrs w k (f ∷ arrays) zero d less e = subst (λ n. array_fits instrs w n f ≡ true) (omega arith) (and_front (array_fits instrs w k f) _ e)
array_at instrs w k (f ∷ arrays) (suc a) d less e = subst (λ n. array_fits instrs w n (get_or arrays a d) ≡ true) (omega arith) (array_at instrs w (suc k) arrays a d (omega (arith, less)) (and_back (array_fits instrs w k f) _ e))

record Fits (instrs : List Instr) (w : Written) (a : ℕ) (f : FlatArray) : Type 0 where
  life : is_life (is_some f.touched) (events a instrs) ≡ true
  guards : list_all (is_guard w) f.touched ≡ true
  copies : list_all (is_copy a instrs) f.copies ≡ true

fits : (instrs : List Instr) (w : Written) (a : ℕ) (f : FlatArray) → array_fits instrs w a f ≡ true → Fits instrs w a f
fits instrs w a f e =
    let later = and_back (nat_le f.length 65536) _ (and_back (nat_lt 0 f.length) _ e) in
    let behind = and_back (is_life (is_some f.touched) (events a instrs)) _ later in
    let last = and_back (list_all (is_guard w) f.touched) _ behind in
    record {
      life = and_front (is_life (is_some f.touched) (events a instrs)) _ later;
      guards = and_front (list_all (is_guard w) f.touched) _ behind;
      copies = and_front (list_all (is_copy a instrs) f.copies) _ last;
    }

guards_below : (w : Written) (xs : List Operand) → list_all (is_guard w) xs ≡ true → AllBelow (length w.guards) xs
guards_below w [] e = tt
guards_below w (x ∷ xs) e = (guard_below w x (and_front (is_guard w x) _ e), guards_below w xs (and_back (is_guard w x) _ e))

array_guards : (instrs : List Instr) (w : Written) (k : ℕ) (arrays : List FlatArray) → arrays_fit instrs w k arrays ≡ true → (a : ℕ) → AllBelow (length w.guards) (guards_of arrays a)
array_guards instrs w k [] e a = tt
array_guards instrs w k (f ∷ arrays) e zero = guards_below w f.touched (fits instrs w k f (and_front (array_fits instrs w k f) _ e)).guards
array_guards instrs w k (f ∷ arrays) e (suc a) = array_guards instrs w (suc k) arrays (and_back (array_fits instrs w k f) _ e) a

-- a copy is an instruction that is there
copy_there : (array : ℕ) (instrs : List Instr) (k : ℕ) → is_copy array instrs k ≡ true → k < length instrs
copy_there array instrs k e = go instrs k (and_front (makes_copy (instr_at instrs k)) _ e) where
  go : (instrs : List Instr) (k : ℕ) → makes_copy (instr_at instrs k) ≡ true → k < length instrs
  go [] k e = absurd cc
  go (x ∷ xs) zero e = omega arith
  go (x ∷ xs) (suc k) e = omega (arith, go xs k e)

copies_there : (array : ℕ) (instrs : List Instr) (ks : List ℕ) → list_all (is_copy array instrs) ks ≡ true → All (λ k. k < length instrs) ks
copies_there array instrs [] e k d less = absurd (omega arith)
copies_there array instrs (x ∷ ks) e zero d less = copy_there array instrs x (and_front (is_copy array instrs x) _ e)
copies_there array instrs (x ∷ ks) e (suc k) d less = copies_there array instrs ks (and_back (is_copy array instrs x) _ e) k d (omega (arith, less))

array_copies : (instrs : List Instr) (w : Written) (k : ℕ) (arrays : List FlatArray) → arrays_fit instrs w k arrays ≡ true → AreWithin (length instrs) arrays
array_copies instrs w k [] e a less = absurd (omega arith)
array_copies instrs w k (f ∷ arrays) e zero less = copies_there k instrs f.copies (fits instrs w k f (and_front (array_fits instrs w k f) _ e)).copies
array_copies instrs w k (f ∷ arrays) e (suc a) less = array_copies instrs w (suc k) arrays (and_back (array_fits instrs w k f) _ e) a (omega (arith, less))

-- ---- the Index of an array comes first

-- nothing happens, or the Index first
abbrev Starts : List Event → Type 0
Starts [] = Unit {0}
Starts (Indexes ∷ es) = Unit {0}
Starts (Loads ∷ es) = ⊥
Starts (Stores ∷ es) = ⊥

starts : (touched : Bool) (es : List Event) → is_life touched es ≡ true → Starts es
starts touched [] e = tt
starts touched (Indexes ∷ es) e = tt
starts true (Loads ∷ es) e = absurd cc
starts true (Stores ∷ es) e = absurd cc
starts false (Loads ∷ es) e = absurd cc
starts false (Stores ∷ es) e = absurd cc

-- the instruction loads or stores the array
abbrev IsOf : ℕ → Instr → Type 0
IsOf a (instr.Load b) = b ≡ a
IsOf a (instr.Store b x) = b ≡ a
IsOf a (instr.One op x) = ⊥
IsOf a (instr.Two op x y) = ⊥
IsOf a (instr.Pick c x y) = ⊥
IsOf a (instr.Hash kind x y z) = ⊥
IsOf a (instr.Move x) = ⊥
IsOf a (instr.Yes guard c) = ⊥
IsOf a (instr.No guard c) = ⊥
IsOf a (instr.Index b x) = ⊥

-- what begins with something else than the Index doesn't happen to the array
other : (a b : ℕ) (e : Event) (es : List Event) → (Starts (e ∷ []) → ⊥) → Starts ((if b == a then e ∷ [] else []) ++ es) → (b ≡ a → ⊥) × Starts es
other a b e es not s = elim (eqb_tells b a) [
  | inl t ↦ absurd (not (first e (subst (λ (z : Bool). Starts ((if z then e ∷ [] else []) ++ es)) t.0 s)))
  | inr t ↦ (t.1, subst (λ (z : Bool). Starts ((if z then e ∷ [] else []) ++ es)) t.0 s)
] where
  first : (e : Event) → Starts (e ∷ es) → Starts (e ∷ [])
  first Indexes s = tt
  first Loads s = s
  first Stores s = s

index_first : (a n : ℕ) (instrs : List Instr) (i : ℕ) → Starts (events a instrs) → i < length instrs → IsOf a (instr_at instrs i) → index_slot instrs n a < n + i
index_first a n [] i s less of = absurd (omega arith)
index_first a n (instr.Index b x ∷ xs) zero s less of = elim of [ ]
index_first a n (instr.Index b x ∷ xs) (suc i) s less of = elim (eqb_tells b a) [
  | inl t ↦ subst (λ (z : Bool). (if z then n else index_slot xs (suc n) a) < n + suc i) (sym t.0) (omega arith)
  | inr t ↦ subst (λ (z : Bool). (if z then n else index_slot xs (suc n) a) < n + suc i) (sym t.0)
      (omega (arith, index_first a (suc n) xs i (subst (λ (z : Bool). Starts ((if z then Indexes ∷ [] else []) ++ events a xs)) t.0 s) (omega (arith, less)) of))
]
index_first a n (instr.Load b ∷ xs) zero s less of = absurd ((other a b Loads (events a xs) (λ h. h) s).0 of)
index_first a n (instr.Load b ∷ xs) (suc i) s less of = omega (arith, index_first a (suc n) xs i (other a b Loads (events a xs) (λ h. h) s).1 (omega (arith, less)) of)
index_first a n (instr.Store b x ∷ xs) zero s less of = absurd ((other a b Stores (events a xs) (λ h. h) s).0 of)
index_first a n (instr.Store b x ∷ xs) (suc i) s less of = omega (arith, index_first a (suc n) xs i (other a b Stores (events a xs) (λ h. h) s).1 (omega (arith, less)) of)
index_first a n (instr.One op x ∷ xs) zero s less of = elim of [ ]
index_first a n (instr.One op x ∷ xs) (suc i) s less of = omega (arith, index_first a (suc n) xs i s (omega (arith, less)) of)
index_first a n (instr.Two op x y ∷ xs) zero s less of = elim of [ ]
index_first a n (instr.Two op x y ∷ xs) (suc i) s less of = omega (arith, index_first a (suc n) xs i s (omega (arith, less)) of)
index_first a n (instr.Pick c x y ∷ xs) zero s less of = elim of [ ]
index_first a n (instr.Pick c x y ∷ xs) (suc i) s less of = omega (arith, index_first a (suc n) xs i s (omega (arith, less)) of)
index_first a n (instr.Hash kind x y z ∷ xs) zero s less of = elim of [ ]
index_first a n (instr.Hash kind x y z ∷ xs) (suc i) s less of = omega (arith, index_first a (suc n) xs i s (omega (arith, less)) of)
index_first a n (instr.Move x ∷ xs) zero s less of = elim of [ ]
index_first a n (instr.Move x ∷ xs) (suc i) s less of = omega (arith, index_first a (suc n) xs i s (omega (arith, less)) of)
index_first a n (instr.Yes guard c ∷ xs) zero s less of = elim of [ ]
index_first a n (instr.Yes guard c ∷ xs) (suc i) s less of = omega (arith, index_first a (suc n) xs i s (omega (arith, less)) of)
index_first a n (instr.No guard c ∷ xs) zero s less of = elim of [ ]
index_first a n (instr.No guard c ∷ xs) (suc i) s less of = omega (arith, index_first a (suc n) xs i s (omega (arith, less)) of)

-- the Index that an instruction uses is earlier
index_earlier : (arrays : ℕ) (instrs : List Instr) (i j : ℕ) → ((a : ℕ) → a < arrays → Starts (events a instrs)) → i < length instrs → (x : Instr) → instr_at instrs i ≡ x → HasArray arrays x → Member j (index_used instrs x) → j < i
index_earlier arrays instrs i j begins less (instr.Load a) is has (inl e) = let h = index_first a 0 instrs i (begins a has) less (subst (IsOf a) (sym is) refl) in omega (arith, h, e)
index_earlier arrays instrs i j begins less (instr.Load a) is has (inr m) = elim m [ ]
index_earlier arrays instrs i j begins less (instr.Store a x) is has (inl e) = let h = index_first a 0 instrs i (begins a has) less (subst (IsOf a) (sym is) refl) in omega (arith, h, e)
index_earlier arrays instrs i j begins less (instr.Store a x) is has (inr m) = elim m [ ]
index_earlier arrays instrs i j begins less (instr.One op x) is has m = elim m [ ]
index_earlier arrays instrs i j begins less (instr.Two op x y) is has m = elim m [ ]
index_earlier arrays instrs i j begins less (instr.Pick c x y) is has m = elim m [ ]
index_earlier arrays instrs i j begins less (instr.Hash kind x y z) is has m = elim m [ ]
index_earlier arrays instrs i j begins less (instr.Move x) is has m = elim m [ ]
index_earlier arrays instrs i j begins less (instr.Yes guard c) is has m = elim m [ ]
index_earlier arrays instrs i j begins less (instr.No guard c) is has m = elim m [ ]
index_earlier arrays instrs i j begins less (instr.Index b x) is has m = elim m [ ]

-- ---- nodes

step_length : (later : List (List ℕ)) (k : ℕ) (instrs : List Instr) → length (steps_in later k instrs) ≡ length instrs
step_length later k [] = refl
step_length later k (i ∷ instrs) = ap suc (step_length later (suc k) instrs)

pub node_length : (fields : ℕ) (arrays : List FlatArray) (instrs : List Instr) → length (nodes_in fields arrays instrs) ≡ length instrs
node_length fields arrays instrs = length-map (steps_of arrays instrs) (node_of fields arrays instrs) ∙ step_length (copies_in arrays) 0 instrs

-- the step of an instruction
abbrev pub step_at : List FlatArray → List Instr → ℕ → Step
step_at arrays instrs i = record { instr = instr_at instrs i; copy = copy_in (copies_in arrays) 0 i }

pub node_there : (fields : ℕ) (arrays : List FlatArray) (instrs : List Instr) (i : ℕ) → i < length instrs → node_at (nodes_in fields arrays instrs) i ≡ node_of fields arrays instrs (step_at arrays instrs i)
node_there fields arrays instrs i less = let e : 0 + i ≡ i = omega arith in go 0 instrs i less ∙ ap (λ n. node_of fields arrays instrs (record { instr = instr_at instrs i; copy = copy_in (copies_in arrays) 0 n })) e where
  go : (k : ℕ) (is : List Instr) (i : ℕ) → i < length is → node_at (map (node_of fields arrays instrs) (steps_in (copies_in arrays) k is)) i ≡ node_of fields arrays instrs (record { instr = instr_at is i; copy = copy_in (copies_in arrays) 0 (k + i) })
  go k [] i less = absurd (omega arith)
  go k (x ∷ is) zero less = let e : k ≡ k + 0 = omega arith in ap (λ n. node_of fields arrays instrs (record { instr = x; copy = copy_in (copies_in arrays) 0 n })) e
  go k (x ∷ is) (suc i) less = let e : suc k + i ≡ k + suc i = omega arith in go (suc k) is i (omega (arith, less)) ∙ ap (λ n. node_of fields arrays instrs (record { instr = instr_at is i; copy = copy_in (copies_in arrays) 0 n })) e

copy_below : (later : List (List ℕ)) (from k a : ℕ) → copy_in later from k ≡ Some a → a < from + length later
copy_below [] from k a e = absurd cc
copy_below (l ∷ later) from k a e = go (list_any (λ n. k == n) l) e (λ f. copy_below later (suc from) k a f) where
  go : (b : Bool) → (if b then Some from else copy_in later (suc from) k) ≡ Some a → (copy_in later (suc from) k ≡ Some a → a < suc from + length later) → a < from + length (l ∷ later)
  go true e next = let same : from ≡ a = cc in omega (arith, same)
  go false e next = let less = next e in omega (arith, less)

owned : (arrays : List FlatArray) (i : Instr) (copy : Option ℕ) (a : ℕ) → HasArray (length arrays) i → ((b : ℕ) → copy ≡ Some b → b < length arrays) → owner i copy ≡ Some a → a < length arrays
owned arrays (instr.Load b) copy a has below e = let same : b ≡ a = cc in omega (arith, has, same)
owned arrays (instr.Store b x) copy a has below e = let same : b ≡ a = cc in omega (arith, has, same)
owned arrays (instr.One op x) copy a has below e = below a e
owned arrays (instr.Two op x y) copy a has below e = below a e
owned arrays (instr.Pick c x y) copy a has below e = below a e
owned arrays (instr.Hash kind x y z) copy a has below e = below a e
owned arrays (instr.Move x) copy a has below e = below a e
owned arrays (instr.Yes guard c) copy a has below e = below a e
owned arrays (instr.No guard c) copy a has below e = below a e
owned arrays (instr.Index b x) copy a has below e = below a e

-- ---- valid code

module _ (fields : ℕ) (arrays : List FlatArray) (instrs : List Instr) (last : List Operand) (valid : is_flat_code fields arrays instrs last ≡ true) where
  pub few_arrays : length arrays ≤ 16
  few_arrays =
      let limits = and_front (is_limited fields arrays instrs) _ valid in
      let e = and_front (nat_le (length arrays) 16) _ (and_back (nat_le fields 32) _ limits) in
      grind (arith, nat_tests, e)

  pub few_instrs : length instrs ≤ 1024
  few_instrs =
      let limits = and_front (is_limited fields arrays instrs) _ valid in
      let e = and_back (nat_le (cells_in arrays) 262144) _ (and_back (nat_le (length arrays) 16) _ (and_back (nat_le fields 32) _ limits)) in
      grind (arith, nat_tests, e)

  all_fit : instrs_fit (length arrays) (header_slots fields) instrs ≡ true
  all_fit = and_front (instrs_fit (length arrays) (header_slots fields) instrs) _ (and_back (is_limited fields arrays instrs) _ valid)

  arrays_are : arrays_fit instrs (after_all (header_slots fields) instrs) 0 arrays ≡ true
  arrays_are = and_front (arrays_fit instrs (after_all (header_slots fields) instrs) 0 arrays) _ (and_back (instrs_fit (length arrays) (header_slots fields) instrs) _ (and_back (is_limited fields arrays instrs) _ valid))

  same_marks : (is : List Instr) → length (after_all (header_slots fields) is).guards ≡ length (after_all (header_slots fields) is).words
  same_marks is = same_length (header_slots fields) is (length-replicate fields false ∙ sym (length-replicate fields true))

  words_long : (is : List Instr) → length (after_all (header_slots fields) is).words ≡ fields + length is
  words_long is = after_length (header_slots fields) is ∙ ap (λ n. n + length is) (length-replicate fields true)

  fits_there : (i : ℕ) → i < length instrs → instr_fits (length arrays) (after_all (header_slots fields) (take i instrs)) (instr_at instrs i) ≡ true
  fits_there i less = fits_at (length arrays) (header_slots fields) instrs i less all_fit

  pub have_arrays : HaveArrays (length arrays) instrs
  have_arrays i less = has_array (length arrays) (after_all (header_slots fields) (take i instrs)) (instr_at instrs i) (fits_there i less)

  pub copies_within : AreWithin (length instrs) arrays
  copies_within = array_copies instrs (after_all (header_slots fields) instrs) 0 arrays arrays_are

  begins : (a : ℕ) → a < length arrays → Starts (events a instrs)
  begins a less =
      let f = fits instrs (after_all (header_slots fields) instrs) (0 + a) (get_or arrays a no_array) (array_at instrs (after_all (header_slots fields) instrs) 0 arrays a no_array less arrays_are) in
      let e : 0 + a ≡ a = omega arith in
      subst (λ n. Starts (events n instrs)) e (starts (is_some (get_or arrays a no_array).touched) (events (0 + a) instrs) f.life)

  -- the operands of an instruction are written before
  taken_before : (i : ℕ) → i < length instrs → AllBelow (fields + i) (taken_by [] (instr_at instrs i))
  taken_before i less =
      let long : length (after_all (header_slots fields) (take i instrs)).words ≡ fields + i = words_long (take i instrs) ∙ ap (λ n. fields + n) (length-take-le i instrs (omega (arith, less))) in
      subst (λ n. AllBelow n (taken_by [] (instr_at instrs i))) long
      (own_below (length arrays) (after_all (header_slots fields) (take i instrs)) (instr_at instrs i) (same_marks (take i instrs)) (fits_there i less))

  -- and all that it takes is written somewhere
  taken_there : (i : ℕ) → i < length instrs → AllBelow (fields + length instrs) (taken_by arrays (instr_at instrs i))
  taken_there i less =
      all_below (fields + length instrs) arrays (instr_at instrs i)
      (λ a. subst (λ n. AllBelow n (guards_of arrays a)) (same_marks instrs ∙ words_long instrs) (array_guards instrs (after_all (header_slots fields) instrs) 0 arrays arrays_are a))
      (below_more (fields + i) (fields + length instrs) (taken_by [] (instr_at instrs i)) (omega (arith, less)) (taken_before i less))

  index_before : (i j : ℕ) → i < length instrs → Member j (index_used instrs (instr_at instrs i)) → j < i
  index_before i j less m = index_earlier (length arrays) instrs i j begins less (instr_at instrs i) refl (have_arrays i less) m

  -- the instruction of a node
  there_of : (i : ℕ) → i < length (nodes_in fields arrays instrs) → i < length instrs
  there_of i less = subst (λ n. i < n) (node_length fields arrays instrs) less

  -- the uses of a node
  uses_are : (i j : ℕ) → i < length instrs → Member j (node_at (nodes_in fields arrays instrs) i).uses → Member j (used_by fields arrays instrs (instr_at instrs i))
  uses_are i j less m = subst (λ (n : Node). Member j n.uses) (node_there fields arrays instrs i less) m

  array_is : (i : ℕ) (o : Option ℕ) → i < length instrs → (node_at (nodes_in fields arrays instrs) i).array ≡ o → owner (instr_at instrs i) (copy_in (copies_in arrays) 0 i) ≡ o
  array_is i o less e = ap (λ (n : Node). n.array) (sym (node_there fields arrays instrs i less)) ∙ e

  -- the nodes of valid code are in order
  pub ordered : IsOrdered (nodes_in fields arrays instrs)
  ordered = record {
    arrays = λ i a less e.
        let few = few_arrays in
        let below = owned arrays (instr_at instrs i) (copy_in (copies_in arrays) 0 i) a (have_arrays i (there_of i less))
        (λ b f. let h = copy_below (copies_in arrays) 0 i b f in let long : length (copies_in arrays) ≡ length arrays = length-map arrays (λ (f : FlatArray). f.copies) in omega (arith, h, long))
        (array_is i (Some a) (there_of i less) e) in
        omega (arith, few, below);
    there = λ i j less m.
        let inside = there_of i less in
        let long = node_length fields arrays instrs in
        elim (member_cases j (index_used instrs (instr_at instrs i)) (flat_map (writer fields) (taken_by arrays (instr_at instrs i))) (uses_are i j inside m)) [
          | inl l ↦ let h = index_before i j inside l in omega (arith, h, less)
          | inr r ↦ let h = writers_below fields (length instrs) (taken_by arrays (instr_at instrs i)) j (taken_there i inside) r in omega (arith, h, long)
        ];
    earlier = λ i j less e m.
        let inside = there_of i less in
        let p = plain arrays instrs (instr_at instrs i) (copy_in (copies_in arrays) 0 i) (array_is i None inside e) in
        elim (member_cases j (index_used instrs (instr_at instrs i)) (flat_map (writer fields) (taken_by arrays (instr_at instrs i))) (uses_are i j inside m)) [
          | inl l ↦ elim (subst (Member j) p.index l) [ ]
          | inr r ↦ writers_below fields i (taken_by [] (instr_at instrs i)) j (taken_before i inside) (subst (λ xs. Member j (flat_map (writer fields) xs)) p.taken r)
        ];
  }
