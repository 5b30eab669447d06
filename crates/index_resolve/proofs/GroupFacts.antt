-- The groups of a layout as groups of staged code: their arrays, and where their cells are read and written.
use Rattle.std.proofs.Common.{◌≡◌, inl, inr, ℕ, zero, suc, ◌+◌, ◌<◌, ◌≤◌, nat_lt, nat_le, ◌==◌, ◌&&◌, ◌||◌, if◌then◌else◌, Bool, true, false, List, [], ◌∷◌, ◌++◌, length, map, take, get_or, Option, None, Some, refl, sym, ap, subst, ◌∙◌, arith}
use Rattle.std.specs.List.{list_any, list_all}
use Rattle.std.proofs.lemmas.Bool.Decides.{nat_tests}
use Rattle.code_forms.specs.declared.flat.FlatArray.{FlatArray}
use Rattle.code_forms.specs.declared.flat.Instr.{Instr}
use Rattle.code_forms.specs.declared.flat.Instr.TheVariants as instr
use Rattle.code_forms.specs.declared.parts.StagedGroup.{StagedGroup}
use Rattle.code_forms.specs.FlatMeaning.{copy_in}
use Rattle.code_forms.specs.FlatValid.{Written, Event, Indexes, Loads, Stores, arrays_fit, array_fits, is_guard, is_life, is_loaded, is_copy, makes_copy, is_some, is_touched, events, event_of, instr_at, ascends}
use Rattle.code_forms.specs.Staged.{Member, stored_operand, group_from}
use Rattle.code_forms.proofs.ValidLemmas.{and_front, and_back, and_both}
use Rattle.dependence.specs.Groups.{group_of}
use Rattle.flat_graph.specs.Layouts.{is_of}
use Rattle.flat_graph.specs.Orders.{copies_in}
use Rattle.index_resolve.specs.Groups.{marked}
use Rattle.index_resolve.proofs.OrderPlaces.{same_of, is_same}

-- ---- the arrays of a set

pub is_marked : (a n : ℕ) (marks : List Bool) → Member a (marked n marks) → (k : ℕ) × (a ≡ n + k) × (k < length marks) × (get_or marks k false ≡ true)
is_marked a n [] m = elim m [ ]
is_marked a n (true ∷ marks) (inl e) = (0, omega (arith, e), omega arith, refl)
is_marked a n (true ∷ marks) (inr m) = let r = is_marked a (suc n) marks m in let is : a ≡ suc n + r.0 = r.1 in (suc r.0, omega (arith, is), omega (arith, r.2), r.3)
is_marked a n (false ∷ marks) m = let r = is_marked a (suc n) marks m in let is : a ≡ suc n + r.0 = r.1 in (suc r.0, omega (arith, is), omega (arith, r.2), r.3)

pub marks_it : (n k : ℕ) (marks : List Bool) → get_or marks k false ≡ true → Member (n + k) (marked n marks)
marks_it n k [] e = absurd cc
marks_it n zero (true ∷ marks) e = inl (omega arith)
marks_it n zero (false ∷ marks) e = absurd cc
marks_it n (suc k) (true ∷ marks) e = inr (subst (λ m. Member m (marked (suc n) marks)) (shift n k) (marks_it (suc n) k marks e)) where
  shift : (n k : ℕ) → suc n + k ≡ n + suc k
  shift n k = omega arith
marks_it n (suc k) (false ∷ marks) e = subst (λ m. Member m (marked (suc n) marks)) (shift n k) (marks_it (suc n) k marks e) where
  shift : (n k : ℕ) → suc n + k ≡ n + suc k
  shift n k = omega arith

le_true : (a b : ℕ) → a ≤ b → nat_le a b ≡ true
le_true a b le = grind (arith, nat_tests)

pub marks_rise : (m n : ℕ) (marks : List Bool) → m ≤ n → ascends m (marked n marks) ≡ true
marks_rise m n [] le = refl
marks_rise m n (true ∷ marks) le = and_both (nat_le m n) _ (le_true m n le) (marks_rise (suc n) (suc n) marks (omega arith))
marks_rise m n (false ∷ marks) le = marks_rise m (suc n) marks (omega (arith, le))

mark_is : (g : ℕ) (of : List (Option ℕ)) (a : ℕ) → get_or (map (is_of g) of) a false ≡ is_of g (group_of of a)
mark_is g [] a = refl
mark_is g (o ∷ of) zero = refl
mark_is g (o ∷ of) (suc a) = mark_is g of a

of_group : (g : ℕ) (o : Option ℕ) → is_of g o ≡ true → o ≡ Some g
of_group g None e = absurd cc
of_group g (Some h) e = ap Some (sym (same_of g h e))

-- an array is in the set of its group alone
pub set_group : (g : ℕ) (of : List (Option ℕ)) (a : ℕ) → Member a (marked 0 (map (is_of g) of)) → group_of of a ≡ Some g
set_group g of a m =
    let r = is_marked a 0 (map (is_of g) of) m in
    let is : a ≡ 0 + r.0 = r.1 in
    of_group g (group_of of a) (sym (mark_is g of a) ∙ ap (λ k. get_or (map (is_of g) of) k false) (omega (arith, is)) ∙ r.3)

pub group_set : (g : ℕ) (of : List (Option ℕ)) (a : ℕ) → group_of of a ≡ Some g → Member a (marked 0 (map (is_of g) of))
group_set g of a e =
    subst (λ n. Member n (marked 0 (map (is_of g) of))) (omega arith)
    (marks_it 0 a (map (is_of g) of) (mark_is g of a ∙ ap (is_of g) e ∙ is_same g g refl))

-- ---- the first group of an array

pub any_member : (a : ℕ) (xs : List ℕ) → list_any (λ b. b == a) xs ≡ true → Member a xs
any_member a [] e = absurd cc
any_member a (x ∷ xs) e = by (x == a) refl e (any_member a xs) where
  by : (b : Bool) → (x == a) ≡ b → (b || list_any (λ y. y == a) xs) ≡ true → (list_any (λ y. y == a) xs ≡ true → Member a xs) → Member a (x ∷ xs)
  by true is e next = inl (sym (same_of x a is))
  by false is e next = inr (next e)

member_any : (a : ℕ) (xs : List ℕ) → Member a xs → list_any (λ b. b == a) xs ≡ true
member_any a [] m = elim m [ ]
member_any a (x ∷ xs) (inl e) = ap (λ b. b || list_any (λ y. y == a) xs) (is_same x a (sym e))
member_any a (x ∷ xs) (inr m) = by (x == a) (member_any a xs m) where
  by : (b : Bool) → list_any (λ y. y == a) xs ≡ true → (b || list_any (λ y. y == a) xs) ≡ true
  by true e = refl
  by false e = e

abbrev pub no_one : StagedGroup
no_one = record { arrays = []; sharded = false; depth = 0 }

pub first_group : (gs : List StagedGroup) (n k a : ℕ) → k < length gs → Member a (get_or gs k no_one).arrays → ((l : ℕ) → l < length gs → Member a (get_or gs l no_one).arrays → l ≡ k)
    → group_from gs n a ≡ Some (n + k)
first_group [] n k a less m alone = absurd (omega (arith, less))
first_group (h ∷ gs) n zero a less m alone = ap (λ b. if b then Some n else group_from gs (suc n) a) (member_any a h.arrays m) ∙ ap Some (omega arith)
first_group (h ∷ gs) n (suc k) a less m alone =
    by (list_any (λ b. b == a) h.arrays) refl (first_group gs (suc n) k a (omega (arith, less)) m (λ l w n. let same : suc l ≡ suc k = alone (suc l) (omega (arith, w)) n in omega (arith, same))) where
      by : (b : Bool) → list_any (λ b. b == a) h.arrays ≡ b → group_from gs (suc n) a ≡ Some (suc n + k) → (if b then Some n else group_from gs (suc n) a) ≡ Some (n + suc k)
      by true e next = let same : 0 ≡ suc k = alone 0 (omega arith) (any_member a h.arrays e) in absurd (omega (arith, same))
      by false e next = next ∙ ap Some (omega arith)

-- ---- which arrays are touched

not_some : (l : List Event) → is_loaded l ≡ true → l ≡ [] → ⊥
not_some [] e f = absurd cc
not_some (x ∷ l) e f = absurd cc

front_none : (xs ys : List Event) → xs ++ ys ≡ [] → (xs ≡ []) × (ys ≡ [])
front_none [] ys e = (refl, e)
front_none (x ∷ xs) ys e = absurd cc

none_taken : (a k : ℕ) (instrs : List Instr) → events a instrs ≡ [] → events a (take k instrs) ≡ []
none_taken a zero instrs e = refl
none_taken a (suc k) [] e = refl
none_taken a (suc k) (i ∷ instrs) e =
    let parts = front_none (event_of a i) (events a instrs) e in
    let one : event_of a i ≡ [] = parts.0 in
    let two : events a (take k instrs) ≡ [] = none_taken a k instrs parts.1 in
    (λ j. one j ++ two j)

all_any : (test : ℕ → Bool) (k : ℕ) (xs : List ℕ) → list_all test xs ≡ true → list_any (λ n. k == n) xs ≡ true → test k ≡ true
all_any test k [] all any = absurd cc
all_any test k (x ∷ xs) all any = by (k == x) refl any (all_any test k xs (and_back (test x) _ all)) where
  by : (b : Bool) → (k == x) ≡ b → (b || list_any (λ n. k == n) xs) ≡ true → (list_any (λ n. k == n) xs ≡ true → test k ≡ true) → test k ≡ true
  by true e any next = ap test (same_of k x e) ∙ and_front (test x) _ all
  by false e any next = next any

some_is : {m n : ℕ} → Some m ≡ Some n → m ≡ n
some_is e = cc

-- a later copy is one of an array that is there and loaded
pub copy_is : (whole : List Instr) (w : Written) (n : ℕ) (arrays : List FlatArray) (k a : ℕ) → arrays_fit whole w n arrays ≡ true → copy_in (copies_in arrays) n k ≡ Some a
    → (a < n + length arrays) × (is_copy a whole k ≡ true)
copy_is whole w n [] k a fit e = absurd cc
copy_is whole w n (f ∷ arrays) k a fit e = by (list_any (λ m. k == m) f.copies) refl e (copy_is whole w (suc n) arrays k a (and_back (array_fits whole w n f) _ fit)) where
  here : array_fits whole w n f ≡ true
  here = and_front (array_fits whole w n f) _ fit

  copies : list_all (is_copy n whole) f.copies ≡ true
  copies = and_front (list_all (is_copy n whole) f.copies) (ascends 0 f.copies) (and_back (list_all (is_guard w) f.touched) (list_all (is_copy n whole) f.copies && ascends 0 f.copies)
      (and_back (is_life (is_some f.touched) (events n whole)) (list_all (is_guard w) f.touched && (list_all (is_copy n whole) f.copies && ascends 0 f.copies))
      (and_back (nat_le f.length 65536) (is_life (is_some f.touched) (events n whole) && (list_all (is_guard w) f.touched && (list_all (is_copy n whole) f.copies && ascends 0 f.copies)))
      (and_back (nat_lt 0 f.length) (nat_le f.length 65536 && (is_life (is_some f.touched) (events n whole) && (list_all (is_guard w) f.touched && (list_all (is_copy n whole) f.copies && ascends 0 f.copies)))) here))))

  by : (b : Bool) → list_any (λ m. k == m) f.copies ≡ b → (if b then Some n else copy_in (copies_in arrays) (suc n) k) ≡ Some a
      → (copy_in (copies_in arrays) (suc n) k ≡ Some a → (a < suc n + length arrays) × (is_copy a whole k ≡ true)) → (a < n + length (f ∷ arrays)) × (is_copy a whole k ≡ true)
  by true any e next =
      let same : n ≡ a = some_is e in
      (omega (arith, same), subst (λ m. is_copy m whole k ≡ true) same (all_any (is_copy n whole) k f.copies copies any))
  by false any e next = let r = next e in (omega (arith, r.0), r.1)

-- of a copied array there are events
pub copy_events : (a k : ℕ) (instrs : List Instr) → is_copy a instrs k ≡ true → events a instrs ≡ [] → ⊥
copy_events a k instrs e none = not_some (events a (take k instrs)) (and_back (makes_copy (instr_at instrs k)) _ e) (none_taken a k instrs none)

-- a touched array is there
pub touched_there : (arrays : List FlatArray) (a : ℕ) → is_touched arrays a ≡ true → a < length arrays
touched_there [] a e = absurd cc
touched_there (f ∷ arrays) zero e = omega arith
touched_there (f ∷ arrays) (suc a) e = omega (arith, touched_there arrays a e)

-- ---- the Store of a touched array

abbrev has_store : List Event → Bool
has_store [] = false
has_store (Stores ∷ es) = true
has_store (Indexes ∷ es) = has_store es
has_store (Loads ∷ es) = has_store es

abbrev pub StoreOf : List Instr → ℕ → Type 0
StoreOf instrs a = (k : ℕ) × (k < length instrs) × (instr_at instrs k ≡ instr.Store a (stored_operand instrs a))

later : (i : Instr) (instrs : List Instr) (a : ℕ) → stored_operand (i ∷ instrs) a ≡ stored_operand instrs a → StoreOf instrs a → StoreOf (i ∷ instrs) a
later i instrs a same s = (suc s.0, omega (arith, s.1), s.2 ∙ ap (instr.Store a) (sym same))

pub store_of : (instrs : List Instr) (a : ℕ) → has_store (events a instrs) ≡ true → StoreOf instrs a
store_of [] a e = absurd cc
store_of (instr.Store b x ∷ instrs) a e = by (b == a) refl e (store_of instrs a) where
  by : (t : Bool) → (b == a) ≡ t → has_store ((if t then Stores ∷ [] else []) ++ events a instrs) ≡ true → (has_store (events a instrs) ≡ true → StoreOf instrs a) → StoreOf (instr.Store b x ∷ instrs) a
  by true is e next = (0, omega arith, (λ j. instr.Store (same_of b a is j) x) ∙ ap (λ t. instr.Store a (if t then x else stored_operand instrs a)) (sym is))
  by false is e next = later (instr.Store b x) instrs a (ap (λ t. if t then x else stored_operand instrs a) is) (next e)
store_of (instr.Index b x ∷ instrs) a e = by (b == a) e (store_of instrs a) where
  by : (t : Bool) → has_store ((if t then Indexes ∷ [] else []) ++ events a instrs) ≡ true → (has_store (events a instrs) ≡ true → StoreOf instrs a) → StoreOf (instr.Index b x ∷ instrs) a
  by true e next = later (instr.Index b x) instrs a refl (next e)
  by false e next = later (instr.Index b x) instrs a refl (next e)
store_of (instr.Load b ∷ instrs) a e = by (b == a) e (store_of instrs a) where
  by : (t : Bool) → has_store ((if t then Loads ∷ [] else []) ++ events a instrs) ≡ true → (has_store (events a instrs) ≡ true → StoreOf instrs a) → StoreOf (instr.Load b ∷ instrs) a
  by true e next = later (instr.Load b) instrs a refl (next e)
  by false e next = later (instr.Load b) instrs a refl (next e)
store_of (instr.One op x ∷ instrs) a e = later (instr.One op x) instrs a refl (store_of instrs a e)
store_of (instr.Two op x y ∷ instrs) a e = later (instr.Two op x y) instrs a refl (store_of instrs a e)
store_of (instr.Pick c x y ∷ instrs) a e = later (instr.Pick c x y) instrs a refl (store_of instrs a e)
store_of (instr.Hash kind x y z ∷ instrs) a e = later (instr.Hash kind x y z) instrs a refl (store_of instrs a e)
store_of (instr.Move x ∷ instrs) a e = later (instr.Move x) instrs a refl (store_of instrs a e)
store_of (instr.Yes g c ∷ instrs) a e = later (instr.Yes g c) instrs a refl (store_of instrs a e)
store_of (instr.No g c ∷ instrs) a e = later (instr.No g c) instrs a refl (store_of instrs a e)

pub life_stores : (es : List Event) → is_life true es ≡ true → has_store es ≡ true
life_stores (Indexes ∷ Loads ∷ Stores ∷ []) e = refl
life_stores [] e = absurd cc
life_stores (Indexes ∷ []) e = absurd cc
life_stores (Loads ∷ es) e = absurd cc
life_stores (Stores ∷ es) e = absurd cc
life_stores (Indexes ∷ Indexes ∷ es) e = absurd cc
life_stores (Indexes ∷ Stores ∷ es) e = absurd cc
life_stores (Indexes ∷ Loads ∷ []) e = absurd cc
life_stores (Indexes ∷ Loads ∷ Indexes ∷ es) e = absurd cc
life_stores (Indexes ∷ Loads ∷ Loads ∷ es) e = absurd cc
life_stores (Indexes ∷ Loads ∷ Stores ∷ x ∷ es) e = absurd cc
