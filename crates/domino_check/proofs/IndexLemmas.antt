-- The index of each array, access by access.
use Rattle.std.proofs.Common.{◌≡◌, ◌≢◌, ℕ, zero, suc, ◌<◌, ◌==◌, Bool, true, false, if◌then◌else◌, List, [], ◌∷◌, ◌++◌, length, map, replicate, take, get_or, None, Some, Option, refl, sym, ap, subst, ◌∙◌, append_assoc, inl, inr, arith, eq-eqb, get_or-set_same, get_or-set_other}
use Rattle.std.proofs.lemmas.List.{length-replicate, get_or-replicate, get_or-map, length-set}
use Rattle.std.proofs.lemmas.List.FromFn.{fill_by_all}
use Rattle.std.proofs.lemmas.Bool.Decides.{eqb_tells}
use Rattle.domino_tree.specs.Value.{Array}
use Rattle.domino_names.specs.declared.fault.CheckFault.{CheckFault}
use Rattle.domino_names.specs.declared.fault.CheckFault.TheVariants as fault
use Rattle.domino_names.specs.declared.infos.ArrayInfo.{ArrayInfo}
use Rattle.domino_check.specs.declared.numbered.CheckedExpr.{CheckedExpr}
use Rattle.domino_check.specs.Numbering.{Access}
use Rattle.domino_names.specs.First.{FirstFault, NoFault}
use Rattle.domino_names.specs.Infos.{array_of}
use Rattle.domino_check.specs.Indexes.{index_of, IsOther, Agrees, Keeps, AllKeep, array_name, IndexDiffersAt, AreIndexes, AreBelow, indexes_of, noted}
use Rattle.domino_names.proofs.FirstLemmas.{none_with, first_at}

-- the names of the arrays, kept with and without whether each is a register
array_names : (infos : List ArrayInfo) → map (λ (d : Array). d.name) (map array_of infos) ≡ map (λ (i : ArrayInfo). i.name) infos
array_names [] = refl
array_names (i ∷ infos) = ap (λ names. i.name ∷ names) (array_names infos)

-- ---- the table

-- the name of an array, by the place where it is declared
pub name_at : (arrays : List ArrayInfo) (a : ℕ) (x : ArrayInfo) → a < length arrays → (get_or arrays a x).name ≡ array_name (map array_of arrays) a
name_at arrays a x within =
    sym (get_or-map (λ (i : ArrayInfo). i.name) arrays a x [] within)
    ∙ ap (λ names. get_or names a []) (sym (array_names arrays))

-- where nothing is accessed, no array has an index
pub no_index : (count : ℕ) (table : List (Option CheckedExpr)) → table ≡ replicate count None → AreIndexes [] count table
no_index count table is = (ap length is ∙ length-replicate count None, λ a within. ap (λ t. get_or t a None) is ∙ get_or-replicate count a None None within)

-- the array of an access is one of n
pub below_at : (n : ℕ) (xs : List Access) (i : ℕ) (x : Access) → AreBelow n xs → i < length xs → x ≡ get_or xs i x → x.array < n
below_at n [] i x below within here = absurd (omega arith)
below_at n (y ∷ ys) zero x below within here = subst (λ (z : Access). z.array < n) (sym here) below.0
below_at n (y ∷ ys) (suc i) x below within here = below_at n ys i x below.1 (omega arith) here

-- the table as one list
pub indexes_are : (xs : List Access) (n : ℕ) (table : List (Option CheckedExpr)) → AreIndexes xs n table → table ≡ indexes_of xs n
indexes_are xs n table are = fill_by_all (index_of xs) table n None are.0 are.1

-- ---- indexes without arrays

-- each access has an index in which no array stands
abbrev pub ArePlain : List Access → Type 0
ArePlain [] = Unit {0}
ArePlain (x ∷ xs) = (x.index ≢ None) × ArePlain xs

-- an access with none would be amiss
none_is_other : (first index : Option CheckedExpr) → index ≡ None → IsOther first index
none_is_other first index is = subst (IsOther first) (sym is) tt

plain_behind : (arrays : List Array) (before xs : List Access) → NoFault (IndexDiffersAt arrays) (before ++ xs) → ArePlain xs
plain_behind arrays before [] fine = tt
plain_behind arrays before (x ∷ xs) fine = (
  λ none. fine before x xs _ refl (none_is_other (index_of before x.array) x.index none, refl),
  plain_behind arrays (before ++ x ∷ []) xs (subst (NoFault (IndexDiffersAt arrays)) (sym (append_assoc before (x ∷ []) xs)) fine),
)

pub plain_from_fine : (arrays : List Array) (xs : List Access) → NoFault (IndexDiffersAt arrays) xs → ArePlain xs
plain_from_fine arrays xs fine = plain_behind arrays [] xs fine

-- ---- one access more

-- the index of an array with one access more: whether that is of this array, and its index
abbrev pushed : Option CheckedExpr → Bool → Option CheckedExpr → Option CheckedExpr
pushed (Some i) is_this index = Some i
pushed None is_this index = if is_this then index else None

index_step : (is_first : Bool) (i before after : Option CheckedExpr) (is_this : Bool) (index : Option CheckedExpr) → i ≢ None → after ≡ pushed before is_this index
    → (if is_first then i else after) ≡ pushed (if is_first then i else before) is_this index
index_step true (Some i) before after is_this index plain is = refl
index_step true None before after is_this index plain is = absurd (plain refl)
index_step false i before after is_this index plain is = is

index_of-push : (xs : List Access) (x : Access) (a : ℕ) → ArePlain xs → index_of (xs ++ x ∷ []) a ≡ pushed (index_of xs a) (x.array == a) x.index
index_of-push [] x a plain = refl
index_of-push (y ∷ ys) x a plain = index_step (y.array == a) y.index (index_of ys a) (index_of (ys ++ x ∷ []) a) (x.array == a) x.index plain.0 (index_of-push ys x a plain.1)

-- what the table has at an array, where an access of that array is noted
noted_here : (slot : Option CheckedExpr) (table : List (Option CheckedExpr)) (a : ℕ) (index : Option CheckedExpr) → a < length table → get_or table a None ≡ slot
    → get_or (noted slot table a index) a None ≡ pushed slot true index
noted_here None table a index within is = get_or-set_same table a index None within
noted_here (Some first) table a index within is = is

-- and at another array
noted_there : (slot : Option CheckedExpr) (table : List (Option CheckedExpr)) (a b : ℕ) (index : Option CheckedExpr) → b ≢ a
    → get_or (noted slot table a index) b None ≡ get_or table b None
noted_there None table a b index other = get_or-set_other table a b index None other
noted_there (Some first) table a b index other = refl

pushed_other : (slot index : Option CheckedExpr) → slot ≡ pushed slot false index
pushed_other None index = refl
pushed_other (Some i) index = refl

length-noted : (slot : Option CheckedExpr) (table : List (Option CheckedExpr)) (a : ℕ) (index : Option CheckedExpr) → length (noted slot table a index) ≡ length table
length-noted None table a index = length-set table a index
length-noted (Some first) table a index = refl

-- the table with an access noted has the indexes of the accesses with it
pub indexes_more : (n : ℕ) (xs : List Access) (x : Access) (table new : List (Option CheckedExpr)) → ArePlain xs → x.array < n → AreIndexes xs n table
    → new ≡ noted (get_or table x.array None) table x.array x.index → AreIndexes (xs ++ x ∷ []) n new
indexes_more n xs x table new plain within kept is = (
  ap length is ∙ length-noted (get_or table x.array None) table x.array x.index ∙ kept.0,
  λ a below.
      ap (λ t. get_or t a None) is
      ∙ elim (eqb_tells x.array a) [
        | inl same ↦
            let here : a < length table = omega (arith, kept.0) in
            (λ i. get_or (noted (get_or table (same.1 i) None) table (same.1 i) x.index) a None)
            ∙ noted_here (get_or table a None) table a x.index here refl
            ∙ (λ i. pushed (kept.1 a below i) (sym same.0 i) x.index)
        | inr other ↦
            noted_there (get_or table x.array None) table x.array a x.index (λ e. other.1 (sym e))
            ∙ pushed_other (get_or table a None) x.index
            ∙ (λ i. pushed (kept.1 a below i) (sym other.0 i) x.index)
      ]
      ∙ sym (index_of-push xs x a plain),
)

-- an array's index stays with one access more
index_stays : (xs : List Access) (x : Access) (a : ℕ) (i : CheckedExpr) → ArePlain xs → index_of xs a ≡ Some i → index_of (xs ++ x ∷ []) a ≡ Some i
index_stays xs x a i plain is = index_of-push xs x a plain ∙ ap (λ o. pushed o (x.array == a) x.index) is

keep_earlier : (xs : List Access) (x : Access) (front : List Access) → ArePlain xs → AllKeep (index_of xs) front → AllKeep (index_of (xs ++ x ∷ [])) front
keep_earlier xs x [] plain kept = tt
keep_earlier xs x (y ∷ front) plain kept = ((kept.0.0, kept.0.1, index_stays xs x y.array kept.0.0 plain kept.0.2), keep_earlier xs x front plain kept.1)

keep_push : (index : ℕ → Option CheckedExpr) (xs : List Access) (x : Access) → AllKeep index xs → Keeps index x → AllKeep index (xs ++ x ∷ [])
keep_push index [] x kept here = (here, tt)
keep_push index (y ∷ ys) x kept here = (kept.0, keep_push index ys x kept.1 here)

-- the access that was noted has the index of its array
agreed : (slot index : Option CheckedExpr) → Agrees slot index → (i : CheckedExpr) × (index ≡ Some i) × (pushed slot true index ≡ Some i)
agreed slot None agrees = absurd agrees
agreed None (Some i) agrees = (i, refl, refl)
agreed (Some first) (Some i) agrees = (i, refl, ap Some agrees)

pub keep_more : (n : ℕ) (xs : List Access) (x : Access) (table : List (Option CheckedExpr)) → ArePlain xs → x.array < n → AreIndexes xs n table
    → AllKeep (index_of xs) xs → Agrees (get_or table x.array None) x.index → AllKeep (index_of (xs ++ x ∷ [])) (xs ++ x ∷ [])
keep_more n xs x table plain within indexes kept agrees =
    let here = agreed (get_or table x.array None) x.index agrees in
    keep_push (index_of (xs ++ x ∷ [])) xs x (keep_earlier xs x xs plain kept) (
      here.0,
      here.1,
      index_of-push xs x x.array plain ∙ (λ i. pushed (sym (indexes.1 x.array within) i) (eq-eqb x.array x.array refl i) x.index) ∙ here.2,
    )

-- an access that has the index of the first is not amiss
pub fine_more : (arrays : List Array) (n : ℕ) (xs : List Access) (x : Access) (table : List (Option CheckedExpr)) → x.array < n → AreIndexes xs n table
    → NoFault (IndexDiffersAt arrays) xs → (IsOther (get_or table x.array None) x.index → ⊥) → NoFault (IndexDiffersAt arrays) (xs ++ x ∷ [])
fine_more arrays n xs x table within kept fine same =
    none_with (IndexDiffersAt arrays) xs x fine (λ g a. same (subst (λ s. IsOther s x.index) (sym (kept.1 x.array within)) a.0))

-- ---- the first access that is amiss

-- what isn't not another index is another one
pub is_other : (first index : Option CheckedExpr) → ((IsOther first index → ⊥) → ⊥) → IsOther first index
is_other first None h = tt
is_other None (Some index) h = h (λ e. e)
is_other (Some first) (Some index) h = λ e. h (λ n. n e)

-- it stands behind the accesses so far, which are a front of all
pub differs_first : (arrays : List Array) (n : ℕ) (all xs : List Access) (x : Access) (table : List (Option CheckedExpr)) (f : CheckFault) → x.array < n → AreIndexes xs n table
    → xs ≡ take (length xs) all → (length xs < length all) × (x ≡ get_or all (length xs) x) → NoFault (IndexDiffersAt arrays) xs
    → IsOther (get_or table x.array None) x.index → f ≡ fault.IndexDiffers (array_name arrays x.array)
    → FirstFault (IndexDiffersAt arrays) all f
differs_first arrays n all xs x table f within kept front turn fine other is =
    first_at (IndexDiffersAt arrays) all (length xs) x f turn.0 turn.1 (subst (NoFault (IndexDiffersAt arrays)) front fine)
    (subst (λ (before : List Access). IndexDiffersAt arrays before x f) front (subst (λ s. IsOther s x.index) (kept.1 x.array within) other, is))

-- ---- arrays that are touched nowhere

-- none of these accesses is of the array
abbrev pub IsUntouched : List Access → ℕ → Type 0
IsUntouched [] array = Unit {0}
IsUntouched (x ∷ xs) array = (x.array ≢ array) × IsUntouched xs array

some≢none : (i : CheckedExpr) → Some i ≡ None → ⊥
some≢none i e = cc

pub untouched_from_none : (index : ℕ → Option CheckedExpr) (xs : List Access) (a : ℕ) → AllKeep index xs → index_of xs a ≡ None → IsUntouched xs a
untouched_from_none index [] a kept none = tt
untouched_from_none index (x ∷ xs) a kept none =
    elim (eqb_tells x.array a) [
      | inl same ↦ absurd (some≢none kept.0.0 (sym kept.0.1 ∙ sym (λ i. if same.0 i then x.index else index_of xs a) ∙ none))
      | inr other ↦ (other.1, untouched_from_none index xs a kept.1 (sym (λ i. if other.0 i then x.index else index_of xs a) ∙ none))
    ]

pub none_from_untouched : (xs : List Access) (a : ℕ) → IsUntouched xs a → index_of xs a ≡ None
none_from_untouched [] a untouched = refl
none_from_untouched (x ∷ xs) a untouched =
    elim (eqb_tells x.array a) [
      | inl same ↦ absurd (untouched.0 same.1)
      | inr other ↦ (λ i. if other.0 i then x.index else index_of xs a) ∙ none_from_untouched xs a untouched.1
    ]
