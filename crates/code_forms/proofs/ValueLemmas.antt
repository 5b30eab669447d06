-- What the value of an expression depends on: its fields, and the words of the arrays in it.
use Rattle.std.proofs.Common.{◌≡◌, ℕ, ◌==◌, pos, Bool, true, false, ◌||◌, List, [], ◌∷◌, ◌++◌, map, flat_map, slice_set, refl, sym, ap, subst, ◌∙◌, arith, get_or-set_other}
use Rattle.std.specs.List.{list_any}
use Rattle.std.proofs.lemmas.Bool.Decides.{eqb_tells}
use Rattle.code_forms.proofs.EachLemmas.{Each, each_front, each_back}
use Rattle.code_forms.specs.declared.guard.GuardExpr.{GuardExpr}
use Rattle.code_forms.specs.GuardValid.{arrays_in, mentions}
use Rattle.mp5_words.specs.Domain.{Ops}
use Rattle.mp5_words.specs.Copies.{Seen, at, hash_of, on_fields}
use Rattle.code_forms.specs.GuardMeaning.{guard_value}
use Rattle.code_forms.proofs.GuardTrees

-- ---- the arrays

module _ (V : Type 0) (o : Ops V) where
  abbrev Agrees : GuardExpr → Type 0
  Agrees x = (w v : Seen V) → w.fields ≡ v.fields → Each (λ a. w.array a ≡ v.array a) (arrays_in x) → guard_value V o x w ≡ guard_value V o x v

  args_agree : (xs : List GuardExpr) → Each Agrees xs → (w v : Seen V) → w.fields ≡ v.fields → Each (λ a. w.array a ≡ v.array a) (flat_map (λ (l : List ℕ). l) (map arrays_in xs)) → map (λ (h : Seen V → V). h w) (map (guard_value V o) xs) ≡ map (λ (h : Seen V → V). h v) (map (guard_value V o) xs)
  args_agree [] held w v fields arrays = refl
  args_agree (x ∷ xs) held w v fields arrays =
      let P : ℕ → Type 0 = λ a. w.array a ≡ v.array a in
      let here = held.0 w v fields (each_front P (arrays_in x) _ arrays) in
      let rest = args_agree xs held.1 w v fields (each_back P (arrays_in x) _ arrays) in
      λ i. here i ∷ rest i

  pub value_agrees : (x : GuardExpr) → Agrees x
  value_agrees = GuardTrees.guard_induct Agrees
      (λ n w v fields arrays. GuardTrees.value-Number V o n w ∙ sym (GuardTrees.value-Number V o n v))
      (λ f w v fields arrays. GuardTrees.value-Field V o f w ∙ ap (λ l. at V o l f) fields ∙ sym (GuardTrees.value-Field V o f v))
      (λ a w v fields arrays. GuardTrees.value-Cell V o a w ∙ (subst (Each (λ a. w.array a ≡ v.array a)) (GuardTrees.arrays-Cell a) arrays).0 ∙ sym (GuardTrees.value-Cell V o a v))
      (λ op a held w v fields arrays. GuardTrees.value-One V o op a w ∙ ap (o.one op) (held w v fields (subst (Each (λ a. w.array a ≡ v.array a)) (GuardTrees.arrays-One op a) arrays)) ∙ sym (GuardTrees.value-One V o op a v))
      (λ op a b first second w v fields arrays.
      let all = subst (Each (λ a. w.array a ≡ v.array a)) (GuardTrees.arrays-Two op a b) arrays in
      let left = first w v fields (each_front (λ a. w.array a ≡ v.array a) (arrays_in a) (arrays_in b) all) in
      let right = second w v fields (each_back (λ a. w.array a ≡ v.array a) (arrays_in a) (arrays_in b) all) in
      GuardTrees.value-Two V o op a b w ∙ (λ i. o.two op (left i) (right i)) ∙ sym (GuardTrees.value-Two V o op a b v))
      (λ c a b zeroth first second w v fields arrays.
      let all = subst (Each (λ a. w.array a ≡ v.array a)) (GuardTrees.arrays-Pick c a b) arrays in
      let both = each_back (λ a. w.array a ≡ v.array a) (arrays_in c) (arrays_in a ++ arrays_in b) all in
      let cond = zeroth w v fields (each_front (λ a. w.array a ≡ v.array a) (arrays_in c) (arrays_in a ++ arrays_in b) all) in
      let left = first w v fields (each_front (λ a. w.array a ≡ v.array a) (arrays_in a) (arrays_in b) both) in
      let right = second w v fields (each_back (λ a. w.array a ≡ v.array a) (arrays_in a) (arrays_in b) both) in
      GuardTrees.value-Pick V o c a b w ∙ (λ i. o.pick (cond i) (left i) (right i)) ∙ sym (GuardTrees.value-Pick V o c a b v))
      (λ kind args held w v fields arrays.
      GuardTrees.value-Hash V o kind args w
      ∙ ap (hash_of V o kind) (args_agree args held w v fields (subst (Each (λ a. w.array a ≡ v.array a)) (GuardTrees.arrays-Hash kind args) arrays))
      ∙ sym (GuardTrees.value-Hash V o kind args v))

-- ---- a field that doesn't stand in it

pub or_front : (a b : Bool) → (a || b) ≡ false → a ≡ false
or_front true b e = e
or_front false b e = refl

pub or_back : (a b : Bool) → (a || b) ≡ false → b ≡ false
or_back true b e = absurd cc
or_back false b e = e

module _ (V : Type 0) (o : Ops V) (f : ℕ) (fields : List V) (z : V) where
  abbrev Unmoved : GuardExpr → Type 0
  Unmoved x = mentions f x ≡ false → guard_value V o x (on_fields V o (slice_set fields f z)) ≡ guard_value V o x (on_fields V o fields)

  args_unmoved : (xs : List GuardExpr) → Each (Unmoved) xs → list_any (λ (a : Bool). a) (map (mentions f) xs) ≡ false → map (λ (h : Seen V → V). h (on_fields V o (slice_set fields f z))) (map (guard_value V o) xs) ≡ map (λ (h : Seen V → V). h (on_fields V o fields)) (map (guard_value V o) xs)
  args_unmoved [] held e = refl
  args_unmoved (x ∷ xs) held e =
      let here = held.0 (or_front (mentions f x) (list_any (λ (a : Bool). a) (map (mentions f) xs)) e) in
      let rest = args_unmoved xs held.1 (or_back (mentions f x) (list_any (λ (a : Bool). a) (map (mentions f) xs)) e) in
      λ i. here i ∷ rest i

  other_field : (k : ℕ) → (k == f) ≡ false → at V o (slice_set fields f z) k ≡ at V o fields k
  other_field k e = get_or-set_other fields f k z (o.number (pos 0)) (λ same. absurd (grind (arith, eqb_tells, e, same)))

  pub unmoved : (x : GuardExpr) → Unmoved x
  unmoved = GuardTrees.guard_induct Unmoved
      (λ n e. GuardTrees.value-Number V o n _ ∙ sym (GuardTrees.value-Number V o n _))
      (λ k e. GuardTrees.value-Field V o k _ ∙ other_field k (sym (GuardTrees.mentions-Field f k) ∙ e) ∙ sym (GuardTrees.value-Field V o k _))
      (λ a e. GuardTrees.value-Cell V o a _ ∙ sym (GuardTrees.value-Cell V o a _))
      (λ op a held e. GuardTrees.value-One V o op a _ ∙ ap (o.one op) (held (sym (GuardTrees.mentions-One f op a) ∙ e)) ∙ sym (GuardTrees.value-One V o op a _))
      (λ op a b first second e.
      let all = sym (GuardTrees.mentions-Two f op a b) ∙ e in
      let left = first (or_front (mentions f a) (mentions f b) all) in
      let right = second (or_back (mentions f a) (mentions f b) all) in
      GuardTrees.value-Two V o op a b _ ∙ (λ i. o.two op (left i) (right i)) ∙ sym (GuardTrees.value-Two V o op a b _))
      (λ c a b zeroth first second e.
      let all = sym (GuardTrees.mentions-Pick f c a b) ∙ e in
      let both = or_back (mentions f c) (mentions f a || mentions f b) all in
      let cond = zeroth (or_front (mentions f c) (mentions f a || mentions f b) all) in
      let left = first (or_front (mentions f a) (mentions f b) both) in
      let right = second (or_back (mentions f a) (mentions f b) both) in
      GuardTrees.value-Pick V o c a b _ ∙ (λ i. o.pick (cond i) (left i) (right i)) ∙ sym (GuardTrees.value-Pick V o c a b _))
      (λ kind args held e. GuardTrees.value-Hash V o kind args _ ∙ ap (hash_of V o kind) (args_unmoved args held (sym (GuardTrees.mentions-Hash f kind args) ∙ e)) ∙ sym (GuardTrees.value-Hash V o kind args _))
