-- Arrays with one `same` on flat code are those with one index on the source, and in one group they have one place.
use Rattle.std.proofs.Common.{◌≡◌, ℕ, zero, suc, ◌<◌, ◌≤◌, nat_lt, ℤ, Bool, true, false, List, [], ◌∷◌, length, map, get_or, Option, None, Some, refl, sym, ap, subst, ◌∙◌, arith}
use Rattle.std.proofs.lemmas.Bool.Decides.{nat_tests}
use Rattle.mp5_words.specs.Domain.{Domain, Mark, marks}
use Rattle.mp5_words.specs.Copies.{Copy}
use Rattle.mp5_words.specs.Words.{cell}
use Rattle.domino_tree.specs.declared.program.Program.{Program}
use Rattle.domino_tree.proofs.ExprLemmas.{Each}
use Rattle.domino_check.specs.declared.numbered.CheckedExpr.{CheckedExpr, fold-CheckedExpr, fold-roll-CheckedExpr}
use Rattle.domino_check.specs.declared.numbered.CheckedExpr.TheOpen as F
use Rattle.domino_check.specs.declared.numbered.CheckedExpr.TheVariants as e
use Rattle.domino_check.specs.Indexes.{index_of}
use Rattle.domino_check.specs.Numbering.{accesses}
use Rattle.domino_check.specs.Place.{header_marks, marked_copy, marked_place}
use Rattle.domino_check.specs.SourceGroups.{cells_of}
use Rattle.domino_check.proofs.TreeLemmas.{expr_induct}
use Rattle.code_forms.specs.declared.guard.GuardExpr.{GuardExpr, fold-GuardExpr}
use Rattle.code_forms.specs.declared.guard.GuardExpr.TheOpen as G
use Rattle.code_forms.specs.declared.guard.GuardCode.{GuardCode}
use Rattle.code_forms.specs.declared.flat.FlatCode.{FlatCode}
use Rattle.code_forms.specs.declared.flat.Operand.{Operand}
use Rattle.code_forms.specs.FlatMeaning.{operand_value, flat_values}
use Rattle.code_forms.specs.GuardMeaning.{Guarded, index_at, index_value}
use Rattle.code_forms.specs.SameIndexes.{same_of}
use Rattle.branch_removal.specs.GuardedLines.{guarded, guarded_index}
use Rattle.branch_removal.proofs.GuardedLemmas.{form, same_fold}
use Rattle.branch_removal.proofs.ShapeLemmas.{index_same}
use Rattle.branch_removal.specs.Followed.{lines_from}
use Rattle.ssa_flatten.specs.Flattening.{flat_instrs}
use Rattle.ssa_flatten.specs.Flattened.{IsLeast}
use Rattle.ssa_flatten.proofs.FlatLines.{stood}
use Rattle.ssa_flatten.proofs.Meaning as meaning
use Rattle.ssa_flatten.proofs.Valid as valid
use Rattle.ssa_flatten.proofs.Whole as whole
use Rattle.domino_compile.specs.GroupsCode.{IsCodeOf}
use Rattle.domino_compile.proofs.GroupsStand.{known, copy_stands, value}
use Rattle.domino_compile.proofs.GroupsSteps.{some_guards}
use Rattle.domino_compile.proofs.PlacesLemmas.{marks_long}

-- ---- a guarded expression is that of one expression alone

-- the expression back from guarded code
abbrev back_form : G.GuardExpr-F CheckedExpr → CheckedExpr
back_form (G.GuardExpr-F.Number n) = e.Number n
back_form (G.GuardExpr-F.Field f) = e.Field f
back_form (G.GuardExpr-F.Cell a) = e.Cell a
back_form (G.GuardExpr-F.One op a) = e.One op a
back_form (G.GuardExpr-F.Two op a b) = e.Two op a b
back_form (G.GuardExpr-F.Pick c a b) = e.Pick c a b
back_form (G.GuardExpr-F.Hash kind args) = e.Hash kind args

abbrev same_form : F.CheckedExpr-F CheckedExpr → CheckedExpr
same_form (F.CheckedExpr-F.Number n) = e.Number n
same_form (F.CheckedExpr-F.Field f) = e.Field f
same_form (F.CheckedExpr-F.Cell a) = e.Cell a
same_form (F.CheckedExpr-F.One op a) = e.One op a
same_form (F.CheckedExpr-F.Two op a b) = e.Two op a b
same_form (F.CheckedExpr-F.Pick c a b) = e.Pick c a b
same_form (F.CheckedExpr-F.Hash kind args) = e.Hash kind args

abbrev rebuilt : CheckedExpr → CheckedExpr
rebuilt = fold-CheckedExpr CheckedExpr same_form

args_rebuilt : (xs : List CheckedExpr) → Each (λ x. rebuilt x ≡ x) xs → map rebuilt xs ≡ xs
args_rebuilt [] held = refl
args_rebuilt (x ∷ xs) held = λ i. held.0 i ∷ args_rebuilt xs held.1 i

rebuilt_is : (x : CheckedExpr) → rebuilt x ≡ x
rebuilt_is = expr_induct (λ x. rebuilt x ≡ x)
    (λ n. ap rebuilt (sym (e.rolls-Number n)) ∙ fold-roll-CheckedExpr CheckedExpr same_form (F.CheckedExpr-F.Number n))
    (λ f. ap rebuilt (sym (e.rolls-Field f)) ∙ fold-roll-CheckedExpr CheckedExpr same_form (F.CheckedExpr-F.Field f))
    (λ a. ap rebuilt (sym (e.rolls-Cell a)) ∙ fold-roll-CheckedExpr CheckedExpr same_form (F.CheckedExpr-F.Cell a))
    (λ op a h. ap rebuilt (sym (e.rolls-One op a)) ∙ fold-roll-CheckedExpr CheckedExpr same_form (F.CheckedExpr-F.One op a) ∙ (λ i. e.One op (h i)))
    (λ op a b h k. ap rebuilt (sym (e.rolls-Two op a b)) ∙ fold-roll-CheckedExpr CheckedExpr same_form (F.CheckedExpr-F.Two op a b) ∙ (λ i. e.Two op (h i) (k i)))
    (λ c a b l h k. ap rebuilt (sym (e.rolls-Pick c a b)) ∙ fold-roll-CheckedExpr CheckedExpr same_form (F.CheckedExpr-F.Pick c a b) ∙ (λ i. e.Pick (l i) (h i) (k i)))
    (λ kind args h. ap rebuilt (sym (e.rolls-Hash kind args)) ∙ fold-roll-CheckedExpr CheckedExpr same_form (F.CheckedExpr-F.Hash kind args) ∙ (λ i. e.Hash kind (args_rebuilt args h i)))

back_same : (x : CheckedExpr) → fold-GuardExpr CheckedExpr back_form (guarded x) ≡ x
back_same x = same_fold CheckedExpr back_form same_form by_form x ∙ rebuilt_is x where
  by_form : (y : F.CheckedExpr-F CheckedExpr) → back_form (form y) ≡ same_form y
  by_form (F.CheckedExpr-F.Number n) = refl
  by_form (F.CheckedExpr-F.Field f) = refl
  by_form (F.CheckedExpr-F.Cell a) = refl
  by_form (F.CheckedExpr-F.One op a) = refl
  by_form (F.CheckedExpr-F.Two op a b) = refl
  by_form (F.CheckedExpr-F.Pick c a b) = refl
  by_form (F.CheckedExpr-F.Hash kind args) = refl

index_back : (x y : Option CheckedExpr) → guarded_index x ≡ guarded_index y → x ≡ y
index_back None None same = refl
index_back None (Some y) same = absurd cc
index_back (Some x) None same = absurd cc
index_back (Some x) (Some y) same = ap Some (sym (back_same x) ∙ ap (fold-GuardExpr CheckedExpr back_form) (some_is same) ∙ back_same y) where
  some_is : {x y : GuardExpr} → Some x ≡ Some y → x ≡ y
  some_is e = cc

-- ---- arrays with one `same`

module _ (p : Program) (g : GuardCode) (f : FlatCode) (is : IsCodeOf p g f) where
  -- the index of an array in guarded code is that of the source
  index_source : (a : ℕ) → index_at g.arrays a ≡ guarded_index (index_of (accesses p) a)
  index_source a = ap (λ s. index_at s a) is.arrays ∙ index_same p is.passes.names a

  inside : {X : Type 0} (l : List (Option X)) (a : ℕ) (x : X) → get_or l a None ≡ Some x → a < length l
  inside [] a x e = absurd cc
  inside (y ∷ l) zero x e = omega arith
  inside (y ∷ l) (suc a) x e = omega (arith, inside l a x e)

  -- a touched array is there
  pub array_there : (a : ℕ) (k : Copy Operand) → known p g f is a ≡ Some k → a < length g.arrays
  array_there a k e = subst (λ n. a < n) (whole.sound g.fields g.arrays g.lines g.valid).many (inside (whole.done g.fields g.arrays g.lines g.valid).copies a k e)

  -- and has an index
  indexed : (a : ℕ) (k : Copy Operand) → known p g f is a ≡ Some k → (x : GuardExpr) × (index_at g.arrays a ≡ Some x)
  indexed a k e = by_index (index_at g.arrays a) refl where
    by_index : (o : Option GuardExpr) → index_at g.arrays a ≡ o → (x : GuardExpr) × (index_at g.arrays a ≡ Some x)
    by_index (Some x) same = (x, same)
    by_index None same = absurd (no_way (sym (valid.untouched_without g.fields g.arrays g.lines g.valid f.arrays is.flat_arrays a (array_there a k e) same) ∙ some_guards p g f is a k e)) where
      no_way : false ≡ true → ⊥
      no_way e = cc

  least : (a : ℕ) (k : Copy Operand) (x : GuardExpr) → known p g f is a ≡ Some k → index_at g.arrays a ≡ Some x → IsLeast g.arrays a (same_of f.arrays a) (Some x)
  least a k x e at_a = subst (IsLeast g.arrays a (same_of f.arrays a)) at_a (is.flat_arrays.sames a (array_there a k e))

  -- touched arrays with one `same` have one index on the source
  pub same_index : (a b : ℕ) (k m : Copy Operand) → known p g f is a ≡ Some k → known p g f is b ≡ Some m → same_of f.arrays a ≡ same_of f.arrays b → index_of (accesses p) a ≡ index_of (accesses p) b
  same_index a b k m ea eb same =
      let x = indexed a k ea in
      let y = indexed b m eb in
      let one : index_at g.arrays a ≡ index_at g.arrays (same_of f.arrays a) = x.1 ∙ sym (least a k x.0 ea x.1).1 in
      let two : index_at g.arrays b ≡ index_at g.arrays (same_of f.arrays b) = y.1 ∙ sym (least b m y.0 eb y.1).1 in
      index_back (index_of (accesses p) a) (index_of (accesses p) b) (sym (index_source a) ∙ one ∙ ap (index_at g.arrays) same ∙ sym two ∙ index_source b)

  -- and the other way round
  pub index_same_of : (a b : ℕ) (k m : Copy Operand) → known p g f is a ≡ Some k → known p g f is b ≡ Some m → index_of (accesses p) a ≡ index_of (accesses p) b → same_of f.arrays a ≡ same_of f.arrays b
  index_same_of a b k m ea eb same =
      let x = indexed a k ea in
      let at_b : index_at g.arrays b ≡ Some x.0 = index_source b ∙ ap guarded_index (sym same) ∙ sym (index_source a) ∙ x.1 in
      one_least (same_of f.arrays a) (same_of f.arrays b) x.0 (least a k x.0 ea x.1) (least b m x.0 eb at_b) where
        one_least : (n o : ℕ) (x : GuardExpr) → IsLeast g.arrays a n (Some x) → IsLeast g.arrays b o (Some x) → n ≡ o
        one_least n o x one two = by_order (nat_lt n o) (nat_lt o n) refl refl where
          by_order : (l r : Bool) → nat_lt n o ≡ l → nat_lt o n ≡ r → n ≡ o
          by_order true r el er = absurd (two.2 n (grind (arith, nat_tests, el)) one.1)
          by_order false true el er = absurd (one.2 o (grind (arith, nat_tests, er)) two.1)
          by_order false false el er =
              let up : o ≤ n = grind (arith, nat_tests, el) in
              let down : n ≤ o = grind (arith, nat_tests, er) in
              omega (arith, up, down)

  -- ---- one place

  module _ (V : Type 0) (d : Domain V) (header : List V) (long : length header ≡ length p.packet.fields) where
    within : length header ≡ g.fields
    within = long ∙ sym is.fields

    -- arrays with one index have one value of it
    pub one_value : (a b : ℕ) (k m : Copy Operand) → known p g f is a ≡ Some k → known p g f is b ≡ Some m → index_of (accesses p) a ≡ index_of (accesses p) b
        → value p g f is V d header long k.index ≡ value p g f is V d header long m.index
    one_value a b k m ea eb same =
        subst (λ (v : Operand → V). v k.index ≡ v m.index) (λ i. operand_value V d (flat_values V d (sym is.width i) f.arrays (sym is.instrs i) header)) (
        ap flat_value (sym (meaning.index_is g.fields g.arrays g.lines g.valid f.arrays is.flat_arrays a k ea))
        ∙ meaning.index_word_is g.fields g.arrays g.lines g.valid f.arrays is.flat_arrays V d header within a (some_guards p g f is a k ea)
        ∙ ap (λ o. index_value V d.ops o ended.fields) (index_source a ∙ ap guarded_index same ∙ sym (index_source b))
        ∙ sym (meaning.index_word_is g.fields g.arrays g.lines g.valid f.arrays is.flat_arrays V d header within b (some_guards p g f is b m eb))
        ∙ ap flat_value (meaning.index_is g.fields g.arrays g.lines g.valid f.arrays is.flat_arrays b m eb)) where
          ended : Guarded V
          ended = lines_from V d g.arrays g.lines header

          flat_value : Operand → V
          flat_value = operand_value V d (flat_values V d g.fields f.arrays (flat_instrs g.fields g.arrays g.lines) header)

  -- arrays with one index and one length have one place on a header
  pub one_place : (header : List ℤ) → length header ≡ length p.packet.fields → (a b : ℕ) (k m : Copy Operand) → known p g f is a ≡ Some k → known p g f is b ≡ Some m
      → index_of (accesses p) a ≡ index_of (accesses p) b → cells_of p a ≡ cells_of p b → marked_place (cells_of p a) (marked_copy p header a) ≡ marked_place (cells_of p b) (marked_copy p header b)
  one_place header long a b k m ea eb same even =
      place_of a k ea
      ∙ (λ i. cell (one_value Mark (marks (cells_of p)) (header_marks header) (marks_long p g f is header long) a b k m ea eb same i).word (even i))
      ∙ sym (place_of b m eb) where
        place_of : (a : ℕ) (k : Copy Operand) → known p g f is a ≡ Some k
            → marked_place (cells_of p a) (marked_copy p header a) ≡ cell (value p g f is Mark (marks (cells_of p)) (header_marks header) (marks_long p g f is header long) k.index).word (cells_of p a)
        place_of a k e = ap (marked_place (cells_of p a)) (sym (copy_stands p g f is Mark (marks (cells_of p)) (header_marks header) (marks_long p g f is header long) a) ∙ ap (stood (value p g f is Mark (marks (cells_of p)) (header_marks header) (marks_long p g f is header long))) e)
