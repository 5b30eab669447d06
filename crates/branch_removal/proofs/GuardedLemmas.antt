-- A fold over a guarded expression is one over the expression in numbers: its arrays, its fields, its count, and
-- whether it is well formed.
use Rattle.std.proofs.Common.{◌≡◌, ℕ, Bool, List, [], ◌∷◌, map, refl, sym, ap, ◌∙◌}
use Rattle.domino_tree.proofs.ExprLemmas.{Each}
use Rattle.domino_check.specs.declared.numbered.CheckedExpr.{CheckedExpr, fold-CheckedExpr, fold-roll-CheckedExpr}
use Rattle.domino_check.specs.declared.numbered.CheckedExpr.TheOpen as F
use Rattle.domino_check.specs.declared.numbered.CheckedExpr.TheVariants as e
use Rattle.domino_check.specs.NumberedMeaning.{numbered_mentioning, numbered_arrays}
use Rattle.domino_check.specs.Count as source_count
use Rattle.domino_check.specs.Sites as source_sites
use Rattle.domino_check.specs.WellFormed as source_forms
use Rattle.domino_check.proofs.TreeLemmas.{expr_induct}
use Rattle.code_forms.specs.declared.guard.GuardExpr.{GuardExpr, fold-GuardExpr, fold-roll-GuardExpr}
use Rattle.code_forms.specs.declared.guard.GuardExpr.TheOpen as G
use Rattle.code_forms.specs.declared.guard.GuardExpr.TheVariants as g
use Rattle.code_forms.specs.GuardValid.{mentioning, arrays_in, mentioning_field, mentions, counting, operators_in, fitting, fits}
use Rattle.branch_removal.specs.GuardedLines.{guarded}
use Rattle.branch_removal.proofs.Trees

-- a form of the source as one of guarded code
abbrev pub form : {A : Type 0} → F.CheckedExpr-F A → G.GuardExpr-F A
form (F.CheckedExpr-F.Number n) = G.GuardExpr-F.Number n
form (F.CheckedExpr-F.Field f) = G.GuardExpr-F.Field f
form (F.CheckedExpr-F.Cell a) = G.GuardExpr-F.Cell a
form (F.CheckedExpr-F.One op a) = G.GuardExpr-F.One op a
form (F.CheckedExpr-F.Two op a b) = G.GuardExpr-F.Two op a b
form (F.CheckedExpr-F.Pick c a b) = G.GuardExpr-F.Pick c a b
form (F.CheckedExpr-F.Hash kind args) = G.GuardExpr-F.Hash kind args

module _ (A : Type 0) (meaning : G.GuardExpr-F A → A) where
  abbrev after : GuardExpr → A
  after = fold-GuardExpr A meaning

  abbrev direct : F.CheckedExpr-F A → A
  direct y = meaning (form y)

  abbrev before : CheckedExpr → A
  before = fold-CheckedExpr A direct

  abbrev Fused : CheckedExpr → Type 0
  Fused x = after (guarded x) ≡ before x

  args_fused : (xs : List CheckedExpr) → Each Fused xs → map after (map guarded xs) ≡ map before xs
  args_fused [] held = refl
  args_fused (x ∷ xs) held = λ i. held.0 i ∷ args_fused xs held.1 i

  -- the value of a form on both sides
  joins : (x : CheckedExpr) (z : GuardExpr) (y : F.CheckedExpr-F A) → guarded x ≡ z → after z ≡ meaning (form y) → before x ≡ direct y → Fused x
  joins x z y same left right = ap after same ∙ left ∙ sym right

  pub fused : (x : CheckedExpr) → Fused x
  fused = expr_induct Fused
      (λ n. joins (e.Number n) (g.Number n) (F.CheckedExpr-F.Number n) (Trees.guarded-Number n)
      (ap after (sym (g.rolls-Number n)) ∙ fold-roll-GuardExpr A meaning (G.GuardExpr-F.Number n))
      (ap before (sym (e.rolls-Number n)) ∙ fold-roll-CheckedExpr A direct (F.CheckedExpr-F.Number n)))
      (λ f. joins (e.Field f) (g.Field f) (F.CheckedExpr-F.Field f) (Trees.guarded-Field f)
      (ap after (sym (g.rolls-Field f)) ∙ fold-roll-GuardExpr A meaning (G.GuardExpr-F.Field f))
      (ap before (sym (e.rolls-Field f)) ∙ fold-roll-CheckedExpr A direct (F.CheckedExpr-F.Field f)))
      (λ a. joins (e.Cell a) (g.Cell a) (F.CheckedExpr-F.Cell a) (Trees.guarded-Cell a)
      (ap after (sym (g.rolls-Cell a)) ∙ fold-roll-GuardExpr A meaning (G.GuardExpr-F.Cell a))
      (ap before (sym (e.rolls-Cell a)) ∙ fold-roll-CheckedExpr A direct (F.CheckedExpr-F.Cell a)))
      (λ op a h. joins (e.One op a) (g.One op (guarded a)) (F.CheckedExpr-F.One op (before a)) (Trees.guarded-One op a)
      (ap after (sym (g.rolls-One op (guarded a))) ∙ fold-roll-GuardExpr A meaning (G.GuardExpr-F.One op (guarded a)) ∙ (λ i. meaning (G.GuardExpr-F.One op (h i))))
      (ap before (sym (e.rolls-One op a)) ∙ fold-roll-CheckedExpr A direct (F.CheckedExpr-F.One op a)))
      (λ op a b h k. joins (e.Two op a b) (g.Two op (guarded a) (guarded b)) (F.CheckedExpr-F.Two op (before a) (before b)) (Trees.guarded-Two op a b)
      (ap after (sym (g.rolls-Two op (guarded a) (guarded b))) ∙ fold-roll-GuardExpr A meaning (G.GuardExpr-F.Two op (guarded a) (guarded b)) ∙ (λ i. meaning (G.GuardExpr-F.Two op (h i) (k i))))
      (ap before (sym (e.rolls-Two op a b)) ∙ fold-roll-CheckedExpr A direct (F.CheckedExpr-F.Two op a b)))
      (λ c a b l h k. joins (e.Pick c a b) (g.Pick (guarded c) (guarded a) (guarded b)) (F.CheckedExpr-F.Pick (before c) (before a) (before b)) (Trees.guarded-Pick c a b)
      (ap after (sym (g.rolls-Pick (guarded c) (guarded a) (guarded b))) ∙ fold-roll-GuardExpr A meaning (G.GuardExpr-F.Pick (guarded c) (guarded a) (guarded b)) ∙ (λ i. meaning (G.GuardExpr-F.Pick (l i) (h i) (k i))))
      (ap before (sym (e.rolls-Pick c a b)) ∙ fold-roll-CheckedExpr A direct (F.CheckedExpr-F.Pick c a b)))
      (λ kind args h. joins (e.Hash kind args) (g.Hash kind (map guarded args)) (F.CheckedExpr-F.Hash kind (map before args)) (Trees.guarded-Hash kind args)
      (ap after (sym (g.rolls-Hash kind (map guarded args))) ∙ fold-roll-GuardExpr A meaning (G.GuardExpr-F.Hash kind (map guarded args)) ∙ (λ i. meaning (G.GuardExpr-F.Hash kind (args_fused args h i))))
      (ap before (sym (e.rolls-Hash kind args)) ∙ fold-roll-CheckedExpr A direct (F.CheckedExpr-F.Hash kind args)))

  -- so it is a fold of the source's that has the same value at each form
  pub same_fold : (meant : F.CheckedExpr-F A → A) → ((y : F.CheckedExpr-F A) → direct y ≡ meant y) → (x : CheckedExpr) → after (guarded x) ≡ fold-CheckedExpr A meant x
  same_fold meant same x = fused x ∙ (λ i. fold-CheckedExpr A (λ y. same y i) x)

-- ---- what is said of an expression

pub arrays_same : (x : CheckedExpr) → arrays_in (guarded x) ≡ numbered_arrays x
arrays_same = same_fold (List ℕ) mentioning numbered_mentioning by_form where
  by_form : (y : F.CheckedExpr-F (List ℕ)) → mentioning (form y) ≡ numbered_mentioning y
  by_form (F.CheckedExpr-F.Number n) = refl
  by_form (F.CheckedExpr-F.Field f) = refl
  by_form (F.CheckedExpr-F.Cell a) = refl
  by_form (F.CheckedExpr-F.One op a) = refl
  by_form (F.CheckedExpr-F.Two op a b) = refl
  by_form (F.CheckedExpr-F.Pick c a b) = refl
  by_form (F.CheckedExpr-F.Hash kind args) = refl

pub mentions_same : (f : ℕ) (x : CheckedExpr) → mentions f (guarded x) ≡ source_sites.mentions f x
mentions_same f = same_fold Bool (mentioning_field f) (source_sites.mentioning_field f) by_form where
  by_form : (y : F.CheckedExpr-F Bool) → mentioning_field f (form y) ≡ source_sites.mentioning_field f y
  by_form (F.CheckedExpr-F.Number n) = refl
  by_form (F.CheckedExpr-F.Field k) = refl
  by_form (F.CheckedExpr-F.Cell a) = refl
  by_form (F.CheckedExpr-F.One op a) = refl
  by_form (F.CheckedExpr-F.Two op a b) = refl
  by_form (F.CheckedExpr-F.Pick c a b) = refl
  by_form (F.CheckedExpr-F.Hash kind args) = refl

pub operators_same : (x : CheckedExpr) → operators_in (guarded x) ≡ source_count.operators_in x
operators_same = same_fold ℕ counting source_count.counting by_form where
  by_form : (y : F.CheckedExpr-F ℕ) → counting (form y) ≡ source_count.counting y
  by_form (F.CheckedExpr-F.Number n) = refl
  by_form (F.CheckedExpr-F.Field f) = refl
  by_form (F.CheckedExpr-F.Cell a) = refl
  by_form (F.CheckedExpr-F.One op a) = refl
  by_form (F.CheckedExpr-F.Two op a b) = refl
  by_form (F.CheckedExpr-F.Pick c a b) = refl
  by_form (F.CheckedExpr-F.Hash kind args) = refl

pub fits_same : (fields arrays : ℕ) (x : CheckedExpr) → fits fields arrays (guarded x) ≡ source_forms.fits fields arrays x
fits_same fields arrays = same_fold Bool (fitting fields arrays) (source_forms.fitting fields arrays) by_form where
  by_form : (y : F.CheckedExpr-F Bool) → fitting fields arrays (form y) ≡ source_forms.fitting fields arrays y
  by_form (F.CheckedExpr-F.Number n) = refl
  by_form (F.CheckedExpr-F.Field f) = refl
  by_form (F.CheckedExpr-F.Cell a) = refl
  by_form (F.CheckedExpr-F.One op a) = refl
  by_form (F.CheckedExpr-F.Two op a b) = refl
  by_form (F.CheckedExpr-F.Pick c a b) = refl
  by_form (F.CheckedExpr-F.Hash kind args) = refl
