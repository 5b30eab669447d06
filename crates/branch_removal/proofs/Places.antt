-- The place that an index names, of guarded code and of the source.
use Rattle.std.proofs.Common.{◌≡◌, ℕ, zero, suc, ℤ, pos, List, [], ◌∷◌, map, Option, None, Some, refl, sym, ap, ◌∙◌}
use Rattle.std.proofs.Math.Nat.{zero-mod}
use Rattle.mp5_words.specs.Words.{op1, op2, cell}
use Rattle.mp5_words.specs.Cells.{picked, hash_all}
use Rattle.domino_tree.proofs.ExprLemmas.{Each}
use Rattle.domino_check.specs.declared.numbered.CheckedExpr.{CheckedExpr, fold-roll-CheckedExpr}
use Rattle.domino_check.specs.declared.numbered.CheckedExpr.TheOpen as F
use Rattle.domino_check.specs.declared.numbered.CheckedExpr.TheVariants as e
use Rattle.domino_check.specs.NumberedMeaning.{Indexing, plain_meaning, plain_value, named_place, place}
use Rattle.domino_check.proofs.MeaningLemmas as source
use Rattle.code_forms.specs.declared.guard.GuardExpr.{GuardExpr}
use Rattle.code_forms.specs.declared.guard.ArrayShape.{ArrayShape}
use Rattle.mp5_words.specs.Domain.{Loads, word_ops}
use Rattle.mp5_words.specs.Copies.{Seen, on_fields}
use Rattle.code_forms.specs.GuardMeaning.{guard_value, index_value, index_at, length_at}
use Rattle.branch_removal.specs.GuardedLines.{guarded, guarded_index}
use Rattle.branch_removal.proofs.Copies.{spot}
use Rattle.code_forms.proofs.GuardTrees
use Rattle.domino_check.proofs.TreeLemmas.{expr_induct}
use Rattle.branch_removal.proofs.Trees

plain-Cell : (a : ℕ) (fields : List ℤ) → plain_value (e.Cell a) fields ≡ pos 0
plain-Cell a fields = ap (λ x. plain_value x fields) (sym (e.rolls-Cell a)) ∙ ap (λ g. g fields) (fold-roll-CheckedExpr (List ℤ → ℤ) plain_meaning (F.CheckedExpr-F.Cell a))

module _ (fields : List ℤ) where
  abbrev w : Seen ℤ
  w = on_fields ℤ word_ops fields

  -- the value of the guarded expression on the fields alone
  abbrev value : GuardExpr → ℤ
  value x = guard_value ℤ word_ops x w

  abbrev Plain : CheckedExpr → Type 0
  Plain x = plain_value x fields ≡ value (guarded x)

  args : (xs : List CheckedExpr) → Each Plain xs → map (λ (a : List ℤ → ℤ). a fields) (map plain_value xs) ≡ map (λ (a : Seen ℤ → ℤ). a w) (map (guard_value ℤ word_ops) (map guarded xs))
  args [] held = refl
  args (x ∷ xs) held = λ i. held.0 i ∷ args xs held.1 i

  pub plain_same : (x : CheckedExpr) → Plain x
  plain_same = expr_induct Plain
      (λ n. source.plain-Number n fields ∙ sym (ap value (Trees.guarded-Number n) ∙ GuardTrees.value-Number ℤ word_ops n w))
      (λ f. source.plain-Field f fields ∙ sym (ap value (Trees.guarded-Field f) ∙ GuardTrees.value-Field ℤ word_ops f w))
      (λ a. plain-Cell a fields ∙ sym (ap value (Trees.guarded-Cell a) ∙ GuardTrees.value-Cell ℤ word_ops a w))
      (λ op a h. source.plain-One op a fields ∙ ap (op1 op) h ∙ sym (ap value (Trees.guarded-One op a) ∙ GuardTrees.value-One ℤ word_ops op (guarded a) w))
      (λ op a b h k. source.plain-Two op a b fields ∙ (λ i. op2 op (h i) (k i)) ∙ sym (ap value (Trees.guarded-Two op a b) ∙ GuardTrees.value-Two ℤ word_ops op (guarded a) (guarded b) w))
      (λ c a b g h k. source.plain-Pick c a b fields ∙ (λ i. picked (g i) (h i) (k i)) ∙ sym (ap value (Trees.guarded-Pick c a b) ∙ GuardTrees.value-Pick ℤ word_ops (guarded c) (guarded a) (guarded b) w))
      (λ kind xs h. source.plain-Hash kind xs fields ∙ ap (hash_all kind) (args xs h) ∙ sym (ap value (Trees.guarded-Hash kind xs) ∙ GuardTrees.value-Hash ℤ word_ops kind (map guarded xs) w))

-- the place of an array by its shape is the place by the source's index, where there is one
pub places_same : (shapes : List ArrayShape) (loads : Loads) (cells0 : List (List ℤ)) (ix : Indexing) (a : ℕ) (x : CheckedExpr) (fields : List ℤ) → ix.index a ≡ Some x → index_at shapes a ≡ guarded_index (ix.index a) → length_at shapes a ≡ ix.length a → place ix a fields ≡ spot shapes loads cells0 a fields
places_same shapes loads cells0 ix a x fields there shape long =
    ap (λ o. named_place o (ix.length a) fields) there
    ∙ (λ i. cell (plain_same fields x i) (sym long i))
    ∙ (λ i. cell (index_value ℤ word_ops (sym (shape ∙ ap guarded_index there) i) fields) (length_at shapes a))

zero_cell : (n : ℕ) → cell (pos 0) n ≡ 0
zero_cell zero = refl
zero_cell (suc n) = zero-mod (suc n)

-- of every array
pub all_places : (shapes : List ArrayShape) (loads : Loads) (cells0 : List (List ℤ)) (ix : Indexing) → ((a : ℕ) → index_at shapes a ≡ guarded_index (ix.index a)) → ((a : ℕ) → length_at shapes a ≡ ix.length a) → (a : ℕ) (fields : List ℤ) → place ix a fields ≡ spot shapes loads cells0 a fields
all_places shapes loads cells0 ix same long a fields = by_index (ix.index a) refl where
  by_index : (o : Option CheckedExpr) → ix.index a ≡ o → place ix a fields ≡ spot shapes loads cells0 a fields
  by_index None is =
      ap (λ o. named_place o (ix.length a) fields) is
      ∙ sym (zero_cell (length_at shapes a))
      ∙ ap (λ x. cell (index_value ℤ word_ops x fields) (length_at shapes a)) (sym (same a ∙ ap guarded_index is))
  by_index (Some x) is = places_same shapes loads cells0 ix a x fields is (same a) (long a)
