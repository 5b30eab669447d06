-- The arrays of an expression that fits are there.
use Rattle.std.proofs.Common.{◌≡◌, ℕ, ◌<◌, ◌==◌, Bool, true, nat_lt, List, [], ◌∷◌, length, map, flat_map, sym, subst, ◌∙◌, arith}
use Rattle.std.specs.List.{list_all}
use Rattle.std.proofs.lemmas.Bool.Decides.{nat_tests}
use Rattle.code_forms.proofs.EachLemmas.{Each, each_join}
use Rattle.mp5_words.specs.Words.{arity}
use Rattle.code_forms.specs.declared.guard.GuardExpr.{GuardExpr}
use Rattle.code_forms.specs.declared.guard.GuardLine.{GuardLine}
use Rattle.code_forms.specs.declared.guard.GuardLine.TheVariants as line
use Rattle.code_forms.specs.GuardValid.{fits, arrays_in, line_arrays, line_fits}
use Rattle.code_forms.proofs.GuardTrees
use Rattle.code_forms.proofs.ValidLemmas.{and_front, and_back}

module _ (fields arrays : ℕ) where
  abbrev Below : GuardExpr → Type 0
  Below x = fits fields arrays x ≡ true → Each (λ a. a < arrays) (arrays_in x)

  args_below : (xs : List GuardExpr) → Each Below xs → list_all (λ (a : Bool). a) (map (fits fields arrays) xs) ≡ true → Each (λ a. a < arrays) (flat_map (λ (l : List ℕ). l) (map arrays_in xs))
  args_below [] held e = tt
  args_below (x ∷ xs) held e = each_join (λ a. a < arrays) (arrays_in x) _ (held.0 (and_front (fits fields arrays x) _ e)) (args_below xs held.1 (and_back (fits fields arrays x) _ e))

  array_below : (a : ℕ) → nat_lt a arrays ≡ true → a < arrays
  array_below a e = grind (arith, nat_tests, e)

  pub arrays_below : (x : GuardExpr) → Below x
  arrays_below = GuardTrees.guard_induct Below
      (λ n e. subst (Each (λ a. a < arrays)) (sym (GuardTrees.arrays-Number n)) tt)
      (λ f e. subst (Each (λ a. a < arrays)) (sym (GuardTrees.arrays-Field f)) tt)
      (λ a e. subst (Each (λ a. a < arrays)) (sym (GuardTrees.arrays-Cell a)) (array_below a (sym (GuardTrees.fits-Cell fields arrays a) ∙ e), tt))
      (λ op a held e. subst (Each (λ a. a < arrays)) (sym (GuardTrees.arrays-One op a)) (held (sym (GuardTrees.fits-One fields arrays op a) ∙ e)))
      (λ op a b one two e.
      let all = sym (GuardTrees.fits-Two fields arrays op a b) ∙ e in
      subst (Each (λ a. a < arrays)) (sym (GuardTrees.arrays-Two op a b)) (each_join (λ a. a < arrays) (arrays_in a) (arrays_in b) (one (and_front (fits fields arrays a) _ all)) (two (and_back (fits fields arrays a) _ all))))
      (λ c a b none one two e.
      let all = sym (GuardTrees.fits-Pick fields arrays c a b) ∙ e in
      let both = and_back (fits fields arrays c) _ all in
      subst (Each (λ a. a < arrays)) (sym (GuardTrees.arrays-Pick c a b)) (each_join (λ a. a < arrays) (arrays_in c) _ (none (and_front (fits fields arrays c) _ all)) (each_join (λ a. a < arrays) (arrays_in a) (arrays_in b) (one (and_front (fits fields arrays a) _ both)) (two (and_back (fits fields arrays a) _ both)))))
      (λ kind args held e.
      let all = sym (GuardTrees.fits-Hash fields arrays kind args) ∙ e in
      subst (Each (λ a. a < arrays)) (sym (GuardTrees.arrays-Hash kind args)) (args_below args held (and_back (length (map (fits fields arrays) args) == arity kind) _ all)))

  pub line_below : (l : GuardLine) → line_fits fields arrays l ≡ true → Each (λ a. a < arrays) (line_arrays l)
  line_below (line.Test cond under holds fails) e = arrays_below cond e
  line_below (line.SetField f guard value) e = arrays_below value (and_back (nat_lt f fields) _ e)
  line_below (line.SetCell a guard value) e = (array_below a (and_front (nat_lt a arrays) _ e), arrays_below value (and_back (nat_lt a arrays) _ e))
