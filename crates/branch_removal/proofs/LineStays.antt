-- No line of a program in which no index moves sets a field of the index of an array that is touched there or before.
use Rattle.std.proofs.Common.{◌≡◌, ℕ, zero, suc, ◌<◌, Bool, true, false, not, ◌&&◌, ◌||◌, List, [], ◌∷◌, ◌++◌, length, map, get_or, replicate, Option, None, Some, refl, sym, ap, subst, ◌∙◌, append_assoc, arith}
use Rattle.std.specs.List.{fold}
use Rattle.std.proofs.lemmas.List.{length-replicate}
use Rattle.mp5_words.specs.Cells.{touching}
use Rattle.domino_check.specs.declared.numbered.CheckedExpr.{CheckedExpr}
use Rattle.domino_check.specs.Sites as source_sites
use Rattle.domino_check.specs.Sites.{Assigned, to_field, to_cell, nothing, Site, is_touched, stands_in, Moves, NoneMoves}
use Rattle.domino_check.proofs.SiteLemmas.{touched_by, touched_at, touched_push, length-touching}
use Rattle.code_forms.specs.declared.guard.GuardLine.{GuardLine}
use Rattle.code_forms.specs.declared.guard.GuardLine.TheVariants as line
use Rattle.code_forms.specs.declared.guard.ArrayShape.{ArrayShape}
use Rattle.code_forms.specs.GuardValid.{arrays_in, index_mentions, moves_marked, stay}
use Rattle.code_forms.specs.GuardMeaning.{index_at}
use Rattle.code_forms.proofs.ValidLemmas.{and_both}
use Rattle.branch_removal.specs.GuardedLines.{guarded_index}
use Rattle.branch_removal.proofs.GuardedLemmas.{mentions_same}
use Rattle.branch_removal.proofs.LineSites.{Part, of_line, of_site}

-- ---- what stays is said of the parts alone

abbrev part_leaves : List ArrayShape → List Bool → Assigned → Bool
part_leaves shapes marks (to_field f) = not (moves_marked f marks shapes)
part_leaves shapes marks (to_cell a) = true
part_leaves shapes marks nothing = true

abbrev pub parts_stay : List ArrayShape → List Bool → List Part → Bool
parts_stay shapes marks [] = true
parts_stay shapes marks (x ∷ xs) = part_leaves shapes (touching x.touches marks) x.assigns && parts_stay shapes (touching x.touches marks) xs

pub stay_parts : (shapes : List ArrayShape) (lines : List GuardLine) (marks : List Bool) → stay shapes marks lines ≡ parts_stay shapes marks (map of_line lines)
stay_parts shapes [] marks = refl
stay_parts shapes (line.Test cond under holds fails ∷ lines) marks = stay_parts shapes lines (touching (arrays_in cond) marks)
stay_parts shapes (line.SetField f guard value ∷ lines) marks =
    ap (λ b. not (moves_marked f (touching (arrays_in value) marks) shapes) && b) (stay_parts shapes lines (touching (arrays_in value) marks))
stay_parts shapes (line.SetCell a guard value ∷ lines) marks = stay_parts shapes lines (touching (a ∷ arrays_in value) marks)

-- ---- marks

and_not : (a b : Bool) → (a ≡ true → b ≡ true → ⊥) → (a && b) ≡ false
and_not true true never = elim (never refl refl) [ ]
and_not true false never = refl
and_not false b never = refl

none_marked : (f : ℕ) (marks : List Bool) (shapes : List ArrayShape) → ((a : ℕ) → get_or marks a false ≡ true → index_mentions f (index_at shapes a) ≡ true → ⊥) → moves_marked f marks shapes ≡ false
none_marked f [] shapes never = refl
none_marked f (m ∷ marks) [] never = refl
none_marked f (m ∷ marks) (s ∷ shapes) never = λ i. and_not m (index_mentions f s.index) (never 0) i || none_marked f marks shapes (λ a. never (suc a)) i

-- a place that is marked is within
inside : (marks : List Bool) (a : ℕ) → get_or marks a false ≡ true → a < length marks
inside [] a e = absurd cc
inside (b ∷ marks) zero e = omega arith
inside (b ∷ marks) (suc a) e = omega (arith, inside marks a e)

length-marked : (sites : List Site) (marks : List Bool) → length (fold (λ (m : List Bool) (site : Site). touching site.touches m) marks sites) ≡ length marks
length-marked [] marks = refl
length-marked (x ∷ sites) marks = length-marked sites (touching x.touches marks) ∙ length-touching x.touches marks

pub length-touched : (n : ℕ) (sites : List Site) → length (touched_by n sites) ≡ n
length-touched n sites = length-marked sites (replicate n false) ∙ length-replicate n false

-- ---- the sites

index_same : (f : ℕ) (index : Option CheckedExpr) → index_mentions f (guarded_index index) ≡ source_sites.index_mentions f index
index_same f None = refl
index_same f (Some x) = mentions_same f x

module _ (indexes : List (Option CheckedExpr)) (shapes : List ArrayShape) (n : ℕ) (same : (a : ℕ) → a < n → index_at shapes a ≡ guarded_index (get_or indexes a None)) where
  leaves_here : (sites : List Site) (x : Assigned) → ((a : ℕ) → Moves indexes sites x a → ⊥) → part_leaves shapes (touched_by n sites) x ≡ true
  leaves_here sites (to_cell a) never = refl
  leaves_here sites nothing never = refl
  leaves_here sites (to_field f) never = ap not (none_marked f (touched_by n sites) shapes (λ a marked mentioned.
      let within : a < n = subst (λ k. a < k) (length-touched n sites) (inside (touched_by n sites) a marked) in
      never a (
        sym (touched_at a n sites within) ∙ marked,
        sym (index_same f (get_or indexes a None)) ∙ ap (index_mentions f) (sym (same a within)) ∙ mentioned,
      )))

  sites_stay : (before rest : List Site) → NoneMoves indexes (before ++ rest) → parts_stay shapes (touched_by n before) (map of_site rest) ≡ true
  sites_stay before [] none = refl
  sites_stay before (x ∷ rest) none =
      subst (λ m. (part_leaves shapes m x.assigns && parts_stay shapes m (map of_site rest)) ≡ true) (touched_push n before x)
      (and_both (part_leaves shapes (touched_by n (before ++ x ∷ [])) x.assigns) _
      (leaves_here (before ++ x ∷ []) x.assigns (none before x rest refl))
      (sites_stay (before ++ x ∷ []) rest (subst (NoneMoves indexes) (sym (append_assoc before (x ∷ []) rest)) none)))

  pub lines_stay : (lines : List GuardLine) (sites : List Site) → map of_line lines ≡ map of_site sites → NoneMoves indexes sites → stay shapes (replicate n false) lines ≡ true
  lines_stay lines sites are none = stay_parts shapes lines (replicate n false) ∙ ap (parts_stay shapes (replicate n false)) are ∙ sites_stay [] sites none
