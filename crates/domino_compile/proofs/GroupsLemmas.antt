-- The groups of flat code are those of the source.
use Rattle.std.proofs.Common.{ℕ, List, Option}
use Rattle.domino_tree.specs.declared.program.Program.{Program}
use Rattle.domino_check.specs.SourceGroups as source_groups
use Rattle.code_forms.specs.declared.guard.GuardCode.{GuardCode}
use Rattle.code_forms.specs.declared.flat.FlatCode.{FlatCode}
use Rattle.dependence.specs.Groups.{RestsOn, Before, AreGroups}
use Rattle.dependence.specs.Reach.{Reaches, here, step}
use Rattle.dependence.proofs.PathLemmas.{depth_along}
use Rattle.flat_graph.specs.Layouts as layouts
use Rattle.flat_graph.specs.Nodes.{nodes}
use Rattle.domino_compile.specs.GroupsCode.{IsCodeOf}
use Rattle.domino_compile.proofs.NeedsLemmas.{reaches_needed, needed_reaches, needs_touched}
use Rattle.domino_compile.proofs.NeedsNodes.{touched_source, source_touched}

-- two relations that say the same of touched arrays, and rest on touched arrays alone, have the same groups
module _ (T U : ℕ → Type 0) (Q S : ℕ → ℕ → Type 0) (over : (a : ℕ) → T a → U a) (back : (a : ℕ) → U a → T a)
    (to : (a b : ℕ) → T a → T b → Q a b → S a b) (from : (a b : ℕ) → T a → T b → S a b → Q a b)
    (ends : (a b : ℕ) → RestsOn Q a b → T a × T b) (both : (a b : ℕ) → RestsOn S a b → T a × T b) where
  rests : (a b : ℕ) → RestsOn Q a b → RestsOn S a b
  rests a b h = let t = ends a b h in (to a b t.0 t.1 h.0, λ s. h.1 (from b a t.1 t.0 s))

  rests_back : (a b : ℕ) → RestsOn S a b → RestsOn Q a b
  rests_back a b h = let t = both a b h in (from a b t.0 t.1 h.0, λ s. h.1 (to b a t.1 t.0 s))

  before : (of : List (Option ℕ)) (a b : ℕ) → Before Q of a b → Before S of a b
  before of a b h = (h.0, h.1, depth_along (RestsOn Q) (RestsOn S) rests rests_back a h.0 h.2, depth_along (RestsOn Q) (RestsOn S) rests rests_back b h.1 h.3, h.4)

  pub groups_touched : (count : ℕ) (of : List (Option ℕ)) → AreGroups T Q count of → AreGroups U S count of
  groups_touched count of h = record {
    touched = λ a less t. h.touched a less (back a t);
    untouched = λ a less none. h.untouched a less (λ t. none (over a t));
    same = λ a b ua ub.
        let ta : T a = back a ua in
        let tb : T b = back b ub in
        (λ e. let q = (h.same a b ta tb).0 e in (to a b ta tb q.0, to b a tb ta q.1), λ s. (h.same a b ta tb).1 (from a b ta tb s.0, from b a tb ta s.1));
    used = λ g less. let u = h.used g less in (u.0, u.1, over u.0 u.2, u.3);
    ordered = λ a b g k ea eb less. before of a b (h.ordered a b g k ea eb less);
  }

module _ (p : Program) (g : GuardCode) (f : FlatCode) (is : IsCodeOf p g f) where
  abbrev Touched : ℕ → Type 0
  Touched a = layouts.IsTouched (nodes f) a

  -- arrays that need each other through others are touched, or are one array
  last_touched : (a b : ℕ) → Reaches (source_groups.Needs p) a b → Touched a → Touched b
  last_touched a b (here {a = c}) t = t
  last_touched a b (step {a = c} {b = d} {c = e} need rest) t = last_touched d b rest (needs_touched p g f is c d need).1

  first_touched : (a b : ℕ) → Reaches (source_groups.Needs p) a b → (Reaches (source_groups.Needs p) b a → ⊥) → Touched a
  first_touched a b (here {a = c}) none = absurd (none here)
  first_touched a b (step {a = c} {b = d} {c = e} need rest) none = (needs_touched p g f is c d need).0

  -- groups of flat code, by which of its arrays reach which, are those of the source
  pub groups_are : (count : ℕ) (of : List (Option ℕ)) → AreGroups (layouts.IsTouched (nodes f)) (layouts.ArrayReaches (nodes f)) count of → source_groups.AreSourceGroups p count of
  groups_are =
      groups_touched Touched (source_groups.IsTouched p) (layouts.ArrayReaches (nodes f)) (Reaches (source_groups.Needs p)) (touched_source p g f is) (source_touched p g f is)
      (λ a b ta tb. reaches_needed p g f is a b) (λ a b ta tb. needed_reaches p g f is a b ta tb)
      (λ a b h. ((h.0.0, h.0.1, h.0.2), (h.0.3.0, h.0.3.1, h.0.3.2)))
      (λ a b h. let t = first_touched a b h.0 h.1 in (t, last_touched a b h.0 t))
