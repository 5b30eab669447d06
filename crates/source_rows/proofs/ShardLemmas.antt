-- What makes a group sharded, from the indexes and lengths of the arrays that there are.
use Rattle.std.proofs.Common.{◌≡◌, ℕ, ◌≤◌, if◌then◌else◌, List, [], ◌∷◌, length, Option, None, inl, inr, refl, sym, ap, subst, ◌∙◌, arith}
use Rattle.std.specs.List.{slice_index_or}
use Rattle.std.proofs.lemmas.Bool.Decides.{eqb_tells}
use Rattle.domino_tree.specs.declared.program.Program.{Program}
use Rattle.domino_tree.specs.Value.{names_of}
use Rattle.domino_names.specs.Infos.{infos_of}
use Rattle.domino_names.proofs.InfoLemmas.{length-infos}
use Rattle.domino_check.specs.Indexes.{AreBelow, index_of}
use Rattle.domino_check.specs.Numbering.{Access, accesses}
use Rattle.domino_check.specs.Refused.{Passes}
use Rattle.domino_check.specs.SourceGroups.{IsSharded, source_walk}
use Rattle.domino_check.proofs.BelowLemmas.{accesses_below}
use Rattle.source_rows.specs.Shards.{AreClean, AllAlike}
use Rattle.source_rows.specs.Views.{Copies}

no_index : (n a : ℕ) (xs : List Access) → n ≤ a → AreBelow n xs → index_of xs a ≡ None
no_index n a [] past below = refl
no_index n a (x ∷ xs) past below =
    elim (eqb_tells x.array a) [
      | inl same ↦ absurd (let here = same.1 in let less = below.0 in omega (arith, past, less, here))
      | inr other ↦ ap (λ b. if b then x.index else index_of xs a) other.0 ∙ no_index n a xs past below.1
    ]

-- past the arrays of a program there is no index
pub no_index_past : (p : Program) (a : ℕ) → Passes p → length (infos_of p) ≤ a → index_of (accesses p) a ≡ None
no_index_past p a passes past = no_index (length (names_of p).arrays) a (accesses p) (omega (arith, past, length-infos p)) (accesses_below p passes.names)

module _ (p : Program) (of : List (Option ℕ)) (g : ℕ) (copies : Copies) (walked : copies ≡ (source_walk p).copies) where
  -- a group is sharded where its arrays are clean and alike
  pub sharded : AreClean (λ a. slice_index_or copies a None) of g → AllAlike p of g → IsSharded p of g
  sharded clean alike = record {
    clean = subst (λ (cs : Copies). AreClean (λ a. slice_index_or cs a None) of g) walked clean;
    index = λ a b is_a is_b. (alike a is_a b is_b).index;
    length = λ a b is_a is_b. (alike a is_a b is_b).length;
  }

  pub sharded_clean : IsSharded p of g → AreClean (λ a. slice_index_or copies a None) of g
  sharded_clean s = subst (λ (cs : Copies). AreClean (λ a. slice_index_or cs a None) of g) (sym walked) s.clean

-- the arrays of a sharded group are alike
pub sharded_alike : (p : Program) (of : List (Option ℕ)) (g : ℕ) → IsSharded p of g → AllAlike p of g
sharded_alike p of g s a is_a b is_b = record { index = s.index a b is_a is_b; length = s.length a b is_a is_b }
