-- Staged code of the passes means its source: each touched array is in a group, and what the passes keep is kept together.
use Rattle.std.proofs.Common.{◌≡◌, ℕ, suc, ◌<◌, ℤ, true, false, List, [], ◌∷◌, length, map, Option, Some, None, refl, sym, ap, subst, ◌∙◌, arith}
use Rattle.std.proofs.lemmas.List.{length-map}
use Rattle.mp5_words.specs.Domain.{Loads, words}
use Rattle.mp5_words.specs.Copies.{Copy}
use Rattle.domino_tree.specs.declared.program.Program.{Program}
use Rattle.domino_names.specs.declared.infos.ArrayInfo.{ArrayInfo}
use Rattle.domino_names.specs.Infos.{infos_of}
use Rattle.domino_check.specs.Numbering.{Access, accesses}
use Rattle.domino_check.proofs.Agreement.{agreement}
use Rattle.code_forms.specs.declared.flat.FlatArray.{FlatArray}
use Rattle.code_forms.specs.declared.flat.FlatCode.{FlatCode}
use Rattle.code_forms.specs.declared.flat.Operand.{Operand}
use Rattle.code_forms.specs.declared.guard.ArrayShape.{ArrayShape}
use Rattle.code_forms.specs.declared.guard.GuardCode.{GuardCode}
use Rattle.code_forms.specs.declared.layout.Layout.{Layout}
use Rattle.code_forms.specs.FlatValid.{is_some, is_touched}
use Rattle.code_forms.specs.Staged.{Staged, group_of, in_parts, IsStaged}
use Rattle.code_forms.specs.StagedMeaning.{PlacesAreIndexes}
use Rattle.branch_removal.specs.Kept.{KeepsMeaning}
use Rattle.branch_removal.specs.Shapes.{shapes_from}
use Rattle.branch_removal.proofs.ShapeLemmas as shape_lemmas
use Rattle.ssa_flatten.specs.Flattened.{under_of, AreArraysFor, MeansLines, Means}
use Rattle.index_resolve.specs.Places.{NoneTouched}
use Rattle.index_resolve.specs.Resolve.{IsPacked, IsResolved}
use Rattle.index_resolve.proofs.GroupFacts.{touched_there}
use Rattle.domino_compile.specs.GroupsCode.{IsCodeOf}
use Rattle.domino_compile.specs.MeaningKept.{IsStagedOf, MeansSource}
use Rattle.domino_compile.proofs.GroupsStand.{known, guards_are}
use Rattle.domino_compile.proofs.ListedGroups.{same_number}
use Rattle.domino_compile.proofs.MeaningWhole.{means_source}
use Rattle.domino_compile.proofs.NeedsNodes.{touched_known}
use Rattle.code_forms.proofs.UnitLemmas.{has_units}
use Rattle.domino_compile.specs.MeaningRun.{AreWide, RunsAsSource}
use Rattle.domino_compile.proofs.MeaningGroups.{group_has}
use Rattle.domino_compile.proofs.MeaningRun.{runs}
use Rattle.domino_compile.proofs.MeaningStart.{row_is, units_start}

-- the flat code means the lines on words, whatever is loaded
abbrev pub MeansWords : GuardCode → FlatCode → Type 0
MeansWords g f = (sizes : ℕ → ℕ) (loads : Loads) → Means ℤ (words sizes loads) g f

-- ---- the arrays

starts_from : (xs : List Access) (k : ℕ) (infos : List ArrayInfo) → map (λ (s : ArrayShape). s.start) (shapes_from xs k infos) ≡ map (λ (i : ArrayInfo). i.start) infos
starts_from xs k [] = refl
starts_from xs k (x ∷ infos) = ap (λ l. x.start ∷ l) (starts_from xs (suc k) infos)

module _ (p : Program) (g : GuardCode) (f : FlatCode) (is : IsCodeOf p g f) where
  -- flat code has the arrays of the program
  lengths : map (λ (x : FlatArray). x.length) f.arrays ≡ map (λ (i : ArrayInfo). i.length) (infos_of p)
  lengths = is.flat_arrays.lengths ∙ ap (map (λ (s : ArrayShape). s.length)) is.arrays ∙ shape_lemmas.lengths_are p

  starts : map (λ (x : FlatArray). x.start) f.arrays ≡ map (λ (i : ArrayInfo). i.start) (infos_of p)
  starts = is.flat_arrays.starts ∙ ap (map (λ (s : ArrayShape). s.start)) is.arrays ∙ starts_from (accesses p) 0 (infos_of p)

  many : length f.arrays ≡ length (infos_of p)
  many = sym (length-map f.arrays (λ (x : FlatArray). x.length)) ∙ ap length lengths ∙ length-map (infos_of p) (λ (i : ArrayInfo). i.length)

  -- a touched array is one of the sixteen that have groups
  few : (a : ℕ) → is_touched f.arrays a ≡ true → a < 16
  few a touched = omega (arith, touched_there f.arrays a touched, many, is.keeps.few)

  -- and the lines know it
  known_array : (a : ℕ) → is_touched f.arrays a ≡ true → (k : Copy Operand) × (known p g f is a ≡ Some k)
  known_array a touched = by_copy (known p g f is a) refl where
    by_copy : (o : Option (Copy Operand)) → known p g f is a ≡ o → (k : Copy Operand) × (known p g f is a ≡ Some k)
    by_copy (Some k) e = (k, e)
    by_copy None e = absurd (none (sym touched ∙ ap is_some (guards_are p g f is a) ∙ ap (λ o. is_some (under_of o)) e)) where
      none : true ≡ false → ⊥
      none t = cc

  -- ---- the groups of the staged code

  module _ (l : Layout) (c : Staged) (packed : IsPacked f l) (resolved : IsResolved f l c) where
    same : c ≡ in_parts f resolved.0
    same = resolved.1

    grouped : IsStaged c → (a : ℕ) → is_touched c.arrays a ≡ true → (n : ℕ) × (group_of c a ≡ Some n)
    grouped staged a touched =
        let here : is_touched f.arrays a ≡ true = ap (λ (s : Staged). is_touched s.arrays a) (sym same) ∙ touched in
        let k = known_array a here in
        let number = packed.layout.groups.touched a (omega (arith, few a here, packed.layout.wide)) (touched_known p g f is a k.0 k.1) in
        (number.0, ap (λ (s : Staged). group_of s a) same ∙ sym (same_number f l packed resolved.0 resolved.2 (subst IsStaged same staged) a) ∙ number.2)

    -- ---- its meaning

    is_staged_of : KeepsMeaning p g.arrays g.lines → MeansWords g f → IsStaged c → PlacesAreIndexes c → NoneTouched c → IsStagedOf p g c
    is_staged_of keeps means staged places unplaced = record {
      executes = agreement p is.passes.names is.keeps.indexed;
      shapes = is.arrays;
      keeps = keeps;
      fields = ap (λ (s : Staged). s.fields) same ∙ is.width;
      arrays = subst (λ (s : Staged). AreArraysFor g s.arrays) (sym same) is.flat_arrays;
      means = λ sizes loads. subst (λ (s : Staged). MeansLines ℤ (words sizes loads) g.fields g.arrays g.lines s.arrays s.instrs s.last) (sym same) (means sizes loads);
      grouped = grouped staged;
      staged = staged;
      places = places;
      unplaced = unplaced;
    }

    pub made_means : KeepsMeaning p g.arrays g.lines → MeansWords g f → IsStaged c → PlacesAreIndexes c → NoneTouched c → MeansSource p c
    made_means keeps means staged places unplaced = means_source p g c (is_staged_of keeps means staged places unplaced)

    pub made_runs : KeepsMeaning p g.arrays g.lines → MeansWords g f → IsStaged c → PlacesAreIndexes c → NoneTouched c → (headers : List (List ℤ)) → AreWide c headers → RunsAsSource p c headers
    made_runs keeps means staged places unplaced headers wide =
        let whole : IsStagedOf p g c = is_staged_of keeps means staged places unplaced in
        runs p c (λ header long. has_units c header staged places long) (λ a h e. (group_has c a h e).0) (means_source p g c whole) headers wide (units_start p g c whole) (row_is p g c whole)

    -- ---- its fields and arrays

    pub made_fields : c.fields ≡ length p.packet.fields
    made_fields = ap (λ (s : Staged). s.fields) same ∙ is.width ∙ is.fields

    pub made_lengths : map (λ (x : FlatArray). x.length) c.arrays ≡ map (λ (i : ArrayInfo). i.length) (infos_of p)
    made_lengths = ap (λ (s : Staged). map (λ (x : FlatArray). x.length) s.arrays) same ∙ lengths

    pub made_starts : map (λ (x : FlatArray). x.start) c.arrays ≡ map (λ (i : ArrayInfo). i.start) (infos_of p)
    made_starts = ap (λ (s : Staged). map (λ (x : FlatArray). x.start) s.arrays) same ∙ starts
