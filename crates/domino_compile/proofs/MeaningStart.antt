-- The units at the start are those of the cells at the start.
use Rattle.std.proofs.Common.{◌≡◌, ℕ, zero, suc, ◌<◌, ℤ, pos, Bool, true, false, if◌then◌else◌, List, [], ◌∷◌, length, map, replicate, refl, sym, ap, subst, ◌∙◌, arith}
use Rattle.std.specs.List.{slice_index_or}
use Rattle.std.proofs.lemmas.List.{length-map}
use Rattle.mp5_words.specs.Cells.{word_at, cells_at}
use Rattle.domino_tree.specs.declared.program.Program.{Program}
use Rattle.domino_tree.specs.Value.{Array, names_of}
use Rattle.domino_tree.specs.Sequential as sequential
use Rattle.domino_names.specs.declared.infos.ArrayInfo.{ArrayInfo}
use Rattle.domino_names.specs.Infos.{infos_of, array_of}
use Rattle.domino_names.proofs.InfoLemmas.{infos_are, length-infos}
use Rattle.domino_check.specs.Numbering.{Access, accesses}
use Rattle.code_forms.specs.declared.flat.FlatArray.{FlatArray}
use Rattle.code_forms.specs.declared.guard.ArrayShape.{ArrayShape}
use Rattle.code_forms.specs.declared.guard.GuardCode.{GuardCode}
use Rattle.code_forms.specs.FlatMeaning.{flat_length}
use Rattle.code_forms.specs.GuardMeaning.{length_at}
use Rattle.code_forms.specs.Staged.{Staged, Member, group_at, first_array, unit_count}
use Rattle.code_forms.specs.StagedMeaning.{start_of, start_cells}
use Rattle.branch_removal.specs.Shapes.{shapes_from}
use Rattle.branch_removal.proofs.ShapeLemmas.{shapes_long, length_same}
use Rattle.domino_compile.specs.MeaningKept.{in_unit, units_of, IsStagedOf}
use Rattle.domino_compile.proofs.UnitsLemmas.{flat_same}
use Rattle.domino_compile.proofs.MeaningGroups.{array_there}

starts_from : (xs : List Access) (k : ℕ) (infos : List ArrayInfo) → map (λ (s : ArrayShape). s.start) (shapes_from xs k infos) ≡ map (λ (d : Array). d.start) (map array_of infos)
starts_from xs k [] = refl
starts_from xs k (x ∷ infos) = ap (λ l. x.start ∷ l) (starts_from xs (suc k) infos)

start_row : (arrays : List Array) (a : ℕ) → a < length arrays
    → cells_at (map (λ (d : Array). replicate d.length d.start) arrays) a ≡ replicate (slice_index_or (map (λ (d : Array). d.length) arrays) a 1) (slice_index_or (map (λ (d : Array). d.start) arrays) a (pos 0))
start_row [] a within = absurd (omega (arith, within))
start_row (d ∷ arrays) zero within = refl
start_row (d ∷ arrays) (suc a) within = start_row arrays a (omega (arith, within))

word_of_all : (n i : ℕ) (x : ℤ) → i < n → word_at (replicate n x) i ≡ x
word_of_all zero i x within = absurd (omega (arith, within))
word_of_all (suc n) zero x within = refl
word_of_all (suc n) (suc i) x within = word_of_all n i x (omega (arith, within))

module _ (p : Program) (g : GuardCode) (c : Staged) (is : IsStagedOf p g c) where
  -- each array starts with its start value in each cell
  pub row_is : (a : ℕ) → a < length c.arrays → cells_at (sequential.start_cells (names_of p)) a ≡ replicate (flat_length c.arrays a) (start_of c.arrays a)
  row_is a below = start_row (names_of p).arrays a (subst (λ n. a < n) many below) ∙ (λ i. replicate (long i) (start i)) where
    long : slice_index_or (map (λ (d : Array). d.length) (names_of p).arrays) a 1 ≡ flat_length c.arrays a
    long = sym (ap (λ l. length_at l a) is.shapes ∙ length_same p a) ∙ sym (ap (λ l. slice_index_or l a 1) is.arrays.lengths)

    start : slice_index_or (map (λ (d : Array). d.start) (names_of p).arrays) a (pos 0) ≡ start_of c.arrays a
    start =
        sym (ap (λ l. slice_index_or l a (pos 0)) (
        is.arrays.starts ∙ ap (map (λ (s : ArrayShape). s.start)) is.shapes ∙ starts_from (accesses p) 0 (infos_of p)
        ∙ ap (map (λ (d : Array). d.start)) (infos_are p)))

    many : length c.arrays ≡ length (names_of p).arrays
    many =
        sym (length-map c.arrays (λ (f : FlatArray). f.length)) ∙ ap length is.arrays.lengths ∙ length-map g.arrays (λ (s : ArrayShape). s.length)
        ∙ ap (λ (l : List ArrayShape). length l) is.shapes ∙ shapes_long p ∙ length-infos p

  -- each unit starts with the start values of its arrays
  pub units_start : (h u : ℕ) → h < length c.groups → u < unit_count c (group_at c h) → units_of c (sequential.start_cells (names_of p)) h u ≡ start_cells c (group_at c h)
  units_start h u below less =
      flat_same (λ a. in_unit (group_at c h) u (cells_at (sequential.start_cells (names_of p)) a)) (λ a. replicate (if (group_at c h).sharded then 1 else flat_length c.arrays a) (start_of c.arrays a)) (group_at c h).arrays
      (λ a m. ap (in_unit (group_at c h) u) (row_is a (array_there c is.staged h a below m)) ∙ each a m (group_at c h).sharded refl) where
        each : (a : ℕ) → Member a (group_at c h).arrays → (s : Bool) → (group_at c h).sharded ≡ s
            → (if s then word_at (replicate (flat_length c.arrays a) (start_of c.arrays a)) u ∷ [] else replicate (flat_length c.arrays a) (start_of c.arrays a)) ≡ replicate (if s then 1 else flat_length c.arrays a) (start_of c.arrays a)
        each a m true sharded =
            let first : u < flat_length c.arrays (first_array (group_at c h)) = subst (λ (b : Bool). u < (if b then flat_length c.arrays (first_array (group_at c h)) else 1)) sharded less in
            let own : u < flat_length c.arrays a = subst (λ n. u < n) (sym ((is.staged.groups h below).even sharded a m)) first in
            ap (λ z. z ∷ []) (word_of_all (flat_length c.arrays a) u (start_of c.arrays a) own)
        each a m false whole = refl
