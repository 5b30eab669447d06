-- The arrays of guarded code are those of the program: their lengths, their indexes, and what they count.
use Rattle.std.proofs.Common.{◌≡◌, ℕ, zero, suc, ◌+◌, ◌<◌, ◌≤◌, ◌==◌, pos, if◌then◌else◌, Bool, true, false, ◌&&◌, nat_lt, nat_le, List, [], ◌∷◌, length, map, get_or, Option, None, Some, refl, sym, ap, ◌∙◌, arith}
use Rattle.std.specs.List.{range_with_len}
use Rattle.std.proofs.lemmas.Bool.Decides.{nat_tests}
use Rattle.domino_tree.specs.declared.program.Program.{Program}
use Rattle.domino_tree.specs.Value.{Array, names_of}
use Rattle.domino_names.specs.declared.infos.ArrayInfo.{ArrayInfo}
use Rattle.domino_check.specs.declared.numbered.CheckedExpr.{CheckedExpr}
use Rattle.domino_check.specs.Accepted.{AreSized}
use Rattle.domino_check.specs.Count as source_count
use Rattle.domino_check.specs.Indexes.{AreBelow, HasIndexes, index_of, indexes_of}
use Rattle.domino_names.specs.Infos.{infos_of, array_of}
use Rattle.domino_check.specs.NumberedMeaning.{indexing}
use Rattle.domino_check.specs.Numbering.{Access, accesses}
use Rattle.domino_names.specs.NamesRefused.{PassesNames}
use Rattle.domino_check.specs.Sites.{is_touched, program_sites}
use Rattle.domino_check.specs.WellFormed as source_forms
use Rattle.domino_check.proofs.ArrayLemmas.{no_index_untouched, untouched_no_index}
use Rattle.domino_check.proofs.BelowLemmas.{accesses_below}
use Rattle.domino_names.proofs.InfoLemmas.{infos_are, length-infos}
use Rattle.domino_check.proofs.FitLemmas.{index_is_fit}
use Rattle.code_forms.specs.declared.guard.ArrayShape.{ArrayShape}
use Rattle.code_forms.specs.GuardValid.{index_fits, shapes_fit, shape_count}
use Rattle.code_forms.specs.GuardMeaning.{index_at, length_at}
use Rattle.branch_removal.specs.GuardedLines.{guarded_index}
use Rattle.branch_removal.specs.Shapes.{shapes_from, shapes_of}
use Rattle.branch_removal.proofs.GuardedLemmas.{operators_same, fits_same}

-- ---- arrays from a number on

module _ (xs : List Access) where
  length-shapes : (k : ℕ) (infos : List ArrayInfo) → length (shapes_from xs k infos) ≡ length infos
  length-shapes k [] = refl
  length-shapes k (x ∷ infos) = ap suc (length-shapes (suc k) infos)

  lengths_from : (k : ℕ) (infos : List ArrayInfo) → map (λ (s : ArrayShape). s.length) (shapes_from xs k infos) ≡ map (λ (i : ArrayInfo). i.length) infos
  lengths_from k [] = refl
  lengths_from k (x ∷ infos) = ap (λ l. x.length ∷ l) (lengths_from (suc k) infos)

  index_within : (k : ℕ) (infos : List ArrayInfo) (a : ℕ) → a < length infos → index_at (shapes_from xs k infos) a ≡ guarded_index (index_of xs (k + a))
  index_within k [] a within = absurd (omega (arith, within))
  index_within k (x ∷ infos) zero within = ap (λ n. guarded_index (index_of xs n)) (omega arith)
  index_within k (x ∷ infos) (suc a) within = index_within (suc k) infos a (omega (arith, within)) ∙ ap (λ n. guarded_index (index_of xs n)) (omega arith)

  index_past : (k : ℕ) (infos : List ArrayInfo) (a : ℕ) → length infos ≤ a → index_at (shapes_from xs k infos) a ≡ None
  index_past k [] a past = refl
  index_past k (x ∷ infos) zero past = absurd (omega (arith, past))
  index_past k (x ∷ infos) (suc a) past = index_past (suc k) infos a (omega (arith, past))

  index_counts : (index : Option CheckedExpr) → shape_count (record { length = 1; start = pos 0; index = guarded_index index }) ≡ source_count.index_count index
  index_counts None = refl
  index_counts (Some x) = ap (λ k. 3 + k) (operators_same x)

  counts_from : (k : ℕ) (infos : List ArrayInfo) → map shape_count (shapes_from xs k infos) ≡ map source_count.index_count (map (index_of xs) (range_with_len k (length infos)))
  counts_from k [] = refl
  counts_from k (x ∷ infos) =
      let next : suc k ≡ k + 1 = omega arith in
      let rest = counts_from (suc k) infos ∙ ap (λ n. map source_count.index_count (map (index_of xs) (range_with_len n (length infos)))) next in
      λ i. index_counts (index_of xs k) i ∷ rest i

  -- the marks tell which arrays have an index, and each index fits
  fit_from : (fields k : ℕ) (infos : List ArrayInfo) (marks : List Bool) → length marks ≡ length infos → AreSized infos
      → ((a : ℕ) → a < length infos → index_fits fields (get_or marks a false) (guarded_index (index_of xs (k + a))) ≡ true) → shapes_fit fields marks (shapes_from xs k infos) ≡ true
  fit_from fields k [] marks long sized fine = refl
  fit_from fields k (x ∷ infos) [] long sized fine = absurd (omega (arith, long))
  fit_from fields k (x ∷ infos) (m ∷ marks) long sized fine =
      let some : nat_lt 0 x.length ≡ true = grind (arith, nat_tests, sized.0.0) in
      let most : nat_le x.length 65536 ≡ true = grind (arith, nat_tests, sized.0.1) in
      let here : index_fits fields m (guarded_index (index_of xs k)) ≡ true = ap (λ n. index_fits fields m (guarded_index (index_of xs n))) (omega arith) ∙ fine 0 (omega arith) in
      let rest = fit_from fields (suc k) infos marks (omega (arith, long)) sized.1 (λ a within. ap (λ n. index_fits fields (get_or marks a false) (guarded_index (index_of xs n))) (omega arith) ∙ fine (suc a) (omega (arith, within))) in
      λ i. some i && (most i && (here i && rest i))

-- ---- the arrays of a program

none_past : (n : ℕ) (xs : List Access) (a : ℕ) → AreBelow n xs → n ≤ a → index_of xs a ≡ None
none_past n [] a below past = refl
none_past n (x ∷ xs) a below past =
    let other : (x.array == a) ≡ false = grind (arith, nat_tests, below.0, past) in
    ap (λ b. if b then x.index else index_of xs a) other ∙ none_past n xs a below.1 past

from_none : (a : ℕ) → 0 + a ≡ a
from_none a = omega arith

module _ (p : Program) where
  pub shapes_long : length (shapes_of p) ≡ length (infos_of p)
  shapes_long = length-shapes (accesses p) 0 (infos_of p)

  pub lengths_are : map (λ (s : ArrayShape). s.length) (shapes_of p) ≡ map (λ (i : ArrayInfo). i.length) (infos_of p)
  lengths_are = lengths_from (accesses p) 0 (infos_of p)

  -- each array has the length with which it is declared
  pub length_same : (a : ℕ) → length_at (shapes_of p) a ≡ (indexing p).length a
  length_same a = ap (λ l. get_or l a 1) (lengths_are ∙ twice (infos_of p) ∙ ap (map (λ (d : Array). d.length)) (infos_are p)) where
    twice : (infos : List ArrayInfo) → map (λ (i : ArrayInfo). i.length) infos ≡ map (λ (d : Array). d.length) (map array_of infos)
    twice [] = refl
    twice (x ∷ infos) = ap (λ l. x.length ∷ l) (twice infos)

  -- and the index of its accesses
  pub index_same : PassesNames p → (a : ℕ) → index_at (shapes_of p) a ≡ guarded_index (index_of (accesses p) a)
  index_same passes a = by_order (nat_lt a (length (infos_of p))) refl where
    by_order : (b : Bool) → nat_lt a (length (infos_of p)) ≡ b → index_at (shapes_of p) a ≡ guarded_index (index_of (accesses p) a)
    by_order true e =
        let within : a < length (infos_of p) = grind (arith, nat_tests, e) in
        index_within (accesses p) 0 (infos_of p) a within ∙ ap (λ n. guarded_index (index_of (accesses p) n)) (from_none a)
    by_order false e =
        let past : length (infos_of p) ≤ a = grind (arith, nat_tests, e) in
        index_past (accesses p) 0 (infos_of p) a past
        ∙ ap guarded_index (sym (none_past (length (names_of p).arrays) (accesses p) a (accesses_below p passes) (omega (arith, past, length-infos p))))

  pub shape_counts : map shape_count (shapes_of p) ≡ map source_count.index_count (indexes_of (accesses p) (length (names_of p).arrays))
  shape_counts = counts_from (accesses p) 0 (infos_of p) ∙ ap (λ n. map source_count.index_count (map (index_of (accesses p)) (range_with_len 0 n))) (length-infos p)

  -- an index stands exactly where a site touches the array, and fits
  index_fine : PassesNames p → HasIndexes p → (a : ℕ) (m : Bool) (o : Option CheckedExpr) → is_touched (program_sites p) a ≡ m → index_of (accesses p) a ≡ o → index_fits (length p.packet.fields) m (guarded_index o) ≡ true
  index_fine passes indexed a false None touched is = refl
  index_fine passes indexed a true None touched is = absurd (untrue (sym touched ∙ no_index_untouched p a passes indexed is)) where
    untrue : true ≡ false → ⊥
    untrue e = cc
  index_fine passes indexed a false (Some x) touched is = absurd (unlike (sym (untouched_no_index p a passes indexed touched) ∙ is)) where
    unlike : None ≡ Some x → ⊥
    unlike e = cc
  index_fine passes indexed a true (Some x) touched is =
      fits_same (length p.packet.fields) 0 x
      ∙ ap (source_forms.index_fits (length p.packet.fields)) (sym is)
      ∙ index_is_fit p a passes

  pub shapes_fine : PassesNames p → HasIndexes p → AreSized (infos_of p) → (marks : List Bool) → length marks ≡ length (infos_of p) → ((a : ℕ) → a < length (infos_of p) → get_or marks a false ≡ is_touched (program_sites p) a) → shapes_fit (length p.packet.fields) marks (shapes_of p) ≡ true
  shapes_fine passes indexed sized marks long told =
      fit_from (accesses p) (length p.packet.fields) 0 (infos_of p) marks long sized
      (λ a within. ap (λ n. index_fits (length p.packet.fields) (get_or marks a false) (guarded_index (index_of (accesses p) n))) (from_none a)
      ∙ index_fine passes indexed a (get_or marks a false) (index_of (accesses p) a) (sym (told a within)) refl)
