-- How many cells each array has.
use Rattle.std.proofs.Common.{◌≡◌, ℕ, zero, suc, ◌<◌, ◌≤◌, ℤ, List, [], ◌∷◌, length, map, get_or, None, refl, ap, ◌∙◌, arith}
use Rattle.std.specs.List.{slice_index_or}
use Rattle.mp5_words.specs.Domain.{Mark}
use Rattle.domino_tree.specs.declared.program.Program.{Program}
use Rattle.domino_tree.specs.Value.{Array}
use Rattle.domino_names.specs.declared.infos.ArrayInfo.{ArrayInfo}
use Rattle.domino_names.specs.Infos.{infos_of, array_of}
use Rattle.domino_names.proofs.InfoLemmas.{infos_are}
use Rattle.domino_check.specs.Accepted.{AreSized}
use Rattle.domino_check.specs.SourceGroups.{cells_of}
use Rattle.domino_check.specs.Place.{marked_walk, marked_copy, marked_place}
use Rattle.domino_check.specs.Walk.{Core}
use Rattle.source_rows.specs.Opened.{cells_in, ArePlaces}

-- each array has from 1 to 65,536 cells
pub sized_at : (infos : List ArrayInfo) (a : ℕ) (x : ArrayInfo) → AreSized infos → a < length infos → (1 ≤ (get_or infos a x).length) × ((get_or infos a x).length ≤ 65536)
sized_at [] a x sized within = absurd (omega arith)
sized_at (i ∷ infos) zero x sized within = sized.0
sized_at (i ∷ infos) (suc a) x sized within = sized_at infos a x sized.1 (omega arith)

twice : (infos : List ArrayInfo) → map (λ (i : ArrayInfo). i.length) infos ≡ map (λ (d : Array). d.length) (map array_of infos)
twice [] = refl
twice (x ∷ infos) = ap (λ l. x.length ∷ l) (twice infos)

-- as many as the program declares
pub cells_are : (p : Program) (a : ℕ) → cells_in (infos_of p) a ≡ cells_of p a
cells_are p a = ap (λ l. get_or l a 1) (twice (infos_of p) ∙ ap (map (λ (d : Array). d.length)) (infos_are p))

-- the places in the arrays as they are declared are those of the program
pub places_are : (p : Program) (header : List ℤ) (infos : List ArrayInfo) (walked : Core Mark) (row : List ℕ) → infos ≡ infos_of p → walked ≡ marked_walk p header
    → ArePlaces (cells_in infos) (λ a. slice_index_or walked.copies a None) row → ArePlaces (cells_of p) (marked_copy p header) row
places_are p header infos walked row are is places a small =
    places a small
    ∙ (λ i. marked_place (cells_in (are i) a) (slice_index_or (is i).copies a None))
    ∙ ap (λ n. marked_place n (marked_copy p header a)) (cells_are p a)
