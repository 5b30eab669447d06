-- The arrays of a program have as many cells as are declared.
use Rattle.std.proofs.Common.{◌≡◌, ℕ, ◌<◌, List, [], ◌∷◌, length, map, get_or, refl, sym, ap, ◌∙◌}
use Rattle.std.specs.Prelude.{slice_index}
use Rattle.std.proofs.lemmas.List.{get_or-map}
use Rattle.domino_tree.specs.declared.program.Program.{Program}
use Rattle.domino_tree.specs.Value.{Array, names_of}
use Rattle.domino_names.specs.declared.infos.ArrayInfo.{ArrayInfo}
use Rattle.domino_names.specs.Infos.{array_of, infos_of}
use Rattle.domino_names.proofs.InfoLemmas.{infos_are}

counts_are : (infos : List ArrayInfo) → map (λ (d : Array). d.length) (map array_of infos) ≡ map (λ (i : ArrayInfo). i.length) infos
counts_are [] = refl
counts_are (i ∷ infos) = ap (λ l. i.length ∷ l) (counts_are infos)

-- an array has as many cells as its place among the declared ones says
pub declared_row : (arrays : List Array) (infos : List ArrayInfo) (a : ℕ) (info : ArrayInfo) → a < length infos → info ≡ get_or infos a info → arrays ≡ map array_of infos
    → slice_index (map (λ (d : Array). d.length) arrays) a ≡ info.length
declared_row arrays infos a info h e are =
    ap (λ l. slice_index (map (λ (d : Array). d.length) l) a) are
    ∙ ap (λ l. slice_index l a) (counts_are infos)
    ∙ get_or-map (λ (i : ArrayInfo). i.length) infos a info 0 h
    ∙ ap (λ (i : ArrayInfo). i.length) (sym e)

-- the arrays that a checked program tells are those of a bench over it
pub declared : (p q : Program) (infos : List ArrayInfo) → q ≡ p → infos ≡ infos_of p → (names_of q).arrays ≡ map array_of infos
declared p q infos same are = ap (λ p. (names_of p).arrays) same ∙ sym (infos_are p) ∙ ap (map array_of) (sym are)
