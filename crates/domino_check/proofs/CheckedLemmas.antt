-- What a checked program keeps, read at the program.
use Rattle.std.proofs.Common.{◌≡◌, ℕ, ◌<◌, List, length, get_or, None, Option, ap, ◌∙◌, arith}
use Rattle.std.proofs.lemmas.List.FromFn.{length-map-range_with_len, get_or-map-range_with_len}
use Rattle.domino_tree.specs.declared.program.Program.{Program}
use Rattle.domino_tree.specs.Value.{names_of}
use Rattle.domino_check.specs.declared.numbered.CheckedExpr.{CheckedExpr}
use Rattle.domino_names.specs.Infos.{infos_of}
use Rattle.domino_check.specs.Numbering.{accesses}
use Rattle.domino_check.specs.Indexes.{index_of}
use Rattle.domino_check.specs.Sites.{program_indexes}
use Rattle.domino_names.proofs.InfoLemmas.{length-infos}

-- the index of an array, by its place in the table
pub index_at : (p : Program) (indexes : List (Option CheckedExpr)) (a : ℕ) → indexes ≡ program_indexes p → a < length (infos_of p) → (a < length indexes) × (get_or indexes a None ≡ index_of (accesses p) a)
index_at p indexes a are within =
    let n : ℕ = length (names_of p).arrays in
    let counted : length indexes ≡ n = ap length are ∙ length-map-range_with_len (index_of (accesses p)) 0 n in
    let below : a < n = omega (arith, length-infos p) in
    (omega arith, ap (λ t. get_or t a None) are ∙ get_or-map-range_with_len (index_of (accesses p)) 0 n a a None below (omega arith))
