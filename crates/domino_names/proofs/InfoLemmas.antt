-- The arrays of a program, with and without whether each is a register.
use Rattle.std.proofs.Common.{◌≡◌, List, [], ◌∷◌, ◌++◌, length, map, flat_map, refl, sym, ap, ◌∙◌}
use Rattle.std.proofs.lemmas.List.{length-map}
use Rattle.domino_tree.specs.declared.program.Item.{Item}
use Rattle.domino_tree.specs.declared.program.Item.TheVariants as item
use Rattle.domino_tree.specs.declared.program.Program.{Program}
use Rattle.domino_tree.specs.Value.{Defined, Array, names_of, item_define, item_array, length_value, start_value}
use Rattle.domino_names.specs.Infos.{item_info, infos_of, array_of}

infos_in : (defines : List Defined) (items : List Item) → map array_of (flat_map (item_info defines) items) ≡ flat_map (item_array defines) items
infos_in defines [] = refl
infos_in defines (item.Define name value ∷ items) = infos_in defines items
infos_in defines (item.Array name length start ∷ items) =
    let array : Array = record { name = name; length = length_value defines length; start = start_value defines start } in
    ap (λ rest. array ∷ rest) (infos_in defines items)

-- the arrays of a program, with and without whether each is a register
pub infos_are : (p : Program) → map array_of (infos_of p) ≡ (names_of p).arrays
infos_are p = infos_in (flat_map item_define (p.before ++ p.after)) (p.before ++ p.after)

pub length-infos : (p : Program) → length (infos_of p) ≡ length (names_of p).arrays
length-infos p = sym (length-map (infos_of p) array_of) ∙ ap length (infos_are p)
