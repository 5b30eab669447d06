-- What a program declares, as the checked program keeps it: each array with whether it is a register.
use Rattle.std.specs.Prelude.{Bool, true, false, List, [], ◌∷◌, ◌++◌, flat_map, Option, Some, None}
use Rattle.domino_tree.specs.declared.program.Size.{Size}
use Rattle.domino_tree.specs.declared.program.Item.{Item}
use Rattle.domino_tree.specs.declared.program.Item.TheVariants as item
use Rattle.domino_tree.specs.declared.program.Program.{Program}
use Rattle.domino_tree.specs.Value.{Defined, Array, item_define, length_value, start_value}
use Rattle.domino_names.specs.declared.infos.ArrayInfo.{ArrayInfo}

-- whether no length is declared
abbrev pub is_scalar : Option Size → Bool
is_scalar None = true
is_scalar (Some s) = false

-- the array that an item declares, if it does
abbrev pub item_info : List Defined → Item → List ArrayInfo
item_info defines (item.Define name value) = []
item_info defines (item.Array name length start) = record {
  name = name;
  length = length_value defines length;
  scalar = is_scalar length;
  start = start_value defines start;
} ∷ []

-- the arrays of a program in order of declaration
abbrev pub infos_of : Program → List ArrayInfo
infos_of p = flat_map (item_info (flat_map item_define (p.before ++ p.after))) (p.before ++ p.after)

-- an array without whether it is a register
abbrev pub array_of : ArrayInfo → Array
array_of i = record { name = i.name; length = i.length; start = i.start }
