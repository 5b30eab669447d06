-- The declared names of a program, and the kind that each is declared as. A name may be declared once in each
-- class: the fields are a class, the struct's name is one of its own, and all others are the third.
use Rattle.std.specs.Prelude.{ℕ, Bool, true, false, ◌&&◌, if◌then◌else◌, List, [], ◌∷◌, ◌++◌, map, Option, Some, None}
use Rattle.std.specs.Str.{bytes_eq}
use Rattle.domino_tree.specs.Value.{hash_name, hash_kinds}
use Rattle.domino_tree.specs.declared.program.Size.{Size}
use Rattle.domino_tree.specs.declared.program.Item.{Item}
use Rattle.domino_tree.specs.declared.program.Item.TheVariants as item
use Rattle.domino_tree.specs.declared.program.PacketDecl.{PacketDecl}
use Rattle.domino_tree.specs.declared.program.Function.{Function}
use Rattle.domino_tree.specs.declared.program.Program.{Program}
use Rattle.domino_names.specs.declared.role.Kind.{Kind}
use Rattle.domino_names.specs.declared.role.Kind.TheVariants as kind
use Rattle.domino_names.specs.declared.role.Class.{Class}
use Rattle.domino_names.specs.declared.role.Class.TheVariants as class

-- a name, and the kind that it is declared as
pub record Declaration : Type 0 where
  pub name : List ℕ
  pub kind : Kind

-- the class of a kind
abbrev pub class_of : Kind → Class
class_of kind.Field = class.Fields
class_of kind.Struct = class.Structs
class_of kind.Define = class.Others
class_of kind.Scalar = class.Others
class_of kind.Array = class.Others
class_of kind.Function = class.Others
class_of kind.Packet = class.Others
class_of kind.Hash = class.Others

-- whether two classes are one
abbrev pub is_same_class : Class → Class → Bool
is_same_class class.Fields class.Fields = true
is_same_class class.Structs class.Structs = true
is_same_class class.Others class.Others = true
is_same_class c d = false

-- whether it declares this name in this class
abbrev pub declares : Class → List ℕ → Declaration → Bool
declares c name d = is_same_class c (class_of d.kind) && bytes_eq name d.name

-- the kind that a name is declared as first in a class, where it is declared there
abbrev pub kind_in : Class → List ℕ → List Declaration → Option Kind
kind_in c name [] = None
kind_in c name (d ∷ ds) = if declares c name d then Some d.kind else kind_in c name ds

-- each of these names as the one kind
abbrev pub all_as : Kind → List (List ℕ) → List Declaration
all_as k names = map (λ (name : List ℕ). record { name = name; kind = k }) names

-- the hash functions are declared before the text
abbrev pub hash_names : List (List ℕ)
hash_names = map hash_name hash_kinds

abbrev pub hash_declarations : List Declaration
hash_declarations = all_as kind.Hash hash_names

-- a register that is declared with a length is an array
abbrev pub register_kind : Option Size → Kind
register_kind None = kind.Scalar
register_kind (Some length) = kind.Array

abbrev pub item_declaration : Item → Declaration
item_declaration (item.Define name value) = record { name = name; kind = kind.Define }
item_declaration (item.Array name length start) = record { name = name; kind = register_kind length }

-- the function's own name, and its packet's
abbrev pub function_declarations : Function → List Declaration
function_declarations f = record { name = f.name; kind = kind.Function } ∷ record { name = f.packet; kind = kind.Packet } ∷ []

-- the struct's name, and the fields
abbrev pub packet_declarations : PacketDecl → List Declaration
packet_declarations packet = record { name = packet.name; kind = kind.Struct } ∷ all_as kind.Field packet.fields

-- the declarations of a program in text order
abbrev pub declarations : Program → List Declaration
declarations p = map item_declaration p.before ++ (packet_declarations p.packet ++ (map item_declaration p.after ++ function_declarations p.function))

-- all that is declared
abbrev pub declared : Program → List Declaration
declared p = hash_declarations ++ declarations p
