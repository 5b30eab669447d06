-- What the declared names of a program stand for, and the table that holds them.
use Rattle.std.specs.Prelude.{◌≡◌, ◌≤◌, ℕ, suc, ℤ, Bool, is_none, if◌then◌else◌, List, [], ◌∷◌, ◌++◌, length, map, flat_map, Option, Some, None}
use Rattle.std.specs.Option.{unwrap_or}
use Rattle.std.proofs.Common.{Bor}
use Rattle.domino_tree.specs.declared.program.Item.{Item}
use Rattle.domino_tree.specs.declared.program.Item.TheVariants as item
use Rattle.domino_tree.specs.declared.program.PacketDecl.{PacketDecl}
use Rattle.domino_tree.specs.declared.program.Function.{Function}
use Rattle.domino_tree.specs.declared.program.Program.{Program}
use Rattle.domino_tree.specs.Value.{Defined, Array, Names, names_of, item_array, number_of, field_number, array_number}
use Rattle.domino_names.specs.declared.role.Kind.{Kind}
use Rattle.domino_names.specs.declared.role.Kind.TheVariants as kind
use Rattle.domino_names.specs.declared.role.Class.{Class}
use Rattle.domino_names.specs.declared.role.Class.TheVariants as class
use Rattle.domino_names.specs.declared.role.Symbol.{Symbol}
use Rattle.domino_names.specs.declared.role.Symbol.TheVariants as symbol
use Rattle.domino_names.specs.declared.infos.ArrayInfo.{ArrayInfo}
use Rattle.domino_names.specs.Infos.{item_info, array_of}
use Rattle.domino_names.specs.declared.fault.CheckFault.{CheckFault}
use Rattle.domino_names.specs.Checks.{BadLengthAt}
use Rattle.domino_names.specs.Declarations.{Declaration, class_of, declares, hash_names}

-- a declared name, and what it stands for
pub record Named : Type 0 where
  pub name : List ℕ
  pub symbol : Symbol

-- a name with what it stands for
abbrev pub stands : List ℕ → Symbol → Named
stands name s = record { name = name; symbol = s }

-- the kind of what a name stands for
abbrev pub kind_of : Symbol → Kind
kind_of (symbol.Field f) = kind.Field
kind_of symbol.Struct = kind.Struct
kind_of (symbol.Define n) = kind.Define
kind_of (symbol.Scalar a) = kind.Scalar
kind_of (symbol.Array a) = kind.Array
kind_of symbol.Function = kind.Function
kind_of symbol.Packet = kind.Packet
kind_of symbol.Hash = kind.Hash

-- a declared name without what it stands for
abbrev pub declaration_of : Named → Declaration
declaration_of d = record { name = d.name; kind = kind_of d.symbol }

-- what a name stands for first in a class, where it is declared there
abbrev pub symbol_in : Class → List ℕ → List Named → Option Symbol
symbol_in c name [] = None
symbol_in c name (d ∷ ds) = if declares c name (declaration_of d) then Some d.symbol else symbol_in c name ds

-- a name with what it stands for is new in its class
abbrev pub is_new : List ℕ → Symbol → List Named → Bool
is_new name s ds = is_none (symbol_in (class_of (kind_of s)) name ds)

-- the names with one more, where it is new
abbrev pub with_new : Bool → List Named → List ℕ → Symbol → List Named
with_new new ds name s = if new then ds ++ stands name s ∷ [] else ds

-- the kind of what a name stands for, where it is declared
abbrev pub kind_from : Option Symbol → Option Kind
kind_from None = None
kind_from (Some s) = Some (kind_of s)

-- the kinds of these names
abbrev pub kinds_at : List Named → Class → List ℕ → Option Kind
kinds_at ds c name = kind_from (symbol_in c name ds)

-- ---- numbers

-- the number that a name stands for, where it is a defined one
abbrev pub number_from : Option Symbol → Option ℤ
number_from (Some (symbol.Define n)) = Some n
number_from s = None

-- the number of the field that a name stands for, where it is a field's
abbrev pub field_from : Option Symbol → Option ℕ
field_from (Some (symbol.Field f)) = Some f
field_from s = None

-- the number of the array that a name stands for, where it is an array's
abbrev pub array_from : Option Symbol → Option ℕ
array_from (Some (symbol.Scalar a)) = Some a
array_from (Some (symbol.Array a)) = Some a
array_from s = None

-- a name with its number, where it has one
abbrev pub numbered_name : List ℕ → Option ℤ → List Defined
numbered_name name None = []
numbered_name name (Some n) = record { name = name; number = n } ∷ []

-- the defined name of a declared one, where it is one
abbrev pub defined_from : Named → List Defined
defined_from d = numbered_name d.name (number_from (Some d.symbol))

-- the defined names of the table
abbrev pub defines_in : List Named → List Defined
defines_in ds = flat_map defined_from ds

-- the defined names of the table are these
abbrev pub Numbers : List Named → List Defined → Type 0
Numbers ds defines = (name : List ℕ) → number_from (symbol_in class.Others name ds) ≡ number_of name defines

-- the table has the number of each of its defined names
abbrev pub IsNumbered : List Named → Type 0
IsNumbered ds = Numbers ds (defines_in ds)

-- so it has, and its defined names are those of the program
pub record HasNumbers (ds : List Named) (p : Program) : Type 0 where
  pub numbered : IsNumbered ds
  pub defines : defines_in ds ≡ (names_of p).defines

-- the length that an item declares is not from 1 to 65,536
abbrev pub BadLengthIn : List Named → List Item → Item → CheckFault → Type 0
BadLengthIn ds = BadLengthAt (defines_in ds)

-- the length of the array that an item declares, if it does
abbrev pub item_lengths : List Named → Item → List ℕ
item_lengths ds i = map (λ (a : Array). a.length) (item_array (defines_in ds) i)

-- the lengths of the arrays that these items declare
abbrev pub lengths_in : List Named → List Item → List ℕ
lengths_in ds items = map (λ (a : Array). a.length) (flat_map (item_array (defines_in ds)) items)

-- the arrays that these items declare
abbrev pub infos_in : List Named → List Item → List ArrayInfo
infos_in ds items = flat_map (item_info (defines_in ds)) items

-- the names of the table stand for what these names do; a name that is no field's or no array's is past them all
pub record StandFor (ds : List Named) (names : Names) : Type 0 where
  pub defines : Numbers ds names.defines
  pub fields : (name : List ℕ) → unwrap_or (field_from (symbol_in class.Fields name ds)) (length names.fields) ≡ field_number names name
  pub arrays : (name : List ℕ) → unwrap_or (array_from (symbol_in class.Others name ds)) (length names.arrays) ≡ array_number names name

-- the names that the table and these lists declare
abbrev pub names_from : List Named → List (List ℕ) → List ArrayInfo → Names
names_from ds fields infos = record { defines = defines_in ds; fields = fields; arrays = map array_of infos }

-- the names stand for what the table says, and the fields and arrays are few
pub record IsScope (ds : List Named) (fields : List (List ℕ)) (infos : List ArrayInfo) : Type 0 where
  pub few_fields : length fields ≤ 32
  pub few_arrays : length infos ≤ 16
  pub stand : StandFor ds (names_from ds fields infos)

-- ---- the names of a program

-- the hash functions are declared before the text
abbrev pub hash_symbols : List Named
hash_symbols = map (λ (name : List ℕ). record { name = name; symbol = symbol.Hash }) hash_names

-- the number of the next array
abbrev pub next_array : ℕ → Item → ℕ
next_array n (item.Define name value) = n
next_array n (item.Array name length start) = suc n

abbrev pub arrays_after : ℕ → List Item → ℕ
arrays_after n [] = n
arrays_after n (i ∷ items) = arrays_after (next_array n i) items

-- what an item declares, where so many arrays are declared before
abbrev pub item_symbol : ℕ → Item → Named
item_symbol n (item.Define name value) = record { name = name; symbol = symbol.Define value }
item_symbol n (item.Array name None start) = record { name = name; symbol = symbol.Scalar n }
item_symbol n (item.Array name (Some length) start) = record { name = name; symbol = symbol.Array n }

abbrev pub item_symbols : ℕ → List Item → List Named
item_symbols n [] = []
item_symbols n (i ∷ items) = item_symbol n i ∷ item_symbols (next_array n i) items

-- fields, where so many are declared before
abbrev pub field_symbols : ℕ → List (List ℕ) → List Named
field_symbols n [] = []
field_symbols n (f ∷ fields) = record { name = f; symbol = symbol.Field n } ∷ field_symbols (suc n) fields

-- the struct's name, and the fields
abbrev pub packet_symbols : PacketDecl → List Named
packet_symbols packet = record { name = packet.name; symbol = symbol.Struct } ∷ field_symbols 0 packet.fields

-- the function's own name, and its packet's
abbrev pub function_symbols : Function → List Named
function_symbols f = record { name = f.name; symbol = symbol.Function } ∷ record { name = f.packet; symbol = symbol.Packet } ∷ []

-- what the names of a program stand for, in text order
abbrev pub text_symbols : Program → List Named
text_symbols p =
    item_symbols 0 p.before
    ++ (packet_symbols p.packet ++ (item_symbols (arrays_after 0 p.before) p.after ++ function_symbols p.function))

-- all that is declared
abbrev pub symbols_of : Program → List Named
symbols_of p = hash_symbols ++ text_symbols p

-- ---- the table

-- an entry of the table: a class and a name, and what the name stands for
abbrev pub Entry : Type 0
Entry = (Class × Bor (List ℕ)) × Symbol

abbrev pub named_at : Entry → Named
named_at e = record { name = e.0.1.now; symbol = e.1 }

abbrev pub named_in : List Entry → List Named
named_in entries = map named_at entries

-- each name stands in the class of what it stands for
abbrev pub AreClassed : List Entry → Type 0
AreClassed entries = map (λ (e : Entry). e.0.0) entries ≡ map (λ (e : Entry). class_of (kind_of e.1)) entries
