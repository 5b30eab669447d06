-- The checks of the names, the calls and the sizes of a program. Most go over places in text order, and the
-- first place at which something is amiss decides.
use Rattle.std.specs.Prelude.{◌≡◌, ℕ, ℤ, pos, Bool, true, false, not, ◌||◌, if◌then◌else◌, IsTrue, nat_eq, nat_lt, int_lt, List, [], ◌∷◌, ◌++◌, length, map, sum, Option, Some, None, is_some, is_none}
use Rattle.domino_tree.specs.declared.program.Item.{Item}
use Rattle.domino_tree.specs.declared.program.Item.TheVariants as item
use Rattle.domino_tree.specs.declared.program.Program.{Program}
use Rattle.mp5_words.specs.Words.{arity as arguments}
use Rattle.mp5_words.specs.declared.hashing.HashKind.{HashKind}
use Rattle.domino_tree.specs.Value.{Defined, Names, Array, names_of, size_value, hash_kind}
use Rattle.domino_names.specs.declared.fault.What.{What}
use Rattle.domino_names.specs.declared.fault.What.TheVariants as what
use Rattle.domino_names.specs.declared.fault.CheckFault.{CheckFault}
use Rattle.domino_names.specs.declared.fault.CheckFault.TheVariants as fault
use Rattle.domino_names.specs.declared.role.Role.{Role}
use Rattle.domino_names.specs.declared.role.Role.TheVariants as role
use Rattle.domino_names.specs.declared.role.Kind.{Kind}
use Rattle.domino_names.specs.declared.role.Kind.TheVariants as kind
use Rattle.domino_names.specs.declared.role.Class.{Class}
use Rattle.domino_names.specs.declared.role.Class.TheVariants as class
use Rattle.domino_names.specs.First.{FirstFault, NoFault}
use Rattle.domino_names.specs.Uses.{Use, uses_of}
use Rattle.domino_names.specs.Declarations.{Declaration, class_of, kind_in, hash_declarations, declarations, declared}

-- ---- names that are declared twice

-- the name is declared in the same class before; the hash functions are declared before the text
abbrev pub is_twice : List Declaration → Declaration → Bool
is_twice before d = is_some (kind_in (class_of d.kind) d.name (hash_declarations ++ before))

abbrev pub TwiceAt : List Declaration → Declaration → CheckFault → Type 0
TwiceAt before d f = IsTrue (is_twice before d) × (f ≡ fault.Twice d.name)

abbrev pub FirstTwice : Program → CheckFault → Type 0
FirstTwice p f = FirstFault TwiceAt (declarations p) f

abbrev pub NoTwice : Program → Type 0
NoTwice p = NoFault TwiceAt (declarations p)

-- ---- names that are declared nowhere

-- the class in which the name of a use is declared
abbrev pub class_for : Role → Class
class_for role.Field = class.Fields
class_for role.Struct = class.Structs
class_for role.Size = class.Others
class_for role.Value = class.Others
class_for role.Target = class.Others
class_for role.Packet = class.Others
class_for role.Array = class.Others
class_for (role.Call n) = class.Others

-- the kind that each name of a class is declared as, where it is; a declaration may stand behind a use
abbrev pub kinds_in : Program → Class → List ℕ → Option Kind
kinds_in p c name = kind_in c name (declared p)

-- the kind that the name of a use is declared as
abbrev pub kind_for : (Class → List ℕ → Option Kind) → Use → Option Kind
kind_for kinds u = kinds (class_for u.role) u.name

abbrev pub UnknownAt : (Class → List ℕ → Option Kind) → List Use → Use → CheckFault → Type 0
UnknownAt kinds before u f = IsTrue (is_none (kind_for kinds u)) × (f ≡ fault.Unknown u.name)

abbrev pub FirstUnknown : Program → CheckFault → Type 0
FirstUnknown p f = FirstFault (UnknownAt (kinds_in p)) (uses_of p) f

abbrev pub NoUnknown : Program → Type 0
NoUnknown p = NoFault (UnknownAt (kinds_in p)) (uses_of p)

-- ---- names of another kind

-- whether a name of this kind can be used so
abbrev pub takes : Role → Kind → Bool
takes role.Size kind.Define = true
takes role.Value kind.Define = true
takes role.Value kind.Scalar = true
takes role.Target kind.Scalar = true
takes role.Packet kind.Packet = true
takes role.Field kind.Field = true
takes role.Array kind.Array = true
takes (role.Call n) kind.Hash = true
takes role.Struct kind.Struct = true
takes r k = false

-- the name is declared as a kind that can't be used so
abbrev pub is_misused : Role → Option Kind → Bool
is_misused r None = false
is_misused r (Some k) = not (takes r k)

abbrev pub WrongKindAt : (Class → List ℕ → Option Kind) → List Use → Use → CheckFault → Type 0
WrongKindAt kinds before u f = IsTrue (is_misused u.role (kind_for kinds u)) × (f ≡ fault.WrongKind u.name)

abbrev pub FirstWrongKind : Program → CheckFault → Type 0
FirstWrongKind p f = FirstFault (WrongKindAt (kinds_in p)) (uses_of p) f

abbrev pub NoWrongKind : Program → Type 0
NoWrongKind p = NoFault (WrongKindAt (kinds_in p)) (uses_of p)

-- ---- calls

-- how many arguments a function takes; no other name can be called
abbrev pub arity_of : Option HashKind → ℕ
arity_of None = 2
arity_of (Some kind) = arguments kind

-- how many arguments the hash function of a name takes
abbrev pub arity : List ℕ → ℕ
arity name = arity_of (hash_kind name)

-- it is a call with another number of arguments
abbrev pub is_miscalled : List ℕ → Role → Bool
is_miscalled name (role.Call n) = not (nat_eq n (arity name))
is_miscalled name r = false

abbrev pub ArityAt : List Use → Use → CheckFault → Type 0
ArityAt before u f = IsTrue (is_miscalled u.name u.role) × (f ≡ fault.Arity u.name)

abbrev pub FirstArity : Program → CheckFault → Type 0
FirstArity p f = FirstFault ArityAt (uses_of p) f

abbrev pub NoArity : Program → Type 0
NoArity p = NoFault ArityAt (uses_of p)

-- ---- lengths

-- a length, where it isn't from 1 to 65,536
abbrev pub bad_of : ℤ → Option ℤ
bad_of n = if int_lt n (pos 1) || int_lt (pos 65536) n then Some n else None

-- the length that an item declares, as the word that it is, where it is such a one
abbrev pub bad_length : List Defined → Item → Option ℤ
bad_length defines (item.Define name value) = None
bad_length defines (item.Array name None start) = None
bad_length defines (item.Array name (Some s) start) = bad_of (size_value defines s)

abbrev pub item_name : Item → List ℕ
item_name (item.Define name value) = name
item_name (item.Array name length start) = name

abbrev pub BadLengthAt : List Defined → List Item → Item → CheckFault → Type 0
BadLengthAt defines before i f = (n : ℤ) × (bad_length defines i ≡ Some n) × (f ≡ fault.BadLength (item_name i) n)

abbrev pub FirstBadLength : Program → CheckFault → Type 0
FirstBadLength p f = FirstFault (BadLengthAt (names_of p).defines) (p.before ++ p.after) f

abbrev pub NoBadLength : Program → Type 0
NoBadLength p = NoFault (BadLengthAt (names_of p).defines) (p.before ++ p.after)

-- ---- counts

-- the most that there may be
abbrev pub limit : What → ℕ
limit what.Defines = 64
limit what.Fields = 32
limit what.Arrays = 16
limit what.Cells = 262144

-- how many there are
abbrev pub count : Names → What → ℕ
count names what.Defines = length names.defines
count names what.Fields = length names.fields
count names what.Arrays = length names.arrays
count names what.Cells = sum (map (λ (a : Array). a.length) names.arrays)

-- in this order
abbrev pub counted : List What
counted = what.Defines ∷ what.Fields ∷ what.Arrays ∷ what.Cells ∷ []

-- there are more than there may be
abbrev pub TooManyAt : Names → List What → What → CheckFault → Type 0
TooManyAt names before w f = IsTrue (nat_lt (limit w) (count names w)) × (f ≡ fault.TooMany w (count names w))

-- so many are too many
abbrev pub IsTooMany : What → ℕ → CheckFault → Type 0
IsTooMany w n f = IsTrue (nat_lt (limit w) n) × (f ≡ fault.TooMany w n)

abbrev pub FirstTooMany : Program → CheckFault → Type 0
FirstTooMany p f = FirstFault (TooManyAt (names_of p)) counted f

abbrev pub NoTooMany : Program → Type 0
NoTooMany p = NoFault (TooManyAt (names_of p)) counted
