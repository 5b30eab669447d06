-- Word arithmetic: a word is a 32-bit two's complement number. Each operation is an equation on whole numbers.
use Rattle.std.specs.Prelude.{ℕ, ◌*◌, ◌%◌, ◌^◌, ℤ, pos, neg_ℤ, ◌+ℤ◌, ◌-ℤ◌, ◌*ℤ◌, Bool, not, ◌&&◌, ◌||◌, if◌then◌else◌, List, ◌∷◌, ◌++◌, int_div, int_lt, int_le, unsigned_abs, bit_xor}
use Rattle.std.specs.Int.{int_wrap, w32, from_bool, cast_unsigned, int_bit_and, int_bit_or, int_bit_xor, int_bit_not, int_div_euclid, int_rem_euclid, to_le_bytes}
use Rattle.std.specs.List.{fold}
use Rattle.std.specs.Ordering.{int_eq}
use Rattle.mp5_words.specs.declared.op.Op1.{Op1}
use Rattle.mp5_words.specs.declared.op.Op1.TheVariants.{Neg, Not, Flip}
use Rattle.mp5_words.specs.declared.op.Op2.{Op2}
use Rattle.mp5_words.specs.declared.op.Op2.TheVariants.{Mul, Div, Rem, Add, Sub, Shl, Shr, Lt, Le, Gt, Ge, Eq, Ne, BitAnd, BitXor, BitOr, And, Or}
use Rattle.mp5_words.specs.declared.hashing.HashKind.{HashKind}
use Rattle.mp5_words.specs.declared.hashing.HashKind.TheVariants.{Two, TwoA, TwoB, Three}

-- ---- words

-- the one number from -2^31 to 2^31 - 1 that differs from z by a multiple of 2^32
abbrev pub word : ℤ → ℤ
word z = int_wrap w32 z

-- a word is true if it isn't 0
abbrev pub truth : ℤ → Bool
truth z = not (int_eq z (pos 0))

-- a truth as a word: 1 or 0
abbrev pub flag : Bool → ℤ
flag b = pos (from_bool b)

-- the remainder of z modulo n, from 0 to n - 1
abbrev pub modulo : ℤ → ℕ → ℕ
modulo z n = unsigned_abs (int_rem_euclid z (pos n))

-- the factor of a shift by b
abbrev pub shift_factor : ℤ → ℤ
shift_factor b = pos (2 ^ modulo b 32)

-- `/` rounds toward zero, and is 0 where b is 0
abbrev pub quotient : ℤ → ℤ → ℤ
quotient a b = if int_eq b (pos 0) then pos 0 else word (int_div a b)

-- what the exact quotient, rounded toward zero, leaves of a; 0 where b is 0
abbrev pub remainder : ℤ → ℤ → ℤ
remainder a b = if int_eq b (pos 0) then pos 0 else a -ℤ (b *ℤ int_div a b)

-- ---- operators

-- the operators on one word
abbrev pub op1 : Op1 → ℤ → ℤ
op1 Neg a = word (neg_ℤ a)
op1 Not a = flag (not (truth a))
op1 Flip a = int_bit_not w32 a

-- the operators between two words
abbrev pub op2 : Op2 → ℤ → ℤ → ℤ
op2 Mul a b = word (a *ℤ b)
op2 Div a b = quotient a b
op2 Rem a b = remainder a b
op2 Add a b = word (a +ℤ b)
op2 Sub a b = word (a -ℤ b)
op2 Shl a b = word (a *ℤ shift_factor b)
op2 Shr a b = int_div_euclid a (shift_factor b)
op2 Lt a b = flag (int_lt a b)
op2 Le a b = flag (int_le a b)
op2 Gt a b = flag (int_lt b a)
op2 Ge a b = flag (int_le b a)
op2 Eq a b = flag (int_eq a b)
op2 Ne a b = flag (not (int_eq a b))
op2 BitAnd a b = int_bit_and w32 a b
op2 BitXor a b = int_bit_xor w32 a b
op2 BitOr a b = int_bit_or w32 a b
op2 And a b = flag (truth a && truth b)
op2 Or a b = flag (truth a || truth b)

-- ---- hashes

-- a byte is combined with the state by exclusive or, and the product with the prime is reduced to 32 bits
abbrev pub mix : ℕ → ℕ → ℕ
mix state byte = (bit_xor state byte * 16777619) % 2 ^ 32

-- the state after these bytes
abbrev pub mixed : ℕ → List ℕ → ℕ
mixed state bytes = fold mix state bytes

-- the byte that tells the four hashes apart: `2`, `a`, `b`, `3`
abbrev pub salt : HashKind → ℕ
salt Two = 50
salt TwoA = 97
salt TwoB = 98
salt Three = 51

-- how many arguments a call has
abbrev pub arity : HashKind → ℕ
arity Two = 2
arity TwoA = 2
arity TwoB = 2
arity Three = 3

-- the four bytes of a word, least significant first
abbrev pub word_bytes : ℤ → List ℕ
word_bytes a = to_le_bytes w32 (cast_unsigned w32 a)

-- the bytes after the salt: those of each argument, of which only `Three` has the last
abbrev pub argument_bytes : HashKind → ℤ → ℤ → ℤ → List ℕ
argument_bytes Two a b c = word_bytes a ++ word_bytes b
argument_bytes TwoA a b c = word_bytes a ++ word_bytes b
argument_bytes TwoB a b c = word_bytes a ++ word_bytes b
argument_bytes Three a b c = (word_bytes a ++ word_bytes b) ++ word_bytes c

-- the state after the salt and the arguments, without its top bit
abbrev pub hash : HashKind → ℤ → ℤ → ℤ → ℤ
hash kind a b c = pos (mixed 2166136261 (salt kind ∷ argument_bytes kind a b c) % 2 ^ 31)

-- ---- indexes

-- the number of the cell that an index word names in an array of n cells
abbrev pub cell : ℤ → ℕ → ℕ
cell index n = modulo index n
