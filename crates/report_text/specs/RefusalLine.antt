-- The lines that tell of a refused program and of a refused capture: the refusal's number and the values that it keeps.
use Rattle.std.specs.Prelude.{ℕ, ◌+◌, ◌^◌, ◌/◌, ◌%◌, nat_lt, if◌then◌else◌, List, [], ◌∷◌, ◌++◌, map, codes, decimal}
use Rattle.std.specs.Fmt.{signed_decimal}
use Rattle.capture_io.specs.declared.fault.CaptureFault.{CaptureFault}
use Rattle.capture_io.specs.declared.fault.CaptureFault.TheVariants.{TooLong, ShortHeader, PcapNg, BadMagic, Version, LinkType, LongRecord, Truncated, TooMany, NoMemory}
use Rattle.domino_syntax.specs.declared.fault.TextFault.{TextFault}
use Rattle.domino_syntax.specs.declared.fault.TextFault.TheVariants as text_fault
use Rattle.domino_names.specs.declared.fault.What.{What}
use Rattle.domino_names.specs.declared.fault.What.TheVariants as what
use Rattle.domino_names.specs.declared.fault.CheckFault.{CheckFault}
use Rattle.domino_names.specs.declared.fault.CheckFault.TheVariants as check
use Rattle.domino_compile.specs.declared.fault.ProgramFault.{ProgramFault}
use Rattle.domino_compile.specs.declared.fault.ProgramFault.TheVariants as program

-- a hexadecimal digit, with `a` to `f` in lower case
abbrev pub hex_digit : ℕ → ℕ
hex_digit n = if nat_lt n 10 then 48 + n else 87 + n

-- the eight hexadecimal digits of a word, most significant first
abbrev pub hex_word : ℕ → List ℕ
hex_word word = map (λ place. hex_digit (word / 16 ^ place % 16)) (7 ∷ 6 ∷ 5 ∷ 4 ∷ 3 ∷ 2 ∷ 1 ∷ 0 ∷ [])

-- a text and a value, as a line
abbrev pub with_one : List ℕ → ℕ → List ℕ
with_one text n = text ++ (decimal n ++ (10 ∷ []))

-- a text and two values with a space between them, as a line
abbrev pub with_two : List ℕ → ℕ → ℕ → List ℕ
with_two text a b = text ++ (decimal a ++ (32 ∷ (decimal b ++ (10 ∷ []))))

-- a text and a name, as a line
abbrev pub with_name : List ℕ → List ℕ → List ℕ
with_name text name = text ++ (name ++ (10 ∷ []))

-- what there are too many of, as a word
abbrev pub what_word : What → List ℕ
what_word what.Defines = codes "defines"
what_word what.Fields = codes "fields"
what_word what.Arrays = codes "arrays"
what_word what.Cells = codes "cells"

-- a text, and a word and digits with a space between them, as a line
abbrev pub with_pair : List ℕ → List ℕ → List ℕ → List ℕ
with_pair text word digits = text ++ (word ++ (32 ∷ (digits ++ (10 ∷ []))))

-- the line of a text that isn't read; want of memory has that of its own status
abbrev pub text_line : TextFault → List ℕ
text_line (text_fault.TooLong n) = with_one (codes "mp5: program 1 ") n
text_line (text_fault.BadToken at) = with_one (codes "mp5: program 2 ") at
text_line (text_fault.TooDeep n) = with_one (codes "mp5: program 4 ") n
text_line (text_fault.Syntax n) = with_one (codes "mp5: program 3 ") n
text_line text_fault.NoMemory = codes "mp5: no memory\n"

-- the line of a program that a check refuses
abbrev pub check_line : CheckFault → List ℕ
check_line (check.Twice name) = with_name (codes "mp5: program 5 ") name
check_line (check.Unknown name) = with_name (codes "mp5: program 6 ") name
check_line (check.WrongKind name) = with_name (codes "mp5: program 7 ") name
check_line (check.Arity name) = with_name (codes "mp5: program 8 ") name
check_line (check.BadLength name z) = with_pair (codes "mp5: program 9 ") name (signed_decimal z)
check_line (check.TooMany w n) = with_pair (codes "mp5: program 10 ") (what_word w) (decimal n)
check_line (check.IndexDiffers name) = with_name (codes "mp5: program 11 ") name
check_line (check.IndexMoves name) = with_name (codes "mp5: program 12 ") name
check_line check.NoMemory = codes "mp5: no memory\n"

-- the line of a refused program
abbrev pub program_line : ProgramFault → List ℕ
program_line (program.Text f) = text_line f
program_line (program.Check f) = check_line f
program_line (program.TooLarge n) = with_one (codes "mp5: program 13 ") n
program_line program.NoMemory = codes "mp5: no memory\n"

-- the line of a refused capture
abbrev pub refusal_line : CaptureFault → List ℕ
refusal_line (TooLong n) = with_one (codes "mp5: capture 1 ") n
refusal_line (ShortHeader n) = with_one (codes "mp5: capture 2 ") n
refusal_line PcapNg = codes "mp5: capture 3\n"
refusal_line (BadMagic word) = codes "mp5: capture 4 " ++ (hex_word word ++ (10 ∷ []))
refusal_line (Version major minor) = with_two (codes "mp5: capture 5 ") major minor
refusal_line (LinkType n) = with_one (codes "mp5: capture 6 ") n
refusal_line (LongRecord at n) = with_two (codes "mp5: capture 7 ") at n
refusal_line (Truncated at) = with_one (codes "mp5: capture 8 ") at
refusal_line (TooMany n) = with_one (codes "mp5: capture 9 ") n
refusal_line NoMemory = codes "mp5: no memory\n"
