-- The bytes of a line, and how long the lines of a program are at most.
use Rattle.std.specs.Prelude.{ℕ, ◌+◌, List, length, map, sum}
use Rattle.domino_tree.specs.declared.program.Program.{Program}
use Rattle.domino_tree.specs.Text.{text_of}
use Rattle.domino_names.specs.declared.infos.ArrayInfo.{ArrayInfo}
use Rattle.domino_names.specs.Infos.{infos_of}

-- bytes that were put one after another, and how many there is room for
pub record Written : Type 0 where
  pub text : List ℕ
  pub room : ℕ

-- what the fields take in the line of a packet: each has a space, its name, `=` and at most eleven digits
abbrev pub fields_room : List (List ℕ) → ℕ
fields_room names = sum (map (λ (n : List ℕ). length n + 13) names)

-- what the arrays take in the line of a group: each has a space and its name
abbrev pub arrays_room : List ArrayInfo → ℕ
arrays_room infos = sum (map (λ (i : ArrayInfo). length i.name + 1) infos)

-- no line of the program's texts is longer: those of its canonical text, and those of its fields, arrays and numbers
abbrev pub room_of : Program → ℕ
room_of p = length (text_of p) + (fields_room p.packet.fields + (arrays_room (infos_of p) + 1024))
