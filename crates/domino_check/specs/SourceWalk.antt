-- The walk over a program's source, from the fields of a header on, over values of any kind.
use Rattle.std.specs.Prelude.{ℕ, List, length}
use Rattle.mp5_words.specs.Copies.{Indexes}
use Rattle.mp5_words.specs.Domain.{Ops, Domain}
use Rattle.domino_tree.specs.declared.program.Program.{Program}
use Rattle.domino_tree.specs.Value.{names_of}
use Rattle.domino_check.specs.Indexes.{index_of}
use Rattle.domino_check.specs.Numbering.{numbered_body, accesses}
use Rattle.domino_check.specs.Walk.{Core, walk_index, walked}

-- the value of each array's index, by the accesses of the program
abbrev pub source_indexes : (V : Type 0) → Ops V → Program → Indexes V
source_indexes V o p a fields = walk_index V o (index_of (accesses p) a) fields

-- the walk over the program, from the header's fields on
abbrev pub walked_program : (V : Type 0) → Domain V → Program → List V → Core V
walked_program V d p header = walked V d (source_indexes V d.ops p) (numbered_body p) (length (names_of p).arrays) header
