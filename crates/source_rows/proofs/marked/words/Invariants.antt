-- the words so far
use Rattle.std.proofs.Common.{◌≡◌, take}
use Rattle.domino_check.specs.Place.{header_marks}
use Rattle.source_rows.proofs.marked.words.Given as goal

abbrev pub invariant-loop-word : goal.invariant-loop-word
invariant-loop-word l = l.all.items ≡ header_marks (take l.word-index l.header)
