-- the bytes so far are mixed in
use Rattle.std.proofs.Common.{◌≡◌, take}
use Rattle.mp5_words.specs.Words.{mixed}
use Rattle.mp5_words.proofs.hashing.after_word.Given as goal

abbrev pub invariant-loop-byte : goal.invariant-loop-byte
invariant-loop-byte l = l.state ≡ mixed l.start (take l.byte-index l.byte-items)
