use Rattle.std.proofs.Common.{◌≡◌, ◌++◌, map, take}
use Rattle.capture_io.specs.Header.{value_in}
use Rattle.capture_io.proofs.reading.push_fields.Given as goal

abbrev pub invariant-loop-source : goal.invariant-loop-source
invariant-loop-source l = l.words.items ≡ l.fn.words.items ++ map (λ s. value_in s l.fn.since l.fn.original l.fn.packet) (take l.source-index l.sources)
