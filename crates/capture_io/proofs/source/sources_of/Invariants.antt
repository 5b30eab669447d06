use Rattle.std.proofs.Common.{◌≡◌, map, take}
use Rattle.capture_io.specs.Header.{source}
use Rattle.capture_io.proofs.source.sources_of.Given as goal

abbrev pub invariant-loop-i : goal.invariant-loop-i
invariant-loop-i l = l.sources.items ≡ map source (take l.i l.names)
