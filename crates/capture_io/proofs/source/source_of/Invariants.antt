use Rattle.std.proofs.Common.{◌≡◌, drop}
use Rattle.capture_io.specs.Header.{filled, source_in}
use Rattle.capture_io.proofs.source.source_of.Given as goal

-- the name is none of those before this one
abbrev pub invariant-loop-source : goal.invariant-loop-source
invariant-loop-source l = source_in (drop l.source-index filled) l.name ≡ source_in filled l.name
