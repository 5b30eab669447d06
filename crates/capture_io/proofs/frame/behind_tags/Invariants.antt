use Rattle.std.proofs.Common.{◌≡◌, length}
use Rattle.capture_io.specs.Header.{behind_tags}
use Rattle.capture_io.proofs.frame.behind_tags.Given as goal

-- behind what is left stands what stands behind the whole
abbrev pub invariant-loop-rest : goal.invariant-loop-rest
invariant-loop-rest l = behind_tags l.rest ≡ behind_tags l.typed

abbrev pub decreases-loop-rest : goal.decreases-loop-rest
decreases-loop-rest l = length l.rest
