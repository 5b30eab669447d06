use Rattle.std.proofs.Common.{◌≤◌}
use Rattle.code_forms.specs.Running.{RunsTo}
use Rattle.code_forms.proofs.staged.StagedCode.run_part.Given as goal

abbrev pub invariant-loop-p : goal.invariant-loop-p
invariant-loop-p l = (l.from ≤ l.p) × RunsTo l.self l.k l.p l.cells l.fn.env l.env
