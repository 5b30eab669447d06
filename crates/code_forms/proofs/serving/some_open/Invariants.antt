use Rattle.std.proofs.Common.{◌≡◌, take, false}
use Rattle.code_forms.specs.StagedMeaning.{is_open}
use Rattle.code_forms.proofs.serving.some_open.Given as goal

abbrev pub invariant-loop-guard : goal.invariant-loop-guard
invariant-loop-guard l = is_open l.env (take l.guard-index l.guards) ≡ false
