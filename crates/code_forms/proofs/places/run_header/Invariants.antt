use Rattle.std.proofs.Common.{◌≡◌, fold, take}
use Rattle.code_forms.specs.Spots.{spot_step}
use Rattle.code_forms.proofs.places.run_header.Given as goal

abbrev pub invariant-loop-step : goal.invariant-loop-step
invariant-loop-step l = l.room ≡ fold (spot_step l.spots) l.fn.room (take l.step-index l.steps)
