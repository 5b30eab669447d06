-- the cells of the arrays so far
use Rattle.std.proofs.Common.{◌≡◌, map, take, replicate}
use Rattle.domino_names.specs.declared.infos.ArrayInfo.{ArrayInfo}
use Rattle.domino_eval.proofs.bench.started.Given as goal

abbrev pub invariant-loop-info : goal.invariant-loop-info
invariant-loop-info l = l.all.items ≡ map (λ (i : ArrayInfo). replicate i.length i.start) (take l.info-index l.info-items)
