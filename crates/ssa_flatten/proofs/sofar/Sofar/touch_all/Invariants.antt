-- the arrays so far are touched
use Rattle.std.proofs.Common.{◌≡◌, take}
use Rattle.std.specs.List.{fold}
use Rattle.ssa_flatten.specs.Flattening.{Sofar as Exact, touch_array}
use Rattle.ssa_flatten.specs.Views.{held, view, Keeps}
use Rattle.ssa_flatten.proofs.sofar.Sofar.touch_all.Given as goal

abbrev pub invariant-loop-array : goal.invariant-loop-array
invariant-loop-array l = record {
  line : (s : Exact) → held l.fn.self ≡ view s → held l.self ≡ view (fold (touch_array l.shapes l.on) s (take l.array-index l.arrays));
  keeps : Keeps l.shapes l.fn.self l.self;
}
