use Rattle.std.proofs.Common.{◌<◌, ◌≢◌, length, length-set, arith, below_more, subst, sym, get_or-set_other, get_or-set_same}
use Rattle.dependence.specs.Levels.{IsLevelOver}
use Rattle.dependence.proofs.groups.next_levels.Goals as goal

pub loop-array-preserved : goal.loop-array-preserved
loop-array-preserved c = record {
  long = simp length-set c.loop-array.invariant.long;
  right = below_more _ _
      (λ a w. let ne : a ≢ c.loop-array.array = omega arith in subst (IsLevelOver c.args.table.now c.args.levels.now a) (sym (get_or-set_other c.loop-array.next c.loop-array.array a c.level_over.result 0 ne)) (c.loop-array.invariant.right a w))
      (let lt : c.loop-array.array < length c.loop-array.next = omega arith in subst (IsLevelOver c.args.table.now c.args.levels.now c.loop-array.array) (sym (get_or-set_same c.loop-array.next c.loop-array.array c.level_over.result 0 lt)) c.level_over.ensures);
}
