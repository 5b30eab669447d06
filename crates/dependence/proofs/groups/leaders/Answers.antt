use Rattle.std.proofs.Common.{◌<◌, ◌≢◌, None, length, length-set, arith, below_more, subst, sym, get_or-set_other, get_or-set_same}
use Rattle.dependence.specs.Leaders.{IsLeader}
use Rattle.dependence.proofs.groups.leaders.Goals as goal

pub loop-array-preserved : goal.loop-array-preserved
loop-array-preserved c = record {
  long = simp length-set c.loop-array.invariant.long;
  right = below_more _ _
      (λ a w. let ne : a ≢ c.loop-array.array = omega arith in subst (IsLeader c.args.touched.now c.args.table.now a) (sym (get_or-set_other c.loop-array.leaders c.loop-array.array a c.leader.result None ne)) (c.loop-array.invariant.right a w))
      (let lt : c.loop-array.array < length c.loop-array.leaders = omega arith in subst (IsLeader c.args.touched.now c.args.table.now c.loop-array.array) (sym (get_or-set_same c.loop-array.leaders c.loop-array.array c.leader.result None lt)) c.leader.ensures);
}
