use Rattle.std.proofs.Common.{◌≢◌, inl, inr, subst, arith}
use Rattle.std.proofs.lemmas.Bool.Decides.{eqb_tells}
use Rattle.pipe_worker.specs.Events.{CanServe}
use Rattle.pipe_worker.proofs.RowLemmas.{group_now}
use Rattle.pipe_worker.proofs.pipe.Pipe.next_service.Goals as goal

pub loop-g-preserved : goal.loop-g-preserved
loop-g-preserved c g place p lt can = elim (eqb_tells g c.loop-g.g) [
  | inl h ↦ c.in_default.ensures.none place p (subst (λ n. CanServe c.args.self.now n place p) h.1 can)
  | inr h ↦ (let other : g ≢ c.loop-g.g = h.1 in c.loop-g.invariant g place p (omega (arith, lt, other)) can)
]

pub returns-clause-none : goal.returns-clause-none
returns-clause-none c g place p can =
    let there = group_now _ c.args.self.now g c.self.view_is c.self.invariant.0 c.len-g-end.ensures.laws can.there in
    c.loop-g.invariant g place p (omega (arith, there, c.len-g-end.ensures.count, c.loop-g-test.false)) can
