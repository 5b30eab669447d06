use Rattle.std.proofs.Common.{◌≤◌, length, arith}
use Rattle.group_station.proofs.TakeLemmas.{own_before, other_before, is_next}
use Rattle.group_station.proofs.station.Station.is_next_own.Goals as goal

pub returns-then-at-self : goal.returns-then-at-self
returns-then-at-self c =
    own_before _ _ c.args.owners.now c.args.u c.loop-d.d c.args.from c.at.result c.self.view_is c.requires.owners c.loop-d.auto.d c.loop-d-test.true c.at.ensures.owner c.if-at-self.true

pub loop-d-preserved : goal.loop-d-preserved
loop-d-preserved c =
    let known : c.loop-d.d ≤ length c.args.owners.now.plans = omega (arith, c.loop-d-test.true, c.if-from-applied.false, c.applied.ensures) in
    other_before _ _ c.args.owners.now c.args.u c.loop-d.d c.at.result c.self.view_is c.requires.owners known c.at.ensures.owner c.if-at-self.false c.loop-d.invariant

pub returns : goal.returns
returns c =
    is_next _ _ c.args.owners.now c.args.u c.loop-d.d c.args.from c.self.view_is c.requires.owned c.if-from-self.false (omega (arith, c.if-from-applied.false, c.applied.ensures)) c.loop-d-test.false c.loop-d.invariant
