use Rattle.std.proofs.Common.{◌≤◌, ◌*◌, ◌≡◌, subst, arith}
use Rattle.std.specs.Prelude.{is_some}
use Rattle.dependence.specs.Groups.{group_of}
use Rattle.dependence.specs.Leaders.{Numbered, numbered}
use Rattle.dependence.proofs.CountLemmas.{at_most}
use Rattle.dependence.proofs.LeaderLemmas.{are_groups, nothing_numbered}
use Rattle.dependence.proofs.groups.number_groups.Goals as goal

pub loop-level-init : goal.loop-level-init
loop-level-init c = nothing_numbered _ _

pub returns-clause-groups : goal.returns-clause-groups
returns-clause-groups c =
    let e : 16 * c.loop-level.level ≡ 256 = omega arith in
    are_groups _ _ c.requires.closed _ c.leaders-leaders.ensures _ c.levels-levels.ensures c.loop-level.groups
    (subst (λ n. Numbered c.levels-levels.result c.leaders-leaders.result n c.loop-level.groups) e c.loop-level.invariant)

pub returns-clause-few : goal.returns-clause-few
returns-clause-few c = let h : numbered c.loop-level.groups.of 16 ≤ 16 = at_most (λ a. is_some (group_of c.loop-level.groups.of a)) 16 in omega (arith, h, c.loop-level.invariant.few)
