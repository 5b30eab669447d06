use Rattle.std.proofs.Common.{◌≤◌, ◌<◌, ◌≡◌, ◌+◌, ◌*◌, refl, arith, subst, sym}
use Rattle.std.specs.Prelude.{is_some}
use Rattle.std.proofs.lemmas.Bool.{false≢true}
use Rattle.dependence.specs.Groups.{group_of}
use Rattle.dependence.specs.Leaders.{numbered, Numbered, Leads}
use Rattle.dependence.proofs.CountLemmas.{at_most}
use Rattle.dependence.proofs.LeaderLemmas.{passed, numbered_next}
use Rattle.dependence.proofs.groups.ArrayGroups.number_level.Goals as goal
use Rattle.dependence.proofs.groups.ArrayGroups.number_level.Goals.{then-leads, else-leads}

pub number-requires : goal.number-requires
number-requires c = let h : numbered c.loop-array.self.of 16 ≤ 16 = at_most (λ a. is_some (group_of c.loop-array.self.of a)) 16 in omega (arith, h, c.loop-array.invariant.few)

pub loop-array-preserved : goal.loop-array-preserved
loop-array-preserved c =
    let wi : c.loop-array.array < 16 = c.loop-array-test.true in
    let e : 16 * c.args.level + c.loop-array.array + 1 ≡ 16 * c.args.level + (c.loop-array.array + 1) = omega arith in
    elim c.if-leads.branch [
      | then-leads w ↦
          let leads : Leads c.args.levels.now c.args.leaders.now c.args.level c.loop-array.array = w.if-leads.ensures.0 refl in
          subst (λ g. Numbered c.args.levels.now c.args.leaders.now (16 * c.args.level + (c.loop-array.array + 1)) g) (sym w.self-is)
          (subst (λ n. Numbered c.args.levels.now c.args.leaders.now n w.number.new.self) e
          (numbered_next _ _ c.requires.least c.args.level c.loop-array.array wi _ _ leads.0 leads.1 c.loop-array.invariant w.number.ensures.of w.number.ensures.count))
      | else-leads w ↦
          subst (λ g. Numbered c.args.levels.now c.args.leaders.now (16 * c.args.level + (c.loop-array.array + 1)) g) (sym w.self-is)
          (subst (λ n. Numbered c.args.levels.now c.args.leaders.now n c.loop-array.self) e
          (passed _ _ c.requires.least c.args.level c.loop-array.array wi _ (λ l. false≢true (w.if-leads.ensures.1 l)) c.loop-array.invariant))
    ]
