use Rattle.std.proofs.Common.{◌≡◌, arith, ap, sym, ◌∙◌, inl, inr}
use Rattle.std.specs.Prelude.{is_some}
use Rattle.std.proofs.lemmas.Bool.{false≢true}
use Rattle.std.proofs.lemmas.Bool.Decides.{eqb_tells}
use Rattle.dependence.specs.Groups.{group_of}
use Rattle.stage_packing.specs.Members.{member_of}
use Rattle.stage_packing.proofs.spots.group_at.Goals as goal
use Rattle.stage_packing.proofs.spots.group_at.Goals.{else-has_member-via-then-has_member+else-is_some, else-has_member-via-else-has_member}

pub loop-array-preserved : goal.loop-array-preserved
loop-array-preserved c = λ a g less is.
    elim (eqb_tells a c.loop-array.array) [
      | inl s ↦ elim c.else-has_member.branch [
        | else-has_member-via-then-has_member+else-is_some w ↦ false≢true (sym w.if-is_some.false ∙ w.is_some.ensures ∙ ap is_some (ap (group_of c.args.of.now) (sym s.1) ∙ is.3))
        | else-has_member-via-else-has_member w ↦ false≢true (sym w.if-has_member.false ∙ c.has_member.ensures.1 (is.0, ap (member_of c.args.members.now) (sym s.1) ∙ is.1, is.2))
      ]
      | inr s ↦ let other : a ≡ c.loop-array.array → ⊥ = s.1 in c.loop-array.invariant a g (omega (arith, less)) is
    ]

pub returns : goal.returns
returns c = λ a g w is. c.loop-array.invariant a g (omega (arith, w)) is
