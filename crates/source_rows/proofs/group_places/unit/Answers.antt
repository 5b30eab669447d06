use Rattle.std.proofs.Common.{ℕ, List, sym, subst, ◌∙◌, arith}
use Rattle.source_rows.specs.Members.{IsFirst}
use Rattle.source_rows.proofs.MemberLemmas.{of_below}
use Rattle.source_rows.proofs.group_places.unit.Goals as goal

pub returns : goal.returns
returns c =
    let of = c.args.groups.now.of in
    let g = c.args.group in
    record {
      sharded = λ _ a first.
          c.first_place.ensures.place a (subst (λ (l : List ℕ). IsFirst of g l a) (sym (c.as_slice.ensures ∙ c.in_ok-touched.ensures)) first)
          ∙ c.in_ok-places.ensures a (omega (arith, of_below of g a first.3, c.first_place.ensures.wide));
      pinned = λ pinned. absurd (pinned (c.in_ok-is_sharded.ensures.0 c.if-not-branch.false));
    }
