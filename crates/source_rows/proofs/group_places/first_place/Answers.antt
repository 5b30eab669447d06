use Rattle.std.proofs.Common.{ap, ◌∙◌, slice_index}
use Rattle.source_rows.proofs.MemberLemmas.{one_first, no_first}
use Rattle.source_rows.proofs.group_places.first_place.Goals as goal

pub returns-in-Some-clause-place : goal.returns-in-Some-clause-place
returns-in-Some-clause-place c = λ a first.
    c.place_in.ensures ∙ ap (slice_index c.args.places.now) (one_first c.args.of.now c.args.group c.args.arrays.now c.in-Some.a a c.in-Some.ensures first)

pub returns-in-None-clause-place : goal.returns-in-None-clause-place
returns-in-None-clause-place c = λ a first. absurd (no_first c.args.of.now c.args.group c.args.arrays.now a c.in-None.ensures first)
