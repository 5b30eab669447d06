use Rattle.std.proofs.Common.{◌≤◌, length, None, ◌∙◌, ap, subst, arith}
use Rattle.std.specs.List.{slice_index_or}
use Rattle.domino_tree.specs.Value.{names_of}
use Rattle.domino_names.proofs.InfoLemmas.{length-infos}
use Rattle.dependence.proofs.LevelLemmas.{is_closed}
use Rattle.domino_check.specs.SourceGroups.{HasCopy, StandsBehind}
use Rattle.domino_check.specs.Walk.{Core}
use Rattle.source_rows.specs.Marks.{Marks, MarksPairs}
use Rattle.source_rows.specs.Views.{Sources, Copies}
use Rattle.source_rows.proofs.GroupLemmas.{groups_are}
use Rattle.source_rows.proofs.groups.groups_of.Goals as goal

pub number_groups-requires : goal.number_groups-requires
number_groups-requires c = record { closed = is_closed c.table_of-table.result c.close.new.table c.close.ensures }

pub returns : goal.returns
returns c =
    let p = c.args.checked.now in
    let few : length (names_of p).arrays ≤ 16 = omega (arith, c.program-program.ensures.keeps.few, length-infos p) in
    let copies = ap (λ (s : Core Sources). s.copies) c.in_ok-walked.ensures in
    let pairs = subst (λ (cs : Copies). MarksPairs c.table_of-table.result (λ a b. StandsBehind b (slice_index_or cs a None))) (c.deref.ensures.value ∙ copies) c.table_of-table.ensures in
    let marks = subst (λ (cs : Copies). Marks c.touched_in-touched.result (λ a. HasCopy (slice_index_or cs a None))) (c.deref-2.ensures.value ∙ copies) c.touched_in-touched.ensures in
    groups_are p few c.table_of-table.result c.close.new.table pairs c.close.ensures c.touched_in-touched.result marks c.number_groups.result.count c.number_groups.result.of c.number_groups.ensures.groups
