-- what is left of the arrays, touched from here on, is all of them touched from the start
use Rattle.std.proofs.Common.{◌≡◌, length, drop}
use Rattle.domino_names.specs.Infos.{infos_of}
use Rattle.source_rows.specs.MarkViews.{core, touching_all}
use Rattle.source_rows.proofs.marked.touch_each.Given as goal

abbrev pub invariant-loop-array : goal.invariant-loop-array
invariant-loop-array l = record {
  walked : touching_all l.checked (drop l.array-index l.arrays) l.guard (core l.walked.fields.items l.walked.copies.items)
      ≡ touching_all l.checked l.arrays l.guard (core l.initial.walked.fields.items l.initial.walked.copies.items);
  long : length l.walked.copies.items ≡ length (infos_of l.checked);
}
