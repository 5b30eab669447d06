use Rattle.std.proofs.Common.{sym, ap, ◌∙◌, true≢false}
use Rattle.domino_check.specs.Walk.{Core}
use Rattle.source_rows.specs.Views.{Sources}
use Rattle.source_rows.proofs.ShardLemmas.{sharded, sharded_clean, sharded_alike}
use Rattle.source_rows.proofs.shards.is_sharded.Goals.{then-clean, else-clean}
use Rattle.source_rows.proofs.shards.is_sharded.Goals as goal

pub returns : goal.returns
returns c =
    let p = c.args.checked.now in
    let of = c.args.groups.now.of in
    let g = c.args.group in
    let copies = c.deref.result.now in
    let walked = c.deref.ensures.value ∙ ap (λ (s : Core Sources). s.copies) c.in_ok-walked.ensures in
    elim c.if-clean.branch [
      | then-clean w ↦ (
        (λ told. sharded p of g copies walked (c.are_clean-clean.ensures.0 w.if-clean.true) (w.all_alike.ensures.0 (sym w.result-is ∙ told))),
        (λ s. w.result-is ∙ w.all_alike.ensures.1 (sharded_alike p of g s)),
      )
      | else-clean w ↦ (
        (λ told. absurd (true≢false (sym told ∙ w.result-is ∙ w.if-clean.false))),
        (λ s. w.result-is ∙ c.are_clean-clean.ensures.1 (sharded_clean p of g copies walked s)),
      )
    ]
