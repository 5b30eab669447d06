use Rattle.std.proofs.Common.{◌≡◌, IfOk, subst}
use Rattle.mp5_words.specs.Domain.{Mark, marks}
use Rattle.source_rows.specs.MarkViews.{seen}
use Rattle.source_rows.proofs.StepLemmas.{hash_is}
use Rattle.source_rows.proofs.mark_values.+value.Goals as goal

pub value-returns-in_ok-all-in-Hash : goal.value-returns-in_ok-all-in-Hash
value-returns-in_ok-all-in-Hash t c =
    subst (λ (x : Mark). IfOk c.hashed.result (λ m. m ≡ x))
    (hash_is Mark (marks (λ a. 0)) c.args.expr.now c.in-Hash.kind c.in-Hash.args c.as_slice.result.now c.in_ok-all-in-Hash.all c.as_slice-in-Hash.result.now (seen c.args.fields.now c.args.copies.now)
    c.in-Hash.is c.as_slice.ensures c.in_ok-all-in-Hash.ensures c.as_slice-in-Hash.ensures)
    c.hashed.ensures
