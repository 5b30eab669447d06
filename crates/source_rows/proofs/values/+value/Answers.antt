use Rattle.std.proofs.Common.{◌≡◌, ℕ, List, IfOk, subst}
use Rattle.mp5_words.specs.Domain.{sources}
use Rattle.source_rows.specs.Views.{seen}
use Rattle.source_rows.proofs.StepLemmas.{hash_is}
use Rattle.source_rows.proofs.values.+value.Goals as goal

pub value-returns-in_ok-all-in-Hash : goal.value-returns-in_ok-all-in-Hash
value-returns-in_ok-all-in-Hash t c =
    subst (λ (x : List ℕ). IfOk c.first_three.result (λ set. set ≡ x))
    (hash_is (List ℕ) sources c.args.expr.now c.in-Hash.field-0 c.in-Hash.args c.as_slice-in-Hash.result.now c.in_ok-all-in-Hash.all c.as_slice-in-Hash-2.result.now (seen c.args.fields.now c.args.copies.now)
    c.in-Hash.is c.as_slice-in-Hash.ensures c.in_ok-all-in-Hash.ensures c.as_slice-in-Hash-2.ensures)
    c.first_three.ensures
