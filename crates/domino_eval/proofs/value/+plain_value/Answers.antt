use Rattle.std.proofs.Common.{◌≡◌, rules, FitsSigned, w32, sym, ap, ◌∙◌}
use Rattle.std.proofs.lemmas.Int.{to_z-of_z}
use Rattle.domino_check.specs.declared.numbered.CheckedExpr.TheVariants as e
use Rattle.domino_check.specs.NumberedMeaning.{plain_value}
use Rattle.domino_check.proofs.MeaningLemmas.{plain-Hash}
use Rattle.domino_eval.proofs.EvalLemmas.{word_map}
use Rattle.domino_eval.proofs.value.+plain_value.Goals as goal

pub plain_argument-returns-then-place-args : goal.plain_argument-returns-then-place-args
plain_argument-returns-then-place-args t c =
    let fits : FitsSigned w32 c.plain_value.result = search rules in
    to_z-of_z w32 c.plain_value.result fits ∙ c.plain_value.ensures ∙ word_map plain_value c.args.args.now c.args.place c.index-args-place.result c.args.fields.now c.if-place-args.true c.index-args-place.is

pub plain_value-returns-in-Hash : goal.plain_value-returns-in-Hash
plain_value-returns-in-Hash t c =
    let fits : FitsSigned w32 c.plain_hash.result = search rules in
    let is : c.args.expr.now ≡ e.Hash c.in-Hash.kind c.as_slice.result.now = c.in-Hash.is ∙ ap (e.Hash c.in-Hash.kind) (sym c.as_slice.ensures) in
    to_z-of_z w32 c.plain_hash.result fits ∙ c.plain_hash.ensures
    ∙ sym (ap (λ x. plain_value x c.args.fields.now) is ∙ plain-Hash c.in-Hash.kind c.as_slice.result.now c.args.fields.now)
