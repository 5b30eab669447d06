use Rattle.std.proofs.Common.{◌≡◌, ◌<◌, ◌≤◌, ℤ, pos, List, length, get_or, map, rules, FitsSigned, w32, sym, ap, ◌∙◌, arith}
use Rattle.std.proofs.lemmas.Int.{to_z-of_z}
use Rattle.std.proofs.lemmas.List.{length-map, take_all}
use Rattle.std.specs.List.{flat_map}
use Rattle.mp5_words.specs.Words.{hash}
use Rattle.domino_check.specs.declared.numbered.CheckedExpr.TheVariants as e
use Rattle.domino_tree.specs.Value.{Store}
use Rattle.mp5_words.specs.Cells.{touching}
use Rattle.domino_check.specs.NumberedMeaning.{indexing, numbered_value, numbered_arrays}
use Rattle.domino_check.proofs.MeaningLemmas.{value-Hash, arrays-Hash}
use Rattle.domino_eval.specs.Parts.{store}
use Rattle.domino_eval.specs.Places.{marks}
use Rattle.domino_eval.proofs.EvalLemmas.{word_map, first_words_next, hash_firsts, touch_next}
use Rattle.domino_eval.proofs.value.+value.Goals as goal

pub hash_value-loop-place-preserved : goal.hash_value-loop-place-preserved
hash_value-loop-place-preserved t c =
    let f = numbered_value (indexing c.args.checked.now) in
    let st : Store = store c.args.fields.now c.args.cells.now in
    let words : List ℤ = map (λ (a : Store → ℤ). a st) (map f c.args.args.now) in
    let fits : FitsSigned w32 c.operand-word.result = search rules in
    let within : c.loop-place.place < length words = omega (arith, length-map (map f c.args.args.now) (λ (a : Store → ℤ). a st), length-map c.args.args.now f, c.loop-place-test.true) in
    record {
      words = first_words_next words c.loop-place.place _ _ _ within c.put.ensures c.loop-place.invariant.words
          (to_z-of_z w32 c.operand-word.result fits ∙ c.operand-word.ensures.value ∙ word_map f c.args.args.now c.loop-place.place c.index-args-place.result st c.loop-place-test.true c.index-args-place.is);
      touched = c.operand-word.ensures.touched
          ∙ ap (touching (numbered_arrays c.index-args-place.result)) c.loop-place.invariant.touched
          ∙ touch_next c.args.args.now c.loop-place.place c.index-args-place.result (marks c.args.places.now) c.loop-place-test.true c.index-args-place.is;
      kept = c.operand-word.ensures.kept;
    }

pub hash_value-returns-clause-value : goal.hash_value-returns-clause-value
hash_value-returns-clause-value t c =
    let f = numbered_value (indexing c.args.checked.now) in
    let st : Store = store c.args.fields.now c.args.cells.now in
    let words : List ℤ = map (λ (a : Store → ℤ). a st) (map f c.args.args.now) in
    let fits : FitsSigned w32 c.hash.result = search rules in
    let fits-a : FitsSigned w32 (get_or c.loop-place.words 0 (pos 0)) = search rules in
    let fits-b : FitsSigned w32 (get_or c.loop-place.words 1 (pos 0)) = search rules in
    let fits-c : FitsSigned w32 (get_or c.loop-place.words 2 (pos 0)) = search rules in
    let past : length words ≤ c.loop-place.place = omega (arith, length-map (map f c.args.args.now) (λ (a : Store → ℤ). a st), length-map c.args.args.now f, c.loop-place-test.false) in
    to_z-of_z w32 c.hash.result fits
    ∙ c.hash.ensures
    ∙ (λ i. hash c.args.kind (to_z-of_z w32 _ fits-a i) (to_z-of_z w32 _ fits-b i) (to_z-of_z w32 _ fits-c i))
    ∙ hash_firsts c.args.kind words c.loop-place.place c.loop-place.words c.loop-place.invariant.words past

pub hash_value-returns-clause-touched : goal.hash_value-returns-clause-touched
hash_value-returns-clause-touched t c =
    c.loop-place.invariant.touched
    ∙ ap (λ l. touching (flat_map (λ a. a) (map numbered_arrays l)) (marks c.args.places.now)) (take_all c.loop-place.place c.args.args.now c.loop-place-test.false)

pub value-returns-in-Hash-clause-value : goal.value-returns-in-Hash-clause-value
value-returns-in-Hash-clause-value t c =
    let fits : FitsSigned w32 c.hash_value.result = search rules in
    let is : c.args.expr.now ≡ e.Hash c.in-Hash.kind c.as_slice.result.now = c.in-Hash.is ∙ ap (e.Hash c.in-Hash.kind) (sym c.as_slice.ensures) in
    to_z-of_z w32 c.hash_value.result fits ∙ c.hash_value.ensures.value
    ∙ sym (ap (λ x. numbered_value (indexing c.args.checked.now) x (store c.args.fields.now c.args.cells.now)) is ∙ value-Hash (indexing c.args.checked.now) c.in-Hash.kind c.as_slice.result.now (store c.args.fields.now c.args.cells.now))

pub value-returns-in-Hash-clause-touched : goal.value-returns-in-Hash-clause-touched
value-returns-in-Hash-clause-touched t c =
    let is : c.args.expr.now ≡ e.Hash c.in-Hash.kind c.as_slice.result.now = c.in-Hash.is ∙ ap (e.Hash c.in-Hash.kind) (sym c.as_slice.ensures) in
    c.hash_value.ensures.touched
    ∙ ap (λ l. touching l (marks c.args.places.now)) (sym (ap numbered_arrays is ∙ arrays-Hash c.in-Hash.kind c.as_slice.result.now))
