use Rattle.std.proofs.Common.{◌≡◌, ◌<◌, ◌+◌, ◌∙◌, ℕ, false, eqb, List, length, sym, ap, subst, arith, Err}
use Rattle.std.proofs.lemmas.Bool.{eqb-true, eqb-false}
use Rattle.std.proofs.lemmas.Result.{err_from_is_err_and}
use Rattle.capture_io.specs.declared.fault.CaptureFault.TheVariants.{TooMany}
use Rattle.capture_io.specs.ClassicCapture.{Record}
use Rattle.capture_io.specs.Reading.{Fails, records_of}
use Rattle.capture_io.proofs.Walk.{counted, goes_on, no_record, too_many, is_done}
use Rattle.capture_io.proofs.reading.words_of.Goals as goal

some_left : (b : List ℕ) → eqb (length b) 0 ≡ false → 0 < length b
some_left b e = let ne = eqb-false (length b) 0 e in omega (arith, ne)

pub returns-then-count-eq-MAX_RECORDS : goal.returns-then-count-eq-MAX_RECORDS
returns-then-count-eq-MAX_RECORDS c =
    let some = some_left c.loop-rest.rest.now (sym c.is_empty.ensures ∙ c.loop-rest-test.true) in
    let e = c.args.encoding in
    let sources = c.args.sources.now in
    let start = c.first_timestamp-start.result in
    let all = records_of e 262144 24 c.args.bytes.now in
    let met : c.loop-rest.count ≡ 262144 = omega arith in
    sym (ap (λ (s : ℕ). counted sources s all) c.first_timestamp-start.ensures)
    ∙ (too_many e 262144 c.loop-rest.count sources start c.loop-rest.words.items c.loop-rest.at c.loop-rest.rest.now (counted sources start all) met some c.loop-rest.invariant.so_far
    ∙ ap (λ (k : ℕ). Err (TooMany (k + 1))) (sym met))

pub returns-in_err-stamp : goal.returns-in_err-stamp
returns-in_err-stamp c =
    let some = some_left c.loop-rest.rest.now (sym c.is_empty.ensures ∙ c.loop-rest-test.true) in
    let e = c.args.encoding in
    let sources = c.args.sources.now in
    let start = c.first_timestamp-start.result in
    let all = records_of e 262144 24 c.args.bytes.now in
    let f = c.in_err-stamp.field-0.0 in
    let room : c.loop-rest.count < 262144 = omega arith in
    let p = err_from_is_err_and c.from_residual.result c.from_residual.ensures.1 in
    rw (p.1, p.2) (subst (λ (s : ℕ). Fails f (counted sources s all)) c.first_timestamp-start.ensures
    (no_record e 262144 c.loop-rest.count sources start c.loop-rest.words.items c.loop-rest.at c.loop-rest.rest.now (counted sources start all) f room some c.in_err-stamp.ensures.parts c.loop-rest.invariant.so_far))

pub loop-rest-preserved : goal.loop-rest-preserved
loop-rest-preserved c =
    let some = some_left c.loop-rest.rest.now (sym c.is_empty.ensures ∙ c.loop-rest-test.true) in
    let e = c.args.encoding in
    let sources = c.args.sources.now in
    let start = c.first_timestamp-start.result in
    let room : c.loop-rest.count < 262144 = omega arith in
    let r : Record = record { timestamp = c.in_ok-stamp.stamp.timestamp; original = c.in_ok-stamp.stamp.original; frame = c.in_ok-stamp.frame.now } in
    let next = goes_on e 262144 c.loop-rest.count sources start c.loop-rest.words.items c.loop-rest.at c.loop-rest.rest.now r c.in_ok-stamp.after.now (counted sources start (records_of e 262144 24 c.args.bytes.now)) room some c.in_ok-stamp.ensures.parts c.loop-rest.invariant.so_far in
    record { limit = omega arith; place = omega (arith, c.in_ok-stamp.ensures.sum, c.loop-rest.invariant.place); so_far = rw c.in_ok-push_record.ensures.fields next }

pub returns : goal.returns
returns c =
    let none : length c.loop-rest.rest.now ≡ 0 = eqb-true _ _ (sym c.is_empty.ensures ∙ c.loop-rest-test.false) in
    let e = c.args.encoding in
    let sources = c.args.sources.now in
    let start = c.first_timestamp-start.result in
    let all = records_of e 262144 24 c.args.bytes.now in
    sym (ap (λ (s : ℕ). counted sources s all) c.first_timestamp-start.ensures)
    ∙ is_done e 262144 c.loop-rest.count sources start c.loop-rest.words.items c.loop-rest.at c.loop-rest.rest.now (counted sources start all) none c.loop-rest.invariant.so_far
