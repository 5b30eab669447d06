use Rattle.std.proofs.Common.{◌≡◌, ℕ, ◌*◌, ◌∙◌, length, map, sym, ap, arith}
use Rattle.std.specs.Vec.{vec_len}
use Rattle.std.proofs.lemmas.List.{length-map}
use Rattle.capture_io.specs.Header.{source}
use Rattle.capture_io.specs.Reading.{first_timestamp}
use Rattle.capture_io.proofs.WholeCapture.{rows_fit, rows_read}
use Rattle.capture_io.proofs.reading.read.Goals as goal

pub invariant_of-result : goal.invariant_of-result
invariant_of-result c =
    let sources = c.deref.ensures.value ∙ c.in_ok-sources.ensures.sources in
    let given = rw sources at c.in_ok-words.ensures in
    let names = c.args.names.now in
    let e = c.in_ok-encoding.encoding in
    let rest = c.in_ok-encoding.records.now in
    let fit = rows_fit names e (first_timestamp e rest) rest c.in_ok-words.words.items c.in_ok-words.packets given in
    let width : c.count.result ≡ length (map source names) = c.count.ensures.count ∙ sym (length-map names source) in
    let len : vec_len c.in_ok-words.words ≡ length c.in_ok-words.words.items = omega (arith, c.in_ok-words.words.ok.0) in
    (len ∙ (fit.0 ∙ ap (λ (k : ℕ). c.in_ok-words.packets * k) (sym width)), fit.1, c.count.ensures.limit)

pub returns : goal.returns
returns c =
    let sources = c.deref.ensures.value ∙ c.in_ok-sources.ensures.sources in
    let given = rw sources at c.in_ok-words.ensures in
    rw c.count.ensures.count (rows_read c.args.names.now c.args.bytes.now c.in_ok-encoding.encoding c.in_ok-encoding.records.now c.in_ok-words.words.items c.in_ok-words.packets c.in_ok-encoding.ensures.rest given)
