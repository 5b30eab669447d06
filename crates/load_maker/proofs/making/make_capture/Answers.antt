use Rattle.std.proofs.Common.{◌≡◌, List, length, map, sym, ap, ap₂, ◌∙◌, arith}
use Rattle.std.proofs.lemmas.List.{length-map}
use Rattle.std.specs.List.{flat_map, range_with_len}
use Rattle.capture_io.specs.declared.source.Source.{Source}
use Rattle.capture_io.specs.Header.{source}
use Rattle.capture_io.specs.Rows.{rows}
use Rattle.load_maker.specs.Made.{fields}
use Rattle.load_maker.proofs.MadeLaws.{length-flat_map, length-fields, rows_are_made}
use Rattle.load_maker.proofs.making.make_capture.Goals as goal

pub words_of-requires-clause-width : goal.words_of-requires-clause-width
words_of-requires-clause-width c =
    let places : c.deref.result.now ≡ map source c.args.names.now = c.deref.ensures.value ∙ c.in-Ok.ensures.sources in
    omega (arith, ap length places, length-map c.args.names.now source, c.count-width.ensures.count, c.count-width.ensures.limit)

pub of-requires-clause-words : goal.of-requires-clause-words
of-requires-clause-words c =
    let places : c.deref.result.now ≡ map source c.args.names.now = c.deref.ensures.value ∙ c.in-Ok.ensures.sources in
    let width : length c.deref.result.now ≡ c.count-width.result = ap length places ∙ (length-map c.args.names.now source ∙ sym c.count-width.ensures.count) in
    ap length c.in_ok-words.ensures
    ∙ length-flat_map (fields c.args.seed c.deref.result.now) c.count-width.result 0 c.args.n (λ t. length-fields c.args.seed c.deref.result.now t ∙ width)

pub returns : goal.returns
returns c =
    let places : c.deref.result.now ≡ map source c.args.names.now = c.deref.ensures.value ∙ c.in-Ok.ensures.sources in
    let words = ap (λ (l : List Source). flat_map (fields c.args.seed l) (range_with_len 0 c.args.n)) places in
    c.of.ensures ∙ (ap₂ (rows c.args.n) c.count-width.ensures.count (c.in_ok-words.ensures ∙ words) ∙ rows_are_made c.args.n c.args.seed c.args.names.now)
