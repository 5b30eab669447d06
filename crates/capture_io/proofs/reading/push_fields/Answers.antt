use Rattle.std.proofs.Common.{◌≡◌, ◌∷◌, ◌++◌, [], ℤ, w32, to_z, of_z, map, take, get_or, ap, ◌∙◌, append_assoc}
use Rattle.std.proofs.lemmas.List.{map_more}
use Rattle.std.proofs.lemmas.Int.{to_z-of_z}
use Rattle.capture_io.specs.declared.source.Source.{Source}
use Rattle.capture_io.specs.declared.source.Source.TheVariants.{Arrival}
use Rattle.capture_io.specs.Header.{value_in}
use Rattle.capture_io.proofs.reading.push_fields.Goals as goal

pub loop-source-preserved : goal.loop-source-preserved
loop-source-preserved c =
    let sources = c.args.sources.now in
    let value = λ (s : Source). value_in s (to_z w32 (of_z w32 c.args.since)) c.args.original c.args.packet.now in
    let source = get_or sources c.loop-source.source-index Arrival in
    let more = map_more value sources c.loop-source.source-index Arrival c.loop-source-test.true in
    let pushed : c.push.new.self.items ≡ c.loop-source.words.items ++ c.value.result ∷ [] = c.in_ok-push.ensures.items ∙ ap (λ (x : ℤ). c.loop-source.words.items ++ x ∷ []) (to_z-of_z w32 c.value.result c.value.ensures.fits) in
    rw (pushed, c.value.ensures.value, c.loop-source.invariant, more) (append_assoc c.args.words.now.items (map value (take c.loop-source.source-index sources)) (value source ∷ []))
