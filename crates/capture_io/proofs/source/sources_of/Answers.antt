use Rattle.std.proofs.Common.{◌≡◌, ℕ, ◌+◌, ◌∷◌, ◌++◌, [], List, map, take, ap, sym, ◌∙◌}
use Rattle.std.proofs.lemmas.List.{map_more}
use Rattle.std.proofs.lemmas.Option.{get_or_from_slice_get, slice_get_within}
use Rattle.capture_io.specs.Header.{source}
use Rattle.capture_io.proofs.source.sources_of.Goals as goal

pub loop-i-preserved : goal.loop-i-preserved
loop-i-preserved c =
    let names = c.args.names.now in
    let i = c.loop-i.i in
    let name = c.name.result.now in
    let at = get_or_from_slice_get names i name name c.name.ensures in
    let more : map source (take (i + 1) names) ≡ map source (take i names) ++ source name ∷ [] = map_more source names i name (slice_get_within names i name c.name.ensures) ∙ ap (λ (n : List ℕ). map source (take i names) ++ source n ∷ []) at in
    rw (c.in_ok-push.ensures.items, c.source_of.ensures, c.loop-i.invariant) (sym more)
