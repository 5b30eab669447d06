use Rattle.std.proofs.Common.{List, None, Option, subst}
use Rattle.std.specs.List.{slice_index_or}
use Rattle.mp5_words.specs.Copies.{Copy}
use Rattle.mp5_words.specs.Domain.{Mark}
use Rattle.source_rows.specs.MarkState.{state_of}
use Rattle.source_rows.specs.Opened.{ArePlaces, cells_in}
use Rattle.source_rows.proofs.PlaceLemmas.{places_are}
use Rattle.source_rows.proofs.places.array_places.Goals as goal

pub returns : goal.returns
returns c =
    places_are c.args.checked.now c.args.header.now c.arrays.result.now (state_of c.in_ok-walked.walked) c.places_of.result c.arrays.ensures.arrays c.in_ok-walked.ensures.walked
    (subst (λ (cs : List (Option (Copy Mark))). ArePlaces (cells_in c.arrays.result.now) (λ a. slice_index_or cs a None) c.places_of.result) c.deref.ensures.value c.places_of.ensures)
