-- the code in these parts is as it should be
use Rattle.code_forms.specs.Staged.{IsStaged}
use Rattle.code_forms.specs.StagedMeaning.{PlacesAreIndexes}
use Rattle.index_resolve.specs.Places.{HasPlaces, NoneTouched}
use Rattle.index_resolve.proofs.ResolveLemmas.{is_staged, places, untouched, indexes, if_it_is}
use Rattle.index_resolve.proofs.parts.resolve.Goals as goal

pub new-requires-clause-staged : goal.new-requires-clause-staged
new-requires-clause-staged c = is_staged c.args.code.now c.args.layout.now c.requires c.in_ok-parts.parts c.in_ok-parts.ensures.parts c.in_ok-parts.ensures.header

pub new-requires-clause-places : goal.new-requires-clause-places
new-requires-clause-places c = indexes c.args.code.now c.args.layout.now c.requires c.in_ok-parts.parts c.in_ok-parts.ensures.parts c.in_ok-parts.ensures.header

pub returns-clause-staged : goal.returns-clause-staged
returns-clause-staged c = if_it_is IsStaged c.new.result _ c.new.ensures (is_staged c.args.code.now c.args.layout.now c.requires c.in_ok-parts.parts c.in_ok-parts.ensures.parts c.in_ok-parts.ensures.header)

pub returns-clause-places : goal.returns-clause-places
returns-clause-places c = if_it_is HasPlaces c.new.result _ c.new.ensures (places c.args.code.now c.args.layout.now c.requires c.in_ok-parts.parts c.in_ok-parts.ensures.parts c.in_ok-parts.ensures.header)

pub returns-clause-untouched : goal.returns-clause-untouched
returns-clause-untouched c = if_it_is NoneTouched c.new.result _ c.new.ensures (untouched c.args.code.now c.args.layout.now c.requires c.in_ok-parts.parts c.in_ok-parts.ensures.parts c.in_ok-parts.ensures.header)

pub returns-clause-indexes : goal.returns-clause-indexes
returns-clause-indexes c = if_it_is PlacesAreIndexes c.new.result _ c.new.ensures (indexes c.args.code.now c.args.layout.now c.requires c.in_ok-parts.parts c.in_ok-parts.ensures.parts c.in_ok-parts.ensures.header)
