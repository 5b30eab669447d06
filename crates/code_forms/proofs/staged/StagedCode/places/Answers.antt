use Rattle.std.proofs.Common.{◌≡◌, ◌∙◌, ◌-◌, ◌++◌, ℤ, pos, List, length, fold, replicate, sym, ap, subst, arith}
use Rattle.code_forms.specs.declared.spot.Spot.{Spot}
use Rattle.code_forms.specs.Staged.{Staged}
use Rattle.code_forms.specs.StagedMeaning.{place_code, HasUnits, PlacesAreIndexes}
use Rattle.code_forms.specs.Spots.{AreLengths, AreSpots, spot_step}
use Rattle.code_forms.specs.Needed.{GivesPlaces}
use Rattle.code_forms.proofs.RunningLemmas.{lengths_fit}
use Rattle.code_forms.proofs.PlaceLemmas.{needed_place, all_places}
use Rattle.code_forms.proofs.UnitLemmas.{has_units}
use Rattle.code_forms.proofs.staged.StagedCode.places.Goals as goal

pub run_header-requires : goal.run_header-requires
run_header-requires c =
    subst (λ (l : List Spot). AreLengths l) (sym c.as_slice-2.ensures) (lengths_fit _ _ c.self.invariant.staged c.self.invariant.spots)

pub returns-clause-places : goal.returns-clause-places
returns-clause-places c =
    let code : Staged = c.args.self.now in
    let table = subst (λ (s : Staged). AreSpots s c.self.inside.spots) c.self.view_is c.self.invariant.spots in
    let start : List ℤ = c.args.header.now ++ replicate (length c.args.room.now - length c.args.header.now) (pos 0) in
    let room : c.run_header.new.room ≡ fold (spot_step c.as_slice-2.result.now) start c.self.inside.needed =
    c.run_header.ensures ∙ (λ j. fold (spot_step c.as_slice-2.result.now) (c.lay_out.ensures j) (c.as_slice.ensures j)) in
    let needed = subst (λ (s : Staged). GivesPlaces s c.self.inside.needed) c.self.view_is c.self.invariant.needed in
    λ g less.
    all_places code c.run_header.new.room c.loop-g.out c.loop-g.g (omega arith) c.loop-g.invariant.1 c.loop-g.invariant.2 g less
    ∙ ap place_code (needed_place code c.self.inside.spots c.as_slice-2.result.now c.self.inside.needed c.args.header.now (length c.args.room.now) c.run_header.new.room table
    c.requires.header c.requires.room c.as_slice-2.ensures needed room g)

pub returns-clause-indexes : goal.returns-clause-indexes
returns-clause-indexes c = subst PlacesAreIndexes c.self.view_is c.self.invariant.places

pub returns-clause-units : goal.returns-clause-units
returns-clause-units c =
    subst (λ (s : Staged). length c.args.header.now ≡ s.fields → HasUnits s c.args.header.now) c.self.view_is
    (has_units _ c.args.header.now c.self.invariant.staged c.self.invariant.places) c.requires.header

pub returns-clause-rest : goal.returns-clause-rest
returns-clause-rest c g past less = c.loop-g.invariant.2 g (omega arith) less
