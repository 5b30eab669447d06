use Rattle.std.proofs.Common.{◌≡◌, ◌∙◌, ap, subst, fold, replicate, false}
use Rattle.code_forms.specs.declared.parts.StagedGroup.{StagedGroup}
use Rattle.code_forms.specs.Staged.{Staged, group_at}
use Rattle.code_forms.specs.Spots.{AreSpots, spot_store, mark_open}
use Rattle.mp5_words.specs.Cells.{bits}
use Rattle.code_forms.proofs.ServeLemmas.{serve_leads, serve_stores, serve_touches}
use Rattle.code_forms.proofs.staged.StagedCode.serve.Goals as goal

pub returns-clause-env : goal.returns-clause-env
returns-clause-env c =
    serve_leads c.args.self.now c.args.g c.args.unit.now c.as_slice.result.now c.args.env.now c.run_part.new.env c.run_part.ensures.laws c.requires c.as_slice.ensures c.run_part.ensures.runs

pub returns-clause-cells : goal.returns-clause-cells
returns-clause-cells c =
    let arrays : c.as_slice-arrays.result.now ≡ (group_at c.args.self.now c.args.g).arrays = c.as_slice-arrays.ensures ∙ ap (λ (g : StagedGroup). g.arrays) c.group.ensures.group in
    let table = subst (λ (s : Staged). AreSpots s c.self.inside.spots) c.self.view_is c.self.invariant.spots in
    serve_stores c.args.self.now c.args.g c.args.unit.now c.as_slice.result.now c.args.env.now c.run_part.new.env c.run_part.ensures.laws c.requires c.as_slice.ensures c.run_part.ensures.runs
    c.self.inside.spots c.store_all.new.cells table
    (c.store_all.ensures ∙ (λ j. fold (spot_store (c.as_slice-2.ensures j) c.run_part.new.env) c.args.unit.now.cells (arrays j)))

pub returns-clause-touched : goal.returns-clause-touched
returns-clause-touched c =
    let arrays : c.as_slice-arrays.result.now ≡ (group_at c.args.self.now c.args.g).arrays = c.as_slice-arrays.ensures ∙ ap (λ (g : StagedGroup). g.arrays) c.group.ensures.group in
    let flat : c.as_slice-3.result.now ≡ c.args.self.now.arrays = c.as_slice-3.ensures ∙ ap (λ (s : Staged). s.arrays) c.self.view_is in
    let table = subst (λ (s : Staged). AreSpots s c.self.inside.spots) c.self.view_is c.self.invariant.spots in
    serve_touches c.args.self.now c.args.g c.args.unit.now c.as_slice.result.now c.args.env.now c.run_part.new.env c.run_part.ensures.laws c.requires c.as_slice.ensures c.run_part.ensures.runs
    c.self.inside.spots c.touched_set.result table
    (c.touched_set.ensures ∙ (λ j. bits (fold (mark_open (flat j) c.run_part.new.env) (replicate 16 false) (arrays j))))
