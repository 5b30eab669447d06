use Rattle.std.proofs.Common.{None, length, sym, ap, ◌∙◌, subst}
use Rattle.std.proofs.lemmas.List.{get_or_read}
use Rattle.domino_check.specs.Accepted.{Keeps}
use Rattle.domino_check.specs.Refused.{Passes}
use Rattle.domino_check.specs.WellFormed.{index_fits}
use Rattle.domino_check.proofs.FitLemmas.{index_is_fit}
use Rattle.domino_check.specs.Sites.{program_indexes}
use Rattle.domino_check.proofs.CheckedLemmas.{index_at}
use Rattle.domino_check.proofs.ArrayLemmas.{no_index_untouched, untouched_no_index}
use Rattle.domino_check.proofs.checked.Checked.index.Goals as goal

pub bounds-as_slice-array : goal.bounds-as_slice-array
bounds-as_slice-array c =
    let are = c.as_slice.ensures ∙ c.self.invariant.indexes_are ∙ ap program_indexes c.self.view_is in
    (index_at c.args.self.now c.as_slice.result.now c.args.array are c.requires).0

pub returns-clause-index : goal.returns-clause-index
returns-clause-index c =
    let are = c.as_slice.ensures ∙ c.self.invariant.indexes_are ∙ ap program_indexes c.self.view_is in
    let at = index_at c.args.self.now c.as_slice.result.now c.args.array are c.requires in
    c.as_ref.ensures.value ∙ get_or_read c.as_slice.result.now c.args.array c.index-as_slice-array.result at.0 c.index-as_slice-array.is None ∙ at.1

pub returns-clause-untouched : goal.returns-clause-untouched
returns-clause-untouched c =
    let p = c.args.self.now in
    let are = c.as_slice.ensures ∙ c.self.invariant.indexes_are ∙ ap program_indexes c.self.view_is in
    let at = index_at p c.as_slice.result.now c.args.array are c.requires in
    let is = c.as_ref.ensures.value ∙ get_or_read c.as_slice.result.now c.args.array c.index-as_slice-array.result at.0 c.index-as_slice-array.is None ∙ at.1 in
    let keeps = subst Keeps c.self.view_is c.self.invariant.keeps in
    let passes = subst Passes c.self.view_is c.self.invariant.passes in
    (λ none. no_index_untouched p c.args.array passes.names keeps.indexed (sym is ∙ none), λ untouched. is ∙ untouched_no_index p c.args.array passes.names keeps.indexed untouched)

pub returns-clause-fits : goal.returns-clause-fits
returns-clause-fits c =
    let p = c.args.self.now in
    let are = c.as_slice.ensures ∙ c.self.invariant.indexes_are ∙ ap program_indexes c.self.view_is in
    let at = index_at p c.as_slice.result.now c.args.array are c.requires in
    let is = c.as_ref.ensures.value ∙ get_or_read c.as_slice.result.now c.args.array c.index-as_slice-array.result at.0 c.index-as_slice-array.is None ∙ at.1 in
    let passes = subst Passes c.self.view_is c.self.invariant.passes in
    ap (index_fits (length p.packet.fields)) is ∙ index_is_fit p c.args.array passes.names
