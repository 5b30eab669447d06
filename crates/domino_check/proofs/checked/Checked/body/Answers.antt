use Rattle.std.proofs.Common.{List, length, subst, ap, ◌∙◌}
use Rattle.domino_check.specs.declared.numbered.CheckedStmt.{CheckedStmt}
use Rattle.domino_check.specs.Numbering.{numbered_body}
use Rattle.domino_check.specs.NumberedMeaning.{indexing, numbered_exec}
use Rattle.domino_check.specs.WellFormed.{body_fits}
use Rattle.domino_check.specs.Sites.{program_indexes}
use Rattle.domino_check.specs.Count.{numbered_count}
use Rattle.domino_check.proofs.BodyCountLemmas.{count_agrees}
use Rattle.domino_check.specs.Refused.{Passes}
use Rattle.domino_check.specs.Accepted.{Keeps}
use Rattle.domino_check.proofs.Agreement.{agreement}
use Rattle.domino_names.proofs.InfoLemmas.{length-infos}
use Rattle.domino_check.proofs.TouchedLemmas.{touches_by_sites}
use Rattle.domino_check.proofs.ReachedLemmas.{touches_reached}
use Rattle.domino_check.proofs.FitLemmas.{body_is_fit}
use Rattle.domino_check.proofs.checked.Checked.body.Goals as goal

pub returns-clause-body : goal.returns-clause-body
returns-clause-body c = c.as_slice.ensures ∙ c.self.invariant.body_is ∙ ap numbered_body c.self.view_is

pub returns-clause-keeps : goal.returns-clause-keeps
returns-clause-keeps c = subst Keeps c.self.view_is c.self.invariant.keeps

pub returns-clause-fits : goal.returns-clause-fits
returns-clause-fits c =
    let p = c.args.self.now in
    let is = c.as_slice.ensures ∙ c.self.invariant.body_is ∙ ap numbered_body c.self.view_is in
    let passes = subst Passes c.self.view_is c.self.invariant.passes in
    (λ i. body_fits (length p.packet.fields) (length-infos p i) (is i)) ∙ body_is_fit p passes.names

pub returns-clause-meaning : goal.returns-clause-meaning
returns-clause-meaning c =
    let p = c.args.self.now in
    let is = c.as_slice.ensures ∙ c.self.invariant.body_is ∙ ap numbered_body c.self.view_is in
    let passes = subst Passes c.self.view_is c.self.invariant.passes in
    let keeps = subst Keeps c.self.view_is c.self.invariant.keeps in
    λ start. ap (λ (body : List CheckedStmt). numbered_exec (indexing p) body start) is ∙ agreement p passes.names keeps.indexed start

pub returns-clause-touches : goal.returns-clause-touches
returns-clause-touches c =
    let p = c.args.self.now in
    let passes = subst Passes c.self.view_is c.self.invariant.passes in
    let keeps = subst Keeps c.self.view_is c.self.invariant.keeps in
    λ start array within. touches_by_sites p start array passes.names keeps.indexed within

pub returns-clause-reached : goal.returns-clause-reached
returns-clause-reached c =
    let p = c.args.self.now in
    let passes = subst Passes c.self.view_is c.self.invariant.passes in
    let keeps = subst Keeps c.self.view_is c.self.invariant.keeps in
    λ start. touches_reached p start passes.names keeps.indexed

pub returns-clause-count : goal.returns-clause-count
returns-clause-count c =
    let p = c.args.self.now in
    let is = c.as_slice.ensures ∙ c.self.invariant.body_is ∙ ap numbered_body c.self.view_is in
    let passes = subst Passes c.self.view_is c.self.invariant.passes in
    let keeps = subst Keeps c.self.view_is c.self.invariant.keeps in
    ap (λ (body : List CheckedStmt). numbered_count body (program_indexes p)) is ∙ count_agrees p passes.names keeps.indexed
