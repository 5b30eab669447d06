use Rattle.std.proofs.Common.{◌≡◌, ◌<◌, ◌≤◌, ◌+◌, ◌∙◌, length, subst, sym, ap, arith}
use Rattle.code_forms.specs.Staged.{Staged, point, IsStaged}
use Rattle.code_forms.specs.Needed.{steps_of}
use Rattle.code_forms.specs.Running.{RunsTo}
use Rattle.code_forms.proofs.RunningLemmas.{point_within, runs_none, runs_more, spots_seen}
use Rattle.code_forms.proofs.staged.StagedCode.run_part.Goals as goal

pub step-requires-clause-place : goal.step-requires-clause-place
step-requires-clause-place c =
    let last : point c.args.self.now (c.args.k + 1) ≤ length c.args.self.now.order = point_within c.args.self.now (c.args.k + 1) c.point-to.ensures.laws.parts (omega (arith, c.point-to.ensures.laws.parts.count, c.requires)) in
    omega (arith, last, c.point-to.ensures.point, c.loop-p-test.true)

pub step-requires-clause-staged : goal.step-requires-clause-staged
step-requires-clause-staged c = subst (λ (s : Staged). IsStaged s) c.self.view_is c.self.invariant.staged

pub step-requires-clause-spots : goal.step-requires-clause-spots
step-requires-clause-spots c = spots_seen _ _ _ _ c.self.view_is c.as_slice-spots.ensures c.self.invariant.spots

pub step-requires-clause-steps : goal.step-requires-clause-steps
step-requires-clause-steps c = c.as_slice-steps.ensures ∙ c.self.invariant.steps ∙ ap steps_of c.self.view_is

pub loop-p-init : goal.loop-p-init
loop-p-init c =
    let here : c.point-from.result ≤ c.point-from.result = omega arith in
    (here, subst (λ p. RunsTo c.args.self.now c.args.k p c.args.cells.now c.args.env.now c.args.env.now) (sym c.point-from.ensures.point) (runs_none c.args.self.now c.args.k c.args.cells.now c.args.env.now))

pub loop-p-preserved : goal.loop-p-preserved
loop-p-preserved c =
    let behind : c.point-from.result ≤ c.loop-p.p + 1 = omega (arith, c.loop-p.invariant.0) in
    let first : point c.args.self.now c.args.k ≤ c.loop-p.p = omega (arith, c.loop-p.invariant.0, c.point-from.ensures.point) in
    let last : c.loop-p.p < point c.args.self.now (c.args.k + 1) = omega (arith, c.loop-p-test.true, c.point-to.ensures.point) in
    (behind, runs_more c.args.self.now c.args.k c.loop-p.p c.args.cells.now c.args.env.now c.loop-p.env c.step.new.env (first, last) c.loop-p.invariant.1 c.step.ensures)

pub returns-clause-runs : goal.returns-clause-runs
returns-clause-runs c =
    let rises : point c.args.self.now c.args.k ≤ point c.args.self.now (c.args.k + 1) = c.point-from.ensures.laws.parts.rising c.args.k (omega (arith, c.point-to.ensures.laws.parts.count, c.requires)) in
    let ordered : c.point-from.result ≤ c.point-to.result = omega (arith, rises, c.point-from.ensures.point, c.point-to.ensures.point) in
    let all : c.loop-p.p ≡ point c.args.self.now (c.args.k + 1) = omega (arith, c.loop-p.auto.p-end ordered, c.loop-p-test.false, c.point-to.ensures.point) in
    subst (λ p. RunsTo c.args.self.now c.args.k p c.args.cells.now c.args.env.now c.loop-p.env) all c.loop-p.invariant.1
