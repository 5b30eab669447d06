use Rattle.std.proofs.Common.{◌∙◌, refl, ap, arith}
use Rattle.std.proofs.lemmas.Result.{err_from_is_err_and}
use Rattle.report_text.specs.Report.{text_of}
use Rattle.report_text.specs.Told.{Told}
use Rattle.switch_runner.proofs.PlanLemmas.{line_and_rest, no_lines}
use Rattle.switch_runner.proofs.WritingLemmas.{goes_start, goes_on, goes_broken, goes_end}
use Rattle.switch_runner.proofs.report.put_lines.Goals as goal

pub loop-k-init : goal.loop-k-init
loop-k-init g c = record { same = refl; room = c.requires; goes = goes_start (text_of c.args.report.now.lines) _ }

pub returns-then-not-line : goal.returns-then-not-line
returns-then-not-line g c =
    goes_end _ _ _ _ (no_lines c.loop-k.report.lines c.args.report.now.lines c.loop-k.k c.line.new.into.text (ap (λ (t : Told). t.lines) c.loop-k.invariant.same) c.if-not-line.ensures.behind) c.loop-k.invariant.goes

pub returns-in_err-put : goal.returns-in_err-put
returns-in_err-put g c =
    let p = err_from_is_err_and c.from_residual.result c.from_residual.ensures.1 in
    rw p.1 (goes_broken _ _ _ _ _ _ _
    (line_and_rest c.loop-k.report.lines c.args.report.now.lines c.loop-k.k c.line.new.into.text c.bytes.result.now (ap (λ (t : Told). t.lines) c.loop-k.invariant.same) c.if-not-line.ensures.there c.bytes.ensures)
    c.loop-k.invariant.goes c.in_err-put.ensures)

pub loop-k-preserved : goal.loop-k-preserved
loop-k-preserved g c = record {
  same = c.line.ensures.same ∙ c.loop-k.invariant.same;
  room = omega (arith, c.loop-k.invariant.room, c.line.ensures.room);
  goes =
      goes_on _ _ _ _ _ _ _
      (line_and_rest c.loop-k.report.lines c.args.report.now.lines c.loop-k.k c.line.new.into.text c.bytes.result.now (ap (λ (t : Told). t.lines) c.loop-k.invariant.same) c.if-not-line.ensures.there c.bytes.ensures)
      c.loop-k.invariant.goes c.in_ok-put.ensures;
}
