use Rattle.std.proofs.Common.{◌∙◌, ap, arith}
use Rattle.std.proofs.lemmas.Result.{err_from_is_err_and}
use Rattle.report_text.specs.PlanReading.{lines_in}
use Rattle.switch_runner.proofs.PlanLemmas.{line_and_rest, no_lines}
use Rattle.switch_runner.proofs.WritingLemmas.{goes_on, goes_broken, goes_end}
use Rattle.switch_runner.proofs.plan.put_lines.Goals as goal

pub returns-then-not-line : goal.returns-then-not-line
returns-then-not-line g c =
    goes_end _ _ _ _ (no_lines (lines_in c.loop-k.text) (lines_in c.args.text.now) c.loop-k.k c.line.new.into.text (ap lines_in c.loop-k.invariant.same) c.if-not-line.ensures.behind) c.loop-k.invariant.goes

pub returns-in_err-put : goal.returns-in_err-put
returns-in_err-put g c =
    let p = err_from_is_err_and c.from_residual.result c.from_residual.ensures.1 in
    rw p.1 (goes_broken _ _ _ _ _ _ _
    (line_and_rest (lines_in c.loop-k.text) (lines_in c.args.text.now) c.loop-k.k c.line.new.into.text c.bytes.result.now (ap lines_in c.loop-k.invariant.same) c.if-not-line.ensures.there c.bytes.ensures)
    c.loop-k.invariant.goes c.in_err-put.ensures)

pub loop-k-preserved : goal.loop-k-preserved
loop-k-preserved g c = record {
  same = c.line.ensures.same ∙ c.loop-k.invariant.same;
  room = omega (arith, c.loop-k.invariant.room, c.line.ensures.room);
  goes =
      goes_on _ _ _ _ _ _ _
      (line_and_rest (lines_in c.loop-k.text) (lines_in c.args.text.now) c.loop-k.k c.line.new.into.text c.bytes.result.now (ap lines_in c.loop-k.invariant.same) c.if-not-line.ensures.there c.bytes.ensures)
      c.loop-k.invariant.goes c.in_ok-put.ensures;
}
