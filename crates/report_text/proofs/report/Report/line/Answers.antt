use Rattle.std.proofs.Common.{ℕ, Bool, Option, sym, subst}
use Rattle.std.specs.Bool.{OnTrue, OnFalse}
use Rattle.report_text.specs.Room.{Written}
use Rattle.report_text.specs.PlanReading.{IsLine, IsBehind}
use Rattle.report_text.specs.Told.{Told, Puts}
use Rattle.report_text.specs.AnswerLines.{answer_body}
use Rattle.report_text.proofs.TextLemmas.{on-true, on-false}
use Rattle.report_text.proofs.WholeLemmas.{any-true, not-false, trace_part, last_part, body-there, trace-there, end-there, end-behind}
use Rattle.report_text.proofs.report.Report.line.Goals as goal
use Rattle.report_text.proofs.report.Report.line.Goals.{in-None-put_trace, in-Some-put_trace}

pub returns-in-None-clause-there : goal.returns-in-None-clause-there
returns-in-None-clause-there c =
    let i = c.self.inside in
    let text = c.put_body.new.into.text in
    subst (λ (t : Told). IsLine t.lines c.args.k text) c.self.view_is
    (body-there i.checked.now i.code.now i.answer.now i.style c.args.k text
    (subst (λ (r : Option ℕ). Puts (answer_body i.checked.now i.answer.now i.style.brief) c.args.k r text) c.in-None.is c.put_body.ensures.line))

pub returns-after-put_trace-clause-there : goal.returns-after-put_trace-clause-there
returns-after-put_trace-clause-there c =
    let i = c.self.inside in
    let passed = c.in-Some.ensures.line.0 in
    elim c.match-put_trace.branch [
      | in-None-put_trace w ↦ (
          let line = subst (λ (r : Option ℕ). Puts (trace_part i.checked.now i.code.now i.answer.now i.style) c.in-Some.left r c.put_trace.new.into.text) w.in-None-put_trace.is c.put_trace.ensures.line in
          let there = trace-there i.checked.now i.code.now i.answer.now i.style c.args.k c.in-Some.left passed c.put_trace.new.into.text line in
          let told = subst (λ (t : Told). IsLine t.lines c.args.k c.put_trace.new.into.text) c.self.view_is there in
          any-true c.match-put_trace.result (subst (λ (l : Written). IsLine c.args.self.now.lines c.args.k l.text) (sym w.into-is) told))
      | in-Some-put_trace w ↦ (
          let traced = w.in-Some-put_trace.ensures.line.0 in
          let text = w.put_last.new.into.text in
          let told = λ (is : IsLine (last_part i.checked.now i.code.now i.answer.now i.style) w.in-Some-put_trace.left text).
          subst (λ (t : Told). IsLine t.lines c.args.k text) c.self.view_is
          (end-there i.checked.now i.code.now i.answer.now i.style c.args.k c.in-Some.left passed w.in-Some-put_trace.left traced text is)
          in
          subst (λ (b : Bool). OnTrue b (IsLine c.args.self.now.lines c.args.k c.match-put_trace.into.text)) (sym w.result-is)
          (subst (λ (l : Written). OnTrue w.put_last.result (IsLine c.args.self.now.lines c.args.k l.text)) (sym w.into-is)
          (on-true w.put_last.result told w.put_last.ensures.there)))
    ]

pub returns-after-put_trace-clause-behind : goal.returns-after-put_trace-clause-behind
returns-after-put_trace-clause-behind c =
    let i = c.self.inside in
    let passed = c.in-Some.ensures.line.0 in
    elim c.match-put_trace.branch [
      | in-None-put_trace w ↦ not-false (IsBehind c.args.self.now.lines c.args.k c.match-put_trace.into.text) c.match-put_trace.result w.result-is
      | in-Some-put_trace w ↦ (
          let traced = w.in-Some-put_trace.ensures.line.0 in
          let text = w.put_last.new.into.text in
          let told = λ (is : IsBehind (last_part i.checked.now i.code.now i.answer.now i.style) w.in-Some-put_trace.left text).
          subst (λ (t : Told). IsBehind t.lines c.args.k text) c.self.view_is
          (end-behind i.checked.now i.code.now i.answer.now i.style c.args.k c.in-Some.left passed w.in-Some-put_trace.left traced text is)
          in
          subst (λ (b : Bool). OnFalse b (IsBehind c.args.self.now.lines c.args.k c.match-put_trace.into.text)) (sym w.result-is)
          (subst (λ (l : Written). OnFalse w.put_last.result (IsBehind c.args.self.now.lines c.args.k l.text)) (sym w.into-is)
          (on-false w.put_last.result told w.put_last.ensures.behind)))
    ]
