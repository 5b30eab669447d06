use Rattle.std.proofs.Common.{◌≡◌, ◌∙◌, ◌≤◌, ◌+◌, ◌*◌, length, vec_len, ap, subst, arith}
use Rattle.report_text.specs.PlanReading.{Planned, lines_in}
use Rattle.report_text.proofs.CountLemmas.{lines-within}
use Rattle.report_text.proofs.plan_text.PlanText.most_lines.Goals as goal

pub returns : goal.returns
returns c =
    let i = c.self.inside in
    let len : vec_len i.canonical ≡ length i.canonical.items = omega (arith, i.canonical.ok.0) in
    let p : Planned = record { program = i.checked.now; code = i.code.now; headers = i.cursor.headers } in
    subst (λ (p : Planned). length (lines_in p) ≤ c.len-head.result + c.from-groups.result + c.from-groups.result * c.from-headers.result + 2) c.self.view_is
    (lines-within p c.len-head.result c.from-groups.result c.from-headers.result (c.len-head.ensures ∙ len ∙ ap length c.self.invariant.0) (c.from-groups.ensures ∙ c.groups.ensures.count) (c.from-headers.ensures ∙ c.count.ensures.count))
