use Rattle.std.proofs.Common.{◌≡◌, ◌∙◌, length, vec_len, ap, refl, subst, arith}
use Rattle.domino_tree.specs.Text.{text_of}
use Rattle.report_text.specs.PlanLines.{lines_of}
use Rattle.report_text.specs.PlanReading.{Planned, IsLine, IsBehind, line_at, lines_in}
use Rattle.report_text.proofs.TextLemmas.{line-short, group-put, later-put, none-put, on-true, on-false}
use Rattle.report_text.proofs.plan_text.PlanText.line.Goals as goal

pub put_whole-requires-clause-room : goal.put_whole-requires-clause-room
put_whole-requires-clause-room c =
    let lines = c.deref.ensures.value ∙ c.self.invariant.0 ∙ ap (λ (p : Planned). lines_of (text_of p.program)) c.self.view_is in
    let e = ap (λ l. length (line_at l c.args.k)) lines in
    omega (arith, e, line-short (text_of c.args.self.now.program) c.args.k, c.requires, c.clear.ensures.room)

pub returns-then-k-head-3-clause-there : goal.returns-then-k-head-3-clause-there
returns-then-k-head-3-clause-there c =
    let i = c.self.inside in
    let len : vec_len i.canonical ≡ length i.canonical.items = omega (arith, i.canonical.ok.0) in
    let p : Planned = record { program = i.checked.now; code = i.code.now; headers = i.cursor.headers } in
    subst (λ (p : Planned). IsLine (lines_in p) c.args.k c.put_group.new.into.text) c.self.view_is
    (group-put p c.args.k c.len-head.result c.from-groups.result _ c.arrays.result.now c.put_group.new.into.text c.arrays.ensures.arrays (c.len-head.ensures ∙ len ∙ ap length c.self.invariant.0) (c.from-groups.ensures ∙ c.groups.ensures.count)
    c.if-k-head.false c.if-k-head-2.false c.if-k-head-3.true refl c.put_group.ensures.text)

pub returns-else-k-head-3-clause-there : goal.returns-else-k-head-3-clause-there
returns-else-k-head-3-clause-there c =
    let i = c.self.inside in
    let len : vec_len i.canonical ≡ length i.canonical.items = omega (arith, i.canonical.ok.0) in
    let p : Planned = record { program = i.checked.now; code = i.code.now; headers = i.cursor.headers } in
    on-true c.line.result (λ is. subst (λ (p : Planned). IsLine (lines_in p) c.args.k c.line.new.into.text) c.self.view_is
    (later-put p c.args.k c.len-head.result c.from-groups.result _ i.cursor.code c.line.new.into.text c.self.invariant.1 (c.len-head.ensures ∙ len ∙ ap length c.self.invariant.0) (c.from-groups.ensures ∙ c.groups.ensures.count)
    c.if-k-head.false c.if-k-head-2.false c.if-k-head-3.false refl is)) c.line.ensures.there

pub returns-else-k-head-3-clause-behind : goal.returns-else-k-head-3-clause-behind
returns-else-k-head-3-clause-behind c =
    let i = c.self.inside in
    let len : vec_len i.canonical ≡ length i.canonical.items = omega (arith, i.canonical.ok.0) in
    let p : Planned = record { program = i.checked.now; code = i.code.now; headers = i.cursor.headers } in
    on-false c.line.result (λ is. subst (λ (p : Planned). IsBehind (lines_in p) c.args.k c.line.new.into.text) c.self.view_is
    (none-put p c.args.k c.len-head.result c.from-groups.result _ i.cursor.code c.line.new.into.text c.self.invariant.1 (c.len-head.ensures ∙ len ∙ ap length c.self.invariant.0) (c.from-groups.ensures ∙ c.groups.ensures.count)
    c.if-k-head.false c.if-k-head-2.false c.if-k-head-3.false refl is)) c.line.ensures.behind
