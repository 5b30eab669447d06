use Rattle.std.proofs.Common.{◌∙◌, length, sym, ap, subst}
use Rattle.domino_compile.specs.Compiled.{IsCompiled, Translation}
use Rattle.report_text.specs.PlanLines.{plan_text}
use Rattle.report_text.specs.PlanReading.{Planned}
use Rattle.switch_runner.specs.Outside.{Grew, Stopped}
use Rattle.switch_runner.specs.Top.{AreWide}
use Rattle.switch_runner.proofs.PlanLemmas.{belong}
use Rattle.switch_runner.proofs.top.print_code.Goals as goal

pub new-requires : goal.new-requires
new-requires g c =
    let t : Translation = record { program = c.compiled.inside.source; code = c.compiled.inside.code } in
    belong t c.args.headers.now c.compiled.invariant (subst (λ (t : Translation). AreWide (length t.program.packet.fields) c.args.headers.now) (sym c.compiled.view_is) c.requires)

pub returns-in-Ok-write_plan-clause-ends : goal.returns-in-Ok-write_plan-clause-ends
returns-in-Ok-write_plan-clause-ends g c =
    let told : Translation → Planned = λ t. record { program = t.program; code = t.code; headers = c.args.headers.now } in
    subst (λ (p : Planned). Grew (plan_text p.program p.code p.headers) (g.K.Sink.seen c.args.out.now) (g.K.Sink.seen c.write_plan.new.out)) (c.in-Ok.ensures ∙ ap told c.compiled.view_is)
    c.in-Ok-write_plan.ensures.ok

pub returns-clause-ends : goal.returns-clause-ends
returns-clause-ends g c =
    let told : Translation → Planned = λ t. record { program = t.program; code = t.code; headers = c.args.headers.now } in
    subst (λ (p : Planned). Stopped (plan_text p.program p.code p.headers) (g.K.Sink.seen c.args.out.now) (g.K.Sink.seen c.write_plan.new.out)) (c.in-Ok.ensures ∙ ap told c.compiled.view_is)
    c.in-Err.ensures.err

pub returns-clause-compiled : goal.returns-clause-compiled
returns-clause-compiled g c = subst (λ (t : Translation). IsCompiled t.program t.code) c.compiled.view_is c.compiled.invariant
