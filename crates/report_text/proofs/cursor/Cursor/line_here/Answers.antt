use Rattle.std.proofs.Common.{◌≡◌, ◌+◌, ◌-◌, subst, length}
use Rattle.report_text.specs.PlanReading.{Reading, IsReading, IsLine, numbers_lines}
use Rattle.report_text.proofs.PlanLemmas.{found-here, next-here}
use Rattle.report_text.proofs.cursor.Cursor.line_here.Goals as goal

pub returns-in-None-clause-found : goal.returns-in-None-clause-found
returns-in-None-clause-found c = λ e.
    found-here c.args.self.now c.args.k c.put_nth.new.into.text (subst IsReading c.self.view_is c.self.invariant.0) c.requires.arrival c.requires.before
    (subst (λ (r : Reading). IsLine (numbers_lines r.arrival r.places (length r.code.groups)) (c.args.k - r.before) c.put_nth.new.into.text) c.self.view_is
    (subst (λ n. IsLine (numbers_lines c.self.inside.arrival c.self.inside.places n) (c.args.k - c.self.inside.before) c.put_nth.new.into.text) c.groups.ensures.count (c.put_nth.ensures.found c.in-None.is)))

pub returns-in-Some-clause-next : goal.returns-in-Some-clause-next
returns-in-Some-clause-next c =
    next-here c.args.self.now c.args.k c.in-Some.rest (subst IsReading c.self.view_is c.self.invariant.0) c.requires.arrival c.requires.before
    (subst (λ (r : Reading). c.args.k - r.before ≡ length (numbers_lines r.arrival r.places (length r.code.groups)) + c.in-Some.rest) c.self.view_is
    (subst (λ n. c.args.k - c.self.inside.before ≡ length (numbers_lines c.self.inside.arrival c.self.inside.places n) + c.in-Some.rest) c.groups.ensures.count c.in-Some.ensures.behind))
