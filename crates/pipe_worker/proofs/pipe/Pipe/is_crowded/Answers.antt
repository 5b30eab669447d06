use Rattle.std.proofs.Common.{refl, ap, ◌∙◌}
use Rattle.pipe_worker.proofs.OfferLemmas.{of_parts, crowd_full, own_crowded, other_crowded}
use Rattle.pipe_worker.proofs.pipe.Pipe.is_crowded.Goals as goal

pub returns-then-of_home-self : goal.returns-then-of_home-self
returns-then-of_home-self c =
    let at = ap (λ i. of_parts i.run i.pipe i.owners i.door i.packets i.row i.outbox) c.self-inside.view_is ∙ c.self.view_is in
    ((λ _. crowd_full _ c.args.self.now c.args.t c.of_home.result at c.of_home.ensures.count c.if-of_home-self.true), (λ _. refl))

pub returns-then-home-self : goal.returns-then-home-self
returns-then-home-self c =
    let at = ap (λ i. of_parts i.run i.pipe i.owners i.door i.packets i.row i.outbox) c.self-inside.view_is ∙ c.self.view_is in
    own_crowded _ c.args.self.now c.args.t c.of_home.result at c.of_home.ensures.count c.if-of_home-self.false c.has.result c.has.ensures.here c.if-has.false
    c.is_away.result c.if-home-self.true c.is_away.ensures.away

pub returns-else-home-self : goal.returns-else-home-self
returns-else-home-self c =
    let at = ap (λ i. of_parts i.run i.pipe i.owners i.door i.packets i.row i.outbox) c.self-inside.view_is ∙ c.self.view_is in
    other_crowded _ c.args.self.now c.args.t c.of_home.result at c.of_home.ensures.count c.if-of_home-self.false c.has.result c.has.ensures.here c.if-has.false
    c.if-home-self.false
