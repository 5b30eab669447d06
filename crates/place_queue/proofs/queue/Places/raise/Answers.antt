use Rattle.place_queue.proofs.KeepingLemmas.{raise_keeps, raise_finds, raised_at}
use Rattle.place_queue.proofs.queue.Places.raise.Goals as goal

pub invariant_of-self : goal.invariant_of-self
invariant_of-self c =
    rw c.min.ensures (raised_at _ _ c.args.source c.args.t c.self.view_is (c.requires.source, c.requires.turn, c.requires.arrival)
    (λ within turn early. raise_finds _ _ _ _ c.args.source c.args.t _ c.self.invariant within turn early (rw (← c.min.ensures, ← c.deref.ensures.value) c.least_of-self-inside.ensures)))

pub invariant_of-self-else-t-self : goal.invariant_of-self-else-t-self
invariant_of-self-else-t-self c =
    rw c.min.ensures (raised_at _ _ c.args.source c.args.t c.self.view_is (c.requires.source, c.requires.turn, c.requires.arrival)
    (λ within turn early. raise_keeps _ _ _ _ c.args.source c.args.t c.self.invariant within turn early c.if-t-self.false))
