use Rattle.place_queue.proofs.KeepingLemmas.{first_counts, serve_keeps}
use Rattle.place_queue.proofs.queue.Places.served.Goals as goal

pub overflow_sub-index_mut : goal.overflow_sub-index_mut
overflow_sub-index_mut c =
    first_counts _ _ _ _ c.index_mut.result.now c.in-Some.place c.pop_front.new.self.items c.in-Some.ensures.items c.self.invariant c.index_mut.ensures.value

pub invariant_of-self : goal.invariant_of-self
invariant_of-self c =
    rw c.in-Some.ensures.capacity
    (serve_keeps _ _ _ _ c.index_mut.result.now c.in-Some.place c.pop_front.new.self.items c.in-Some.ensures.items c.self.invariant c.index_mut.ensures.value)
