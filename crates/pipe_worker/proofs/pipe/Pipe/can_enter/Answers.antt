use Rattle.std.proofs.Common.{◌≡◌, false}
use Rattle.pipe_worker.proofs.EnterLemmas.{not_found}
use Rattle.pipe_worker.proofs.pipe.Pipe.can_enter.Goals as goal

pub prove-unreachable-requires : goal.prove-unreachable-requires
prove-unreachable-requires c =
    let no : c.has.result ≡ false = not_found _ c.in-Some.t c.has.result c.self.invariant.0 c.has.ensures.laws c.in-Some.ensures.arrival c.has.ensures.here in
    let yes' = c.if-prove.true in
    absurd (cc)
