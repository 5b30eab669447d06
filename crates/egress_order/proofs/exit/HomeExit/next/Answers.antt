use Rattle.std.proofs.Common.{arith}
use Rattle.egress_order.proofs.Exits.{small_next}
use Rattle.egress_order.proofs.exit.HomeExit.next.Goals as goal

pub overflow_mul-next : goal.overflow_mul-next
overflow_mul-next c = let small = small_next _ c.self.invariant.laws in omega arith

pub overflow_add-next : goal.overflow_add-next
overflow_add-next c = let laws = c.self.invariant.laws in let small = small_next _ laws in omega arith
