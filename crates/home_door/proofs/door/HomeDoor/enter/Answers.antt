use Rattle.std.proofs.Common.{List, ℤ, length, ap, arith}
use Rattle.home_door.proofs.DoorLemmas.{one_free, entered_keeps}
use Rattle.home_door.proofs.door.HomeDoor.enter.Goals as goal

pub unreachable-requires : goal.unreachable-requires
unreachable-requires c =
    let some = one_free _ c.self.invariant.laws c.in_ok-t.ensures.open in
    let none = ap (λ (envs : List (List ℤ)). length envs) c.in_default.ensures.none in
    absurd (omega arith)

pub invariant_of-self-2 : goal.invariant_of-self-2
invariant_of-self-2 c = entered_keeps _ _ _ c.in_ok-t.t _ _ c.in-Some.env c.self.invariant c.in_ok-t.ensures.arrival c.in_ok-t.ensures.early c.in_ok-t.ensures.open c.in_ok-t.ensures.entered c.in-Some.ensures.last
