use Rattle.home_door.proofs.DoorLemmas.{own_within}
use Rattle.home_door.proofs.door.HomeDoor.by.Goals as goal

pub by-requires-clause-own : goal.by-requires-clause-own
by-requires-clause-own c = own_within _ _ _ _ c.args.t c.self.view_is c.self.invariant c.requires.arrival c.requires.own
