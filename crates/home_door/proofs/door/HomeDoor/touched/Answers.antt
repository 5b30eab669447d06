use Rattle.home_door.proofs.DoorLemmas.{own_within}
use Rattle.home_door.proofs.door.HomeDoor.touched.Goals as goal

pub touched-requires-clause-own : goal.touched-requires-clause-own
touched-requires-clause-own c = own_within _ _ _ _ c.args.t c.self.view_is c.self.invariant c.requires.arrival c.requires.own
