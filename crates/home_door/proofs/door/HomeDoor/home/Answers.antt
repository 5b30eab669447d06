use Rattle.std.proofs.Common.{rules}
use Rattle.home_door.proofs.DoorLemmas.{room_for_one, home_again}
use Rattle.home_door.proofs.door.HomeDoor.home.Goals as goal

pub push-requires-clause-room : goal.push-requires-clause-room
push-requires-clause-room c = room_for_one _ _ _ _ c.args.t c.self.view_is c.self.invariant c.requires.away

pub invariant_of-self : goal.invariant_of-self
invariant_of-self c = search (rules, home_again)
