-- What is left of a door when an own arrival enters.
use Rattle.std.specs.Prelude.{◌+◌}
use Rattle.pipe_parts.specs.FreeEnvs.{FreeEnvs}
use Rattle.home_door.specs.Door.{Door}

-- one arrival more entered, and these environments are free
abbrev pub door_with : Door → FreeEnvs → Door
door_with d free = record d { exit = record (d.exit) { entered = d.exit.entered + 1 }; free = free }
