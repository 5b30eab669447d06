-- Where a packet goes next from a pipe.
use Rattle.std.specs.Prelude.{◌≡◌, ◌≢◌, ℕ, ◌<◌, length, Some, None}
use Rattle.pipe_parts.specs.declared.packet.Packet.{Packet}
use Rattle.shard_rounds.specs.Rounds.{OwnerTable}
use Rattle.run_laws.specs.Run.{Run, round_of, home_of, place_of, unit_counts}
use Rattle.run_laws.specs.LawfulPlans.{AreLawful, Owns}
use Rattle.packet_steps.specs.declared.heading.Heading.{Heading}
use Rattle.packet_steps.specs.declared.heading.Heading.TheVariants.{Serve, Skip, Pass, GoHome, TakeHome}

-- the owners are those of the run, after lawful plans
pub record AreRunOwners (run : Run) (o : OwnerTable) : Type 0 where
  pub units : o.units ≡ unit_counts run
  pub pipelines : o.pipelines ≡ run.settings.pipelines
  pub lawful : AreLawful run o.plans

-- the packet stands before a group at which it has a place, and this pipe owns the unit in the arrival's round
pub record IsForPipe (run : Run) (p : Packet) (pipe : ℕ) : Type 0 where
  pub group : p.g < length run.code.groups
  pub unit : ℕ
  pub place : place_of run p.t p.g ≡ Some unit
  pub owned : Owns run (round_of run p.t) p.g unit pipe

-- it stands before a group at which it has no place
pub record HasNoPlace (run : Run) (p : Packet) : Type 0 where
  pub group : p.g < length run.code.groups
  pub place : place_of run p.t p.g ≡ None

-- it has passed all groups, and this pipe is its home
pub record IsForHome (run : Run) (p : Packet) (pipe : ℕ) : Type 0 where
  pub group : p.g ≡ length run.code.groups
  pub home : home_of run p.t ≡ pipe

-- there is such a pipe, and it isn't this one
pub record IsOther (run : Run) (pipe q : ℕ) : Type 0 where
  pub there : q < run.settings.pipelines
  pub other : q ≢ pipe

-- what the packet does next at a pipe
abbrev pub IsHeading : Run → ℕ → Packet → Heading → Type 0
IsHeading run pipe p Serve = IsForPipe run p pipe
IsHeading run pipe p Skip = HasNoPlace run p
IsHeading run pipe p (Pass q) = IsForPipe run p q × IsOther run pipe q
IsHeading run pipe p (GoHome q) = IsForHome run p q × IsOther run pipe q
IsHeading run pipe p TakeHome = IsForHome run p pipe
