-- The law of each message, and which messages a lane carries one after another.
use Rattle.std.specs.Prelude.{◌≡◌, ⊤, ℕ, zero, suc, ◌+◌, ◌*◌, ◌<◌, ℤ, List, [], ◌∷◌, ◌++◌, length, Some}
use Rattle.code_forms.specs.declared.unit.Unit.{Unit as PlacedUnit}
use Rattle.code_forms.specs.Staged.{group_at, unit_count}
use Rattle.run_laws.specs.Run.{Run, run_of, arrivals, round_of, home_of, place_of, units_before}
use Rattle.run_laws.specs.LawfulPlans.{Owns}
use Rattle.packet_steps.specs.Packet.{IsOnWay, HasUnitNumbers}
use Rattle.pipe_messages.specs.declared.message.Message.{Message}
use Rattle.pipe_messages.specs.declared.message.Message.TheVariants.{Phantom, Packet, Cell, Home}
use Rattle.pipe_messages.specs.declared.message.LaneKey.{LaneKey}

-- ---- the law of a message

-- an arrival of the sender, with its places
pub record IsPhantom (run : Run) (from t : ℕ) (units : List ℕ) : Type 0 where
  pub arrival : t < arrivals run
  pub own : home_of run t ≡ from
  pub places : HasUnitNumbers run t units

-- an arrival that stands before a group, where it has its place in a unit that the receiver owns in its round
pub record IsPassedOn (run : Run) (to t g : ℕ) (env : List ℤ) (by touched : List ℕ) : Type 0 where
  pub way : IsOnWay run t g env by touched
  pub group : g < length run.code.groups
  pub unit : ℕ
  pub place : place_of run t g ≡ Some unit
  pub owned : Owns run (round_of run t) g unit to

-- a unit as it stands at the start of a round in which the receiver owns it
pub record IsHandedOver (run : Run) (to g u from : ℕ) (unit : PlacedUnit) : Type 0 where
  pub there : g < length run.code.groups
  pub within : u < unit_count run.code (group_at run.code g)
  pub group : unit.group ≡ g
  pub number : unit.number ≡ u
  pub owned : Owns run from g u to
  pub cells : unit.cells ≡ units_before run (from * run.settings.round) g u

-- an arrival of the receiver that has passed all groups
pub record IsHomeBound (run : Run) (to t : ℕ) (env : List ℤ) (by touched : List ℕ) : Type 0 where
  pub way : IsOnWay run t (length run.code.groups) env by touched
  pub home : home_of run t ≡ to

-- what a message says is so, between these two pipes
abbrev pub IsMessage : Run → ℕ → ℕ → Message → Type 0
IsMessage run from to (Phantom t units) = IsPhantom run from t units
IsMessage run from to (Packet t g env by touched) = IsPassedOn run to t g env by touched
IsMessage run from to (Cell g u round unit) = IsHandedOver run to g u round unit
IsMessage run from to (Home t env by touched) = IsHomeBound run to t env by touched

-- ---- messages one after another

-- the arrivals of a message's phantom
abbrev pub announced_by : Message → List ℕ
announced_by (Phantom t units) = t ∷ []
announced_by (Packet t g env by touched) = []
announced_by (Cell g u round unit) = []
announced_by (Home t env by touched) = []

-- the arrivals of the phantoms among messages, in order
abbrev pub phantoms_in : List Message → List ℕ
phantoms_in [] = []
phantoms_in (m ∷ messages) = announced_by m ++ phantoms_in messages

-- own arrivals of a pipe in order: so many of them, from one on, counted from 0
abbrev pub own_arrivals : Run → ℕ → ℕ → ℕ → List ℕ
own_arrivals run pipe from zero = []
own_arrivals run pipe from (suc n) = (pipe + from * run.settings.pipelines) ∷ own_arrivals run pipe (from + 1) n

-- a phantom comes after those of all own arrivals before it
abbrev pub IsNextPhantom : Run → ℕ → List Message → Message → Type 0
IsNextPhantom run from earlier (Phantom t units) = t ≡ from + length (phantoms_in earlier) * run.settings.pipelines
IsNextPhantom run from earlier (Packet t g env by touched) = ⊤
IsNextPhantom run from earlier (Cell g u round unit) = ⊤
IsNextPhantom run from earlier (Home t env by touched) = ⊤

-- the run of a lane
abbrev pub run_in : LaneKey → Run
run_in key = run_of key.code.value key.capture.value key.settings

-- a message fits a lane after those that were sent before it
pub record Fits (key : LaneKey) (earlier : List Message) (m : Message) : Type 0 where
  pub law : IsMessage (run_in key) key.from key.to m
  pub turn : IsNextPhantom (run_in key) key.from earlier m
