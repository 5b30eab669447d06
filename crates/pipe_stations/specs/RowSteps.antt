-- What is done over all stations of a pipe.
use Rattle.std.specs.Prelude.{◌≡◌, ℕ, zero, suc, ◌<◌, ◌≤◌, List, [], length, slice_index, slice_index_or, EachIndex, IfSome, IsSome, Option, Some, None}
use Rattle.shard_rounds.specs.declared.plan.Move.{Move}
use Rattle.shard_rounds.specs.Rounds.{OwnerTable}
use Rattle.code_forms.specs.StagedMeaning.{HasUnits, place_code}
use Rattle.place_queue.specs.PlaceList.{announced, count_of}
use Rattle.run_laws.specs.Run.{Run, arrivals, header_at, last_round, place_of, unit_counts}
use Rattle.run_laws.specs.LawfulPlans.{AreLawful}
use Rattle.group_station.specs.Station.{Station, site, Given, IsOfRun}
use Rattle.group_station.specs.Steps.{IsGivenUnit, HasAllUnits, leaving, next_moves}
use Rattle.pipe_stations.specs.Row.{Row, group_count, station_at}

-- the owners are those of the run, after lawful plans that reach the present round of each group
pub record AreRowOwners (r : Row) (o : OwnerTable) : Type 0 where
  pub units : o.units ≡ unit_counts r.run
  pub pipelines : o.pipelines ≡ r.run.settings.pipelines
  pub lawful : AreLawful r.run o.plans
  pub known : (g : ℕ) → g < length r.stations → (station_at r g).round ≤ length o.plans

-- the move by which a unit of a group leaves at the end of its present round, if there is one
abbrev pub leaving_at : Row → ℕ → OwnerTable → Option Move
leaving_at r g o = leaving (station_at r g) (next_moves (station_at r g) o)

-- ---- announcing

-- the numbers are an arrival's places at all groups, each of them a unit of its group
pub record ArePlaces (run : Run) (t : ℕ) (units : List ℕ) : Type 0 where
  pub places : (g : ℕ) → g < group_count run → slice_index units g ≡ place_code (place_of run t g)
  pub within : HasUnits run.code (header_at run t)

-- the unit of a place as a number, if there is one
abbrev pub coded_unit : ℕ → Option ℕ
coded_unit zero = None
coded_unit (suc u) = Some u

-- the arrival is next to be announced by its source, at each group
abbrev pub IsTurn : Row → ℕ → ℕ → Type 0
IsTurn r source t = (g : ℕ) → g < length r.stations → slice_index (station_at r g).queue.floors source ≡ t

-- these are the units of an arrival's places that are given here, by group
abbrev pub AreGivenUnits : Row → ℕ → List (Option ℕ) → Type 0
AreGivenUnits r t given = (g : ℕ) → g < length r.stations → IsGivenUnit (station_at r g) t (slice_index_or given g None)

-- a station after it heard of an arrival of a source, with a unit or without one
abbrev pub after_announcing : Station → ℕ → ℕ → Option ℕ → Station
after_announcing s source t unit = record s { queue = announced s.queue source t unit }

-- the station is one of the run, and a source has fewer unserved places than the window allows where a unit is given
pub record HasRoomAt (s : Station) (source : ℕ) (unit : Option ℕ) : Type 0 where
  pub of_run : IsOfRun (site s) s.queue
  pub room : IfSome unit (λ _. count_of s.queue.unserved source < s.queue.window)

-- what is asked of a station that hears of an arrival of a source
pub record CanAnnounce (s : Station) (source t : ℕ) (unit : Option ℕ) : Type 0 where
  pub within : source < s.queue.sources
  pub turn : t ≡ slice_index s.queue.floors source
  pub early : t < s.queue.arrivals
  pub given : IsGivenUnit s t unit
  pub room : IfSome unit (λ _. count_of s.queue.unserved source < s.queue.window)

-- these stations heard of an arrival of a source, each with its unit
abbrev pub HaveHeard : List Station → List Station → ℕ → ℕ → List (Option ℕ) → Type 0
HaveHeard old new source t given = (g : ℕ) (s : Station) → g < length old
    → slice_index_or new g s ≡ after_announcing (slice_index_or old g s) source t (slice_index_or given g None)

-- the station of a group heard of an arrival of a source, with the unit of its place where that is given there
pub record AnnouncedAt (old new : Row) (source t g : ℕ) : Type 0 where
  pub unit : Option ℕ
  pub given : IsGivenUnit (station_at old g) t unit
  pub station : station_at new g ≡ after_announcing (station_at old g) source t unit

-- the stations of all groups did
pub record IsAnnounced (old new : Row) (source t : ℕ) : Type 0 where
  pub run : new.run ≡ old.run
  pub pipe : new.pipe ≡ old.pipe
  pub count : length new.stations ≡ length old.stations
  pub each : (g : ℕ) → g < length old.stations → AnnouncedAt old new source t g

-- wherever a unit of the arrival is given, the source has fewer unserved places than the window allows
abbrev pub HasRoom : Row → ℕ → ℕ → Type 0
HasRoom r source t = (g u : ℕ) → g < length r.stations → Given (station_at r g) t u
    → count_of (station_at r g).queue.unserved source < r.run.settings.window

-- at some group a unit of the arrival is given, and the source has as many unserved places as the window allows
pub record IsFull (r : Row) (source t : ℕ) : Type 0 where
  pub group : ℕ
  pub unit : ℕ
  pub there : group < length r.stations
  pub given : Given (station_at r group) t unit
  pub full : count_of (station_at r group).queue.unserved source ≡ r.run.settings.window

-- at some group there is one of these units, and the source has as many
pub record IsFullFor (r : Row) (source : ℕ) (given : List (Option ℕ)) : Type 0 where
  pub group : ℕ
  pub there : group < length r.stations
  pub unit : IsSome (slice_index_or given group None)
  pub full : count_of (station_at r group).queue.unserved source ≡ r.run.settings.window

-- ---- the end

-- every floor of a station is at least a number
abbrev pub FloorsAreFrom : ℕ → Station → Type 0
FloorsAreFrom end s = EachIndex s.queue.floors (λ source. end ≤ slice_index s.queue.floors source)

-- all that a station had to do is done: every floor is past all arrivals, no place is unserved, and each unit that the pipe
-- owns in the present round, which is the last one, is in hand
pub record IsStationFinished (s : Station) : Type 0 where
  pub floors : EachIndex s.queue.floors (λ source. slice_index s.queue.floors source ≡ arrivals s.run)
  pub served : s.queue.unserved ≡ []
  pub round : s.round ≡ last_round s.run
  pub units : HasAllUnits s
