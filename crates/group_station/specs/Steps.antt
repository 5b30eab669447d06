-- What the calls of a station do.
use Rattle.std.specs.Prelude.{◌≡◌, ℕ, zero, suc, ◌+◌, ◌<◌, ◌≤◌, ◌==◌, if◌then◌else◌, List, [], ◌∷◌, ◌++◌, length, slice_index, slice_index_or, slice_set, drop, All, IsSome, EachIndex, replicate, find, Option, Some, None}
use Rattle.shard_rounds.specs.declared.plan.Move.{Move}
use Rattle.shard_rounds.specs.Rounds.{OwnerTable, first_owner}
use Rattle.code_forms.specs.declared.unit.Unit.{Unit as PlacedUnit}
use Rattle.code_forms.specs.Staged.{Staged, group_at}
use Rattle.code_forms.specs.StagedMeaning.{start_cells}
use Rattle.place_queue.specs.declared.place.Place.{Place}
use Rattle.place_queue.specs.PlaceList.{unannounced, next_place}
use Rattle.run_laws.specs.Run.{Run, arrivals, round_of, unit_counts, units_before}
use Rattle.run_laws.specs.LawfulPlans.{AreLawful}
use Rattle.group_station.specs.Station.{Station, site, width, width_at, in_hand, OwnsIn, Given, round_start, round_end, IsNextOwn}

-- ---- the start

-- a unit with its start cells, where the pipe owns it before any plan
abbrev pub first_unit : Staged → ℕ → ℕ → ℕ → ℕ → Option PlacedUnit
first_unit c pipelines pipe g u = if first_owner pipelines g u == pipe then Some (record { group = g; number = u; cells = start_cells c (group_at c g) }) else None

-- the first units of a group
abbrev pub first_hand : Staged → ℕ → ℕ → ℕ → ℕ → List (Option PlacedUnit)
first_hand c pipelines pipe g zero = []
first_hand c pipelines pipe g (suc n) = first_hand c pipelines pipe g n ++ first_unit c pipelines pipe g n ∷ []

-- a station before anything happened
abbrev pub first_station : Run → ℕ → ℕ → Station
first_station run pipe group = record {
  run = run;
  pipe = pipe;
  group = group;
  queue = unannounced run.settings.pipelines run.settings.window (arrivals run);
  round = 0;
  hand = first_hand run.code run.settings.pipelines pipe group (width_at (record { run = run; pipe = pipe; group = group }));
  served = replicate (width_at (record { run = run; pipe = pipe; group = group })) 0;
}

-- ---- announcing

-- the unit of an arrival's place that is given here, if there is one
abbrev pub IsGivenUnit : Station → ℕ → Option ℕ → Type 0
IsGivenUnit s t None = (u : ℕ) → Given s t u → ⊥
IsGivenUnit s t (Some u) = Given s t u

-- ---- serving

-- the place is the next one, is of the present round, and its unit is in hand
pub record IsReady (s : Station) (p : Place) : Type 0 where
  pub next : next_place s.queue ≡ Some p
  pub present : round_of s.run p.t ≡ s.round
  pub unit : IsSome (in_hand s p.unit)

-- a unit with the cells that it has before an arrival
abbrev pub unit_before : Station → ℕ → ℕ → PlacedUnit
unit_before s t u = record { group = s.group; number = u; cells = units_before s.run t s.group u }

-- the station after it served a place
abbrev pub after_serving : Station → Place → Station
after_serving s p = record s {
  queue = record (s.queue) { unserved = drop 1 s.queue.unserved };
  hand = slice_set s.hand p.unit (Some (unit_before s (p.t + 1) p.unit));
  served = slice_set s.served p.unit (slice_index s.served p.unit + 1);
}

-- ---- rounds

-- the owners are those of the run, after lawful plans that reach the present round
pub record AreOwnersFor (s : Station) (o : OwnerTable) : Type 0 where
  pub units : o.units ≡ unit_counts s.run
  pub pipelines : o.pipelines ≡ s.run.settings.pipelines
  pub lawful : AreLawful s.run o.plans
  pub known : s.round ≤ length o.plans

-- each unit that the pipe owns in the present round is in hand
abbrev pub HasAllUnits : Station → Type 0
HasAllUnits s = (u : ℕ) → u < width s → OwnsIn s s.round u → IsSome (in_hand s u)

-- all that belongs to the present round is done: every floor is past it, no place of it is unserved, and each unit that the
-- pipe owns in it is in hand
pub record IsRoundDone (s : Station) : Type 0 where
  pub floors : EachIndex s.queue.floors (λ source. round_end s ≤ slice_index s.queue.floors source)
  pub served : All (λ (p : Place). round_end s ≤ p.t) s.queue.unserved
  pub units : HasAllUnits s

-- the move of a group, if there is one
abbrev pub move_in : ℕ → List Move → Option Move
move_in g moves = find (λ m. m.group == g) moves

-- a move, where this pipe gives the unit
abbrev pub given_by : ℕ → Option Move → Option Move
given_by pipe None = None
given_by pipe (Some m) = if m.giver == pipe then Some m else None

-- the move by which a unit leaves at the end of the round, if there is one
abbrev pub leaving : Station → List Move → Option Move
leaving s moves = given_by s.pipe (move_in s.group moves)

-- the pipe that gets it
abbrev pub taker_of : Option Move → Option ℕ
taker_of None = None
taker_of (Some m) = Some m.taker

-- the station in the next round, in which such a unit is no longer in hand
abbrev pub after_leaving : Station → Option Move → Station
after_leaving s None = record s { round = s.round + 1 }
after_leaving s (Some m) = record s { round = s.round + 1; hand = slice_set s.hand m.unit None }

-- what leaves then: its taker, and the unit as it stands at the end of the round
abbrev pub departing : Station → Option Move → Option (ℕ × PlacedUnit)
departing s None = None
departing s (Some m) = Some (m.taker, unit_before s (round_end s) m.unit)

-- the moves of the plan behind the present round
abbrev pub next_moves : Station → OwnerTable → List Move
next_moves s o = slice_index_or o.plans s.round []

-- ---- units that come

-- the unit is one of the group as it stands at the start of a round in which this pipe owns it
pub record IsUnitFor (s : Station) (from : ℕ) (unit : PlacedUnit) : Type 0 where
  pub group : unit.group ≡ s.group
  pub number : unit.number < width s
  pub owned : OwnsIn s from unit.number
  pub cells : unit.cells ≡ units_before s.run (round_start (site s) from) s.group unit.number

-- a unit can be taken for a round: it isn't in hand, and the round is the first known one from the present one on in which
-- the pipe owns it
pub record CanTake (s : Station) (o : OwnerTable) (from u : ℕ) : Type 0 where
  pub away : in_hand s u ≡ None
  pub known : from ≤ length o.plans
  pub next : IsNextOwn s u from

-- the station with the unit in hand
abbrev pub after_taking : Station → PlacedUnit → Station
after_taking s unit = record s { hand = slice_set s.hand unit.number (Some unit) }
