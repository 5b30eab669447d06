-- A group of arrays at one pipe: its places, the present round, the units in hand, and how often each was served.
use Rattle.std.specs.Prelude.{◌≡◌, ℕ, suc, ◌+◌, ◌*◌, ◌<◌, ◌≤◌, ◌⊎◌, min, ℤ, List, [], ◌∷◌, length, slice_index, slice_index_or, All, Option, Some, None}
use Rattle.code_forms.specs.declared.unit.Unit.{Unit as PlacedUnit}
use Rattle.code_forms.specs.Staged.{group_at, unit_count}
use Rattle.place_queue.specs.declared.place.Place.{Place}
use Rattle.place_queue.specs.PlaceList.{PlaceList, IsPlaceList}
use Rattle.run_laws.specs.Run.{Run, arrivals, round_of, last_round, home_of, place_of, units_before}
use Rattle.run_laws.specs.LawfulPlans.{Owns}

-- a group of a run at a pipe: its queue of places, the present round, the units in hand by number, and how often each was
-- served
pub record Station : Type 0 where
  pub run : Run
  pub pipe : ℕ
  pub group : ℕ
  pub queue : PlaceList
  pub round : ℕ
  pub hand : List (Option PlacedUnit)
  pub served : List ℕ

-- a group of a run at a pipe
pub record Site : Type 0 where
  pub run : Run
  pub pipe : ℕ
  pub group : ℕ

-- where a station stands
abbrev pub site : Station → Site
site s = record { run = s.run; pipe = s.pipe; group = s.group }

-- how many units the group has
abbrev pub width_at : Site → ℕ
width_at a = unit_count a.run.code (group_at a.run.code a.group)

-- the same of a station
abbrev pub width : Station → ℕ
width s = width_at (site s)

-- the unit with a number, where it is among these
abbrev pub held : List (Option PlacedUnit) → ℕ → Option PlacedUnit
held hand u = slice_index_or hand u None

-- the unit with a number, where it is in hand
abbrev pub in_hand : Station → ℕ → Option PlacedUnit
in_hand s u = held s.hand u

-- the pipe owns a unit in a round
abbrev pub OwnsAt : Site → ℕ → ℕ → Type 0
OwnsAt a e u = Owns a.run e a.group u a.pipe

abbrev pub OwnsIn : Station → ℕ → ℕ → Type 0
OwnsIn s e u = OwnsAt (site s) e u

-- the arrival has its place here in the unit: its header names it, and the pipe owns it in the arrival's round
pub record IsGiven (a : Site) (t u : ℕ) : Type 0 where
  pub there : t < arrivals a.run
  pub place : place_of a.run t a.group ≡ Some u
  pub owned : OwnsAt a (round_of a.run t) u

abbrev pub Given : Station → ℕ → ℕ → Type 0
Given s t u = IsGiven (site s) t u

-- ---- the front

-- some floor is so low, or the first of the places is so early
pub data IsReached (q : PlaceList) (f : ℕ) : Type 0 where
  by_floor : (source : ℕ) → source < length q.floors → slice_index q.floors source ≡ f → IsReached q f
  by_place : (p : Place) (later : List Place) → q.unserved ≡ p ∷ later → p.t ≡ f → IsReached q f

-- the first arrival of which it isn't known that it has no place left here: the lesser of the least unserved place, where
-- there is one, and the least floor
pub record IsFront (q : PlaceList) (f : ℕ) : Type 0 where
  pub floors : (source : ℕ) → source < length q.floors → f ≤ slice_index q.floors source
  pub unserved : All (λ (p : Place). f ≤ p.t) q.unserved
  pub reached : IsReached q f

-- ---- the laws

-- the place stands in the list
abbrev pub Waits : ℕ → ℕ → List Place → Type 0
Waits t u [] = ⊥
Waits t u (p ∷ places) = ((p.t ≡ t) × (p.unit ≡ u)) ⊎ Waits t u places

-- the floor of the source of an arrival
abbrev pub floor_for : Site → PlaceList → ℕ → ℕ
floor_for a q t = slice_index q.floors (home_of a.run t)

-- the unserved places are those that are given to announced arrivals from the front on
pub record HasPlaces (a : Site) (q : PlaceList) (f : ℕ) : Type 0 where
  pub given : All (λ (p : Place). IsGiven a p.t p.unit) q.unserved
  pub waiting : (t u : ℕ) → IsGiven a t u → t < floor_for a q t → f ≤ t → Waits t u q.unserved

-- the first arrival of a round, and the first one behind it
abbrev pub round_start : Site → ℕ → ℕ
round_start a r = r * a.run.settings.round

abbrev pub round_end : Station → ℕ
round_end s = round_start (site s) (s.round + 1)

-- the first of the rounds from a round on in which the pipe owns the unit
pub record IsNextAt (a : Site) (r u e : ℕ) : Type 0 where
  pub owned : OwnsAt a e u
  pub from : r ≤ e
  pub first : (d : ℕ) → r ≤ d → d < e → OwnsAt a d u → ⊥

abbrev pub IsNextOwn : Station → ℕ → ℕ → Type 0
IsNextOwn s u e = IsNextAt (site s) s.round u e

-- how far the unit in hand has come: where it is owned in the present round, to the front or to the round's end; else to
-- the start of the next round in which it is owned
pub data HasCells (a : Site) (r f u : ℕ) (cells : List ℤ) : Type 0 where
  own : OwnsAt a r u → cells ≡ units_before a.run (min f (round_start a (r + 1))) a.group u → HasCells a r f u cells
  later : (e : ℕ) → IsNextAt a r u e → r < e → cells ≡ units_before a.run (round_start a e) a.group u → HasCells a r f u cells

-- a unit in hand has its group, its number and its cells
pub record IsHeld (a : Site) (r f u : ℕ) (unit : PlacedUnit) : Type 0 where
  pub group : unit.group ≡ a.group
  pub number : unit.number ≡ u
  pub cells : HasCells a r f u unit.cells

pub record HoldsUnits (a : Site) (r : ℕ) (hand : List (Option PlacedUnit)) (f : ℕ) : Type 0 where
  pub wide : length hand ≡ width_at a
  pub known : (u : ℕ) (unit : PlacedUnit) → held hand u ≡ Some unit → IsHeld a r f u unit

-- no place of a later round is behind the front; and a unit of the present round that isn't in hand has no place of that
-- round behind it
pub record KeepsRound (a : Site) (r : ℕ) (hand : List (Option PlacedUnit)) (f : ℕ) : Type 0 where
  pub begun : round_start a r ≤ f
  pub last : r ≤ last_round a.run
  pub passed : (t u : ℕ) → IsGiven a t u → t < f → round_of a.run t ≤ r
  pub absent : (u : ℕ) → u < width_at a → OwnsAt a r u → held hand u ≡ None → (t : ℕ) → IsGiven a t u → round_start a r ≤ t → t < f → ⊥

-- so many of the numbers below one have a property
pub data Counted (P : ℕ → Type 0) : ℕ → ℕ → Type 0 where
  none : Counted P 0 0
  more : {t n : ℕ} → P t → Counted P t n → Counted P (suc t) (suc n)
  same : {t n : ℕ} → (P t → ⊥) → Counted P t n → Counted P (suc t) n

-- each unit was served as often as it has given places behind the front
pub record CountsServed (a : Site) (served : List ℕ) (f : ℕ) : Type 0 where
  pub wide : length served ≡ width_at a
  pub counts : (u : ℕ) → u < width_at a → Counted (λ t. IsGiven a t u) f (slice_index served u)

-- the laws that speak of a front
pub record AreLaws (s : Station) (f : ℕ) : Type 0 where
  pub places : HasPlaces (site s) s.queue f
  pub units : HoldsUnits (site s) s.round s.hand f
  pub rounds : KeepsRound (site s) s.round s.hand f
  pub counts : CountsServed (site s) s.served f

-- the queue is one of the run, at a pipe and a group that there are
pub record IsOfRun (a : Site) (q : PlaceList) : Type 0 where
  pub pipe : a.pipe < a.run.settings.pipelines
  pub group : a.group < length a.run.code.groups
  pub wide : All (λ header. length header ≡ a.run.code.fields) a.run.headers
  pub sources : q.sources ≡ a.run.settings.pipelines
  pub arrivals : q.arrivals ≡ Rattle.run_laws.specs.Run.arrivals a.run
  pub window : q.window ≡ a.run.settings.window
  pub listed : IsPlaceList q

-- what is true of each station
pub record IsStation (s : Station) : Type 0 where
  pub of_run : IsOfRun (site s) s.queue
  pub front : ℕ
  pub is_front : IsFront s.queue front
  pub laws : AreLaws s front

-- ---- the unit that is awaited

-- this is the one unit of the present round that isn't in hand, if there is one
pub record IsAwaited (s : Station) (awaited : Option ℕ) : Type 0 where
  pub told : (u : ℕ) → u < width s → OwnsIn s s.round u → in_hand s u ≡ None → awaited ≡ Some u
  pub away : (u : ℕ) → awaited ≡ Some u → (u < width s) × OwnsIn s s.round u × (in_hand s u ≡ None)
