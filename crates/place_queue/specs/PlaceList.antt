-- The places of one group at one pipe: a floor for each source, and the unserved places in order of arrival.
use Rattle.std.specs.Prelude.{◌≡◌, ℕ, zero, suc, ◌+◌, ◌%◌, ◌<◌, ◌≤◌, ◌==◌, nat_lt, min, if◌then◌else◌, List, [], ◌∷◌, ◌++◌, length, Option, Some, None, ⊤, slice_index, slice_set, count_by, All, EachIndex, SomeIndex}
use Rattle.std.specs.List.{list_all}
use Rattle.place_queue.specs.declared.place.Place.{Place}

-- what a queue of places is
pub record PlaceList : Type 0 where
  pub sources : ℕ
  pub window : ℕ
  pub arrivals : ℕ
  pub floors : List ℕ
  pub unserved : List Place

-- the floors before the first announcement: a source's own number, or the number of arrivals where it has none
abbrev pub first_floors : ℕ → ℕ → List ℕ
first_floors zero arrivals = []
first_floors (suc n) arrivals = first_floors n arrivals ++ min n arrivals ∷ []

-- a queue before the first announcement
abbrev pub unannounced : ℕ → ℕ → ℕ → PlaceList
unannounced sources window arrivals = record { sources = sources; window = window; arrivals = arrivals; floors = first_floors sources arrivals; unserved = [] }

-- how many of the places are a source's
abbrev pub count_of : List Place → ℕ → ℕ
count_of places source = count_by (λ p. p.source == source) places

-- the places in order of arrival, with one more
abbrev pub with_place : Place → List Place → List Place
with_place p [] = p ∷ []
with_place p (q ∷ qs) = if nat_lt q.t p.t then q ∷ with_place p qs else p ∷ q ∷ qs

-- the same, where a unit is given
abbrev pub with_unit : ℕ → ℕ → Option ℕ → List Place → List Place
with_unit source t None places = places
with_unit source t (Some unit) places = with_place (record { t = t; unit = unit; source = source }) places

-- the queue after a source announced an arrival, with a unit or without one
abbrev pub announced : PlaceList → ℕ → ℕ → Option ℕ → PlaceList
announced q source t unit = record { sources = q.sources; window = q.window; arrivals = q.arrivals; floors = slice_set q.floors source (min (t + q.sources) q.arrivals); unserved = with_unit source t unit q.unserved }

-- the first place, where every floor is above it
abbrev pub first_known : List ℕ → List Place → Option Place
first_known floors [] = None
first_known floors (p ∷ ps) = if list_all (λ floor. nat_lt p.t floor) floors then Some p else None

-- the least place that can still come
abbrev pub next_place : PlaceList → Option Place
next_place q = first_known q.floors q.unserved

-- the place is the least unserved one, and every floor is above it
pub record IsNext (q : PlaceList) (p : Place) : Type 0 where
  pub later : List Place
  pub least : q.unserved ≡ p ∷ later
  pub known : EachIndex q.floors (λ s. p.t < slice_index q.floors s)

-- there is no place, or some floor is not above the first
abbrev pub HasNone : List ℕ → List Place → Type 0
HasNone floors [] = ⊤
HasNone floors (p ∷ ps) = SomeIndex floors (λ s. slice_index floors s ≤ p.t)

-- the least number of a list
pub record IsLeast (xs : List ℕ) (n : ℕ) : Type 0 where
  pub reached : SomeIndex xs (λ i. slice_index xs i ≡ n)
  pub below : EachIndex xs (λ i. n ≤ slice_index xs i)

-- each place is of an earlier arrival than those after it
abbrev pub IsInOrder : List Place → Type 0
IsInOrder [] = ⊤
IsInOrder (p ∷ ps) = All (λ q. p.t < q.t) ps × IsInOrder ps

-- the floor of a source is an own arrival, until it has announced them all
pub record IsFloor (sources arrivals source floor : ℕ) : Type 0 where
  pub limit : floor ≤ arrivals
  pub own : floor < arrivals → floor % sources ≡ source

-- the place is of an own arrival of its source, which announced it
pub record IsAnnounced (sources : ℕ) (floors : List ℕ) (p : Place) : Type 0 where
  pub source : p.source < sources
  pub own : p.t % sources ≡ p.source
  pub below : p.t < slice_index floors p.source

-- what is true of each queue
pub record IsPlaceList (q : PlaceList) : Type 0 where
  pub some : 1 ≤ q.sources
  pub sources : q.sources ≤ 16
  pub window : q.window ≤ 1024
  pub arrivals : q.arrivals ≤ 262144
  pub each : length q.floors ≡ q.sources
  pub floors : EachIndex q.floors (λ s. IsFloor q.sources q.arrivals s (slice_index q.floors s))
  pub order : IsInOrder q.unserved
  pub places : All (IsAnnounced q.sources q.floors) q.unserved
  pub limit : (s : ℕ) → s < q.sources → count_of q.unserved s ≤ q.window
