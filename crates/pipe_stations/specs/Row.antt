-- The stations of a pipe, one for each group of the code.
use Rattle.std.specs.Prelude.{◌≡◌, ℕ, zero, suc, ◌<◌, ◌≤◌, ℤ, List, [], ◌∷◌, ◌++◌, length, slice_index_or, slice_set}
use Rattle.mp5_words.specs.declared.settings.Settings.{Settings}
use Rattle.code_forms.specs.Staged.{Staged}
use Rattle.run_laws.specs.Run.{Run, run_of}
use Rattle.group_station.specs.Station.{Station, Site, site}
use Rattle.group_station.specs.Steps.{first_station}

-- a run at a pipe, and the pipe's station of each group
pub record Row : Type 0 where
  pub run : Run
  pub pipe : ℕ
  pub stations : List Station

-- what the fields of the stations are seen as
abbrev pub row_of : Staged → List (List ℤ) → Settings → ℕ → List Station → Row
row_of code headers settings pipe stations = record { run = run_of code headers settings; pipe = pipe; stations = stations }

-- how many groups the code of a run has
abbrev pub group_count : Run → ℕ
group_count run = length run.code.groups

-- a group of the run at the pipe
abbrev pub site_at : Row → ℕ → Site
site_at r g = record { run = r.run; pipe = r.pipe; group = g }

-- the station of a group
abbrev pub station_at : Row → ℕ → Station
station_at r g = slice_index_or r.stations g (first_station r.run r.pipe g)

-- the row with another station at a group
abbrev pub with_station : Row → ℕ → Station → Row
with_station r g s = record r { stations = slice_set r.stations g s }

-- the stations of the first groups before anything happened
abbrev pub first_stations : Run → ℕ → ℕ → List Station
first_stations run pipe zero = []
first_stations run pipe (suc n) = first_stations run pipe n ++ first_station run pipe n ∷ []

-- all stations before anything happened
abbrev pub first_row : Run → ℕ → Row
first_row run pipe = record { run = run; pipe = pipe; stations = first_stations run pipe (group_count run) }

-- there is a station for each group, which stands there, and there are at most 16
pub record IsRow (r : Row) : Type 0 where
  pub all : length r.stations ≡ group_count r.run
  pub few : length r.stations ≤ 16
  pub sites : (g : ℕ) → g < length r.stations → site (station_at r g) ≡ site_at r g
