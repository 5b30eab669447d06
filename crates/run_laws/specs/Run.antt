-- A run: staged code, the headers of all arrivals, and the settings; and what the code does on the headers, one after
-- another.
use Rattle.std.specs.Prelude.{◌≡◌, ℕ, zero, suc, ◌+◌, ◌-◌, ◌/◌, ◌%◌, ◌<◌, ℤ, if◌then◌else◌, List, [], length, map, take, Option, Some, None}
use Rattle.mp5_words.specs.declared.settings.Settings.{Settings}
use Rattle.code_forms.specs.declared.parts.StagedGroup.{StagedGroup}
use Rattle.code_forms.specs.Staged.{Staged, unit_count}
use Rattle.code_forms.specs.StagedMeaning.{Units, place, is_place, touched_in, array_set}
use Rattle.code_forms.specs.OverHeaders.{start_units, units_over, header_in, values_at}

pub record Run : Type 0 where
  pub code : Staged
  pub headers : List (List ℤ)
  pub settings : Settings

-- the run of code, headers and settings
abbrev pub run_of : Staged → List (List ℤ) → Settings → Run
run_of code headers settings = record { code = code; headers = headers; settings = settings }

-- how many arrivals there are
abbrev pub arrivals : Run → ℕ
arrivals run = length run.headers

-- the header of an arrival
abbrev pub header_at : Run → ℕ → List ℤ
header_at run t = header_in run.headers t

-- the round of an arrival
abbrev pub round_of : Run → ℕ → ℕ
round_of run t = t / run.settings.round

-- the last round
abbrev pub last_round : Run → ℕ
last_round run = (arrivals run - 1) / run.settings.round

-- the home of an arrival: the pipe that it enters and leaves
abbrev pub home_of : Run → ℕ → ℕ
home_of run t = t % run.settings.pipelines

-- ---- units

-- the units before an arrival; past the last one, those after all
abbrev pub units_before : Run → ℕ → Units
units_before run t = units_over run.code (start_units run.code) (take t run.headers)

-- the values of all slots of an arrival
abbrev pub values_of : Run → ℕ → List ℤ
values_of run t = values_at run.code (start_units run.code) run.headers t

-- ---- places and accesses

-- the place of an arrival at a group
abbrev pub place_of : Run → ℕ → ℕ → Option ℕ
place_of run t g = place run.code (header_at run t) g

-- the arrays of a group that an arrival touches, as a set
abbrev pub touched_of : Run → ℕ → ℕ → ℕ
touched_of run t g = array_set (touched_in run.code (values_of run t) g)

-- how many units each group has
abbrev pub unit_counts : Run → List ℕ
unit_counts run = map (unit_count run.code) run.code.groups

-- how many of the first arrivals have their place at a group in a unit
abbrev pub load_below : Run → ℕ → ℕ → ℕ → ℕ
load_below run g u zero = 0
load_below run g u (suc t) = load_below run g u t + (if is_place (place_of run t g) u then 1 else 0)
