-- Where the own arrivals of a pipe enter and come home.
use Rattle.std.specs.Prelude.{◌≡◌, ℕ, ◌+◌, List, length, count_by}
use Rattle.egress_order.specs.OwnPackets.{OwnPackets, own_count, unentered, IsExit}
use Rattle.pipe_parts.specs.declared.entries.Entry.{Entry}
use Rattle.pipe_parts.specs.EntryList.{untouched}
use Rattle.pipe_parts.specs.FreeEnvs.{FreeEnvs, all_free, IsFree}

-- which own arrivals entered and are home, the environments that are free, and what was done to each arrival
pub record Door : Type 0 where
  pub exit : OwnPackets
  pub free : FreeEnvs
  pub entries : List Entry

-- a door before the first arrival enters: all environments are free, and nothing was done to any arrival
abbrev pub first_door : ℕ → ℕ → ℕ → ℕ → ℕ → ℕ → Door
first_door pipe pipelines arrivals window fields slots = record { exit = unentered pipe pipelines arrivals window fields; free = all_free window slots; entries = untouched (own_count pipe pipelines arrivals) }

-- how many own arrivals are home
abbrev pub home_count : OwnPackets → ℕ
home_count e = count_by (λ flag. flag) e.home

-- what is true of each door. Each own arrival that is out has one of the window's environments, and the
-- others are free
pub record IsDoor (d : Door) : Type 0 where
  pub exit : IsExit d.exit
  pub free : IsFree d.free
  pub entries : length d.entries ≡ length d.exit.home
  pub room : d.free.room ≡ d.exit.window
  pub balance : length d.free.envs + d.exit.entered ≡ d.exit.window + home_count d.exit

-- a door, and how many pipelines and own arrivals there are
pub record KeepsDoor (d : Door) (pipes count : ℕ) : Type 0 where
  pub laws : IsDoor d
  pub pipelines : pipes ≡ d.exit.pipelines
  pub own : count ≡ length d.exit.home
