-- The environments that are free.
use Rattle.std.specs.Prelude.{◌≡◌, ℕ, ◌≤◌, List, [], ◌∷◌, ◌++◌, length, ℤ, pos, replicate}
use Rattle.std.specs.List.{All}

-- how many there may be, how many words each has, and those that are free
pub record FreeEnvs : Type 0 where
  pub room : ℕ
  pub slots : ℕ
  pub envs : List (List ℤ)

-- all are free, and each word is 0
abbrev pub all_free : ℕ → ℕ → FreeEnvs
all_free count slots = record { room = count; slots = slots; envs = replicate count (replicate slots (pos 0)) }

-- one more is free, behind the others
abbrev pub with_free : FreeEnvs → List ℤ → FreeEnvs
with_free free env = record { room = free.room; slots = free.slots; envs = free.envs ++ env ∷ [] }

-- each has as many words, and no more are free than there are
pub record IsFree (free : FreeEnvs) : Type 0 where
  pub few : length free.envs ≤ free.room
  pub sized : All (λ env. length env ≡ free.slots) free.envs
