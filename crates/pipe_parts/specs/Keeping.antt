-- What the parts of a pipe keep beside what their contracts see.
use Rattle.std.specs.Prelude.{ℕ, ◌≤◌}
use Rattle.pipe_parts.specs.FreeEnvs.{FreeEnvs, IsFree}

-- room for all environments
pub record KeepsFree (free : FreeEnvs) (capacity : ℕ) : Type 0 where
  pub laws : IsFree free
  pub small : free.room ≤ 4294967295
  pub room : free.room ≤ capacity
