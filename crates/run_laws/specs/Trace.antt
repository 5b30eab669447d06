-- The accesses of a run: at each group at which an arrival has a place, who serves it and what it touches.
use Rattle.std.specs.Prelude.{◌≡◌, ℕ, List, Option, Some, None}
use Rattle.shard_rounds.specs.declared.plan.Move.{Move}
use Rattle.shard_rounds.specs.Rounds.{owner}
use Rattle.run_laws.specs.Run.{Run, round_of, place_of, touched_of}

-- the pipe that serves an arrival at a group, under these plans: the owner of the unit in the arrival's round; 255
-- without a place
abbrev pub served_at : Run → List (List Move) → ℕ → ℕ → Option ℕ → ℕ
served_at run plans t g None = 255
served_at run plans t g (Some u) = owner run.settings.pipelines plans (round_of run t) g u

abbrev pub served_by : Run → List (List Move) → ℕ → ℕ → ℕ
served_by run plans t g = served_at run plans t g (place_of run t g)

-- the set of arrays that it touches there; none without a place
abbrev pub touched_at : Run → ℕ → ℕ → Option ℕ → ℕ
touched_at run t g None = 0
touched_at run t g (Some u) = touched_of run t g

abbrev pub touched_there : Run → ℕ → ℕ → ℕ
touched_there run t g = touched_at run t g (place_of run t g)
