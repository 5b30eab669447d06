-- Who owns a unit after the first plans.
use Rattle.std.specs.Prelude.{◌≡◌, ℕ, ◌+◌, ◌%◌, ◌<◌, ◌≤◌, ◌==◌, ◌&&◌, if◌then◌else◌, List, [], ◌∷◌, ◌++◌, length, take, slice_index, count_by, All}
use Rattle.shard_rounds.specs.declared.plan.Move.{Move}

-- the units of each group, the number of pipes, the room for plans, and the plans that were applied
pub record OwnerTable : Type 0 where
  pub units : List ℕ
  pub pipelines : ℕ
  pub room : ℕ
  pub plans : List (List Move)

-- the lists one after another
abbrev pub joined : {X : Type 0} → List (List X) → List X
joined [] = []
joined (xs ∷ xss) = xs ++ joined xss

-- the owner of a unit after one move
abbrev pub after_move : ℕ → ℕ → ℕ → Move → ℕ
after_move g u owner m = if m.group == g && m.unit == u then m.taker else owner

-- the owner of a unit after some moves, in order
abbrev pub after_moves : ℕ → ℕ → ℕ → List Move → ℕ
after_moves g u owner [] = owner
after_moves g u owner (m ∷ ms) = after_moves g u (after_move g u owner m) ms

-- the owner of a unit before any move
abbrev pub first_owner : ℕ → ℕ → ℕ → ℕ
first_owner pipelines g u = (u + g) % pipelines

-- the owner of a unit after the first `e` plans
abbrev pub owner : ℕ → List (List Move) → ℕ → ℕ → ℕ → ℕ
owner pipelines plans e g u = after_moves g u (first_owner pipelines g u) (joined (take e plans))

-- the owner after all plans
abbrev pub owner_now : OwnerTable → ℕ → ℕ → ℕ
owner_now o g u = after_moves g u (first_owner o.pipelines g u) (joined o.plans)

-- the table before any plan
abbrev pub unmoved : List ℕ → ℕ → ℕ → OwnerTable
unmoved units pipelines room = record { units = units; pipelines = pipelines; room = room; plans = [] }

-- there is such a unit
pub record IsUnit (units : List ℕ) (g u : ℕ) : Type 0 where
  pub group : g < length units
  pub unit : u < slice_index units g

-- the giver of a move owns its unit, and the taker is a pipe
pub record CanMove (o : OwnerTable) (m : Move) : Type 0 where
  pub unit : IsUnit o.units m.group m.unit
  pub giver : m.giver ≡ owner_now o m.group m.unit
  pub taker : m.taker < o.pipelines

-- the moves can be those of the next plan: each can move, and no group has two
pub record IsPlan (o : OwnerTable) (moves : List Move) : Type 0 where
  pub each : All (CanMove o) moves
  pub single : (g : ℕ) → count_by (λ m. m.group == g) moves ≤ 1

-- what units there may be
pub record AreUnits (units : List ℕ) : Type 0 where
  pub groups : length units ≤ 16
  pub sizes : All (λ n. (1 ≤ n) × (n ≤ 65536)) units

-- what is true of each table
pub record IsTable (o : OwnerTable) : Type 0 where
  pub units : AreUnits o.units
  pub some : 1 ≤ o.pipelines
  pub pipelines : o.pipelines ≤ 8
  pub room : o.room < 262144
  pub plans : length o.plans ≤ o.room
  pub takers : All (λ m. m.taker < o.pipelines) (joined o.plans)
