-- What the fields of a station are seen as, and what serving and leaving a round do to the units in hand.
use Rattle.std.specs.Prelude.{◌≡◌, ℕ, ◌+◌, ◌==◌, ℤ, if◌then◌else◌, List, slice_set, Option, Some, None, is_some, option_map}
use Rattle.mp5_words.specs.declared.settings.Settings.{Settings}
use Rattle.code_forms.specs.declared.unit.Unit.{Unit as PlacedUnit}
use Rattle.code_forms.specs.Staged.{Staged, group_start, block_start}
use Rattle.code_forms.specs.StagedMeaning.{Leads, IsPlaced, Serves, Touches}
use Rattle.place_queue.specs.PlaceList.{PlaceList}
use Rattle.shard_rounds.specs.declared.plan.Move.{Move}
use Rattle.run_laws.specs.Run.{run_of}
use Rattle.group_station.specs.Station.{Station, held}

abbrev pub seen : Staged → List (List ℤ) → Settings → ℕ → ℕ → PlaceList → ℕ → List (Option PlacedUnit) → List ℕ → Station
seen code headers settings pipe group queue round hand served = record {
  run = run_of code headers settings;
  pipe = pipe;
  group = group;
  queue = queue;
  round = round;
  hand = hand;
  served = served;
}

-- the group was run on the unit with a number, and no other changed
pub record ServesOne (c : Staged) (g u : ℕ) (old new : List ℤ) (hand after : List (Option PlacedUnit)) (set : ℕ) : Type 0 where
  pub unit : PlacedUnit
  pub now : PlacedUnit
  pub there : held hand u ≡ Some unit
  pub one : after ≡ slice_set hand u (Some now)
  pub group : now.group ≡ unit.group
  pub number : now.number ≡ unit.number
  pub env : Leads c (IsPlaced c g unit.number unit.cells) (group_start c g) (block_start c (g + 1)) old new
  pub cells : Serves c g unit old now.cells
  pub touched : Touches c g unit old set

-- the units in hand after a move, where this pipe may be its giver
abbrev pub given_hand : ℕ → List (Option PlacedUnit) → Move → List (Option PlacedUnit)
given_hand pipe hand m = if m.giver == pipe then slice_set hand m.unit None else hand

-- what it gives then, with its taker
abbrev pub given_unit : ℕ → List (Option PlacedUnit) → Move → Option (ℕ × PlacedUnit)
given_unit pipe hand m = if m.giver == pipe then option_map (λ unit. (m.taker, unit)) (held hand m.unit) else None

-- the unit of a move, where this pipe takes it and it isn't in hand
abbrev pub awaited_by : ℕ → List (Option PlacedUnit) → Move → Option ℕ
awaited_by pipe hand m = if m.taker == pipe then (if is_some (held hand m.unit) then None else Some m.unit) else None

-- the unit that is awaited in a round after one was taken for a round
abbrev pub awaited_after : ℕ → ℕ → Option ℕ → Option ℕ
awaited_after round from awaited = if from == round then None else awaited
