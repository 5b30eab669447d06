-- The least array of each group, and what the numbering of groups keeps.
use Rattle.std.specs.Prelude.{◌≡◌, ℕ, ◌+◌, ◌*◌, ◌<◌, ◌≤◌, ◌↔◌, Bool, List, length, slice_index, is_some, Option, Some, None}
use Rattle.std.specs.List.{slice_index_or}
use Rattle.dependence.specs.Counts.{how_many}
use Rattle.dependence.specs.Groups.{IsOn, Linked, group_of}
use Rattle.dependence.specs.declared.groups.ArrayGroups.{ArrayGroups}

-- two arrays reach each other
abbrev pub Joined : List (List Bool) → ℕ → ℕ → Type 0
Joined rows a b = Linked rows a b × Linked rows b a

-- the least touched array that the array reaches and that reaches it; none where the array isn't touched
abbrev pub IsLeader : List Bool → List (List Bool) → ℕ → Option ℕ → Type 0
IsLeader touched rows a None = IsOn touched a → ⊥
IsLeader touched rows a (Some l) = IsOn touched a × IsOn touched l × Joined rows a l × ((b : ℕ) → b < l → IsOn touched b → Joined rows a b → ⊥)

-- the least array of an array's group
abbrev pub leader_of : List (Option ℕ) → ℕ → Option ℕ
leader_of leaders a = slice_index_or leaders a None

-- each array has the least one of its group
abbrev pub AreLeaders : List Bool → List (List Bool) → List (Option ℕ) → Type 0
AreLeaders touched rows leaders = (a : ℕ) → a < 16 → IsLeader touched rows a (leader_of leaders a)

-- where a group with this least array stands in the order of numbers: by level, then by least array
abbrev pub rank : List ℕ → ℕ → ℕ
rank levels l = 16 * slice_index levels l + l

-- the array is the least of a group of the level
abbrev pub Leads : List ℕ → List (Option ℕ) → ℕ → ℕ → Type 0
Leads levels leaders level a = (slice_index levels a ≡ level) × (leader_of leaders a ≡ Some a)

-- the arrays with this least one have the next number, and the others what they had
pub record Gives (leaders : List (Option ℕ)) (least : ℕ) (old new : ArrayGroups) : Type 0 where
  pub long : length new.of ≡ length old.of
  pub given : (a : ℕ) → a < length old.of → leader_of leaders a ≡ Some least → group_of new.of a ≡ Some old.count
  pub left : (a : ℕ) → (leader_of leaders a ≡ Some least → ⊥) → group_of new.of a ≡ group_of old.of a

-- how many of the first so many arrays have a number
abbrev pub numbered : List (Option ℕ) → ℕ → ℕ
numbered of n = how_many (λ a. is_some (group_of of a)) n

-- each least array is one of sixteen, and the least of its own group
pub record AreLeast (leaders : List (Option ℕ)) : Type 0 where
  pub small : (a l : ℕ) → a < 16 → leader_of leaders a ≡ Some l → l < 16
  pub own : (a l : ℕ) → a < 16 → leader_of leaders a ≡ Some l → leader_of leaders l ≡ Some l

-- the groups whose rank is below a bound are numbered, by rank
pub record Numbered (levels : List ℕ) (leaders : List (Option ℕ)) (bound : ℕ) (groups : ArrayGroups) : Type 0 where
  pub long : length groups.of ≡ 16
  pub few : groups.count ≤ numbered groups.of 16
  pub none : (a : ℕ) → a < 16 → leader_of leaders a ≡ None → group_of groups.of a ≡ None
  pub later : (a l : ℕ) → a < 16 → leader_of leaders a ≡ Some l → bound ≤ rank levels l → group_of groups.of a ≡ None
  pub numbers : (a l : ℕ) → a < 16 → leader_of leaders a ≡ Some l → rank levels l < bound → (g : ℕ) × (g < groups.count) × (group_of groups.of a ≡ Some g)
  pub used : (g : ℕ) → g < groups.count → (a : ℕ) × (a < 16) × (group_of groups.of a ≡ Some g)
  pub ordered : (a b g h l m : ℕ) → a < 16 → b < 16 → group_of groups.of a ≡ Some g → group_of groups.of b ≡ Some h → leader_of leaders a ≡ Some l → leader_of leaders b ≡ Some m → (g < h) ↔ (rank levels l < rank levels m)
