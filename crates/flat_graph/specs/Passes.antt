-- What each pass over the nodes makes of them.
use Rattle.std.specs.Prelude.{◌≡◌, ℕ, zero, suc, ◌<◌, ◌≤◌, ◌==◌, ◌&&◌, ◌||◌, Bool, true, false, List, length, Option, Some, None}
use Rattle.std.specs.List.{list_any}
use Rattle.dependence.specs.Uses.{Member, Node, node_at}
use Rattle.dependence.specs.Tables.{has, at}
use Rattle.flat_graph.specs.ReachedArrays.{row, ReachedFrom}
use Rattle.flat_graph.specs.Layouts.{is_of}

-- whether one of these instructions has a mark at the array
abbrev pub any_has : List (List Bool) → List ℕ → ℕ → Bool
any_has rows uses b = list_any (λ j. has (row rows j) b) uses

-- whether an instruction of this array, which uses these, shows an array: its own alone, else what those show
abbrev pub shows_of : List (List Bool) → Option ℕ → List ℕ → ℕ → Bool
shows_of rows None uses b = any_has rows uses b
shows_of rows (Some a) uses b = a == b

-- whether a node shows an array
abbrev pub shown_by : List (List Bool) → Node → ℕ → Bool
shown_by rows n b = shows_of rows n.array n.uses b

-- the marks of each node are what it shows
pub record Shows (nodes : List Node) (rows : List (List Bool)) : Type 0 where
  pub long : length rows ≡ length nodes
  pub marks : (i b : ℕ) → i < length nodes → b < 16 → has (row rows i) b ≡ shown_by rows (node_at nodes i) b

-- whether a node of an array uses one that shows the other
abbrev pub needs_by : List (List Bool) → ℕ → ℕ → Node → Bool
needs_by rows a b n = is_of a n.array && any_has rows n.uses b

-- the table of which array needs which
abbrev pub IsNeeded : List Node → List (List Bool) → List (List Bool) → Type 0
IsNeeded nodes rows table = (a b : ℕ) → a < 16 → b < 16 → at table a b ≡ list_any (needs_by rows a b) nodes

-- whether one of the first arrays is marked, and is the array or reaches it
abbrev pub spread_to : List Bool → List (List Bool) → ℕ → ℕ → Bool
spread_to marks table zero b = false
spread_to marks table (suc k) b = spread_to marks table k b || (has marks k && ((k == b) || at table k b))

-- each row marks what is reached from the arrays that were marked
pub record Spreads (table : List (List Bool)) (old new : List (List Bool)) : Type 0 where
  pub long : length new ≡ length old
  pub marks : (i b : ℕ) → i < length old → b < 16 → has (row new i) b ≡ spread_to (row old i) table 16 b

-- ---- what is reached from what

-- whether an instruction of this array is marked at another at first: where its array is that one or is reached from it
abbrev pub starts_at : List (List Bool) → Option ℕ → ℕ → Bool
starts_at table None b = false
starts_at table (Some a) b = (b == a) || at table b a

-- the first marks of each node
pub record Begins (nodes : List Node) (table rows : List (List Bool)) : Type 0 where
  pub long : length rows ≡ length nodes
  pub marks : (i b : ℕ) → i < length nodes → b < 16 → has (row rows i) b ≡ starts_at table (node_at nodes i).array b

-- where it does, an instruction hands its marks on to those that it uses
abbrev pub HandsOn : Bool → ℕ → List ℕ → List (List Bool) → List (List Bool) → Type 0
HandsOn does number uses old new = (j b : ℕ) → j < length old → b < 16
    → has (row new j) b ≡ (has (row old j) b || (does && (list_any (λ u. j == u) uses && has (row old number) b)))

-- each mark says what the instruction is reached from
abbrev pub Sound : List Node → List (List Bool) → Type 0
Sound nodes rows = (j b : ℕ) → j < length nodes → b < 16 → has (row rows j) b ≡ true → ReachedFrom nodes j b

-- marks stay and stay true
pub record Grows (nodes : List Node) (old new : List (List Bool)) : Type 0 where
  pub long : length new ≡ length nodes
  pub kept : (j b : ℕ) → j < length nodes → b < 16 → has (row old j) b ≡ true → has (row new j) b ≡ true
  pub sound : Sound nodes old → Sound nodes new

-- each instruction of an array has handed its marks on, among the first ones
abbrev pub HandedBelow : ℕ → List Node → List (List Bool) → List (List Bool) → Type 0
HandedBelow k nodes old new = (i a j b : ℕ) → i < k → i < length nodes → (node_at nodes i).array ≡ Some a
    → Member j (node_at nodes i).uses → b < 16 → has (row old i) b ≡ true → has (row new j) b ≡ true

-- each instruction of no array has handed on what it has, from one on
abbrev pub SettledFrom : ℕ → List Node → List (List Bool) → Type 0
SettledFrom k nodes rows = (i j b : ℕ) → k ≤ i → i < length nodes → (node_at nodes i).array ≡ None
    → Member j (node_at nodes i).uses → b < 16 → has (row rows i) b ≡ true → has (row rows j) b ≡ true
