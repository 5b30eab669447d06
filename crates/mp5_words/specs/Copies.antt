-- What an expression is evaluated on, and what is known of a touched array, over values of any kind.
use Rattle.std.specs.Prelude.{ℕ, pos, List, [], ◌∷◌, ◌++◌, slice_set, Option, Some, None}
use Rattle.std.specs.List.{slice_index_or}
use Rattle.mp5_words.specs.declared.hashing.HashKind.{HashKind}
use Rattle.mp5_words.specs.Domain.{Ops, Domain}

-- what an expression is evaluated on: the fields, and a value for each array
pub record Seen (V : Type 0) : Type 0 where
  pub fields : List V
  pub array : ℕ → V

-- a touched array: its index where it was touched first, its latest copy, the guards under which it is touched,
-- and the values assigned to it
pub record Copy (X : Type 0) : Type 0 where
  pub index : X
  pub latest : X
  pub under : List X
  pub stored : List X

-- the index of each array on such fields
abbrev pub Indexes : Type 0 → Type 0
Indexes V = ℕ → List V → V

module _ (V : Type 0) (o : Ops V) where
  -- the value at a place; that of 0 past them all
  abbrev pub at : List V → ℕ → V
  at vs k = slice_index_or vs k (o.number (pos 0))

  -- the hash of the arguments, of which only the first three count
  abbrev pub hash_of : HashKind → List V → V
  hash_of kind vs = o.hash kind (at vs 0) (at vs 1) (at vs 2)

  -- an index is evaluated on the fields alone
  abbrev pub on_fields : List V → Seen V
  on_fields fields = record { fields = fields; array = λ a. o.number (pos 0) }

  -- the latest copy; the value of 0 where the array isn't touched yet
  abbrev pub latest_of : Option (Copy V) → V
  latest_of None = o.number (pos 0)
  latest_of (Some c) = c.latest

module _ (V : Type 0) (d : Domain V) where
  -- an array is touched under a guard, and loaded where it isn't yet
  abbrev pub touched : ℕ → V → V → Option (Copy V) → Copy V
  touched a index guard None = record { index = index; latest = d.load a (d.index a index); under = guard ∷ []; stored = [] }
  touched a index guard (Some c) = record { index = c.index; latest = c.latest; under = c.under ++ guard ∷ []; stored = c.stored }

  abbrev pub touch : Indexes V → List V → V → List (Option (Copy V)) → ℕ → List (Option (Copy V))
  touch indexes fields guard copies a = slice_set copies a (Some (touched a (indexes a fields) guard (slice_index_or copies a None)))
