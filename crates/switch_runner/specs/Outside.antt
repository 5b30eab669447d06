-- The outside: what is seen of a store and of a sink, and what a read and a write change of it.
use Rattle.std.specs.Prelude.{◌≡◌, ◌≢◌, ◌≤◌, ◌<◌, ◌+◌, ◌-◌, ◌^◌, ℕ, min, List, ◌++◌, length, take, drop, Option}
use Rattle.std.specs.Option.{option_map}

-- what is seen of a store: the bytes of each name, where it tells them, and how many reads of the name failed
pub record StoreView : Type 0 where
  pub told : List ℕ → Option (List ℕ)
  pub faults : List ℕ → ℕ

-- what is seen of a sink: the bytes that it took, where it tells them, and how many writes failed
pub record SinkView : Type 0 where
  pub taken : Option (List ℕ)
  pub faults : ℕ

-- a count of faults rose; a count that stands at its type's end counts as risen
abbrev pub Rose : ℕ → ℕ → Type 0
Rose before now = min (before + 1) (2 ^ 64 - 1) ≤ now

-- a read at a place of these bytes put n of them into a piece; none into one with room means the end
pub record ReadsPiece (bytes : List ℕ) (at n : ℕ) (piece : List ℕ) : Type 0 where
  pub read : take n piece ≡ take n (drop at bytes)
  pub end : n ≡ 0 → 0 < length piece → length bytes ≤ at

-- a store is as it was but for the count of this name, which didn't fall
pub record ChangesOnly (name : List ℕ) (old new : StoreView) : Type 0 where
  pub told : (other : List ℕ) → new.told other ≡ old.told other
  pub later : old.faults name ≤ new.faults name
  pub others : (other : List ℕ) → other ≢ name → new.faults other ≡ old.faults other

-- a store tells the same, and no count of it fell
pub record IsKept (old new : StoreView) : Type 0 where
  pub told : (name : List ℕ) → new.told name ≡ old.told name
  pub later : (name : List ℕ) → old.faults name ≤ new.faults name

-- what a sink has taken after these bytes, where it tells what it took
abbrev pub gained : List ℕ → Option (List ℕ) → Option (List ℕ)
gained bytes = option_map (λ old. old ++ bytes)

-- a sink took a prefix of these bytes, possibly none of them
abbrev pub TookFront : Option (List ℕ) → Option (List ℕ) → List ℕ → Type 0
TookFront old new bytes = (n : ℕ) × (new ≡ gained (take n bytes) old)

-- a sink grew by this text, and its count didn't fall
pub record Grew (text : List ℕ) (old new : SinkView) : Type 0 where
  pub taken : new.taken ≡ gained text old.taken
  pub later : old.faults ≤ new.faults

-- a sink grew by a prefix of this text, possibly none of it, and its count rose
pub record Stopped (text : List ℕ) (old new : SinkView) : Type 0 where
  pub front : TookFront old.taken new.taken text
  pub later : old.faults ≤ new.faults
  pub rose : Rose old.faults new.faults
