-- What a clause sees of an end of a lane.
use Rattle.std.specs.Prelude.{◌≡◌, ℕ, List, [], ◌∷◌, ◌++◌, length}

-- an end: the key of its lane, how many items the lane holds at most, and the items that went through this end,
-- sent or received, in order
pub record Strand (T K : Type 0) : Type 0 where
  pub key : K
  pub capacity : ℕ
  pub items : List T

module _ {T K : Type 0} where
  -- an end of such a lane through which these items went
  abbrev pub strand : K → ℕ → List T → Strand T K
  strand key capacity items = record { key = key; capacity = capacity; items = items }

  -- one item more went through the end
  abbrev pub after : Strand T K → T → Strand T K
  after end x = strand end.key end.capacity (end.items ++ x ∷ [])

  -- as many of the items as the lane holds were sent last and not received
  pub record IsFull (end : Strand T K) : Type 0 where
    pub got : List T
    pub waiting : List T
    pub sent : end.items ≡ got ++ waiting
    pub full : length waiting ≡ end.capacity
