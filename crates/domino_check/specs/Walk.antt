-- The walk over all assignments and conditions of a body in text order, over values of any kind.
use Rattle.std.specs.Prelude.{ℕ, pos, List, [], ◌∷◌, ◌++◌, map, replicate, Option, Some, None, slice_set}
use Rattle.std.specs.List.{fold, slice_index_or}
use Rattle.domino_check.specs.declared.numbered.CheckedExpr.{CheckedExpr, fold-CheckedExpr}
use Rattle.domino_check.specs.declared.numbered.CheckedExpr.TheOpen.{CheckedExpr-F}
use Rattle.domino_check.specs.declared.numbered.CheckedStmt.{CheckedStmt, fold-CheckedStmt}
use Rattle.domino_check.specs.declared.numbered.CheckedStmt.TheOpen as open_form
use Rattle.domino_check.specs.declared.numbered.CheckedArm.{CheckedArm, fold-CheckedArm}
use Rattle.domino_check.specs.NumberedMeaning.{numbered_arrays}
use Rattle.mp5_words.specs.Domain.{Ops, Domain}
use Rattle.mp5_words.specs.Copies.{Seen, Copy, Indexes, at, hash_of, on_fields, latest_of, touch}

-- the latest values of the fields, and what is known of each touched array
pub record Core (V : Type 0) : Type 0 where
  pub fields : List V
  pub copies : List (Option (Copy V))

module _ (V : Type 0) (o : Ops V) where
  -- the value of a form, from those of its operands
  abbrev pub walk_meaning : CheckedExpr-F (Seen V → V) → Seen V → V
  walk_meaning (CheckedExpr-F.Number n) w = o.number n
  walk_meaning (CheckedExpr-F.Field f) w = at V o w.fields f
  walk_meaning (CheckedExpr-F.Cell a) w = w.array a
  walk_meaning (CheckedExpr-F.One op a) w = o.one op (a w)
  walk_meaning (CheckedExpr-F.Two op a b) w = o.two op (a w) (b w)
  walk_meaning (CheckedExpr-F.Pick c a b) w = o.pick (c w) (a w) (b w)
  walk_meaning (CheckedExpr-F.Hash kind args) w = hash_of V o kind (map (λ (a : Seen V → V). a w) args)

  -- the value of an expression on the fields and on a value of each array
  abbrev pub walk_value : CheckedExpr → Seen V → V
  walk_value = fold-CheckedExpr (Seen V → V) walk_meaning

  -- the value of an index on the fields; that of 0 where there is none
  abbrev pub walk_index : Option CheckedExpr → List V → V
  walk_index None fields = o.number (pos 0)
  walk_index (Some index) fields = walk_value index (on_fields V o fields)

-- under which guard, if any, a statement stands, and what it does to the latest values
abbrev pub Walks : Type 0 → Type 0
Walks V = Option V → Core V → Core V

-- an arm: the arrays in its condition, its condition, and its block
pub record Branch (V : Type 0) : Type 0 where
  pub arrays : List ℕ
  pub cond : Seen V → V
  pub body : Option V → Core V → Core V

module _ (V : Type 0) (d : Domain V) (indexes : Indexes V) where
  -- what an expression is evaluated on
  abbrev pub seen_core : Core V → Seen V
  seen_core s = record { fields = s.fields; array = λ a. latest_of V d.ops (slice_index_or s.copies a None) }

  -- the arrays are touched under a guard, one after another
  abbrev pub touch_core : List ℕ → V → Core V → Core V
  touch_core arrays guard s = record { fields = s.fields; copies = fold (touch V d indexes s.fields guard) s.copies arrays }

  -- outside every `if` the guard is 1
  abbrev pub guard_of : Option V → V
  guard_of None = d.ops.number (pos 1)
  guard_of (Some g) = g

  -- outside every `if` the old value goes
  abbrev pub set_in : Option V → V → V → V
  set_in None v old = v
  set_in (Some g) v old = d.ops.pick g v old

  -- an array's latest copy after an assignment; an array that isn't touched stays as it is
  abbrev pub stored_in : ℕ → Option V → V → Option (Copy V) → Option (Copy V)
  stored_in a ctx v None = None
  stored_in a ctx v (Some c) = Some (record {
    index = c.index;
    latest = d.cover a (set_in ctx v c.latest);
    under = c.under;
    stored = c.stored ++ v ∷ [];
  })

  -- one after another
  abbrev pub in_turn : List (Walks V) → Walks V
  in_turn [] ctx s = s
  in_turn (w ∷ ws) ctx s = in_turn ws ctx (w ctx s)

  -- the last block, where there is one
  abbrev pub last_walk : Option (List (Walks V)) → Walks V
  last_walk None ctx s = s
  last_walk (Some body) ctx s = in_turn body ctx s

  -- each condition stands under the failing of those before it, each block under its condition too
  abbrev pub chain : List (Branch V) → Option (List (Walks V)) → Walks V
  chain [] last ctx s = last_walk last ctx s
  chain (b ∷ bs) last ctx s =
      chain bs last (Some (d.no (guard_of ctx) (b.cond (seen_core (touch_core b.arrays (guard_of ctx) s)))))
      (b.body (Some (d.yes (guard_of ctx) (b.cond (seen_core (touch_core b.arrays (guard_of ctx) s))))) (touch_core b.arrays (guard_of ctx) s))

  -- an assignment to a field
  abbrev pub set_field : ℕ → V → Option V → Core V → Core V
  set_field f v ctx s = record { fields = slice_set s.fields f (set_in ctx v (at V d.ops s.fields f)); copies = s.copies }

  -- an assignment to a cell
  abbrev pub set_cell : ℕ → V → Option V → Core V → Core V
  set_cell a v ctx s = record { fields = s.fields; copies = slice_set s.copies a (stored_in a ctx v (slice_index_or s.copies a None)) }

  -- a statement, from its arms and blocks; its arrays are touched first
  abbrev pub walking : open_form.CheckedStmt-F (Walks V) (Branch V) → Walks V
  walking (open_form.CheckedStmt-F.SetField f e) ctx s = set_field f (walk_value V d.ops e (seen_core (touch_core (numbered_arrays e) (guard_of ctx) s))) ctx (touch_core (numbered_arrays e) (guard_of ctx) s)
  walking (open_form.CheckedStmt-F.SetCell a e) ctx s = set_cell a (walk_value V d.ops e (seen_core (touch_core (a ∷ numbered_arrays e) (guard_of ctx) s))) ctx (touch_core (a ∷ numbered_arrays e) (guard_of ctx) s)
  walking (open_form.CheckedStmt-F.If arms last) ctx s = chain arms last ctx s

  -- an arm, from its statements
  abbrev pub branching : open_form.CheckedArm-F (Walks V) (Branch V) → Branch V
  branching arm = record { arrays = numbered_arrays arm.cond; cond = walk_value V d.ops arm.cond; body = in_turn arm.body }

  -- the walk over a statement
  abbrev pub walk : CheckedStmt → Walks V
  walk = fold-CheckedStmt (Walks V) (Branch V) walking branching

  -- the walk over an arm
  abbrev pub branch : CheckedArm → Branch V
  branch = fold-CheckedArm (Walks V) (Branch V) walking branching

  -- the walk over a body, from the header's fields on, with nothing touched in so many arrays
  abbrev pub walked : List CheckedStmt → ℕ → List V → Core V
  walked body arrays header = in_turn (map walk body) None (record { fields = header; copies = replicate arrays None })
