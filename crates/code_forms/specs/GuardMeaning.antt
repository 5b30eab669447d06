-- What guarded lines do to the fields of a packet and the copies of its arrays, over values of any kind.
use Rattle.std.specs.Prelude.{ℕ, zero, suc, pos, List, [], ◌∷◌, ◌++◌, map, replicate, slice_set, Option, Some, None}
use Rattle.std.specs.List.{fold, slice_index_or}
use Rattle.code_forms.specs.declared.guard.GuardExpr.{GuardExpr, fold-GuardExpr}
use Rattle.code_forms.specs.declared.guard.GuardExpr.TheOpen.{GuardExpr-F}
use Rattle.code_forms.specs.declared.guard.GuardLine.{GuardLine}
use Rattle.code_forms.specs.declared.guard.GuardLine.TheVariants as line
use Rattle.code_forms.specs.declared.guard.ArrayShape.{ArrayShape}
use Rattle.mp5_words.specs.Domain.{Ops, Domain}
use Rattle.mp5_words.specs.Copies.{Seen, Copy, Indexes, at, hash_of, on_fields, latest_of, touch}
use Rattle.code_forms.specs.GuardValid.{line_arrays}

-- ---- the value of an expression

module _ (V : Type 0) (o : Ops V) where
  -- the value of a form, from those of its operands
  abbrev pub guard_meaning : GuardExpr-F (Seen V → V) → Seen V → V
  guard_meaning (GuardExpr-F.Number n) w = o.number n
  guard_meaning (GuardExpr-F.Field f) w = at V o w.fields f
  guard_meaning (GuardExpr-F.Cell a) w = w.array a
  guard_meaning (GuardExpr-F.One op a) w = o.one op (a w)
  guard_meaning (GuardExpr-F.Two op a b) w = o.two op (a w) (b w)
  guard_meaning (GuardExpr-F.Pick c a b) w = o.pick (c w) (a w) (b w)
  guard_meaning (GuardExpr-F.Hash kind args) w = hash_of V o kind (map (λ (a : Seen V → V). a w) args)

  -- the value of an expression on the fields and on a value of each array
  abbrev pub guard_value : GuardExpr → Seen V → V
  guard_value = fold-GuardExpr (Seen V → V) guard_meaning

  -- the value of an index on the fields; that of 0 where there is none
  abbrev pub index_value : Option GuardExpr → List V → V
  index_value None fields = o.number (pos 0)
  index_value (Some index) fields = guard_value index (on_fields V o fields)

-- the index of an array; none past them all
abbrev pub index_at : List ArrayShape → ℕ → Option GuardExpr
index_at shapes array = slice_index_or (map (λ (s : ArrayShape). s.index) shapes) array None

-- how many cells an array has; 1 past them all
abbrev pub length_at : List ArrayShape → ℕ → ℕ
length_at shapes array = slice_index_or (map (λ (s : ArrayShape). s.length) shapes) array 1

-- the value of each array's index
abbrev pub indexes_of : (V : Type 0) → Ops V → List ArrayShape → Indexes V
indexes_of V o shapes a fields = index_value V o (index_at shapes a) fields

-- ---- copies

module _ (V : Type 0) (d : Domain V) where
  -- what an assignment leaves: under guard 0 the new value, else the new or the old one by the guard
  abbrev pub set_under : ℕ → V → V → V → V
  set_under zero guard v old = v
  set_under (suc k) guard v old = d.ops.pick guard v old

  -- an array's latest copy after an assignment; an array that isn't touched stays as it is
  abbrev pub stored_under : ℕ → ℕ → V → V → Option (Copy V) → Option (Copy V)
  stored_under a k guard v None = None
  stored_under a k guard v (Some c) = Some (record {
    index = c.index;
    latest = d.cover a (set_under k guard v c.latest);
    under = c.under;
    stored = c.stored ++ v ∷ [];
  })

-- ---- lines

-- the guard that a line stands under
abbrev pub line_guard : GuardLine → ℕ
line_guard (line.Test cond under holds fails) = under
line_guard (line.SetField field guard value) = guard
line_guard (line.SetCell array guard value) = guard

-- the latest value of each field, what is known of each touched array, and the guards so far
pub record Guarded (V : Type 0) : Type 0 where
  pub fields : List V
  pub copies : List (Option (Copy V))
  pub guards : List V

module _ (V : Type 0) (d : Domain V) where
  -- what an expression is evaluated on
  abbrev pub seen_in : Guarded V → Seen V
  seen_in g = record { fields = g.fields; array = λ a. latest_of V d.ops (slice_index_or g.copies a None) }

  -- the value of a guard
  abbrev pub guard_at : Guarded V → ℕ → V
  guard_at g k = at V d.ops g.guards k

  -- both guards of a test: under one the condition holds, under the other it fails
  abbrev pub tested : V → V → List V
  tested under v = d.yes under v ∷ d.no under v ∷ []

  -- what a line does once its arrays are touched
  abbrev pub done_line : GuardLine → Guarded V → Guarded V
  done_line (line.Test cond under holds fails) g = record {
    fields = g.fields;
    copies = g.copies;
    guards = g.guards ++ tested (guard_at g under) (guard_value V d.ops cond (seen_in g));
  }
  done_line (line.SetField field guard value) g = record {
    fields = slice_set g.fields field (set_under V d guard (guard_at g guard) (guard_value V d.ops value (seen_in g)) (at V d.ops g.fields field));
    copies = g.copies;
    guards = g.guards;
  }
  done_line (line.SetCell array guard value) g = record {
    fields = g.fields;
    copies = slice_set g.copies array (stored_under V d array guard (guard_at g guard) (guard_value V d.ops value (seen_in g)) (slice_index_or g.copies array None));
    guards = g.guards;
  }

  -- the arrays are touched under a guard, one after another
  abbrev pub touch_all : Indexes V → List ℕ → ℕ → Guarded V → Guarded V
  touch_all indexes arrays guard g = record {
    fields = g.fields;
    copies = fold (touch V d indexes g.fields (guard_at g guard)) g.copies arrays;
    guards = g.guards;
  }

  -- a line touches its arrays and then does what it says
  abbrev pub guard_line : Indexes V → GuardLine → Guarded V → Guarded V
  guard_line indexes l g = done_line l (touch_all indexes (line_arrays l) (line_guard l) g)

  -- the lines in text order
  abbrev pub guard_lines : Indexes V → List GuardLine → Guarded V → Guarded V
  guard_lines indexes [] g = g
  guard_lines indexes (l ∷ lines) g = guard_lines indexes lines (guard_line indexes l g)

  -- before the first line: none of so many arrays is touched, and guard 0 is 1
  abbrev pub guard_start : ℕ → List V → Guarded V
  guard_start arrays fields = record { fields = fields; copies = replicate arrays None; guards = d.ops.number (pos 1) ∷ [] }
