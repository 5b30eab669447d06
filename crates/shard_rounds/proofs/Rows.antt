-- The rows of owners, by group.
use Rattle.std.proofs.Common.{◌≡◌, ◌≢◌, ℕ, zero, suc, ◌+◌, ◌<◌, ◌==◌, ◌&&◌, Bool, true, false, cond, List, [], ◌∷◌, ◌++◌, length, slice_index, slice_index_or, slice_set, take, refl, sym, ap, subst, ◌∙◌, arith, length-append, get_or-set_same, get_or-set_other}
use Rattle.std.specs.List.{All}
use Rattle.std.proofs.Math.ListN.{length-set, get_or-append}
use Rattle.std.proofs.Math.Nat.{sub_self}
use Rattle.std.proofs.lemmas.List.{get_or-append_right, take_more}
use Rattle.std.proofs.lemmas.List.{get_or_default}
use Rattle.std.proofs.lemmas.List.Elements.{All-head, All-tail, All-take, All-weaker}
use Rattle.shard_rounds.specs.declared.plan.Move.{Move}
use Rattle.shard_rounds.specs.Rounds.{after_move, after_moves, first_owner}
use Rattle.shard_rounds.specs.Holding.{row_at, first_row, moved_row, moved_rows, RowsAre, HasUnit}

-- a first row has a number for each unit
pub first_row_length : (n g units : ℕ) → length (first_row n g units) ≡ units
first_row_length n g zero = refl
first_row_length n g (suc units) =
    let rest = first_row_length n g units in
    let all = length-append (first_row n g units) (first_owner n g units ∷ []) in
    omega arith

-- which is its first owner
pub first_row_at : (n g units u : ℕ) → u < units → slice_index (first_row n g units) u ≡ first_owner n g u
first_row_at n g zero u lt = absurd (omega arith)
first_row_at n g (suc units) u lt = by (λ other. first_row_at n g units u other) (u == units) refl
  where
    by : (u < units → slice_index (first_row n g units) u ≡ first_owner n g u) → (b : Bool) → (u == units) ≡ b → slice_index (first_row n g units ++ first_owner n g units ∷ []) u ≡ first_owner n g u
    by rest true e =
        let same : u ≡ units = grind arith in
        get_or-append_right (first_row n g units) (first_owner n g units ∷ []) units u 0 (first_row_length n g units) (omega arith)
        ∙ rw (same, sub_self) refl
    by rest false e =
        let other : u < units = grind arith in
        let long = first_row_length n g units in
        get_or-append (first_row n g units) (first_owner n g units ∷ []) 0 u (omega arith) ∙ rest other

-- the rows after a move have the owners after it
row_moved : (units : List ℕ) (rows : List (List ℕ)) (f : ℕ → ℕ → ℕ) (m : Move) → RowsAre units rows f → m.group < length units → m.unit < slice_index units m.group
    → RowsAre units (moved_row rows m) (λ g u. after_move g u (f g u) m)
row_moved units rows f m h group unit = record {
  groups = length-set rows m.group (slice_set (row_at rows m.group) m.unit m.taker) ∙ h.groups;
  widths = λ g lt. wide g lt (m.group == g) refl;
  numbers = λ g u lt less. number g u lt less (m.group == g) refl (m.unit == u) refl;
}
  where
    in' : m.group < length rows
    in' = let all = h.groups in omega arith

    here : (g : ℕ) → m.group ≡ g → row_at (moved_row rows m) g ≡ slice_set (row_at rows m.group) m.unit m.taker
    here g same = ap (λ k. row_at (moved_row rows m) k) (sym same) ∙ get_or-set_same rows m.group (slice_set (row_at rows m.group) m.unit m.taker) [] in'

    there : (g : ℕ) → g ≢ m.group → row_at (moved_row rows m) g ≡ row_at rows g
    there g other = rw get_or-set_other refl

    wide : (g : ℕ) → g < length units → (b : Bool) → (m.group == g) ≡ b → length (row_at (moved_row rows m) g) ≡ slice_index units g
    wide g lt true e =
        let same : m.group ≡ g = grind arith in
        ap length (here g same) ∙ length-set (row_at rows m.group) m.unit m.taker ∙ ap (λ k. length (row_at rows k)) same ∙ h.widths g lt
    wide g lt false e =
        let other : g ≢ m.group = grind arith in
        ap length (there g other) ∙ h.widths g lt

    number : (g u : ℕ) → g < length units → u < slice_index units g → (b : Bool) → (m.group == g) ≡ b → (c : Bool) → (m.unit == u) ≡ c → slice_index (row_at (moved_row rows m) g) u ≡ cond (m.group == g && m.unit == u) m.taker (f g u)
    number g u lt less true e true d =
        let same : m.group ≡ g = grind arith in
        let unit' : m.unit ≡ u = grind arith in
        let long : m.unit < length (row_at rows m.group) = subst (λ n. m.unit < n) (sym (h.widths m.group group)) unit in
        rw (e, d) (ap (λ (row : List ℕ). slice_index row u) (here g same) ∙ ap (λ k. slice_index (slice_set (row_at rows m.group) m.unit m.taker) k) (sym unit') ∙ get_or-set_same (row_at rows m.group) m.unit m.taker 0 long)
    number g u lt less true e false d =
        let same : m.group ≡ g = grind arith in
        let other : u ≢ m.unit = grind arith in
        let kept : slice_index (slice_set (row_at rows m.group) m.unit m.taker) u ≡ slice_index (row_at rows m.group) u = rw get_or-set_other refl in
        rw (e, d) (ap (λ (row : List ℕ). slice_index row u) (here g same) ∙ kept ∙ ap (λ k. slice_index (row_at rows k) u) same ∙ h.numbers g u lt less)
    number g u lt less false e c d =
        let other : g ≢ m.group = grind arith in
        rw e (ap (λ (row : List ℕ). slice_index row u) (there g other) ∙ h.numbers g u lt less)

-- and so after some moves
pub rows_moved : (units : List ℕ) (rows : List (List ℕ)) (f : ℕ → ℕ → ℕ) (ms : List Move) → RowsAre units rows f → All (λ m. (m.group < length units) × (m.unit < slice_index units m.group)) ms
    → RowsAre units (moved_rows rows ms) (λ g u. after_moves g u (f g u) ms)
rows_moved units rows f [] h within = h
rows_moved units rows f (m ∷ ms) h within =
    let first = All-head (λ x. (x.group < length units) × (x.unit < slice_index units x.group)) m ms within in
    rows_moved units (moved_row rows m) (λ g u. after_move g u (f g u) m) ms (row_moved units rows f m h first.0 first.1) (All-tail (λ x. (x.group < length units) × (x.unit < slice_index units x.group)) m ms within)

-- moves in two lists
pub moved_append : (rows : List (List ℕ)) (xs ys : List Move) → moved_rows rows (xs ++ ys) ≡ moved_rows (moved_rows rows xs) ys
moved_append rows [] ys = refl
moved_append rows (x ∷ xs) ys = moved_append (moved_row rows x) xs ys

-- moves keep how many rows there are and how long they are
pub moved_groups : (rows : List (List ℕ)) (ms : List Move) → length (moved_rows rows ms) ≡ length rows
moved_groups rows [] = refl
moved_groups rows (m ∷ ms) = moved_groups (moved_row rows m) ms ∙ length-set rows m.group (slice_set (row_at rows m.group) m.unit m.taker)

one_width : (rows : List (List ℕ)) (m : Move) (g : ℕ) → m.group < length rows → length (row_at (moved_row rows m) g) ≡ length (row_at rows g)
one_width rows m g lt = by (m.group == g) refl
  where
    by : (b : Bool) → (m.group == g) ≡ b → length (row_at (moved_row rows m) g) ≡ length (row_at rows g)
    by true e =
        let same : m.group ≡ g = grind arith in
        ap (λ k. length (row_at (moved_row rows m) k)) (sym same) ∙ ap length (get_or-set_same rows m.group (slice_set (row_at rows m.group) m.unit m.taker) [] lt)
        ∙ length-set (row_at rows m.group) m.unit m.taker ∙ ap (λ k. length (row_at rows k)) same
    by false e =
        let other : g ≢ m.group = grind arith in
        rw get_or-set_other refl

pub moved_widths : (rows : List (List ℕ)) (ms : List Move) (g : ℕ) → All (λ m. m.group < length rows) ms → length (row_at (moved_rows rows ms) g) ≡ length (row_at rows g)
moved_widths rows [] g h = refl
moved_widths rows (m ∷ ms) g h =
    moved_widths (moved_row rows m) ms g
    (subst (λ n. All (λ x. x.group < n) ms) (sym (length-set rows m.group (slice_set (row_at rows m.group) m.unit m.taker))) (All-tail (λ x. x.group < length rows) m ms h))
    ∙ one_width rows m g (All-head (λ x. x.group < length rows) m ms h)

-- the unit of the next move is there after the moves before it
pub next_unit : (rows : List (List ℕ)) (ms : List Move) (i : ℕ) (d : Move) → All (HasUnit rows) ms → i < length ms → HasUnit (moved_rows rows (take i ms)) (slice_index_or ms i d)
next_unit rows ms i d h lt =
    let here = h i d lt in
    record {
      group = let kept = moved_groups rows (take i ms) in let in' = here.group in omega arith;
      unit = let kept = moved_widths rows (take i ms) (slice_index_or ms i d).group (All-take (λ m. m.group < length rows) i ms (All-weaker (HasUnit rows) (λ m. m.group < length rows) (λ m k. k.group) ms h)) in let in' = here.unit in omega arith;
    }

pub next_read : (rows now : List (List ℕ)) (ms : List Move) (i : ℕ) (d : Move) (row : List ℕ) → now ≡ moved_rows rows (take i ms) → All (HasUnit rows) ms → i < length ms
    → (slice_index_or ms i d).unit < length (slice_index_or now (slice_index_or ms i d).group row)
next_read rows now ms i d row e h lt =
    let here : HasUnit now (slice_index_or ms i d) = subst (λ (xss : List (List ℕ)). HasUnit xss (slice_index_or ms i d)) (sym e) (next_unit rows ms i d h lt) in
    subst (λ (xs : List ℕ). (slice_index_or ms i d).unit < length xs) (sym (get_or_default now (slice_index_or ms i d).group row [] here.group)) here.unit

-- one more move
pub moved_more : (rows now : List (List ℕ)) (ms : List Move) (i : ℕ) (d : Move) (row set : List ℕ) → now ≡ moved_rows rows (take i ms) → All (HasUnit rows) ms → i < length ms
    → set ≡ slice_set (slice_index_or now (slice_index_or ms i d).group row) (slice_index_or ms i d).unit (slice_index_or ms i d).taker
    → slice_set now (slice_index_or ms i d).group set ≡ moved_rows rows (take (i + 1) ms)
moved_more rows now ms i d row set e h lt write =
    let here = next_unit rows ms i d h lt in
    let in' : (slice_index_or ms i d).group < length now = subst (λ (xss : List (List ℕ)). (slice_index_or ms i d).group < length xss) (sym e) here.group in
    let is : slice_index_or now (slice_index_or ms i d).group row ≡ row_at now (slice_index_or ms i d).group = get_or_default now (slice_index_or ms i d).group row [] in' in
    ap (λ (xs : List ℕ). slice_set now (slice_index_or ms i d).group xs) (write ∙ ap (λ (xs : List ℕ). slice_set xs (slice_index_or ms i d).unit (slice_index_or ms i d).taker) is)
    ∙ ap (λ (xss : List (List ℕ)). moved_row xss (slice_index_or ms i d)) e
    ∙ sym (moved_append rows (take i ms) (slice_index_or ms i d ∷ []))
    ∙ ap (λ (xs : List Move). moved_rows rows xs) (sym (take_more ms i d lt))

-- the first rows have the first owners
pub rows_first : (units : List ℕ) (rows : List (List ℕ)) (n : ℕ) → length rows ≡ length units → ((g : ℕ) → g < length units → row_at rows g ≡ first_row n g (slice_index units g)) → RowsAre units rows (λ g u. first_owner n g u)
rows_first units rows n long are = record {
  groups = long;
  widths = λ g lt. ap length (are g lt) ∙ first_row_length n g (slice_index units g);
  numbers = λ g u lt less. ap (λ (row : List ℕ). slice_index row u) (are g lt) ∙ first_row_at n g (slice_index units g) u less;
}
