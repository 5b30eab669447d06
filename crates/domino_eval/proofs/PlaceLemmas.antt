-- The places that are kept stay those which the indexes name, because no index of a touched array moves.
use Rattle.std.proofs.Common.{◌≡◌, ℕ, zero, suc, ℤ, pos, ◌+◌, ◌-◌, ◌<◌, ◌≤◌, ◌==◌, Bool, true, false, ◌||◌, List, [], ◌∷◌, ◌++◌, length, map, drop, replicate, get_or, slice_set, None, Some, Option, refl, sym, ap, subst, ◌∙◌, append_assoc, true≢false, inl, inr, get_or-set_other, arith}
use Rattle.std.proofs.lemmas.List.{length-map, set-get_or, append-nil, get_or-map, map-append, length-replicate, get_or-replicate, drop_more, drop_all}
use Rattle.std.proofs.lemmas.Bool.Decides.{eqb_tells}
use Rattle.std.specs.List.{list_any}
use Rattle.std.specs.Prelude.{is_some, ◌*◌}
use Rattle.std.specs.Int.{from_bool}
use Rattle.mp5_words.specs.declared.op.Op1.{Op1}
use Rattle.mp5_words.specs.declared.op.Op2.{Op2}
use Rattle.mp5_words.specs.declared.hashing.HashKind.{HashKind}
use Rattle.mp5_words.specs.Words.{op1, op2, cell}
use Rattle.mp5_words.specs.Cells.{picked, hash_all, touching, bits}
use Rattle.domino_tree.specs.declared.program.Program.{Program}
use Rattle.domino_tree.specs.Execution.{State, Choice}
use Rattle.domino_tree.proofs.ExprLemmas.{Each}
use Rattle.domino_check.specs.declared.numbered.CheckedExpr.{CheckedExpr, fold-roll-CheckedExpr}
use Rattle.domino_check.specs.declared.numbered.CheckedExpr.TheOpen as F
use Rattle.domino_check.specs.declared.numbered.CheckedExpr.TheVariants as e
use Rattle.domino_check.specs.declared.numbered.CheckedStmt.{CheckedStmt}
use Rattle.domino_check.specs.declared.numbered.CheckedStmt.TheVariants as s
use Rattle.domino_check.specs.declared.numbered.CheckedArm.{CheckedArm}
use Rattle.domino_check.specs.Numbering.{numbered_body}
use Rattle.domino_names.specs.Infos.{infos_of}
use Rattle.domino_check.specs.NumberedMeaning.{Indexing, indexing, numbered_arrays, plain_meaning, plain_value, named_place, place, numbered_step, numbered_choice, numbered_exec}
use Rattle.domino_check.specs.Sites.{Site, Assigned, to_field, to_cell, nothing, sites_of, touches, is_touched, mentioning_field, mentions, index_mentions, Moves, NoIndexMoves, program_indexes}
use Rattle.domino_check.specs.Touches.{field_of, touch_of, joined_touches, stmt_touches, arm_touches, touches_of}
use Rattle.domino_check.proofs.MeaningLemmas.{plain-Number, plain-Field, plain-One, plain-Two, plain-Pick, plain-Hash, choice-Arm}
use Rattle.domino_check.proofs.SiteLemmas.{any_append, or_false, length-touching, touching_mark}
use Rattle.domino_check.proofs.SiteForms.{sites_kept, touches-SetField, touches-If, touches-Else, touches-Arm}
use Rattle.domino_check.proofs.TouchedLemmas.{told_body}
use Rattle.domino_check.proofs.TreeLemmas.{expr_induct}
use Rattle.domino_check.proofs.CheckedLemmas.{index_at}
use Rattle.domino_eval.specs.Places.{marks, ArePlaces, among, MoveNone, FieldStays, BodyStays, StmtStays, ArmStays, ChainStays}

-- ---- truths

or_parts : (a b : Bool) → (a || b) ≡ false → (a ≡ false) × (b ≡ false)
or_parts false b h = (refl, h)
or_parts true b h = absurd (true≢false h)

or_left : (a b : Bool) → a ≡ true → (a || b) ≡ true
or_left a b h = λ i. h i || b

or_right : (a b : Bool) → b ≡ true → (a || b) ≡ true
or_right true b h = refl
or_right false b h = h

or_more : (a b c : Bool) → (a || b) ≡ true → (a || (b || c)) ≡ true
or_more true b c h = refl
or_more false b c h = or_left b c h

-- a mark now was one before, or is of these
or_then : (now before these later : Bool) → (now ≡ true → (before || these) ≡ true) → (now || later) ≡ true → (before || (these || later)) ≡ true
or_then now true these later h k = refl
or_then true false these later h k = or_left these later (h refl)
or_then false false these later h k = or_right these later k

-- ---- an index in which a field does not stand

plain-Cell : (a : ℕ) (fields : List ℤ) → plain_value (e.Cell a) fields ≡ pos 0
plain-Cell a fields = ap (λ x. plain_value x fields) (sym (e.rolls-Cell a)) ∙ ap (λ g. g fields) (fold-roll-CheckedExpr (List ℤ → ℤ) plain_meaning (F.CheckedExpr-F.Cell a))

module _ (f : ℕ) where
  mentions-Field : (g : ℕ) → mentions f (e.Field g) ≡ (g == f)
  mentions-Field g = ap (mentions f) (sym (e.rolls-Field g)) ∙ fold-roll-CheckedExpr Bool (mentioning_field f) (F.CheckedExpr-F.Field g)

  mentions-One : (op : Op1) (a : CheckedExpr) → mentions f (e.One op a) ≡ mentions f a
  mentions-One op a = ap (mentions f) (sym (e.rolls-One op a)) ∙ fold-roll-CheckedExpr Bool (mentioning_field f) (F.CheckedExpr-F.One op a)

  mentions-Two : (op : Op2) (a b : CheckedExpr) → mentions f (e.Two op a b) ≡ (mentions f a || mentions f b)
  mentions-Two op a b = ap (mentions f) (sym (e.rolls-Two op a b)) ∙ fold-roll-CheckedExpr Bool (mentioning_field f) (F.CheckedExpr-F.Two op a b)

  mentions-Pick : (c a b : CheckedExpr) → mentions f (e.Pick c a b) ≡ (mentions f c || (mentions f a || mentions f b))
  mentions-Pick c a b = ap (mentions f) (sym (e.rolls-Pick c a b)) ∙ fold-roll-CheckedExpr Bool (mentioning_field f) (F.CheckedExpr-F.Pick c a b)

  mentions-Hash : (kind : HashKind) (args : List CheckedExpr) → mentions f (e.Hash kind args) ≡ list_any (λ (a : Bool). a) (map (mentions f) args)
  mentions-Hash kind args = ap (mentions f) (sym (e.rolls-Hash kind args)) ∙ fold-roll-CheckedExpr Bool (mentioning_field f) (F.CheckedExpr-F.Hash kind args)

  module _ (fields : List ℤ) (z : ℤ) where
    abbrev Stays : CheckedExpr → Type 0
    Stays x = mentions f x ≡ false → plain_value x (slice_set fields f z) ≡ plain_value x fields

    other_field : (g : ℕ) → (g == f) ≡ false → get_or (slice_set fields f z) g (pos 0) ≡ get_or fields g (pos 0)
    other_field g h = elim (eqb_tells g f) [
      | inl same ↦ absurd (true≢false (sym same.0 ∙ h))
      | inr other ↦ get_or-set_other fields f g z (pos 0) other.1
    ]

    args_stay : (args : List CheckedExpr) → Each Stays args → list_any (λ (a : Bool). a) (map (mentions f) args) ≡ false
        → map (λ (a : List ℤ → ℤ). a (slice_set fields f z)) (map plain_value args) ≡ map (λ (a : List ℤ → ℤ). a fields) (map plain_value args)
    args_stay [] each none = refl
    args_stay (x ∷ args) each none =
        let parts = or_parts (mentions f x) (list_any (λ (a : Bool). a) (map (mentions f) args)) none in
        (λ i. each.0 parts.0 i ∷ args_stay args each.1 parts.1 i)

    -- the value of an index in which the field doesn't stand is as before
    value_stays : (x : CheckedExpr) → Stays x
    value_stays = expr_induct Stays
        (λ n none. plain-Number n (slice_set fields f z) ∙ sym (plain-Number n fields))
        (λ g none. plain-Field g (slice_set fields f z) ∙ other_field g (sym (mentions-Field g) ∙ none) ∙ sym (plain-Field g fields))
        (λ a none. plain-Cell a (slice_set fields f z) ∙ sym (plain-Cell a fields))
        (λ op a h none. plain-One op a (slice_set fields f z) ∙ ap (op1 op) (h (sym (mentions-One op a) ∙ none)) ∙ sym (plain-One op a fields))
        (λ op a b h k none.
        let parts = or_parts (mentions f a) (mentions f b) (sym (mentions-Two op a b) ∙ none) in
        plain-Two op a b (slice_set fields f z) ∙ (λ i. op2 op (h parts.0 i) (k parts.1 i)) ∙ sym (plain-Two op a b fields))
        (λ c a b g h k none.
        let parts = or_parts (mentions f c) (mentions f a || mentions f b) (sym (mentions-Pick c a b) ∙ none) in
        let both = or_parts (mentions f a) (mentions f b) parts.1 in
        plain-Pick c a b (slice_set fields f z) ∙ (λ i. picked (g parts.0 i) (h both.0 i) (k both.1 i)) ∙ sym (plain-Pick c a b fields))
        (λ kind args each none.
        plain-Hash kind args (slice_set fields f z) ∙ ap (hash_all kind) (args_stay args each (sym (mentions-Hash kind args) ∙ none)) ∙ sym (plain-Hash kind args fields))

    place_stays : (index : Option CheckedExpr) (length : ℕ) → index_mentions f index ≡ false → named_place index length (slice_set fields f z) ≡ named_place index length fields
    place_stays None length none = refl
    place_stays (Some x) length none = ap (λ v. cell v length) (value_stays x none)

-- ---- marks

-- the mark of an array whose place is kept
kept_mark : (places : List (Option ℕ)) (a n : ℕ) → get_or places a None ≡ Some n → (a < length places) × (get_or (marks places) a false ≡ true)
kept_mark [] a n is = absurd (cc)
kept_mark (p ∷ places) zero n is = (omega arith, ap is_some is)
kept_mark (p ∷ places) (suc a) n is = let rest = kept_mark places a n is in (omega (arith, rest.0), rest.1)

-- an array that was touched already
pub touched_already : (places new : List (Option ℕ)) (a n : ℕ) → new ≡ places → get_or places a None ≡ Some n → marks new ≡ touching (a ∷ []) (marks places)
touched_already places new a n same is = ap marks same ∙ sym (ap (slice_set (marks places) a) (sym (kept_mark places a n is).1) ∙ set-get_or (marks places) a false)

marks_set : (places : List (Option ℕ)) (a n : ℕ) → marks (slice_set places a (Some n)) ≡ slice_set (marks places) a true
marks_set [] a n = refl
marks_set (p ∷ places) zero n = refl
marks_set (p ∷ places) (suc a) n = ap (λ l. is_some p ∷ l) (marks_set places a n)

-- one that is touched first
pub touched_first : (places new : List (Option ℕ)) (a n : ℕ) → new ≡ slice_set places a (Some n) → marks new ≡ touching (a ∷ []) (marks places)
touched_first places new a n is = ap marks is ∙ marks_set places a n

bits_cons : (mark : Bool) (marks : List Bool) → bits (mark ∷ marks) ≡ 2 * bits marks + from_bool mark
bits_cons true marks = omega arith
bits_cons false marks = omega arith

-- the set of the last marks with one more before them
pub bits_more : (places : List (Option ℕ)) (k set n : ℕ) (mark : Bool) → k < length places → set ≡ bits (drop (length (marks places) - k) (marks places)) → mark ≡ is_some (get_or places (length places - 1 - k) None)
    → n ≡ from_bool mark → 2 * set + n ≡ bits (drop (length (marks places) - (k + 1)) (marks places))
bits_more places k set n mark within is here as_number =
    let i : ℕ = length places - 1 - k in
    let inside : i < length (marks places) = omega (arith, length-map places is_some) in
    let last : length (marks places) - (k + 1) ≡ i = omega (arith, length-map places is_some) in
    let next : length (marks places) - k ≡ i + 1 = omega (arith, length-map places is_some) in
    let mark_is : mark ≡ get_or (marks places) i false = here ∙ sym (get_or-map is_some places i None false (omega arith)) in
    (λ j. 2 * is j + as_number j)
    ∙ (λ j. 2 * bits (drop (next j) (marks places)) + from_bool (mark_is j))
    ∙ sym (bits_cons (get_or (marks places) i false) (drop (i + 1) (marks places)))
    ∙ ap bits (sym (drop_more (marks places) i false inside))
    ∙ ap (λ m. bits (drop m (marks places))) (sym last)

-- ---- the kept places

-- none is kept
pub no_places : (ix : Indexing) (fields : List ℤ) (places : List (Option ℕ)) (n : ℕ) → places ≡ replicate n None → ArePlaces ix fields places
no_places ix fields places n is = record { each = λ a m h. absurd (none_at n a m (sym (ap (λ l. get_or l a None) is) ∙ h)) }
  where
    none_at : (n a m : ℕ) → get_or (replicate n None) a None ≡ Some m → ⊥
    none_at zero a m h = cc
    none_at (suc n) zero m h = cc
    none_at (suc n) (suc a) m h = none_at n a m h

pub no_marks : (places : List (Option ℕ)) (n : ℕ) → places ≡ replicate n None → marks places ≡ replicate n false
no_marks places n is = ap marks is ∙ none n
  where
    none : (n : ℕ) → marks (replicate n None) ≡ replicate n false
    none zero = refl
    none (suc n) = ap (λ l. false ∷ l) (none n)

-- an assignment that moves no index of a touched array leaves the places
pub places_stay : (ix : Indexing) (fields new : List ℤ) (before places : List (Option ℕ)) (f : ℕ) (x : CheckedExpr) (z : ℤ) → ArePlaces ix fields places → FieldStays ix (marks before) f x
    → marks places ≡ touching (numbered_arrays x) (marks before) → new ≡ slice_set fields f z → ArePlaces ix new places
places_stay ix fields new before places f x z are stays touched is = record {
  each = λ a n h.
      let kept = kept_mark places a n h in
      let long : length (marks places) ≡ length (marks before) = ap length touched ∙ length-touching (numbered_arrays x) (marks before) in
      let within : a < length (marks before) = omega (arith, kept.0, length-map places is_some) in
      let none = stays.still a within (sym (ap (λ l. get_or l a false) touched) ∙ kept.1) in
      are.each a n h
      ∙ sym (place_stays f fields z (ix.index a) (ix.length a) none)
      ∙ ap (place ix a) (sym is);
}

-- ---- parts of a body

module _ {T : Type 0} (arrays : T → List ℕ) (assigned : T → Option ℕ) (ix : Indexing) (touched : List Bool) where
  -- those in front move none
  pub front_moves : (xs ys : List T) → MoveNone (xs ++ ys) arrays assigned ix touched → MoveNone xs arrays assigned ix touched
  front_moves xs ys moves = record {
    still = λ before x after f a is field within held. moves.still before x (after ++ ys) f a (ap (λ l. l ++ ys) is ∙ append_assoc before (x ∷ after) ys) field within held;
  }

  -- those behind move none, from the marks that those in front leave
  pub back_moves : (xs ys : List T) (now : List Bool) → MoveNone (xs ++ ys) arrays assigned ix touched → length now ≡ length touched
      → ((a : ℕ) → a < length touched → get_or now a false ≡ true → (get_or touched a false || among xs arrays a) ≡ true) → MoveNone ys arrays assigned ix now
  back_moves xs ys now moves long marked = record {
    still = λ before x after f a is field within held.
        let inside : a < length touched = subst (λ n. a < n) long within in
        let all = any_append (λ (t : T). list_any (λ (b : ℕ). b == a) (arrays t)) xs (before ++ x ∷ []) in
        moves.still (xs ++ before) x after f a (ap (λ l. xs ++ l) is ∙ sym (append_assoc xs before (x ∷ after))) field inside
        (ap (λ l. get_or touched a false || among l arrays a) (append_assoc xs before (x ∷ []))
        ∙ ap (λ t. get_or touched a false || t) all
        ∙ or_then (get_or now a false) (get_or touched a false) (among xs arrays a) (among (before ++ x ∷ []) arrays a) (marked a inside) held);
  }

  -- the mark that a condition leaves
  cond_marked : (x : T) (rest : List T) (now : List Bool) (a : ℕ) → now ≡ touching (arrays x) touched → a < length touched → get_or now a false ≡ true
      → (get_or touched a false || among (x ∷ rest) arrays a) ≡ true
  cond_marked x rest now a is inside held =
      or_more (get_or touched a false) (list_any (λ (b : ℕ). b == a) (arrays x)) (among rest arrays a) (sym (touching_mark a (arrays x) touched inside) ∙ sym (ap (λ l. get_or l a false) is) ∙ held)

  -- those behind one
  behind_one : (x : T) (ys : List T) (now : List Bool) → MoveNone (x ∷ ys) arrays assigned ix touched → now ≡ touching (arrays x) touched → MoveNone ys arrays assigned ix now
  behind_one x ys now moves is = back_moves (x ∷ []) ys now moves (ap length is ∙ length-touching (arrays x) touched) (λ a inside held. cond_marked x [] now a is inside held)

  -- those behind these, of which the first alone leaves marks
  behind_cond : (x : T) (xs ys : List T) (now : List Bool) → MoveNone ((x ∷ xs) ++ ys) arrays assigned ix touched → now ≡ touching (arrays x) touched → MoveNone ys arrays assigned ix now
  behind_cond x xs ys now moves is = back_moves (x ∷ xs) ys now moves (ap length is ∙ length-touching (arrays x) touched) (λ a inside held. cond_marked x xs now a is inside held)

  -- one assignment alone
  field_alone : (x : T) (f : ℕ) (e : CheckedExpr) → arrays x ≡ numbered_arrays e → assigned x ≡ Some f → MoveNone (x ∷ []) arrays assigned ix touched → FieldStays ix touched f e
  field_alone x f e are is moves = record {
    still = λ a within held.
        moves.still [] x [] f a refl is within
        (ap (λ t. get_or touched a false || t) (sym (or_false (list_any (λ (b : ℕ). b == a) (arrays x))))
        ∙ ap (λ l. get_or touched a false || list_any (λ (b : ℕ). b == a) l) are
        ∙ sym (touching_mark a (numbered_arrays e) touched within) ∙ held);
  }

among_sites : (sites : List Site) (a : ℕ) → among (map touch_of sites) (λ t. t.arrays) a ≡ is_touched sites a
among_sites [] a = refl
among_sites (x ∷ sites) a = ap (λ t. touches a x || t) (among_sites sites a)

-- a mark that an execution leaves was there, or is of an array that the statements touch
body_marked : (ix : Indexing) (body : List CheckedStmt) (start : State) (now : List Bool) (a : ℕ) → now ≡ (numbered_exec ix body start).touched → a < length start.touched
    → get_or now a false ≡ true → (get_or start.touched a false || among (touches_of body) (λ t. t.arrays) a) ≡ true
body_marked ix body start now a is within held =
    ap (λ t. get_or start.touched a false || t) (ap (λ l. among l (λ t. t.arrays) a) (sym (sites_kept body)) ∙ among_sites (sites_of body) a)
    ∙ (told_body ix a body start within).tells.within (sym (ap (λ l. get_or l a false) is) ∙ held)

-- ---- a whole body

-- where a list is split whose members are those of another one
record Split {T : Type 0} (of : Site → T) (sites : List Site) (before : List T) (x : T) : Type 0 where
  front : List Site
  here : Site
  back : List Site
  all : sites ≡ front ++ here ∷ back
  front_is : map of front ≡ before
  here_is : of here ≡ x

split : {T : Type 0} (of : Site → T) (sites : List Site) (before : List T) (x : T) (after : List T) → map of sites ≡ before ++ x ∷ after → Split of sites before x
split of [] [] x after is = absurd (cc)
split of [] (t ∷ before) x after is = absurd (cc)
split of (s ∷ sites) [] x after is = record { front = []; here = s; back = sites; all = refl; front_is = refl; here_is = cc }
split of (s ∷ sites) (t ∷ before) x after is =
    let head : of s ≡ t = cc in
    let tail : map of sites ≡ before ++ x ∷ after = cc in
    let rest = split of sites before x after tail in
    record { front = s ∷ rest.front; here = rest.here; back = rest.back; all = ap (λ l. s ∷ l) rest.all; front_is = (λ i. head i ∷ rest.front_is i); here_is = rest.here_is }

assigns_field : (x : Assigned) (f : ℕ) → field_of x ≡ Some f → x ≡ to_field f
assigns_field (to_field g) f is = let same : g ≡ f = cc in ap to_field same
assigns_field (to_cell a) f is = absurd (cc)
assigns_field nothing f is = absurd (cc)

not_true : (b : Bool) → (b ≡ true → ⊥) → b ≡ false
not_true true h = absurd (h refl)
not_true false h = refl

-- the sites of a checked program move no index
pub program_moves : (p : Program) (touched : List Bool) (n : ℕ) → NoIndexMoves p → touched ≡ replicate n false → n ≡ length (infos_of p) → BodyStays (indexing p) touched (numbered_body p)
program_moves p touched n moves none count = record {
  still = λ before x after f a is field within held.
      let parts = split touch_of (sites_of (numbered_body p)) before x after (sites_kept (numbered_body p) ∙ is) in
      let inside : a < n = omega (arith, within, ap length none, length-replicate n false) in
      let index = index_at p (program_indexes p) a refl (omega (arith, inside, count)) in
      let unmarked : get_or touched a false ≡ false = ap (λ l. get_or l a false) none ∙ get_or-replicate n a false false inside in
      let sites : List Site = parts.front ++ parts.here ∷ [] in
      let same = map-append touch_of parts.front (parts.here ∷ []) ∙ (λ i. parts.front_is i ++ parts.here_is i ∷ []) in
      let touched_there : is_touched sites a ≡ true =
      sym (among_sites sites a) ∙ ap (λ l. among l (λ t. t.arrays) a) same ∙ sym (λ i. unmarked i || among (before ++ x ∷ []) (λ t. t.arrays) a) ∙ held in
      let assigns = assigns_field parts.here.assigns f (ap (λ t. t.field) parts.here_is ∙ field) in
      not_true (index_mentions f ((indexing p).index a)) (λ mentioned.
      moves parts.front parts.here parts.back parts.all a
      (subst (λ (y : Assigned). Moves (program_indexes p) sites y a) (sym assigns) (touched_there, ap (index_mentions f) index.1 ∙ mentioned)));
}

-- ---- statement by statement

-- the members that are left
drop_next : {X : Type 0} (xs : List X) (i : ℕ) (x : X) → i < length xs → x ≡ get_or xs i x → drop i xs ≡ x ∷ drop (i + 1) xs
drop_next xs i x within here = drop_more xs i x within ∙ ap (λ y. y ∷ drop (i + 1) xs) (sym here)

pub exec_next : (ix : Indexing) (body : List CheckedStmt) (i : ℕ) (x : CheckedStmt) (s new : State) → i < length body → x ≡ get_or body i x → new ≡ numbered_step ix x s
    → numbered_exec ix (drop (i + 1) body) new ≡ numbered_exec ix (drop i body) s
exec_next ix body i x s new within here is = ap (numbered_exec ix (drop (i + 1) body)) is ∙ sym (ap (λ l. numbered_exec ix l s) (drop_next body i x within here))

pub stmt_here : (ix : Indexing) (touched : List Bool) (body : List CheckedStmt) (i : ℕ) (x : CheckedStmt) → i < length body → x ≡ get_or body i x → BodyStays ix touched (drop i body) → StmtStays ix touched x
stmt_here ix touched body i x within here moves =
    front_moves _ _ ix touched (stmt_touches x) (touches_of (drop (i + 1) body)) (subst (BodyStays ix touched) (drop_next body i x within here) moves)

pub stmt_next : (ix : Indexing) (body : List CheckedStmt) (i : ℕ) (x : CheckedStmt) (s : State) (now : List Bool) → i < length body → x ≡ get_or body i x → now ≡ (numbered_step ix x s).touched → length now ≡ length s.touched
    → BodyStays ix s.touched (drop i body) → BodyStays ix now (drop (i + 1) body)
stmt_next ix body i x s now within here is long moves =
    back_moves _ _ ix s.touched (stmt_touches x) (touches_of (drop (i + 1) body)) now (subst (BodyStays ix s.touched) (drop_next body i x within here) moves) long
    (λ a inside held. ap (λ l. get_or s.touched a false || among l (λ t. t.arrays) a) (sym (append-nil (stmt_touches x))) ∙ body_marked ix (x ∷ []) s now a is inside held)

-- the block of an arm, behind its condition
pub block_moves : (ix : Indexing) (touched now : List Bool) (x : CheckedArm) → ArmStays ix touched x → now ≡ touching (numbered_arrays x.cond) touched → BodyStays ix now x.body
block_moves ix touched now x moves is =
    behind_one _ _ ix touched _ (touches_of x.body) now (subst (λ l. MoveNone l (λ t. t.arrays) (λ t. t.field) ix touched) (touches-Arm x.cond x.body) moves) is

-- a statement that assigns a field
pub field_moves : (ix : Indexing) (touched : List Bool) (stmt : CheckedStmt) (f : ℕ) (x : CheckedExpr) → stmt ≡ s.SetField f x → StmtStays ix touched stmt → FieldStays ix touched f x
field_moves ix touched stmt f x is moves =
    field_alone _ _ ix touched _ f x refl refl (subst (λ l. MoveNone l (λ t. t.arrays) (λ t. t.field) ix touched) (ap stmt_touches is ∙ touches-SetField f x) moves)

-- the chain of a statement
pub chain_here : (ix : Indexing) (touched : List Bool) (stmt : CheckedStmt) (arms list : List CheckedArm) (last : Option (List CheckedStmt)) → StmtStays ix touched stmt → stmt ≡ s.If list last → arms ≡ list → ChainStays ix touched arms last
chain_here ix touched stmt arms list None moves is here =
    subst (λ l. ChainStays ix touched l None) (sym here)
    (front_moves _ _ ix touched (joined_touches (map arm_touches list)) [] (subst (λ l. MoveNone l (λ t. t.arrays) (λ t. t.field) ix touched) (ap stmt_touches is ∙ touches-If list) moves))
chain_here ix touched stmt arms list (Some body) moves is here =
    subst (λ l. ChainStays ix touched l (Some body)) (sym here)
    (subst (λ l. MoveNone l (λ t. t.arrays) (λ t. t.field) ix touched) (ap stmt_touches is ∙ touches-Else list body) moves)

-- an arm of the chain
pub arm_here : (ix : Indexing) (touched : List Bool) (arms : List CheckedArm) (last : Option (List CheckedStmt)) (i : ℕ) (x : CheckedArm) → i < length arms → x ≡ get_or arms i x → ChainStays ix touched (drop i arms) last → ArmStays ix touched x
arm_here ix touched arms None i x within here moves =
    front_moves _ _ ix touched (arm_touches x) (joined_touches (map arm_touches (drop (i + 1) arms))) (subst (λ l. ChainStays ix touched l None) (drop_next arms i x within here) moves)
arm_here ix touched arms (Some body) i x within here moves =
    let rest = joined_touches (map arm_touches (drop (i + 1) arms)) in
    front_moves _ _ ix touched (arm_touches x) (rest ++ touches_of body)
    (subst (λ l. MoveNone l (λ t. t.arrays) (λ t. t.field) ix touched) (append_assoc (arm_touches x) rest (touches_of body)) (subst (λ l. ChainStays ix touched l (Some body)) (drop_next arms i x within here) moves))

-- the chain behind an arm whose condition did not hold
pub chain_next : (ix : Indexing) (arms : List CheckedArm) (last : Option (List CheckedStmt)) (i : ℕ) (x : CheckedArm) (touched now : List Bool) → i < length arms → x ≡ get_or arms i x → now ≡ touching (numbered_choice ix x).arrays touched
    → ChainStays ix touched (drop i arms) last → ChainStays ix now (drop (i + 1) arms) last
chain_next ix arms last i x touched now within here is moves = by last moves
  where
    marked : now ≡ touching (numbered_arrays x.cond) touched
    marked = is ∙ ap (λ (c : Choice). touching c.arrays touched) (choice-Arm ix x.cond x.body)

    by : (last : Option (List CheckedStmt)) → ChainStays ix touched (drop i arms) last → ChainStays ix now (drop (i + 1) arms) last
    by None moves =
        let rest = joined_touches (map arm_touches (drop (i + 1) arms)) in
        behind_cond _ _ ix touched _ (touches_of x.body) rest now
        (subst (λ l. MoveNone (l ++ rest) (λ t. t.arrays) (λ t. t.field) ix touched) (touches-Arm x.cond x.body) (subst (λ l. ChainStays ix touched l None) (drop_next arms i x within here) moves)) marked
    by (Some body) moves =
        let rest = joined_touches (map arm_touches (drop (i + 1) arms)) in
        behind_cond _ _ ix touched _ (touches_of x.body) (rest ++ touches_of body) now
        (subst (λ l. MoveNone (l ++ (rest ++ touches_of body)) (λ t. t.arrays) (λ t. t.field) ix touched) (touches-Arm x.cond x.body)
        (subst (λ l. MoveNone l (λ t. t.arrays) (λ t. t.field) ix touched) (append_assoc (arm_touches x) rest (touches_of body))
        (subst (λ l. ChainStays ix touched l (Some body)) (drop_next arms i x within here) moves))) marked

-- the last block, where no arm is left
pub last_here : (ix : Indexing) (touched : List Bool) (arms : List CheckedArm) (last : Option (List CheckedStmt)) (i : ℕ) (block body : List CheckedStmt) → ChainStays ix touched (drop i arms) last → length arms ≤ i → last ≡ Some block → body ≡ block
    → BodyStays ix touched body
last_here ix touched arms last i block body moves past some here =
    subst (BodyStays ix touched) (sym here) (subst (ChainStays ix touched []) some (subst (λ l. ChainStays ix touched l last) (drop_all i arms past) moves))

-- another name of the block
pub block_here : (ix : Indexing) (touched : List Bool) (block body : List CheckedStmt) → BodyStays ix touched block → body ≡ block → BodyStays ix touched body
block_here ix touched block body moves here = subst (BodyStays ix touched) (sym here) moves

pub ruleset moving = (arm_here, stmt_here, block_here, chain_here, last_here)
