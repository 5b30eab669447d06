-- The arrays that are touched site by site, and which assignment moves the index of one.
use Rattle.std.proofs.Common.{◌≡◌, ℕ, suc, ◌+◌, ◌<◌, ◌≤◌, nat_lt, IsTrue, ◌==◌, pos, Bool, true, false, ◌||◌, ◌&&◌, List, [], ◌∷◌, ◌++◌, length, map, take, drop, replicate, get_or, slice_set, None, Some, Option, refl, sym, ap, subst, ◌∙◌, arith, inl, inr, true≢false, drop-cons, get_or-set_same, get_or-set_other}
use Rattle.std.specs.List.{fold, list_any}
use Rattle.std.proofs.lemmas.List.{take_more, length-map, length-set, get_or-map, get_or-replicate, length-replicate, get_or_past, take-append-drop}
use Rattle.std.proofs.lemmas.Bool.{and_parts, ltb-true, ltb-false}
use Rattle.std.proofs.lemmas.Bool.Decides.{eqb_tells}
use Rattle.domino_tree.specs.Value.{Array}
use Rattle.mp5_words.specs.Cells.{touching}
use Rattle.domino_names.specs.declared.fault.CheckFault.{CheckFault}
use Rattle.domino_names.specs.declared.fault.CheckFault.TheVariants as fault
use Rattle.domino_check.specs.declared.numbered.CheckedExpr.{CheckedExpr}
use Rattle.domino_check.specs.declared.numbered.CheckedExpr.TheVariants as expr
use Rattle.domino_check.specs.declared.sites.Touch.{Touch}
use Rattle.domino_names.specs.First.{FirstFault}
use Rattle.domino_check.specs.Indexes.{array_name}
use Rattle.domino_check.specs.Sites.{Assigned, to_field, to_cell, nothing, Site, touches, is_touched, index_mentions, stands_in, Moves, MovesFirst, IndexMovesAt, NoneMoves}
use Rattle.domino_check.specs.Touches.{field_of, touch_of, is_moved, MovedBy}
use Rattle.domino_names.proofs.FirstLemmas.{where_of, nil_or_more, first_with}

-- ---- marks

-- the arrays that these sites touch are marked
abbrev pub marked : List Site → List Bool → List Bool
marked sites marks = fold (λ (m : List Bool) (site : Site). touching site.touches m) marks sites

-- which of n arrays these sites touch
abbrev pub touched_by : ℕ → List Site → List Bool
touched_by n sites = marked sites (replicate n false)

or_three : (x y z : Bool) → ((x || y) || z) ≡ (x || (y || z))
or_three true y z = refl
or_three false y z = refl

pub or_false : (x : Bool) → x ≡ (x || false)
or_false true = refl
or_false false = refl

or_true : (x : Bool) → true ≡ (x || true)
or_true true = refl
or_true false = refl

-- a test on two lists, one after another
pub any_append : {X : Type 0} (test : X → Bool) (xs ys : List X) → list_any test (xs ++ ys) ≡ (list_any test xs || list_any test ys)
any_append test [] ys = refl
any_append test (x ∷ xs) ys = ap (λ t. test x || t) (any_append test xs ys) ∙ sym (or_three (test x) (list_any test xs) (list_any test ys))

pub length-touching : (arrays : List ℕ) (marks : List Bool) → length (touching arrays marks) ≡ length marks
length-touching [] marks = refl
length-touching (b ∷ bs) marks = length-touching bs (slice_set marks b true) ∙ length-set marks b true

module _ (a : ℕ) where
  set_mark : (marks : List Bool) (b : ℕ) → a < length marks → get_or (slice_set marks b true) a false ≡ (get_or marks a false || (b == a))
  set_mark marks b within =
      elim (eqb_tells b a) [
        | inl same ↦
            (λ i. get_or (slice_set marks (same.1 i) true) a false)
            ∙ get_or-set_same marks a true false within
            ∙ or_true (get_or marks a false)
            ∙ (λ i. get_or marks a false || sym same.0 i)
        | inr other ↦
            get_or-set_other marks b a true false (λ e. other.1 (sym e))
            ∙ or_false (get_or marks a false)
            ∙ (λ i. get_or marks a false || sym other.0 i)
      ]

  pub touching_mark : (arrays : List ℕ) (marks : List Bool) → a < length marks → get_or (touching arrays marks) a false ≡ (get_or marks a false || list_any (λ (b : ℕ). b == a) arrays)
  touching_mark [] marks within = or_false (get_or marks a false)
  touching_mark (b ∷ bs) marks within =
      touching_mark bs (slice_set marks b true) (subst (λ n. a < n) (sym (length-set marks b true)) within)
      ∙ (λ i. set_mark marks b within i || list_any (λ (b : ℕ). b == a) bs)
      ∙ or_three (get_or marks a false) (b == a) (list_any (λ (b : ℕ). b == a) bs)

  pub marked_at : (sites : List Site) (marks : List Bool) → a < length marks → get_or (marked sites marks) a false ≡ (get_or marks a false || is_touched sites a)
  marked_at [] marks within = or_false (get_or marks a false)
  marked_at (x ∷ xs) marks within =
      marked_at xs (touching x.touches marks) (subst (λ n. a < n) (sym (length-touching x.touches marks)) within)
      ∙ (λ i. touching_mark x.touches marks within i || is_touched xs a)
      ∙ or_three (get_or marks a false) (touches a x) (is_touched xs a)

  -- an array is marked where a site touches it
  pub touched_at : (n : ℕ) (sites : List Site) → a < n → get_or (touched_by n sites) a false ≡ is_touched sites a
  touched_at n sites within =
      marked_at sites (replicate n false) (subst (λ m. a < m) (sym (length-replicate n false)) within)
      ∙ (λ i. get_or-replicate n a false false within i || is_touched sites a)

fold_push : {A B : Type 0} (f : A → B → A) (s : A) (xs : List B) (x : B) → fold f s (xs ++ x ∷ []) ≡ f (fold f s xs) x
fold_push f s [] x = refl
fold_push f s (y ∷ ys) x = fold_push f (f s y) ys x

-- the arrays of one more site are touched
pub touched_push : (n : ℕ) (before : List Site) (x : Site) → touched_by n (before ++ x ∷ []) ≡ touching x.touches (touched_by n before)
touched_push n before x = fold_push (λ (m : List Bool) (site : Site). touching site.touches m) (replicate n false) before x

-- ---- the site of a place

default_site : Site
default_site = record { touches = []; assigns = nothing; value = expr.Number (pos 0); context = [] }

-- the site at a place, from what is kept of it
pub record At (sites : List Site) (i : ℕ) (x : Touch) : Type 0 where
  pub site : Site
  pub kept : x ≡ touch_of site
  pub more : take (i + 1) sites ≡ take i sites ++ site ∷ []
  pub rest : sites ≡ take i sites ++ site ∷ drop (suc i) sites

pub site_at : (sites : List Site) (all : List Touch) (i : ℕ) (x : Touch) → map touch_of sites ≡ all → i < length all → x ≡ get_or all i x → At sites i x
site_at sites all i x are within here =
    let inside : i < length sites = subst (λ n. i < n) (ap length (sym are) ∙ length-map sites touch_of) within in
    record {
      site = get_or sites i default_site;
      kept = here ∙ ap (λ l. get_or l i x) (sym are) ∙ get_or-map touch_of sites i default_site x inside;
      more = take_more sites i default_site inside;
      rest = sym (take-append-drop i sites) ∙ ap (λ (l : List Site). take i sites ++ l) (drop-cons sites i default_site inside);
    }

-- ---- moved indexes

-- what is marked is what the sites touch
abbrev Marks : List Bool → ℕ → List Site → Type 0
Marks marks n sites = (a : ℕ) → a < n → get_or marks a false ≡ is_touched sites a

module _ (indexes : List (Option CheckedExpr)) (marks : List Bool) (sites : List Site) (are : Marks marks (length indexes) sites) where
  -- an array without an index is not moved
  past : (f a : ℕ) → length indexes ≤ a → IsTrue (stands_in indexes f a) → ⊥
  past f a beyond stands = true≢false (sym stands ∙ ap (index_mentions f) (get_or_past indexes a None beyond))

  below : (f a : ℕ) → IsTrue (stands_in indexes f a) → a < length indexes
  below f a stands = by (nat_lt a (length indexes)) refl
    where
      by : (b : Bool) → nat_lt a (length indexes) ≡ b → a < length indexes
      by true e = ltb-true a (length indexes) e
      by false e = absurd (past f a (ltb-false a (length indexes) e) stands)

  moved_is : (f a : ℕ) → a < length indexes → is_moved marks indexes f a ≡ (is_touched sites a && stands_in indexes f a)
  moved_is f a within = λ i. are a within i && stands_in indexes f a

  unmoved : (f a : ℕ) → a < length indexes → is_moved marks indexes f a ≡ false → Moves indexes sites (to_field f) a → ⊥
  unmoved f a within fine moves = true≢false ((λ i. sym moves.0 i && sym moves.1 i) ∙ sym (moved_is f a within) ∙ fine)

  -- the array that is told is the first that is moved
  pub first_moved : (x : Assigned) (array : ℕ) → MovedBy marks indexes (field_of x) (Some array) → MovesFirst indexes sites x array
  first_moved (to_field f) array moved =
      let parts = and_parts (is_touched sites array) (stands_in indexes f array) (sym (moved_is f array moved.0) ∙ moved.1) in
      ((parts.0, parts.1), λ other less. unmoved f other (omega (arith, less, moved.0)) (moved.2 other less))
  first_moved (to_cell a) array moved = absurd moved
  first_moved nothing array moved = absurd moved

  -- where none is told none is moved
  pub none_moved : (x : Assigned) → MovedBy marks indexes (field_of x) None → (array : ℕ) → Moves indexes sites x array → ⊥
  none_moved (to_field f) moved array moves = let within = below f array moves.1 in unmoved f array within (moved array within) moves
  none_moved (to_cell a) moved array moves = moves
  none_moved nothing moved array moves = moves

-- no site so far moves an index, and the next one moves none
pub none_push : (indexes : List (Option CheckedExpr)) (front : List Site) (x : Site) → NoneMoves indexes front → ((array : ℕ) → Moves indexes (front ++ x ∷ []) x.assigns array → ⊥) → NoneMoves indexes (front ++ x ∷ [])
none_push indexes front x fine here before y after is array moves =
    elim (where_of front before after x y is) [
      | inl h ↦ here array (subst (λ (b : List Site). Moves indexes (b ++ x ∷ []) x.assigns array) h.0 (subst (λ (z : Site). Moves indexes (before ++ z ∷ []) z.assigns array) h.1 moves))
      | inr h ↦ fine before y h.0 h.1 array moves
    ]

-- no site moves an index where there is none
pub none_at_start : (indexes : List (Option CheckedExpr)) → NoneMoves indexes []
none_at_start indexes before x after is array moves = absurd (nil_or_more x before after is)

-- the site at a place is the first that moves an index
pub moves_first : (arrays : List Array) (indexes : List (Option CheckedExpr)) (front back : List Site) (x : Site) (array : ℕ) (f : CheckFault) → NoneMoves indexes front
    → MovesFirst indexes (front ++ x ∷ []) x.assigns array → f ≡ fault.IndexMoves (array_name arrays array) → FirstFault (IndexMovesAt arrays indexes) (front ++ x ∷ back) f
moves_first arrays indexes front back x array f fine moved is =
    first_with (IndexMovesAt arrays indexes) front x back f (λ before y after g e amiss. fine before y after e amiss.0 amiss.1.0) (array, moved, is)

-- ---- the walk

-- the marks of the sites so far, with the arrays of one more
pub marks_more : (n : ℕ) (front : List Site) (x : Site) (t : Touch) (old new : List Bool) → t ≡ touch_of x → old ≡ touched_by n front → new ≡ touching t.arrays old → new ≡ touched_by n (front ++ x ∷ [])
marks_more n front x t old new kept before now =
    now ∙ (λ i. touching (ap (λ (y : Touch). y.arrays) kept i) (before i)) ∙ sym (touched_push n front x)

pub marks_are : (n : ℕ) (sites : List Site) (marks : List Bool) → marks ≡ touched_by n sites → Marks marks n sites
marks_are n sites marks is a within = ap (λ m. get_or m a false) is ∙ touched_at a n sites within
