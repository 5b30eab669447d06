-- Marks of what is shown, spread over the table of what needs what, are exactly what is reached.
use Rattle.std.proofs.Common.{◌≡◌, ℕ, zero, suc, ◌<◌, ◌==◌, ◌&&◌, ◌||◌, inl, inr, ◌⊎◌, Bool, true, false, List, [], ◌∷◌, length, Option, Some, None, refl, sym, ap, subst, ◌∙◌, arith}
use Rattle.std.specs.List.{list_any}
use Rattle.std.proofs.lemmas.Bool.Decides.{Decides-eqb}
use Rattle.dependence.specs.Reach.{Reaches, here, step}
use Rattle.dependence.specs.Uses.{Member, Node, node_at}
use Rattle.dependence.specs.Tables.{has, at, Marked, Closes}
use Rattle.dependence.proofs.UseLemmas as uses
use Rattle.dependence.proofs.ReachLemmas.{join}
use Rattle.flat_graph.specs.ReachedArrays.{ReachesArray, row, MarksReached}
use Rattle.flat_graph.specs.Layouts.{is_of}
use Rattle.flat_graph.specs.Orders.{IsOrdered}
use Rattle.flat_graph.specs.Passes.{any_has, shows_of, Shows, needs_by, IsNeeded, spread_to, Spreads}

-- ---- tests and what they say

pub or_cases : (x y : Bool) → (x || y) ≡ true → (x ≡ true) ⊎ (y ≡ true)
or_cases true y h = inl refl
or_cases false y h = inr h

pub or_left : (x y : Bool) → x ≡ true → (x || y) ≡ true
or_left x y h = ap (λ b. b || y) h

pub or_right : (x y : Bool) → y ≡ true → (x || y) ≡ true
or_right true y h = refl
or_right false y h = h

pub and_both : (x y : Bool) → x ≡ true → y ≡ true → (x && y) ≡ true
and_both true y h k = k
and_both false y h k = h

pub and_cases : (x y : Bool) → (x && y) ≡ true → (x ≡ true) × (y ≡ true)
and_cases true y h = (refl, h)
and_cases false y h = (h, cc)

pub any_member : (p : ℕ → Bool) (xs : List ℕ) → list_any p xs ≡ true → (j : ℕ) × Member j xs × (p j ≡ true)
any_member p [] e = absurd cc
any_member p (x ∷ xs) e = elim (or_cases (p x) (list_any p xs) e) [
  | inl h ↦ (x, inl refl, h)
  | inr h ↦ let r = any_member p xs h in (r.0, inr r.1, r.2)
]

member_any : (p : ℕ → Bool) (xs : List ℕ) (j : ℕ) → Member j xs → p j ≡ true → list_any p xs ≡ true
member_any p [] j m h = elim m [ ]
member_any p (x ∷ xs) j (inl e) h = or_left (p x) (list_any p xs) (subst (λ k. p k ≡ true) e h)
member_any p (x ∷ xs) j (inr m) h = or_right (p x) (list_any p xs) (member_any p xs j m h)

any_node : (p : Node → Bool) (nodes : List Node) → list_any p nodes ≡ true → (i : ℕ) × (i < length nodes) × (p (node_at nodes i) ≡ true)
any_node p [] e = absurd cc
any_node p (n ∷ nodes) e = elim (or_cases (p n) (list_any p nodes) e) [
  | inl h ↦ (0, omega arith, h)
  | inr h ↦ let r = any_node p nodes h in (suc r.0, omega (arith, r.1), r.2)
]

node_any : (p : Node → Bool) (nodes : List Node) (i : ℕ) → i < length nodes → p (node_at nodes i) ≡ true → list_any p nodes ≡ true
node_any p [] i less h = absurd (omega arith)
node_any p (n ∷ nodes) zero less h = or_left (p n) (list_any p nodes) h
node_any p (n ∷ nodes) (suc i) less h = or_right (p n) (list_any p nodes) (node_any p nodes i (omega (arith, less)) h)

is_of_some : (a : ℕ) (o : Option ℕ) → is_of a o ≡ true → o ≡ Some a
is_of_some a None e = absurd cc
is_of_some a (Some b) e = ap Some (sym ((Decides-eqb a b).0 e))

some_is_of : (a : ℕ) (o : Option ℕ) → o ≡ Some a → is_of a o ≡ true
some_is_of a o e = subst (λ x. is_of a x ≡ true) (sym e) ((Decides-eqb a a).1 refl)

-- where one relation says what another does, so does what is reached
along : (R S : ℕ → ℕ → Type 0) → ((a b : ℕ) → R a b → S a b) → {a b : ℕ} → Reaches R a b → Reaches S a b
along R S to here = here
along R S to (step {a} {b} {c} r rest) = step (to a b r) (along R S to rest)

-- one of the arrays that are marked is the array or reaches it
spread_from : (marks : List Bool) (table : List (List Bool)) (n b : ℕ) → spread_to marks table n b ≡ true → (a : ℕ) × (a < n) × (has marks a ≡ true) × (((a == b) || at table a b) ≡ true)
spread_from marks table zero b e = absurd cc
spread_from marks table (suc n) b e = elim (or_cases (spread_to marks table n b) (has marks n && ((n == b) || at table n b)) e) [
  | inl h ↦ let r = spread_from marks table n b h in (r.0, omega (arith, r.1), r.2, r.3)
  | inr h ↦ let both = and_cases (has marks n) ((n == b) || at table n b) h in (n, omega arith, both.0, both.1)
]

from_spread : (marks : List Bool) (table : List (List Bool)) (n a b : ℕ) → a < n → has marks a ≡ true → ((a == b) || at table a b) ≡ true → spread_to marks table n b ≡ true
from_spread marks table zero a b less m t = absurd (omega arith)
from_spread marks table (suc n) a b less m t = elim (last a n less) [
  | inl e ↦ or_right (spread_to marks table n b) (has marks n && ((n == b) || at table n b))
      (and_both (has marks n) ((n == b) || at table n b) (subst (λ k. has marks k ≡ true) e m) (subst (λ k. ((k == b) || at table k b) ≡ true) e t))
  | inr l ↦ or_left (spread_to marks table n b) (has marks n && ((n == b) || at table n b)) (from_spread marks table n a b l m t)
] where
  last : (a n : ℕ) → a < suc n → (a ≡ n) ⊎ (a < n)
  last zero zero less = inl refl
  last zero (suc n) less = inr (omega arith)
  last (suc a) zero less = absurd (omega arith)
  last (suc a) (suc n) less = elim (last a n (omega (arith, less))) [ inl e ↦ inl (ap suc e) | inr l ↦ inr (omega (arith, l)) ]

-- ---- the tables of a graph

module _ (nodes : List Node) (ordered : IsOrdered nodes) (rows : List (List Bool)) (shown : Shows nodes rows) where
  abbrev pub Up : ℕ → ℕ → Type 0
  Up i a = (a < 16) × (has (row rows i) a ≡ true)

  shows_at : (i a : ℕ) (o : Option ℕ) → i < length nodes → (node_at nodes i).array ≡ o → a < 16 → has (row rows i) a ≡ shows_of rows o (node_at nodes i).uses a
  shows_at i a o w e wa = shown.marks i a w wa ∙ ap (λ x. shows_of rows x (node_at nodes i).uses a) e

  pub owned : (i a : ℕ) → i < length nodes → (node_at nodes i).array ≡ Some a → (b : ℕ) → Up i b → b ≡ a
  owned i a w e b u = sym ((Decides-eqb a b).0 (sym (shows_at i b (Some a) w e u.0) ∙ u.1))

  pub own : (i a : ℕ) → i < length nodes → (node_at nodes i).array ≡ Some a → Up i a
  own i a w e = let wa = ordered.arrays i a w e in (wa, shows_at i a (Some a) w e wa ∙ (Decides-eqb a a).1 refl)

  pub gathered : (i a : ℕ) → i < length nodes → (node_at nodes i).array ≡ None → Up i a → (j : ℕ) × Member j (node_at nodes i).uses × Up j a
  gathered i a w e u =
      let r = any_member (λ j. has (row rows j) a) (node_at nodes i).uses (sym (shows_at i a None w e u.0) ∙ u.1) in
      (r.0, r.1, (u.0, r.2))

  pub gathers : (i j a : ℕ) → i < length nodes → (node_at nodes i).array ≡ None → Member j (node_at nodes i).uses → Up j a → Up i a
  gathers i j a w e m u = (u.0, shows_at i a None w e u.0 ∙ member_any (λ k. has (row rows k) a) (node_at nodes i).uses j m u.1)

  module _ (table closed : List (List Bool)) (needed : IsNeeded nodes rows table) (closes : Closes table closed) where
    abbrev pub Needed : ℕ → ℕ → Type 0
    Needed = uses.Needs nodes Up owned own gathered gathers ordered.earlier ordered.there

    marked : (a b : ℕ) → Needed a b → Marked table a b
    marked a b h =
        let n = node_at nodes h.0 in
        let wa = ordered.arrays h.0 a h.2 h.3 in (
          wa,
          h.5.0,
          needed a b wa h.5.0 ∙ node_any (needs_by rows a b) nodes h.0 h.2
              (and_both (is_of a n.array) (any_has rows n.uses b) (some_is_of a n.array h.3) (member_any (λ j. has (row rows j) b) n.uses h.1 h.4 h.5.1)),
        )

    is_needed : (a b : ℕ) → Marked table a b → Needed a b
    is_needed a b h =
        let r = any_node (needs_by rows a b) nodes (sym (needed a b h.0 h.1) ∙ h.2) in
        let n = node_at nodes r.0 in
        let both = and_cases (is_of a n.array) (any_has rows n.uses b) r.2 in
        let u = any_member (λ j. has (row rows j) b) n.uses both.1 in
        (r.0, u.0, r.1, is_of_some a n.array both.0, u.1, (h.1, u.2))

    -- the closed table says what is needed, directly or through others
    pub closed_needs : (a b : ℕ) → a < 16 → b < 16 → ((a == b) || at closed a b) ≡ true → Reaches Needed a b
    closed_needs a b wa wb e = along (Marked table) Needed is_needed ((closes a b wa wb).0 e)

    pub needs_closed : (a b : ℕ) → a < 16 → b < 16 → Reaches Needed a b → ((a == b) || at closed a b) ≡ true
    needs_closed a b wa wb r = (closes a b wa wb).1 (along Needed (Marked table) marked r)

    to_array : (i b : ℕ) → i < length nodes → b < 16 → spread_to (row rows i) closed 16 b ≡ true → ReachesArray nodes i b
    to_array i b w wb e =
        let r = spread_from (row rows i) closed 16 b e in
        let m = uses.shown_reached nodes Up owned own gathered gathers ordered.earlier ordered.there i r.0 w (r.1, r.2) in
        let n = uses.needed_reached nodes Up owned own gathered gathers ordered.earlier ordered.there (closed_needs r.0 b r.1 wb r.3) m.0 m.1 m.2 in
        (n.0, n.1, n.2, join m.3 n.3)

    from_array : (i b : ℕ) → i < length nodes → b < 16 → ReachesArray nodes i b → spread_to (row rows i) closed 16 b ≡ true
    from_array i b w wb h =
        let r = uses.reached_shown nodes Up owned own gathered gathers ordered.earlier ordered.there b h.3 h.1 h.2 in
        from_spread (row rows i) closed 16 r.0 b r.1.0 r.1.1 (needs_closed r.0 b r.1.0 wb r.2)

    pub marks_reached : (new : List (List Bool)) → Spreads closed rows new → MarksReached nodes new
    marks_reached new spreads = record {
      long = spreads.long ∙ shown.long;
      marks = λ i a w wa.
          let is = spreads.marks i a (subst (λ n. i < n) (sym shown.long) w) wa in
          (λ e. to_array i a w wa (sym is ∙ e), λ h. is ∙ from_array i a w wa h);
    }
