-- Levels of arrays are longest paths.
use Rattle.std.proofs.Common.{◌≡◌, ℕ, zero, suc, ◌+◌, ◌<◌, ◌≤◌, Bool, true, false, refl, sym, subst, arith, inl, inr, ◌⊎◌, List, slice_index}
use Rattle.std.specs.Prelude.{◌==◌, replicate}
use Rattle.std.proofs.lemmas.Bool.{false≢true, cases_lt}
use Rattle.std.proofs.lemmas.Bool.Decides.{Decides-eqb}
use Rattle.dependence.specs.Counts.{how_many}
use Rattle.dependence.specs.Paths.{HasPath, IsDepth}
use Rattle.dependence.specs.Tables.{at, Closes}
use Rattle.dependence.specs.Groups.{RestsOn, Linked, IsClosed}
use Rattle.dependence.specs.Levels.{links, AreNextLevels}
use Rattle.dependence.proofs.CountLemmas.{more_by_one, at_most}
use Rattle.dependence.proofs.ReachLemmas.{join, or_cases, or_left, or_right}

pub linked : (rows : List (List Bool)) (a b : ℕ) → a < 16 → b < 16 → links rows a b ≡ true → Linked rows a b
linked rows a b wa wb h = elim (or_cases (a == b) (at rows a b) h) [ inl e ↦ inl ((Decides-eqb a b).0 e) | inr m ↦ inr (wa, wb, m) ]

pub is_linked : (rows : List (List Bool)) (a b : ℕ) → Linked rows a b → links rows a b ≡ true
is_linked rows a b (inl e) = or_left (a == b) (at rows a b) ((Decides-eqb a b).1 e)
is_linked rows a b (inr m) = or_right (a == b) (at rows a b) m.2

pub not_linked : (rows : List (List Bool)) (a b : ℕ) → (Linked rows a b → ⊥) → a < 16 → b < 16 → links rows a b ≡ false
not_linked rows a b apart wa wb = go (links rows a b) refl where
  go : (t : Bool) → links rows a b ≡ t → links rows a b ≡ false
  go true e = absurd (apart (linked rows a b wa wb e))
  go false e = e

-- a table that marks what is reached by steps is closed
pub is_closed : (old rows : List (List Bool)) → Closes old rows → IsClosed rows
is_closed old rows closes a b c (inl e) l = subst (λ x. Linked rows x c) (sym e) l
is_closed old rows closes a b c (inr m) (inl e) = subst (Linked rows a) e (inr m)
is_closed old rows closes a b c (inr m) (inr n) =
    let to = (closes a b m.0 m.1).0 (is_linked rows a b (inr m)) in
    let from = (closes b c n.0 n.1).0 (is_linked rows b c (inr n)) in
    linked rows a c m.0 n.1 ((closes a c m.0 n.1).1 (join to from))

-- one array of sixteen rests on another
pub resting : (rows : List (List Bool)) (a b : ℕ) → RestsOn (Linked rows) a b → (a < 16) × (b < 16)
resting rows a b h = go h.0 where
  go : Linked rows a b → (a < 16) × (b < 16)
  go (inl e) = absurd (h.1 (inl (sym e)))
  go (inr m) = (m.0, m.1)

abbrev zeros : ℕ → List ℕ
zeros n = replicate n 0

pub zero_at : (n a : ℕ) → slice_index (zeros n) a ≡ 0
zero_at zero a = refl
zero_at (suc n) zero = refl
zero_at (suc n) (suc a) = zero_at n a

-- each array reaches some, itself
pub some_size : (rows : List (List Bool)) (a : ℕ) → a < 16 → how_many (links rows a) 16 ≤ 0 → ⊥
some_size rows a w few =
    let h : how_many (λ k. false) 16 < how_many (links rows a) 16 = more_by_one (λ k. false) (links rows a) 16 a (λ k wk e. absurd (false≢true e)) w refl (is_linked rows a a (inl refl)) in
    absurd (omega arith)

-- what rests on another reaches more
module _ (rows : List (List Bool)) (closed : IsClosed rows) where
  abbrev size : ℕ → ℕ
  size a = how_many (links rows a) 16

  smaller : (a b : ℕ) → RestsOn (Linked rows) a b → size b < size a
  smaller a b h =
      let w = resting rows a b h in
      more_by_one (links rows b) (links rows a) 16 a
      (λ k wk l. is_linked rows a k (closed a b k h.0 (linked rows b k w.1 wk l))) w.0
      (not_linked rows b a h.1 w.1 w.0) (is_linked rows a a (inl refl))

  pub next_right : (levels next : List ℕ) (k : ℕ) → AreNextLevels rows levels next
      → ((a : ℕ) → a < 16 → size a ≤ k → IsDepth (RestsOn (Linked rows)) a (slice_index levels a))
      → (a : ℕ) → a < 16 → size a ≤ k + 1 → IsDepth (RestsOn (Linked rows)) a (slice_index next a)
  next_right levels next k is right a wa few =
      record { has = has (slice_index next a) (is a wa).least; longest = longest } where
        at_less : (b : ℕ) → RestsOn (Linked rows) a b → IsDepth (RestsOn (Linked rows)) b (slice_index levels b)
        at_less b r = let s : size b < size a = smaller a b r in right b (resting rows a b r).1 (omega (arith, s, few))

        has : (n : ℕ) → (n ≡ 0) ⊎ ((b : ℕ) × RestsOn (Linked rows) a b × (n ≡ suc (slice_index levels b))) → HasPath (RestsOn (Linked rows)) n a
        has n (inl z) = subst (λ m. HasPath (RestsOn (Linked rows)) m a) (sym z) tt
        has n (inr s) = subst (λ m. HasPath (RestsOn (Linked rows)) m a) (sym s.2) (s.0, s.1, (at_less s.0 s.1).has)

        longest : (m : ℕ) → HasPath (RestsOn (Linked rows)) m a → m ≤ slice_index next a
        longest zero p = omega arith
        longest (suc m) p =
            let less : slice_index levels p.0 < slice_index next a = (is a wa).above p.0 p.1 in
            let le : m ≤ slice_index levels p.0 = (at_less p.0 p.1).longest m p.2 in
            omega (arith, less, le)

  pub next_small : (levels next : List ℕ) (k : ℕ) → AreNextLevels rows levels next
      → ((b : ℕ) → b < 16 → slice_index levels b ≤ k) → (b : ℕ) → b < 16 → slice_index next b ≤ k + 1
  next_small levels next k is small b wb = go (slice_index next b) (is b wb).least where
    go : (n : ℕ) → (n ≡ 0) ⊎ ((c : ℕ) × RestsOn (Linked rows) b c × (n ≡ suc (slice_index levels c))) → n ≤ k + 1
    go n (inl z) = omega (arith, z)
    go n (inr s) = let le : slice_index levels s.0 ≤ k = small s.0 (resting rows b s.0 s.1).1 in omega (arith, le, s.2)

  -- paths are shorter than what the first array reaches
  path_small : (n a : ℕ) → a < 16 → HasPath (RestsOn (Linked rows)) n a → n < size a
  path_small zero a w p = elim (cases_lt 0 (size a)) [ inl lt ↦ lt | inr le ↦ absurd (some_size rows a w le) ]
  path_small (suc n) a w p =
      let h : n < size p.0 = path_small n p.0 (resting rows a p.0 p.1).1 p.2 in
      let less : size p.0 < size a = smaller a p.0 p.1 in
      omega (arith, h, less)

  pub level_small : (a n : ℕ) → a < 16 → IsDepth (RestsOn (Linked rows)) a n → n < 16
  level_small a n w d = let h : n < size a = path_small n a w d.has in let le : size a ≤ 16 = at_most (links rows a) 16 in omega (arith, h, le)

  -- arrays that reach each other have the same paths
  path_join : (a b n : ℕ) → Linked rows a b → Linked rows b a → HasPath (RestsOn (Linked rows)) n b → HasPath (RestsOn (Linked rows)) n a
  path_join a b zero to from p = tt
  path_join a b (suc n) to from p = (p.0, (closed a b p.0 to p.1.0, λ back. p.1.1 (closed p.0 a b back to)), p.2)

  pub level_join : (a b n : ℕ) → Linked rows a b → Linked rows b a → IsDepth (RestsOn (Linked rows)) b n → IsDepth (RestsOn (Linked rows)) a n
  level_join a b n to from d = record { has = path_join a b n to from d.has; longest = λ m p. d.longest m (path_join b a m from to p) }
