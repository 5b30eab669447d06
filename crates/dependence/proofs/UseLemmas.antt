-- Which arrays reach which, by what each instruction shows.
use Rattle.std.proofs.Common.{◌≡◌, ℕ, zero, suc, ◌<◌, ◌≤◌, refl, sym, subst, arith, List, length, Option, Some, None}
use Rattle.dependence.specs.Reach.{Reaches, here, step}
use Rattle.dependence.specs.Uses.{Member, Node, node_at, Depends, using, shared}
use Rattle.dependence.proofs.ReachLemmas.{join}

-- what instructions show: `shows i a` says that instruction i shows array a. Uses are there, and those of an instruction
-- without an array are earlier
module _ (nodes : List Node) (shows : ℕ → ℕ → Type 0)
    (owned : (i a : ℕ) → i < length nodes → (node_at nodes i).array ≡ Some a → (b : ℕ) → shows i b → b ≡ a)
    (own : (i a : ℕ) → i < length nodes → (node_at nodes i).array ≡ Some a → shows i a)
    (gathered : (i a : ℕ) → i < length nodes → (node_at nodes i).array ≡ None → shows i a → (j : ℕ) × Member j (node_at nodes i).uses × shows j a)
    (gathers : (i j a : ℕ) → i < length nodes → (node_at nodes i).array ≡ None → Member j (node_at nodes i).uses → shows j a → shows i a)
    (earlier : (i j : ℕ) → i < length nodes → (node_at nodes i).array ≡ None → Member j (node_at nodes i).uses → j < i)
    (within : (i j : ℕ) → i < length nodes → Member j (node_at nodes i).uses → j < length nodes) where
  -- an instruction of one array uses one that shows the other
  abbrev pub Needs : ℕ → ℕ → Type 0
  Needs a b = (i : ℕ) × (j : ℕ) × (i < length nodes) × ((node_at nodes i).array ≡ Some a) × Member j (node_at nodes i).uses × shows j b

  -- the instruction reaches one of the array's
  abbrev To : ℕ → ℕ → Type 0
  To i a = (m : ℕ) × (m < length nodes) × ((node_at nodes m).array ≡ Some a) × Reaches (Depends nodes) i m

  -- an array that is shown is reached
  shown_below : (n i a : ℕ) → i < n → n ≤ length nodes → shows i a → To i a
  shown_below zero i a below in_range m = absurd (omega arith)
  shown_below (suc n) i a below in_range m =
      go (λ j (less : j < i) (k : shows j a). shown_below n j a (omega arith) (omega arith) k) (omega arith) (node_at nodes i).array refl where
        go : ((j : ℕ) → j < i → shows j a → To j a) → i < length nodes → (o : Option ℕ) → (node_at nodes i).array ≡ o → To i a
        go before w None e =
            let g = gathered i a w e m in
            let r = before g.0 (earlier i g.0 w e g.1) g.2 in
            (r.0, r.1, r.2, step (using w g.1) r.3)
        go before w (Some b) e = (i, w, subst (λ z. (node_at nodes i).array ≡ Some z) (sym (owned i b w e a m)) e, here)

  pub shown_reached : (i a : ℕ) → i < length nodes → shows i a → To i a
  shown_reached i a w m = shown_below (length nodes) i a w (omega arith) m

  -- an array that is reached is needed by one that is shown
  pub reached_shown : {i m : ℕ} (b : ℕ) → Reaches (Depends nodes) i m → m < length nodes → (node_at nodes m).array ≡ Some b → (a : ℕ) × shows i a × Reaches Needs a b
  reached_shown b (here {a = m}) w e = (b, own m b w e, here)
  reached_shown b (step {a = i} {b = j} {c = m} d rest) w e =
      let r = reached_shown b rest w e in
      by_step i j d r.0 r.1 b r.2 where
        by_step : (i j : ℕ) → Depends nodes i j → (a : ℕ) → shows j a → (b : ℕ) → Reaches Needs a b → (c : ℕ) × shows i c × Reaches Needs c b
        by_step i j (using wi u) a m b r = go (node_at nodes i).array refl where
          go : (o : Option ℕ) → (node_at nodes i).array ≡ o → (c : ℕ) × shows i c × Reaches Needs c b
          go None e = (a, gathers i j a wi e u m, r)
          go (Some c) e = (c, own i c wi e, step (i, j, wi, e, u, m) r)
        by_step i j (shared {a = c} wi wj ei ej) a m b r =
            (a, subst (λ z. shows i z) (sym (owned j c wj ej a m)) (own i c wi ei), r)

  -- so array a reaches array b on the code exactly where it needs it, directly or through others
  pub arrays_reach : (i m a b : ℕ) → i < length nodes → m < length nodes → (node_at nodes i).array ≡ Some a → (node_at nodes m).array ≡ Some b → Reaches (Depends nodes) i m → Reaches Needs a b
  arrays_reach i m a b wi wm ei em r = let s = reached_shown b r wm em in subst (λ z. Reaches Needs z b) (owned i a wi ei s.0 s.1) s.2

  -- an instruction of an array reaches one of each array that its array needs
  pub needed_reached : {a b : ℕ} → Reaches Needs a b → (i : ℕ) → i < length nodes → (node_at nodes i).array ≡ Some a → To i b
  needed_reached (here {a = a}) i w e = (i, w, e, here)
  needed_reached (step {a = a} {b = b} {c = c} need rest) i w e =
      let s = shown_reached need.1 b (within need.0 need.1 need.2 need.4) need.5 in
      let r = needed_reached rest s.0 s.1 s.2 in
      (r.0, r.1, r.2, join (step (shared w need.2 e need.3) (step (using need.2 need.4) s.3)) r.3)

  pub arrays_reached : {a b : ℕ} → Reaches Needs a b → (i m : ℕ) → i < length nodes → m < length nodes → (node_at nodes i).array ≡ Some a → (node_at nodes m).array ≡ Some b → Reaches (Depends nodes) i m
  arrays_reached needs i m wi wm ei em =
      let r = needed_reached needs i wi ei in
      join r.3 (step (shared r.1 wm r.2 em) here)
