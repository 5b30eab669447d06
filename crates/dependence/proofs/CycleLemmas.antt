-- A cycle passes an array.
use Rattle.std.proofs.Common.{◌≡◌, ℕ, ◌<◌, ◌≤◌, refl, arith, inl, inr, ◌⊎◌, List, length, Option, Some, None}
use Rattle.dependence.specs.Reach.{Reaches, here, step, Mutual}
use Rattle.dependence.specs.Uses.{Member, Node, node_at, Depends, using, shared}
use Rattle.dependence.proofs.ReachLemmas.{join}

module _ (nodes : List Node) (earlier : (i j : ℕ) → i < length nodes → (node_at nodes i).array ≡ None → Member j (node_at nodes i).uses → j < i) where
  record Passes (i j : ℕ) : Type 0 where
    array : ℕ
    at : ℕ
    there : at < length nodes
    of : (node_at nodes at).array ≡ Some array
    to : Reaches (Depends nodes) i at
    from : Reaches (Depends nodes) at j

  passes : {i j : ℕ} → Reaches (Depends nodes) i j → (j ≤ i) ⊎ Passes i j
  passes (here {a = i}) = inl (omega arith)
  passes (step {a = i} {b = k} {c = j} (using w u) rest) = go (passes rest) (node_at nodes i).array refl where
    go : (j ≤ k) ⊎ Passes k j → (o : Option ℕ) → (node_at nodes i).array ≡ o → (j ≤ i) ⊎ Passes i j
    go p (Some a) e = inr (record { array = a; at = i; there = w; of = e; to = here; from = step (using w u) rest })
    go (inl le) None e = let less : k < i = earlier i k w e u in inl (omega arith)
    go (inr p) None e = inr (record { array = p.array; at = p.at; there = p.there; of = p.of; to = step (using w u) p.to; from = p.from })
  passes (step {a = i} {b = k} {c = j} (shared {a = a} wi wk ei ek) rest) = inr (record { array = a; at = k; there = wk; of = ek; to = step (shared wi wk ei ek) here; from = rest })

  -- two instructions of one class that differ are in a class with an array
  pub through_array : (i j : ℕ) → Mutual (Depends nodes) i j → (i ≡ j) ⊎ ((a : ℕ) × (m : ℕ) × (m < length nodes) × ((node_at nodes m).array ≡ Some a) × Mutual (Depends nodes) i m × Mutual (Depends nodes) j m)
  through_array i j h = elim (passes h.0) [
    | inr p ↦ inr (p.array, p.at, p.there, p.of, (p.to, join p.from h.1), (join h.1 p.to, p.from))
    | inl le ↦ elim (passes h.1) [
      | inr p ↦ inr (p.array, p.at, p.there, p.of, (join h.0 p.to, p.from), (p.to, join p.from h.0))
      | inl ge ↦ inl (omega arith)
    ]
  ]
