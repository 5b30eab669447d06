-- Loads and owners stay over the same units.
use Rattle.std.proofs.Common.{◌≡◌, ℕ, zero, suc, ◌+◌, ◌<◌, ◌==◌, ◌≢◌, Bool, true, false, map, replicate, List, [], ◌∷◌, length, slice_index, slice_set, sum, refl, sym, ap, subst, ◌∙◌, arith, get_or-set_same, get_or-set_other}
use Rattle.std.proofs.Math.ListN.{length-set}
use Rattle.std.proofs.lemmas.List.{length-replicate, length-map}
use Rattle.std.proofs.lemmas.List.Sums.{sum_by-set}
use Rattle.shard_rounds.specs.declared.plan.Move.{Move}
use Rattle.shard_rounds.specs.Rounds.{OwnerTable, unmoved}
use Rattle.shard_rounds.specs.Holding.{row_at}
use Rattle.shard_rounds.specs.Choice.{added, load, AreOverSame}

-- the row to which a place was added
pub row_added : (loads : List (List ℕ)) (g u : ℕ) → g < length loads → row_at (added loads g u) g ≡ slice_set (row_at loads g) u (load loads g u + 1)
row_added loads g u lt = get_or-set_same loads g (slice_set (row_at loads g) u (load loads g u + 1)) [] lt

-- one more place leaves each row as long as it was
pub width_added : (loads : List (List ℕ)) (g u k : ℕ) → g < length loads → length (row_at (added loads g u) k) ≡ length (row_at loads k)
width_added loads g u k lt = by (g == k) refl
  where
    by : (b : Bool) → (g == k) ≡ b → length (row_at (added loads g u) k) ≡ length (row_at loads k)
    by true e =
        let same : g ≡ k = grind arith in
        ap (λ i. length (row_at (added loads g u) i)) (sym same) ∙ ap length (row_added loads g u lt) ∙ length-set (row_at loads g) u (load loads g u + 1) ∙ ap (λ i. length (row_at loads i)) same
    by false e =
        let other : k ≢ g = grind arith in
        rw get_or-set_other refl

-- one more place counts one more in its group
pub sum_added : (loads : List (List ℕ)) (g u : ℕ) → g < length loads → u < length (row_at loads g) → sum (row_at (added loads g u) g) ≡ sum (row_at loads g) + 1
sum_added loads g u lt less =
    let set = sum_by-set (λ n. n) (row_at loads g) u (load loads g u + 1) 0 less in
    ap sum (row_added loads g u lt) ∙ omega arith

-- so loads and owners are over the same units after one more place
pub over_added : (loads : List (List ℕ)) (o : OwnerTable) (g u : ℕ) → g < length loads → AreOverSame loads o → AreOverSame (added loads g u) o
over_added loads o g u lt h = record {
  groups = long ∙ h.groups;
  units = λ k less. width_added loads g u k lt ∙ h.units k (subst (λ n. k < n) long less);
}
  where
    long : length (added loads g u) ≡ length loads
    long = length-set loads g (slice_set (row_at loads g) u (load loads g u + 1))

-- and after more plans
pub over_applied : (loads : List (List ℕ)) (o : OwnerTable) (plans : List (List Move)) → AreOverSame loads o → AreOverSame loads (record o { plans = plans })
over_applied loads o plans h = record { groups = h.groups; units = h.units }

-- and where both start over the same units
pub over_started : (units : List ℕ) (pipelines room : ℕ) → AreOverSame (map (λ n. replicate n 0) units) (unmoved units pipelines room)
over_started units pipelines room = record { groups = length-map units (λ n. replicate n 0); units = λ g lt. width units g (subst (λ n. g < n) (length-map units (λ n. replicate n 0)) lt) }
  where
    width : (ns : List ℕ) (g : ℕ) → g < length ns → length (row_at (map (λ n. replicate n 0) ns) g) ≡ slice_index ns g
    width [] g lt = absurd (omega arith)
    width (n ∷ ns) zero lt = length-replicate n 0
    width (n ∷ ns) (suc g) lt = width ns g (omega arith)
