-- What a codelet's instructions use, one after another.
use Rattle.std.proofs.Common.{◌≡◌, ◌≢◌, ℕ, zero, suc, ◌+◌, ◌-◌, ◌<◌, ◌≤◌, refl, sym, ap, ◌∙◌, subst, arith, inl, inr, ◌⊎◌, List, [], ◌∷◌, length, slice_index, Option, Some, None}
use Rattle.std.proofs.lemmas.Bool.Decides.{eqb_tells}
use Rattle.code_forms.specs.declared.layout.Spot.{Spot}
use Rattle.code_forms.specs.declared.layout.Spot.TheVariants as spot
use Rattle.dependence.specs.Uses.{Member, Node, node_at}
use Rattle.flat_graph.specs.Layouts.{class_at, spot_at}
use Rattle.stage_packing.specs.Depths.{IsHead, IsHeadOf, IsPrevious, IsOver, IsRaised, Runs, depth_at, Needs, using, behind}

-- ---- members of a list by their places

pub place_of : (x : ℕ) (xs : List ℕ) → Member x xs → (k : ℕ) × (k < length xs) × (slice_index xs k ≡ x)
place_of x [] m = elim m [ ]
place_of x (y ∷ xs) (inl e) = (zero, omega arith, sym e)
place_of x (y ∷ xs) (inr m) = let r = place_of x xs m in (suc r.0, omega (arith, r.1), r.2)

pub member_at : (xs : List ℕ) (k : ℕ) → k < length xs → Member (slice_index xs k) xs
member_at [] k w = absurd (omega arith)
member_at (x ∷ xs) zero w = inl refl
member_at (x ∷ xs) (suc k) w = inr (member_at xs k (omega (arith, w)))

-- ---- the group before

pub previous_is : (members of : List (Option ℕ)) (s : Spot) (g : ℕ) (o : Option ℕ) → s ≡ spot.Group g → (g ≡ 0 → ⊥) → IsHeadOf members of (g - 1) o → IsPrevious members of s o
previous_is members of s g None e ne h = λ f m same head. h m (subst (λ x. IsHead members of x m) (one f same) head) where
  one : (f : ℕ) → s ≡ spot.Group (suc f) → f ≡ g - 1
  one f same = let n : g ≡ suc f = number (sym e ∙ same) in omega (arith, n) where
    number : spot.Group g ≡ spot.Group (suc f) → g ≡ suc f
    number q = cc
previous_is members of s g (Some m) e ne h = (g - 1, e ∙ ap spot.Group (omega (arith, ne)), h)

-- ---- one more that is used

module _ (uses classes depths : List ℕ) (class : ℕ) where
  abbrev pub Above : ℕ → ℕ → Type 0
  Above n d = (k : ℕ) → k < n → class ≢ class_at classes (slice_index uses k) → depth_at depths classes (slice_index uses k) < d

  abbrev pub Least : ℕ → Type 0
  Least d = (d ≡ slice_index depths class) ⊎ ((k : ℕ) × (k < length uses) × (class ≢ class_at classes (slice_index uses k)) × (d ≡ suc (depth_at depths classes (slice_index uses k))))

  pub above_next : (n d e : ℕ) → Above n d → d ≤ e → (class ≢ class_at classes (slice_index uses n) → depth_at depths classes (slice_index uses n) < e) → Above (n + 1) e
  above_next n d e h le more k w ne = elim (eqb_tells k n) [
    | inl s ↦ subst (λ j. class ≢ class_at classes (slice_index uses j) → depth_at depths classes (slice_index uses j) < e) (sym s.1) more ne
    | inr s ↦ let other : k ≡ n → ⊥ = s.1 in let less : depth_at depths classes (slice_index uses k) < d = h k (omega (arith, w)) ne in omega (arith, less, le)
  ]

  pub least_next : (n d e : ℕ) → n < length uses → Least d
      → (e ≡ d) ⊎ ((class ≢ class_at classes (slice_index uses n)) × (e ≡ suc (depth_at depths classes (slice_index uses n)))) → Least e
  least_next n d e w h (inl s) = subst Least (sym s) h
  least_next n d e w h (inr m) = inr (n, w, m.0, m.1)

  pub over_all : (n d : ℕ) → length uses ≤ n → slice_index depths class ≤ d → Above n d → Least d → IsOver classes depths class uses d
  over_all n d all own above least = record {
    own = own;
    above = λ j m ne. (
        let p = place_of j uses m in
        subst (λ x. depth_at depths classes x < d) p.2 (above p.0 (omega (arith, p.1, all)) (λ e. ne (e ∙ ap (class_at classes) p.2))));
    least = elim least [ inl s ↦ inl s | inr l ↦ inr (slice_index uses l.0, member_at uses l.0 l.1, l.2, l.3) ];
  }

-- ---- an instruction raises its codelet

module _ (nodes : List Node) (classes : List ℕ) (members of : List (Option ℕ)) (spots : List Spot) (count : ℕ) (runs : Runs nodes classes members of spots count)
    (there : (i j : ℕ) → i < length nodes → Member j (node_at nodes i).uses → j < length nodes) (depths : List ℕ) (i d : ℕ) (wi : i < length nodes)
    (over : IsOver classes depths (class_at classes i) (node_at nodes i).uses d) where
  -- it is of no group behind another
  pub raised_alone : IsPrevious members of (spot_at spots i) None → IsRaised nodes classes spots depths i d
  raised_alone none = record {
    own = over.own;
    above = above;
    least = elim over.least [ inl s ↦ inl s | inr l ↦ inr (l.0, using wi (there i l.0 wi l.1) (l.1, l.2), l.3) ];
  } where
    above : (j : ℕ) → Needs nodes classes spots i j → depth_at depths classes j < d
    above j (using w wj u) = over.above j u.0 u.1
    above j (behind w wj n) = absurd (let h = runs.headed j n.0 wj n.2 in none n.0 h.0 n.1 h.1)

  -- it is of a group behind that of another
  pub raised_behind : (m e : ℕ) → IsPrevious members of (spot_at spots i) (Some m) → d ≤ e → depth_at depths classes m < e
      → (e ≡ d) ⊎ (e ≡ suc (depth_at depths classes m)) → IsRaised nodes classes spots depths i e
  raised_behind m e h le less either = record {
    own = omega (arith, over.own, le);
    above = above;
    least = elim either [
      | inl s ↦ elim over.least [ inl t ↦ inl (s ∙ t) | inr l ↦ inr (l.0, using wi (there i l.0 wi l.1) (l.1, l.2), s ∙ l.3) ]
      | inr s ↦ let p = runs.heads h.0 m h.2 in inr (m, behind wi p.0 (h.0, h.1, p.1), s)
    ];
  } where
    number : {f g : ℕ} → spot.Group (suc f) ≡ spot.Group (suc g) → f ≡ g
    number q = cc

    above : (j : ℕ) → Needs nodes classes spots i j → depth_at depths classes j < e
    above j (using w wj u) = let l : depth_at depths classes j < d = over.above j u.0 u.1 in omega (arith, l, le)
    above j (behind w wj n) =
        let p = runs.heads h.0 m h.2 in
        let g : n.0 ≡ h.0 = number (sym n.1 ∙ h.1) in
        let one : class_at classes j ≡ class_at classes m = runs.one_codelet j m n.0 wj p.0 n.2 (p.1 ∙ ap spot.Group (sym g)) in
        subst (λ c. slice_index depths c < e) (sym one) less
