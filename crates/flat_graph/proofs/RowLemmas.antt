-- One row more of each table.
use Rattle.std.proofs.Common.{◌≡◌, ℕ, zero, suc, ◌+◌, ◌<◌, ◌≤◌, ◌==◌, ◌||◌, inl, inr, Bool, true, false, All, List, [], ◌∷◌, ◌++◌, length, take, replicate, get_or, slice_set, Option, Some, None, refl, sym, ap, subst, ◌∙◌, arith}
use Rattle.std.specs.List.{list_any}
use Rattle.std.proofs.lemmas.List.{get_or-map, get_or_append_left, get_or-set_same, get_or-set_other}
use Rattle.std.proofs.lemmas.List.Folds.{list_any_more}
use Rattle.std.proofs.Math.Seq.{get_or-append_seam}
use Rattle.std.proofs.lemmas.Bool.Decides.{eqb_tells}
use Rattle.dependence.specs.Uses.{Member, Node, no_node, node_at}
use Rattle.dependence.specs.Tables.{has, at}
use Rattle.flat_graph.specs.declared.node.Node.{Node as CodeNode}
use Rattle.flat_graph.specs.ReachedArrays.{row}
use Rattle.flat_graph.specs.Orders.{IsOrdered, as_node, as_nodes}
use Rattle.flat_graph.specs.Passes.{any_has, shows_of, shown_by, needs_by, spread_to}

-- a node that is looked at
pub node_seen : (ns : List CodeNode) (k : ℕ) (n : CodeNode) → k < length ns → n ≡ get_or ns k n → node_at (as_nodes ns) k ≡ as_node n
node_seen ns k n less is = get_or-map as_node ns k n no_node less ∙ ap as_node (sym is)

pub nodes_long : (ns : List CodeNode) → length (as_nodes ns) ≡ length ns
nodes_long [] = refl
nodes_long (n ∷ ns) = ap suc (nodes_long ns)

-- what holds of each member
pub all_members : (P : ℕ → Type 0) (xs : List ℕ) → ((j : ℕ) → Member j xs → P j) → All P xs
all_members P [] each k d less = absurd (omega arith)
all_members P (x ∷ xs) each zero d less = each x (inl refl)
all_members P (x ∷ xs) each (suc k) d less = all_members P xs (λ j m. each j (inr m)) k d (omega (arith, less))

-- ---- rows that are nothing, or one mark

pub nothing : (n b : ℕ) → has (replicate n false) b ≡ false
nothing zero b = refl
nothing (suc n) zero = refl
nothing (suc n) (suc b) = nothing n b

pub nothing_at : (m n a b : ℕ) → at (replicate m (replicate n false)) a b ≡ false
nothing_at zero n a b = refl
nothing_at (suc m) n zero b = nothing n b
nothing_at (suc m) n (suc a) b = nothing_at m n a b

pub one_mark : (row : List Bool) (a b : ℕ) → a < length row → ((k : ℕ) → has row k ≡ false) → has (slice_set row a true) b ≡ (a == b)
one_mark row a b less none = elim (eqb_tells a b) [
  | inl t ↦ ap (has (slice_set row a true)) (sym t.1) ∙ get_or-set_same row a true false less ∙ sym t.0
  | inr t ↦ let apart : b ≡ a → ⊥ = (λ e. t.1 (sym e)) in get_or-set_other row a b true false apart ∙ none b ∙ sym t.0
]

-- ---- what is shown

any_same : (rows rows' : List (List Bool)) (uses : List ℕ) (b : ℕ) → ((j : ℕ) → Member j uses → row rows j ≡ row rows' j) → any_has rows uses b ≡ any_has rows' uses b
any_same rows rows' [] b same = refl
any_same rows rows' (j ∷ uses) b same = (λ i. has (same j (inl refl) i) b || any_same rows rows' uses b (λ k m. same k (inr m)) i)

shown_same : (rows rows' : List (List Bool)) (o : Option ℕ) (uses : List ℕ) (b : ℕ) → (o ≡ None → (j : ℕ) → Member j uses → row rows j ≡ row rows' j) → shows_of rows o uses b ≡ shows_of rows' o uses b
shown_same rows rows' None uses b same = any_same rows rows' uses b (same refl)
shown_same rows rows' (Some a) uses b same = refl

pub shown_more : (nodes : List Node) → IsOrdered nodes → (rows : List (List Bool)) (k : ℕ) (x : List Bool) → length rows ≡ k → k < length nodes
    → ((i b : ℕ) → i < k → b < 16 → has (row rows i) b ≡ shown_by rows (node_at nodes i) b)
    → ((b : ℕ) → b < 16 → has x b ≡ shown_by rows (node_at nodes k) b)
    → (i b : ℕ) → i < k + 1 → b < 16 → has (row (rows ++ x ∷ []) i) b ≡ shown_by (rows ++ x ∷ []) (node_at nodes i) b
shown_more nodes ordered rows k x long there marks is i b less wb = elim (eqb_tells i k) [
  | inl t ↦ subst (λ n. has (row (rows ++ x ∷ []) n) b ≡ shown_by (rows ++ x ∷ []) (node_at nodes n) b) (sym t.1)
      (ap (λ r. has r b) new ∙ is b wb ∙ stays k there (omega arith))
  | inr t ↦
      let other : i ≡ k → ⊥ = t.1 in
      let before : i < k = omega arith in
      ap (λ r. has r b) (sym (kept i before)) ∙ marks i b before wb ∙ stays i (omega (arith, before, there)) (omega (arith, before))
] where
  kept : (j : ℕ) → j < k → row rows j ≡ row (rows ++ x ∷ []) j
  kept j lj = sym (get_or_append_left rows (x ∷ []) [] j (omega (arith, lj, long)))

  new : row (rows ++ x ∷ []) k ≡ x
  new = subst (λ n. row (rows ++ x ∷ []) n ≡ x) long (get_or-append_seam rows x [] [])

  stays : (n : ℕ) → n < length nodes → n ≤ k → shown_by rows (node_at nodes n) b ≡ shown_by (rows ++ x ∷ []) (node_at nodes n) b
  stays n w le = shown_same rows (rows ++ x ∷ []) (node_at nodes n).array (node_at nodes n).uses b (λ e j m. let lj : j < n = ordered.earlier n j w e m in kept j (omega (arith, lj, le)))

-- ---- what is needed

pub needs_more : (rows table new : List (List Bool)) (nodes : List Node) (k a b : ℕ) → k < length nodes
    → at table a b ≡ list_any (needs_by rows a b) (take k nodes) → at new a b ≡ (at table a b || needs_by rows a b (node_at nodes k))
    → at new a b ≡ list_any (needs_by rows a b) (take (k + 1) nodes)
needs_more rows table new nodes k a b less old is = is ∙ ap (λ t. t || needs_by rows a b (node_at nodes k)) old ∙ sym (list_any_more (needs_by rows a b) nodes k no_node less)

-- ---- what is reached from what is shown

pub spread_more : (table old rows : List (List Bool)) (k : ℕ) (x : List Bool) → k < length rows
    → ((i b : ℕ) → i < k → b < 16 → has (row rows i) b ≡ spread_to (row old i) table 16 b)
    → ((i : ℕ) → k ≤ i → row rows i ≡ row old i)
    → ((b : ℕ) → b < 16 → has x b ≡ spread_to (row rows k) table 16 b)
    → (i b : ℕ) → i < k + 1 → b < 16 → has (row (slice_set rows k x) i) b ≡ spread_to (row old i) table 16 b
spread_more table old rows k x there done left is i b less wb = elim (eqb_tells i k) [
  | inl t ↦ subst (λ n. has (row (slice_set rows k x) n) b ≡ spread_to (row old n) table 16 b) (sym t.1)
      (ap (λ r. has r b) (get_or-set_same rows k x [] there) ∙ is b wb ∙ ap (λ r. spread_to r table 16 b) (left k (omega arith)))
  | inr t ↦ let other : i ≡ k → ⊥ = t.1 in ap (λ r. has r b) (get_or-set_other rows k i x [] other) ∙ done i b (omega arith) wb
]

pub spread_left : (old rows : List (List Bool)) (k : ℕ) (x : List Bool) → ((i : ℕ) → k ≤ i → row rows i ≡ row old i) → (i : ℕ) → k + 1 ≤ i → row (slice_set rows k x) i ≡ row old i
spread_left old rows k x left i le = let other : i ≡ k → ⊥ = (λ e. absurd (omega (arith, e, le))) in get_or-set_other rows k i x [] other ∙ left i (omega (arith, le))
