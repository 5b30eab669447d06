-- One instruction more that hands its marks on, and what that makes of all of them.
use Rattle.std.proofs.Common.{◌≡◌, ℕ, ◌+◌, ◌<◌, ◌==◌, ◌&&◌, ◌||◌, not, inl, inr, ◌⊎◌, Bool, true, false, List, [], ◌∷◌, ◌++◌, length, slice_set, Option, Some, None, refl, sym, ap, subst, ◌∙◌, arith}
use Rattle.std.specs.List.{list_any}
use Rattle.std.specs.Option.{is_some, is_none}
use Rattle.std.proofs.lemmas.List.{get_or_append_left, get_or-set_same, get_or-set_other}
use Rattle.std.proofs.Math.Seq.{get_or-append_seam}
use Rattle.std.proofs.lemmas.Bool.Decides.{Decides-eqb, eqb_tells}
use Rattle.dependence.specs.Reach.{Reaches, here, step}
use Rattle.dependence.specs.Uses.{Member, Node, node_at, Depends, using, shared}
use Rattle.dependence.specs.Tables.{has, at, Closes}
use Rattle.dependence.proofs.ReachLemmas.{join}
use Rattle.dependence.proofs.UseLemmas as uses
use Rattle.flat_graph.specs.ReachedArrays.{row, ReachedFrom, MarksReachedFrom}
use Rattle.flat_graph.specs.Orders.{IsOrdered}
use Rattle.flat_graph.specs.Passes.{Shows, IsNeeded, starts_at, Begins, HandsOn, Sound, Grows, HandedBelow, SettledFrom}
use Rattle.flat_graph.proofs.MarkLemmas.{or_cases, or_left, or_right, and_both, and_cases, Up, owned, own, gathered, gathers, Needed, closed_needs, needs_closed}

-- the array itself is marked in its column
pub column_marked : (row : List Bool) (table : List (List Bool)) (a b : ℕ) → a < length row → has row b ≡ at table b a → has (slice_set row a true) b ≡ ((b == a) || at table b a)
column_marked row table a b less is = elim (eqb_tells b a) [
  | inl t ↦ ap (has (slice_set row a true)) t.1 ∙ get_or-set_same row a true false less ∙ ap (λ z. z || at table b a) (sym t.0)
  | inr t ↦ get_or-set_other row a b true false t.1 ∙ is ∙ ap (λ z. z || at table b a) (sym t.0)
]

-- the marks of one array more
pub column_more : (row : List Bool) (table : List (List Bool)) (a k : ℕ) (x : Bool) → k < length row → x ≡ at table k a → ((b : ℕ) → b < k → has row b ≡ at table b a)
    → (b : ℕ) → b < k + 1 → has (slice_set row k x) b ≡ at table b a
column_more row table a k x less is done b wb = elim (eqb_tells b k) [
  | inl t ↦ subst (λ n. has (slice_set row k x) n ≡ at table n a) (sym t.1) (get_or-set_same row k x false less ∙ is)
  | inr t ↦ let other : b ≡ k → ⊥ = t.1 in get_or-set_other row k b x false other ∙ done b (omega arith)
]

-- the first marks of one node more
pub begins_more : (nodes : List Node) (table rows : List (List Bool)) (k : ℕ) (x : List Bool) → length rows ≡ k
    → ((i b : ℕ) → i < k → b < 16 → has (row rows i) b ≡ starts_at table (node_at nodes i).array b)
    → ((b : ℕ) → b < 16 → has x b ≡ starts_at table (node_at nodes k).array b)
    → (i b : ℕ) → i < k + 1 → b < 16 → has (row (rows ++ x ∷ []) i) b ≡ starts_at table (node_at nodes i).array b
begins_more nodes table rows k x long marks is i b less wb = elim (eqb_tells i k) [
  | inl t ↦ subst (λ n. has (row (rows ++ x ∷ []) n) b ≡ starts_at table (node_at nodes n).array b) (sym t.1)
      (ap (λ r. has r b) (subst (λ n. row (rows ++ x ∷ []) n ≡ x) long (get_or-append_seam rows x [] [])) ∙ is b wb)
  | inr t ↦
      let other : i ≡ k → ⊥ = t.1 in
      let before : i < k = omega arith in
      ap (λ r. has r b) (get_or_append_left rows (x ∷ []) [] i (omega (arith, before, long))) ∙ marks i b before wb
]

-- ---- one that hands on

any_is : (j : ℕ) (xs : List ℕ) → Member j xs → list_any (λ u. j == u) xs ≡ true
any_is j [] m = elim m [ ]
any_is j (x ∷ xs) (inl e) = or_left (j == x) (list_any (λ u. j == u) xs) ((Decides-eqb j x).1 e)
any_is j (x ∷ xs) (inr m) = or_right (j == x) (list_any (λ u. j == u) xs) (any_is j xs m)

is_any : (j : ℕ) (xs : List ℕ) → list_any (λ u. j == u) xs ≡ true → Member j xs
is_any j [] e = absurd cc
is_any j (x ∷ xs) e = elim (or_cases (j == x) (list_any (λ u. j == u) xs) e) [ inl h ↦ inl ((Decides-eqb j x).0 h) | inr h ↦ inr (is_any j xs h) ]

some_tells : (o : Option ℕ) (a : ℕ) → o ≡ Some a → is_some o ≡ true
some_tells o a e = ap is_some e

none_tells : (o : Option ℕ) → o ≡ None → is_none o ≡ true
none_tells o e = ap is_none e

pub told_none : (r s : Bool) → s ≡ not r → r ≡ not s
told_none true s e = ap not (sym e)
told_none false s e = ap not (sym e)

tells_none : (o : Option ℕ) → is_none o ≡ true → o ≡ None
tells_none None e = refl
tells_none (Some a) e = absurd cc

module _ (nodes : List Node) (ordered : IsOrdered nodes) (first rows new : List (List Bool)) (k : ℕ) (does : Bool)
    (there : k < length nodes) (grows : Grows nodes first rows) (long : length new ≡ length rows)
    (hands : HandsOn does k (node_at nodes k).uses rows new) where
  -- a mark is old, or was handed on
  cases : (j b : ℕ) → j < length nodes → b < 16 → has (row new j) b ≡ true → (has (row rows j) b ≡ true) ⊎ ((does ≡ true) × Member j (node_at nodes k).uses × (has (row rows k) b ≡ true))
  cases j b w wb e =
      let given : Bool = list_any (λ u. j == u) (node_at nodes k).uses && has (row rows k) b in
      elim (or_cases (has (row rows j) b) (does && given) (sym (hands j b (omega (arith, w, grows.long)) wb) ∙ e)) [
        | inl h ↦ inl h
        | inr h ↦
            let one = and_cases does given h in
            let two = and_cases (list_any (λ u. j == u) (node_at nodes k).uses) (has (row rows k) b) one.1 in
            inr (one.0, is_any j (node_at nodes k).uses two.0, two.1)
      ]

  stays : (j b : ℕ) → j < length nodes → b < 16 → has (row rows j) b ≡ true → has (row new j) b ≡ true
  stays j b w wb e =
      hands j b (omega (arith, w, grows.long)) wb ∙ or_left (has (row rows j) b) (does && (list_any (λ u. j == u) (node_at nodes k).uses && has (row rows k) b)) e

  given : (j b : ℕ) → does ≡ true → Member j (node_at nodes k).uses → b < 16 → has (row rows k) b ≡ true → has (row new j) b ≡ true
  given j b d m wb e =
      let w : j < length nodes = ordered.there k j there m in
      let any : Bool = list_any (λ u. j == u) (node_at nodes k).uses in
      hands j b (omega (arith, w, grows.long)) wb
      ∙ or_right (has (row rows j) b) (does && (any && has (row rows k) b)) (and_both does (any && has (row rows k) b) d (and_both any (has (row rows k) b) (any_is j (node_at nodes k).uses m) e))

  pub grows_more : Grows nodes first new
  grows_more = record {
    long = long ∙ grows.long;
    kept = λ j b w wb e. stays j b w wb (grows.kept j b w wb e);
    sound = λ s j b w wb e. elim (cases j b w wb e) [
      | inl h ↦ grows.sound s j b w wb h
      | inr h ↦ let r = grows.sound s k b there wb h.2 in (r.0, r.1, r.2, join r.3 (step (using there h.1) here))
    ];
  }

  pub handed_more : does ≡ is_some (node_at nodes k).array → HandedBelow k nodes first rows → HandedBelow (k + 1) nodes first new
  handed_more tells handed i a j b less w e m wb h = elim (eqb_tells i k) [
    | inl t ↦
        let at : (node_at nodes k).array ≡ Some a = subst (λ n. (node_at nodes n).array ≡ Some a) t.1 e in
        let mark : has (row first k) b ≡ true = subst (λ n. has (row first n) b ≡ true) t.1 h in
        given j b (tells ∙ some_tells (node_at nodes k).array a at) (subst (λ n. Member j (node_at nodes n).uses) t.1 m) wb (grows.kept k b there wb mark)
    | inr t ↦
        let other : i ≡ k → ⊥ = t.1 in
        let before : i < k = omega arith in
        stays j b (ordered.there i j w m) wb (handed i a j b before w e m wb h)
  ]

  pub settled_more : (from : ℕ) → from ≡ k + 1 → does ≡ is_none (node_at nodes k).array → SettledFrom from nodes rows → SettledFrom k nodes new
  settled_more from next tells settled i j b le w e m wb h = elim (eqb_tells i k) [
    | inl t ↦
        let none : (node_at nodes k).array ≡ None = subst (λ n. (node_at nodes n).array ≡ None) t.1 e in
        let mark : has (row new k) b ≡ true = subst (λ n. has (row new n) b ≡ true) t.1 h in
        given j b (tells ∙ none_tells (node_at nodes k).array none) (subst (λ n. Member j (node_at nodes n).uses) t.1 m) wb
        (elim (cases k b there wb mark) [ inl old ↦ old | inr got ↦ got.2 ])
    | inr t ↦
        let other : i ≡ k → ⊥ = t.1 in
        stays j b (ordered.there i j w m) wb (settled i j b (omega (arith, le, next)) w e m wb
        (elim (cases i b w wb h) [
          | inl old ↦ old
          | inr got ↦ let before : i < k = ordered.earlier k i there (tells_none (node_at nodes k).array (sym tells ∙ got.0)) got.1 in absurd (omega (arith, le, before))
        ]))
  ]

-- ---- all of them

module _ (nodes : List Node) (ordered : IsOrdered nodes) (shows : List (List Bool)) (shown : Shows nodes shows)
    (table closed : List (List Bool)) (needed : IsNeeded nodes shows table) (closes : Closes table closed)
    (first handed last : List (List Bool)) (begins : Begins nodes closed first)
    (one : Grows nodes first handed) (arrays : HandedBelow (length nodes) nodes first handed)
    (two : Grows nodes handed last) (settled : SettledFrom 0 nodes last) where
  abbrev Need : ℕ → ℕ → Type 0
  Need = Needed nodes ordered shows shown table closed needed closes

  -- an array that another needs, from the other's side: one of its instructions reaches each of the array's
  reaches_from : {a b : ℕ} → Reaches Need b a → (i : ℕ) → i < length nodes → (node_at nodes i).array ≡ Some a → ReachedFrom nodes i b
  reaches_from (here {a = a}) i w e = (i, w, e, here)
  reaches_from (step {a = b} {b = c} {c = a} need rest) i w e =
      let s = uses.shown_reached nodes (Up nodes ordered shows shown) (owned nodes ordered shows shown) (own nodes ordered shows shown) (gathered nodes ordered shows shown) (gathers nodes ordered shows shown) ordered.earlier ordered.there
      need.1 c (ordered.there need.0 need.1 need.2 need.4) need.5 in
      let r = uses.arrays_reached nodes (Up nodes ordered shows shown) (owned nodes ordered shows shown) (own nodes ordered shows shown) (gathered nodes ordered shows shown) (gathers nodes ordered shows shown) ordered.earlier ordered.there
      rest s.0 i s.1 w s.2 e in
      (need.0, need.2, need.3, step (using need.2 need.4) (join s.3 r))

  begins_at : (i b : ℕ) (o : Option ℕ) → i < length nodes → (node_at nodes i).array ≡ o → b < 16 → has (row first i) b ≡ starts_at closed o b
  begins_at i b o w e wb = begins.marks i b w wb ∙ ap (λ x. starts_at closed x b) e

  -- the first marks are true
  first_sound : Sound nodes first
  first_sound i b w wb h = go (node_at nodes i).array refl where
    go : (o : Option ℕ) → (node_at nodes i).array ≡ o → ReachedFrom nodes i b
    go None e = let no : false ≡ true = sym (begins_at i b None w e wb) ∙ h in absurd cc
    go (Some a) e = reaches_from (closed_needs nodes ordered shows shown table closed needed closes b a wb (ordered.arrays i a w e) (sym (begins_at i b (Some a) w e wb) ∙ h)) i w e

  last_sound : Sound nodes last
  last_sound = two.sound (one.sound first_sound)

  -- what an instruction of an array is reached from was marked at it at first
  marked_first : (i a b : ℕ) → i < length nodes → (node_at nodes i).array ≡ Some a → b < 16 → ReachedFrom nodes i b → has (row first i) b ≡ true
  marked_first i a b w e wb r =
      begins_at i b (Some a) w e wb
      ∙ needs_closed nodes ordered shows shown table closed needed closes b a wb (ordered.arrays i a w e)
      (uses.arrays_reach nodes (Up nodes ordered shows shown) (owned nodes ordered shows shown) (own nodes ordered shows shown) (gathered nodes ordered shows shown) (gathers nodes ordered shows shown) ordered.earlier ordered.there
      r.0 i b a r.1 w r.2 e r.3)

  kept : (i b : ℕ) → i < length nodes → b < 16 → has (row first i) b ≡ true → has (row last i) b ≡ true
  kept i b w wb h = two.kept i b w wb (one.kept i b w wb h)

  -- a mark goes along each path
  along : {x i : ℕ} (b : ℕ) → b < 16 → Reaches (Depends nodes) x i → x < length nodes → has (row last x) b ≡ true → has (row last i) b ≡ true
  along b wb here w h = h
  along b wb (step {a = x} {b = y} {c = i} d rest) w h = along b wb rest (inside d) (one_step d) where
    inside : Depends nodes x y → y < length nodes
    inside (using wx u) = ordered.there x y wx u
    inside (shared wx wy ex ey) = wy

    one_step : Depends nodes x y → has (row last y) b ≡ true
    one_step (using wx u) = go (node_at nodes x).array refl where
      go : (o : Option ℕ) → (node_at nodes x).array ≡ o → has (row last y) b ≡ true
      go None e = settled x y b (omega arith) wx e u wb h
      go (Some a) e = two.kept y b (ordered.there x y wx u) wb (arrays x a y b wx wx e u wb (marked_first x a b wx e wb (last_sound x b wx wb h)))
    one_step (shared {a = a} wx wy ex ey) =
        let r = last_sound x b wx wb h in
        kept y b wy wb (marked_first y a b wy ey wb (r.0, r.1, r.2, join r.3 (step (shared wx wy ex ey) here)))

  pub marks_from : MarksReachedFrom nodes last
  marks_from = record {
    long = two.long;
    marks = λ i b w wb. (
      λ h. last_sound i b w wb h,
      λ r. along b wb r.3 r.1 (kept r.0 b r.1 wb (marked_first r.0 b b r.1 r.2 wb (r.0, r.1, r.2, here))),
    );
  }
