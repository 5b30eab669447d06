-- What stands behind a value is an array that is there.
use Rattle.std.proofs.Common.{◌≡◌, ℕ, zero, suc, ℤ, ◌<◌, List, [], ◌∷◌, ◌++◌, length, map, slice_set, Option, None, Some, inl, inr, refl, sym, ap, subst, ◌∙◌, length-set, arith}
use Rattle.std.specs.List.{slice_index_or}
use Rattle.mp5_words.specs.declared.op.Op1.{Op1}
use Rattle.mp5_words.specs.declared.op.Op2.{Op2}
use Rattle.mp5_words.specs.declared.hashing.HashKind.{HashKind}
use Rattle.mp5_words.specs.Copies.{Seen, Copy, latest_of, on_fields, touched}
use Rattle.mp5_words.specs.Domain.{source_ops, sources}
use Rattle.domino_tree.proofs.ExprLemmas.{Each}
use Rattle.domino_tree.specs.declared.program.Program.{Program}
use Rattle.domino_check.specs.declared.numbered.CheckedExpr.{CheckedExpr, fold-roll-CheckedExpr}
use Rattle.domino_check.specs.declared.numbered.CheckedExpr.TheOpen as F
use Rattle.domino_check.specs.declared.numbered.CheckedExpr.TheVariants as e
use Rattle.domino_check.specs.declared.numbered.CheckedStmt.{CheckedStmt}
use Rattle.domino_check.specs.declared.numbered.CheckedStmt.TheVariants as stmt
use Rattle.domino_check.specs.declared.numbered.CheckedArm.{CheckedArm}
use Rattle.domino_check.specs.Indexes.{index_of}
use Rattle.domino_check.specs.Numbering.{accesses}
use Rattle.domino_check.specs.NumberedMeaning.{numbered_arrays}
use Rattle.domino_check.specs.Walk.{Core, Walks, walk_meaning, walk_value, walk_index}
use Rattle.domino_check.proofs.TreeLemmas.{expr_induct, stmt_induct}
use Rattle.dependence.specs.Uses.{Member}
use Rattle.source_rows.specs.Views.{Sources, Copies, seen, core, indexes_in, touching, touching_all, stmt_walk, block_walk, chain_walk, last_in, guard_in, arm_touched, arm_cond, field_walk, cell_walk, set_value, stored_value}
use Rattle.source_rows.proofs.ChainLemmas.{walk-If, walk-Else, field_stmt, cell_stmt, chain_next}

module _ (n : ℕ) where
  -- each array of a set is one of so many
  abbrev pub Below : Sources → Type 0
  Below [] = Unit {0}
  Below (x ∷ xs) = (x < n) × Below xs

  abbrev pub EachBelow : List Sources → Type 0
  EachBelow [] = Unit {0}
  EachBelow (xs ∷ lists) = Below xs × EachBelow lists

  below_both : (xs ys : Sources) → Below xs → Below ys → Below (xs ++ ys)
  below_both [] ys h k = k
  below_both (x ∷ xs) ys h k = (h.0, below_both xs ys h.1 k)

  each_both : (xs ys : List Sources) → EachBelow xs → EachBelow ys → EachBelow (xs ++ ys)
  each_both [] ys h k = k
  each_both (x ∷ xs) ys h k = (h.0, each_both xs ys h.1 k)

  pub below_member : (xs : Sources) (b : ℕ) → Below xs → Member b xs → b < n
  below_member [] b h m = elim m [ ]
  below_member (x ∷ xs) b h (inl is) = subst (λ y. y < n) (sym is) h.0
  below_member (x ∷ xs) b h (inr m) = below_member xs b h.1 m

  -- ---- values

  abbrev Value : Type 0
  Value = Seen Sources → Sources

  abbrev ValueBelow : CheckedExpr → Type 0
  ValueBelow x = (w : Seen Sources) → ((f : ℕ) → Below (slice_index_or w.fields f [])) → ((a : ℕ) → Below (w.array a)) → Below (walk_value Sources source_ops x w)

  module _ (w : Seen Sources) (fields : (f : ℕ) → Below (slice_index_or w.fields f [])) (arrays : (a : ℕ) → Below (w.array a)) where
    args_below : (args : List CheckedExpr) → Each ValueBelow args → (k : ℕ) → Below (slice_index_or (map (λ (a : Value). a w) (map (walk_value Sources source_ops) args)) k [])
    args_below [] held k = tt
    args_below (x ∷ args) held zero = held.0 w fields arrays
    args_below (x ∷ args) held (suc k) = args_below args held.1 k

  value-Number : (z : ℤ) (w : Seen Sources) → walk_value Sources source_ops (e.Number z) w ≡ []
  value-Number z w = ap (λ x. walk_value Sources source_ops x w) (sym (e.rolls-Number z)) ∙ ap (λ (h : Value). h w) (fold-roll-CheckedExpr Value (walk_meaning Sources source_ops) (F.CheckedExpr-F.Number z))

  value-Field : (f : ℕ) (w : Seen Sources) → walk_value Sources source_ops (e.Field f) w ≡ slice_index_or w.fields f []
  value-Field f w = ap (λ x. walk_value Sources source_ops x w) (sym (e.rolls-Field f)) ∙ ap (λ (h : Value). h w) (fold-roll-CheckedExpr Value (walk_meaning Sources source_ops) (F.CheckedExpr-F.Field f))

  value-Cell : (a : ℕ) (w : Seen Sources) → walk_value Sources source_ops (e.Cell a) w ≡ w.array a
  value-Cell a w = ap (λ x. walk_value Sources source_ops x w) (sym (e.rolls-Cell a)) ∙ ap (λ (h : Value). h w) (fold-roll-CheckedExpr Value (walk_meaning Sources source_ops) (F.CheckedExpr-F.Cell a))

  value-One : (op : Op1) (a : CheckedExpr) (w : Seen Sources) → walk_value Sources source_ops (e.One op a) w ≡ walk_value Sources source_ops a w
  value-One op a w = ap (λ x. walk_value Sources source_ops x w) (sym (e.rolls-One op a)) ∙ ap (λ (h : Value). h w) (fold-roll-CheckedExpr Value (walk_meaning Sources source_ops) (F.CheckedExpr-F.One op a))

  value-Two : (op : Op2) (a b : CheckedExpr) (w : Seen Sources) → walk_value Sources source_ops (e.Two op a b) w ≡ walk_value Sources source_ops a w ++ walk_value Sources source_ops b w
  value-Two op a b w = ap (λ x. walk_value Sources source_ops x w) (sym (e.rolls-Two op a b)) ∙ ap (λ (h : Value). h w) (fold-roll-CheckedExpr Value (walk_meaning Sources source_ops) (F.CheckedExpr-F.Two op a b))

  value-Pick : (c a b : CheckedExpr) (w : Seen Sources) → walk_value Sources source_ops (e.Pick c a b) w ≡ walk_value Sources source_ops c w ++ (walk_value Sources source_ops a w ++ walk_value Sources source_ops b w)
  value-Pick c a b w = ap (λ x. walk_value Sources source_ops x w) (sym (e.rolls-Pick c a b)) ∙ ap (λ (h : Value). h w) (fold-roll-CheckedExpr Value (walk_meaning Sources source_ops) (F.CheckedExpr-F.Pick c a b))

  abbrev third : List Sources → Sources
  third vs = slice_index_or vs 0 [] ++ (slice_index_or vs 1 [] ++ slice_index_or vs 2 [])

  value-Hash : (kind : HashKind) (args : List CheckedExpr) (w : Seen Sources) → walk_value Sources source_ops (e.Hash kind args) w ≡ third (map (λ (a : Value). a w) (map (walk_value Sources source_ops) args))
  value-Hash kind args w = ap (λ x. walk_value Sources source_ops x w) (sym (e.rolls-Hash kind args)) ∙ ap (λ (h : Value). h w) (fold-roll-CheckedExpr Value (walk_meaning Sources source_ops) (F.CheckedExpr-F.Hash kind args))

  -- what stands behind a value stands behind a field or an array
  pub value_below : (x : CheckedExpr) → ValueBelow x
  value_below = expr_induct ValueBelow
      (λ z w fs cs. subst Below (sym (value-Number z w)) tt)
      (λ f w fs cs. subst Below (sym (value-Field f w)) (fs f))
      (λ a w fs cs. subst Below (sym (value-Cell a w)) (cs a))
      (λ op a held w fs cs. subst Below (sym (value-One op a w)) (held w fs cs))
      (λ op a b ha hb w fs cs. subst Below (sym (value-Two op a b w)) (below_both _ _ (ha w fs cs) (hb w fs cs)))
      (λ c a b hc ha hb w fs cs. subst Below (sym (value-Pick c a b w)) (below_both _ _ (hc w fs cs) (below_both _ _ (ha w fs cs) (hb w fs cs))))
      (λ kind args held w fs cs. subst Below (sym (value-Hash kind args w)) (below_both _ _ (args_below w fs cs args held 0) (below_both _ _ (args_below w fs cs args held 1) (args_below w fs cs args held 2))))

  -- ---- copies

  abbrev pub CopyBelow : Option (Copy Sources) → Type 0
  CopyBelow None = Unit {0}
  CopyBelow (Some c) = Below c.index × Below c.latest × EachBelow c.under × EachBelow c.stored

  -- the fields' sets and the copies are below, and there is a copy, or none, for each of so many arrays
  pub record Held (s : Core Sources) : Type 0 where
    pub fields : (f : ℕ) → Below (slice_index_or s.fields f [])
    pub copies : (a : ℕ) → CopyBelow (slice_index_or s.copies a None)
    pub long : length s.copies ≡ n

  latest_below : (c : Option (Copy Sources)) → CopyBelow c → Below (latest_of Sources source_ops c)
  latest_below None h = tt
  latest_below (Some c) h = h.1

  value_held : (x : CheckedExpr) (s : Core Sources) → Held s → Below (walk_value Sources source_ops x (seen s.fields s.copies))
  value_held x s h = value_below x (seen s.fields s.copies) h.fields (λ a. latest_below (slice_index_or s.copies a None) (h.copies a))

  -- one item of a list is set
  set_copies : (cs : Copies) (a : ℕ) (c : Option (Copy Sources)) → ((k : ℕ) → CopyBelow (slice_index_or cs k None)) → (a < length cs → CopyBelow c) → (k : ℕ) → CopyBelow (slice_index_or (slice_set cs a c) k None)
  set_copies [] a c h new k = h k
  set_copies (x ∷ cs) zero c h new zero = new (omega arith)
  set_copies (x ∷ cs) zero c h new (suc k) = h (suc k)
  set_copies (x ∷ cs) (suc a) c h new zero = h zero
  set_copies (x ∷ cs) (suc a) c h new (suc k) = set_copies cs a c (λ j. h (suc j)) (λ less. new (omega arith)) k

  set_sets : (fs : List Sources) (f : ℕ) (v : Sources) → ((k : ℕ) → Below (slice_index_or fs k [])) → Below v → (k : ℕ) → Below (slice_index_or (slice_set fs f v) k [])
  set_sets [] f v h new k = h k
  set_sets (x ∷ fs) zero v h new zero = new
  set_sets (x ∷ fs) zero v h new (suc k) = h (suc k)
  set_sets (x ∷ fs) (suc f) v h new zero = h zero
  set_sets (x ∷ fs) (suc f) v h new (suc k) = set_sets fs f v (λ j. h (suc j)) new k

  touched_below : (a : ℕ) (index guard : Sources) (c : Option (Copy Sources)) → a < n → Below index → Below guard → CopyBelow c → CopyBelow (Some (touched Sources sources a index guard c))
  touched_below a index guard None less hi hg h = (hi, (less, tt), (hg, tt), tt)
  touched_below a index guard (Some c) less hi hg h = (h.0, h.1, each_both c.under (guard ∷ []) h.2 (hg, tt), h.3)

  module _ (p : Program) where
    index_below : (i : Option CheckedExpr) (fields : List Sources) → ((f : ℕ) → Below (slice_index_or fields f [])) → Below (walk_index Sources source_ops i fields)
    index_below None fields h = tt
    index_below (Some x) fields h = value_below x (on_fields Sources source_ops fields) h (λ a. tt)

    touch_held : (a : ℕ) (guard : Sources) (s : Core Sources) → Below guard → Held s → Held (core s.fields (touching p s.fields guard s.copies a))
    touch_held a guard s hg h = record {
      fields = h.fields;
      copies = set_copies s.copies a _ h.copies (λ less. touched_below a (indexes_in p a s.fields) guard (slice_index_or s.copies a None) (let long = h.long in omega arith) (index_below (index_of (accesses p) a) s.fields h.fields) hg (h.copies a));
      long = length-set s.copies a _ ∙ h.long;
    }

    touches_held : (arrays : List ℕ) (guard : Sources) (s : Core Sources) → Below guard → Held s → Held (touching_all p arrays guard s)
    touches_held [] guard s hg h = h
    touches_held (a ∷ arrays) guard s hg h = touches_held arrays guard (core s.fields (touching p s.fields guard s.copies a)) hg (touch_held a guard s hg h)

    -- ---- statements

    ContextBelow : Option Sources → Type 0
    ContextBelow None = Unit {0}
    ContextBelow (Some g) = Below g

    guard_below : (context : Option Sources) → ContextBelow context → Below (guard_in p context)
    unfolding ContextBelow
    guard_below None h = tt
    guard_below (Some g) h = h

    set_below : (context : Option Sources) (v old : Sources) → ContextBelow context → Below v → Below old → Below (set_value p context v old)
    unfolding ContextBelow
    set_below None v old h hv ho = hv
    set_below (Some g) v old h hv ho = below_both g (v ++ old) h (below_both v old hv ho)

    stored_below : (a : ℕ) (context : Option Sources) (v : Sources) (c : Option (Copy Sources)) → a < n → Below v → CopyBelow c → CopyBelow (stored_value p a context v c)
    stored_below a context v None less hv h = tt
    stored_below a context v (Some c) less hv h = (h.0, (less, tt), h.2, each_both c.stored (v ∷ []) h.3 (hv, tt))

    HoldsWalk : Walks Sources → Type 0
    HoldsWalk w = (context : Option Sources) (s : Core Sources) → ContextBelow context → Held s → Held (w context s)

    HoldsArm : CheckedArm → Type 0
    HoldsArm arm = HoldsWalk (block_walk p arm.body)

    HoldsStmt : CheckedStmt → Type 0
    HoldsStmt x = HoldsWalk (stmt_walk p x)

    block_held : (body : List CheckedStmt) → Each HoldsStmt body → HoldsWalk (block_walk p body)
    unfolding HoldsWalk HoldsStmt
    block_held [] held context s hc h = h
    block_held (x ∷ body) held context s hc h = block_held body held.1 context (stmt_walk p x context s) hc (held.0 context s hc h)

    field_held : (f : ℕ) (x : CheckedExpr) → HoldsWalk (field_walk p f x)
    unfolding HoldsWalk
    field_held f x context s hc h =
        let t : Core Sources = touching_all p (numbered_arrays x) (guard_in p context) s in
        let k : Held t = touches_held (numbered_arrays x) (guard_in p context) s (guard_below context hc) h in
        record {
          fields = set_sets t.fields f _ k.fields (set_below context _ _ hc (value_held x t k) (k.fields f));
          copies = k.copies;
          long = k.long;
        }

    cell_held : (a : ℕ) (x : CheckedExpr) → HoldsWalk (cell_walk p a x)
    unfolding HoldsWalk
    cell_held a x context s hc h =
        let t : Core Sources = touching_all p (a ∷ numbered_arrays x) (guard_in p context) s in
        let k : Held t = touches_held (a ∷ numbered_arrays x) (guard_in p context) s (guard_below context hc) h in
        record {
          fields = k.fields;
          copies = set_copies t.copies a _ k.copies (λ less. stored_below a context _ (slice_index_or t.copies a None) (let long = k.long in omega arith) (value_held x t k) (k.copies a));
          long = length-set t.copies a _ ∙ k.long;
        }

    chain_held : (arms : List CheckedArm) (last : Option (List (Walks Sources))) → Each HoldsArm arms → HoldsWalk (last_in p last) → HoldsWalk (chain_walk p arms last)
    unfolding HoldsWalk HoldsArm ContextBelow
    chain_held [] last held hl context s hc h = hl context s hc h
    chain_held (arm ∷ arms) last held hl context s hc h =
        let t : Core Sources = arm_touched p arm context s in
        let k : Held t = touches_held (numbered_arrays arm.cond) (guard_in p context) s (guard_below context hc) h in
        let g : Below (guard_in p context ++ arm_cond p arm context s) = below_both _ _ (guard_below context hc) (value_held arm.cond t k) in
        subst Held (sym (chain_next Sources sources p arm arms last context s))
        (chain_held arms last held.1 hl (Some (guard_in p context ++ arm_cond p arm context s)) (block_walk p arm.body (Some (guard_in p context ++ arm_cond p arm context s)) t) g
        (held.0 (Some (guard_in p context ++ arm_cond p arm context s)) t g k))

    nothing_held : HoldsWalk (last_in p None)
    unfolding HoldsWalk
    nothing_held context s hc h = h

    else_held : (body : List CheckedStmt) → Each HoldsStmt body → HoldsWalk (last_in p (Some (map (stmt_walk p) body)))
    unfolding HoldsWalk
    else_held body held context s hc h = block_held body held context s hc h

    stmt_held : (x : CheckedStmt) → HoldsStmt x
    unfolding HoldsWalk HoldsStmt HoldsArm
    stmt_held = stmt_induct HoldsStmt HoldsArm
        (λ f x context s hc h. subst Held (field_stmt Sources sources p (stmt.SetField f x) f x x context s refl refl) (field_held f x context s hc h))
        (λ a x context s hc h. subst Held (cell_stmt Sources sources p (stmt.SetCell a x) a x x context s refl refl) (cell_held a x context s hc h))
        (λ arms held context s hc h. subst Held (sym (ap (λ (w : Walks Sources). w context s) (walk-If Sources sources p arms))) (chain_held arms None held nothing_held context s hc h))
        (λ arms body held kept context s hc h. subst Held (sym (ap (λ (w : Walks Sources). w context s) (walk-Else Sources sources p arms body))) (chain_held arms (Some (map (stmt_walk p) body)) held (else_held body kept) context s hc h))
        (λ cond body kept. block_held body kept)

    each_held : (body : List CheckedStmt) → Each HoldsStmt body
    each_held [] = tt
    each_held (x ∷ body) = (stmt_held x, each_held body)

    -- a body keeps it
    pub body_held : (body : List CheckedStmt) (s : Core Sources) → Held s → Held (block_walk p body None s)
    unfolding HoldsWalk ContextBelow
    body_held body s h = block_held body (each_held body) None s tt h
