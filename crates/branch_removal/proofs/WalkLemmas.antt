-- The guarded lines of a body do what the walk over its sites does, over values of any kind.
use Rattle.std.proofs.Common.{◌≡◌, ℕ, zero, suc, ◌<◌, ℤ, pos, List, [], ◌∷◌, ◌++◌, length, map, flat_map, get_or, slice_set, replicate, Option, None, Some, refl, sym, ap, subst, ◌∙◌, append_assoc, append-nil, length-append, arith}
use Rattle.std.specs.List.{fold}
use Rattle.std.proofs.lemmas.List.{get_or_append_left}
use Rattle.std.proofs.Math.Seq.{get_or-append_seam}
use Rattle.mp5_words.specs.declared.op.Op1.{Op1}
use Rattle.mp5_words.specs.declared.op.Op2.{Op2}
use Rattle.mp5_words.specs.declared.hashing.HashKind.{HashKind}
use Rattle.domino_tree.proofs.ExprLemmas.{Each}
use Rattle.domino_check.specs.declared.numbered.CheckedExpr.{CheckedExpr, fold-roll-CheckedExpr}
use Rattle.domino_check.specs.declared.numbered.CheckedExpr.TheOpen as F
use Rattle.domino_check.specs.declared.numbered.CheckedExpr.TheVariants as e
use Rattle.domino_check.specs.declared.numbered.CheckedStmt.{CheckedStmt, fold-roll-CheckedStmt}
use Rattle.domino_check.specs.declared.numbered.CheckedStmt.TheOpen as O
use Rattle.domino_check.specs.declared.numbered.CheckedStmt.TheVariants as s
use Rattle.domino_check.specs.declared.numbered.CheckedArm.{CheckedArm, fold-roll-CheckedArm}
use Rattle.domino_check.specs.NumberedMeaning.{numbered_arrays}
use Rattle.domino_check.proofs.MeaningLemmas as source
use Rattle.code_forms.specs.declared.guard.GuardLine.{GuardLine}
use Rattle.code_forms.specs.declared.guard.GuardLine.TheVariants as line
use Rattle.mp5_words.specs.Domain.{Ops, Domain}
use Rattle.code_forms.specs.GuardValid.{arrays_in}
use Rattle.mp5_words.specs.Copies.{Seen, Copy, Indexes, at, hash_of, touch}
use Rattle.code_forms.specs.GuardMeaning.{guard_value, set_under, stored_under, Guarded, guard_line, guard_lines, guard_start}
use Rattle.code_forms.proofs.GuardTrees
use Rattle.branch_removal.specs.GuardedLines.{guarded, Made, Emits, before, block_lines, last_lines, chain_lines, stmt_lines, arm_lines, body_lines}
use Rattle.domino_check.specs.Walk.{Core, walk_meaning, walk_value, Walks, Branch, seen_core, touch_core, guard_of, set_in, stored_in, in_turn, last_walk, chain, walking, branching, walk, branch, walked}
use Rattle.domino_check.proofs.TreeLemmas.{expr_induct, stmt_induct}
use Rattle.branch_removal.proofs.Trees

-- ---- expressions

module _ (V : Type 0) (o : Ops V) where
  pub value-Number : (n : ℤ) (w : Seen V) → walk_value V o (e.Number n) w ≡ o.number n
  value-Number n w = ap (λ x. walk_value V o x w) (sym (e.rolls-Number n)) ∙ ap (λ h. h w) (fold-roll-CheckedExpr (Seen V → V) (walk_meaning V o) (F.CheckedExpr-F.Number n))

  pub value-Field : (f : ℕ) (w : Seen V) → walk_value V o (e.Field f) w ≡ at V o w.fields f
  value-Field f w = ap (λ x. walk_value V o x w) (sym (e.rolls-Field f)) ∙ ap (λ h. h w) (fold-roll-CheckedExpr (Seen V → V) (walk_meaning V o) (F.CheckedExpr-F.Field f))

  pub value-Cell : (a : ℕ) (w : Seen V) → walk_value V o (e.Cell a) w ≡ w.array a
  value-Cell a w = ap (λ x. walk_value V o x w) (sym (e.rolls-Cell a)) ∙ ap (λ h. h w) (fold-roll-CheckedExpr (Seen V → V) (walk_meaning V o) (F.CheckedExpr-F.Cell a))

  pub value-One : (op : Op1) (a : CheckedExpr) (w : Seen V) → walk_value V o (e.One op a) w ≡ o.one op (walk_value V o a w)
  value-One op a w = ap (λ x. walk_value V o x w) (sym (e.rolls-One op a)) ∙ ap (λ h. h w) (fold-roll-CheckedExpr (Seen V → V) (walk_meaning V o) (F.CheckedExpr-F.One op a))

  pub value-Two : (op : Op2) (a b : CheckedExpr) (w : Seen V) → walk_value V o (e.Two op a b) w ≡ o.two op (walk_value V o a w) (walk_value V o b w)
  value-Two op a b w = ap (λ x. walk_value V o x w) (sym (e.rolls-Two op a b)) ∙ ap (λ h. h w) (fold-roll-CheckedExpr (Seen V → V) (walk_meaning V o) (F.CheckedExpr-F.Two op a b))

  pub value-Pick : (c a b : CheckedExpr) (w : Seen V) → walk_value V o (e.Pick c a b) w ≡ o.pick (walk_value V o c w) (walk_value V o a w) (walk_value V o b w)
  value-Pick c a b w = ap (λ x. walk_value V o x w) (sym (e.rolls-Pick c a b)) ∙ ap (λ h. h w) (fold-roll-CheckedExpr (Seen V → V) (walk_meaning V o) (F.CheckedExpr-F.Pick c a b))

  pub value-Hash : (kind : HashKind) (args : List CheckedExpr) (w : Seen V) → walk_value V o (e.Hash kind args) w ≡ hash_of V o kind (map (λ (a : Seen V → V). a w) (map (walk_value V o) args))
  value-Hash kind args w = ap (λ x. walk_value V o x w) (sym (e.rolls-Hash kind args)) ∙ ap (λ h. h w) (fold-roll-CheckedExpr (Seen V → V) (walk_meaning V o) (F.CheckedExpr-F.Hash kind args))

  abbrev pub SameWalk : CheckedExpr → Type 0
  SameWalk x = ((w : Seen V) → guard_value V o (guarded x) w ≡ walk_value V o x w) × (arrays_in (guarded x) ≡ numbered_arrays x)

  values : (xs : List CheckedExpr) (w : Seen V) → Each SameWalk xs → map (λ (a : Seen V → V). a w) (map (guard_value V o) (map guarded xs)) ≡ map (λ (a : Seen V → V). a w) (map (walk_value V o) xs)
  values [] w held = refl
  values (x ∷ xs) w held = λ i. held.0.0 w i ∷ values xs w held.1 i

  arrays : (xs : List CheckedExpr) → Each SameWalk xs → flat_map (λ (a : List ℕ). a) (map arrays_in (map guarded xs)) ≡ flat_map (λ (a : List ℕ). a) (map numbered_arrays xs)
  arrays [] held = refl
  arrays (x ∷ xs) held = λ i. held.0.1 i ++ arrays xs held.1 i

  pub same_walk : (x : CheckedExpr) → SameWalk x
  same_walk = expr_induct SameWalk
      (λ n. (
        (λ w. ap (λ x. guard_value V o x w) (Trees.guarded-Number n) ∙ GuardTrees.value-Number V o n w ∙ sym (value-Number n w)),
        ap arrays_in (Trees.guarded-Number n) ∙ GuardTrees.arrays-Number n ∙ sym (source.arrays-Number n),
      ))
      (λ f. (
        (λ w. ap (λ x. guard_value V o x w) (Trees.guarded-Field f) ∙ GuardTrees.value-Field V o f w ∙ sym (value-Field f w)),
        ap arrays_in (Trees.guarded-Field f) ∙ GuardTrees.arrays-Field f ∙ sym (source.arrays-Field f),
      ))
      (λ a. (
        (λ w. ap (λ x. guard_value V o x w) (Trees.guarded-Cell a) ∙ GuardTrees.value-Cell V o a w ∙ sym (value-Cell a w)),
        ap arrays_in (Trees.guarded-Cell a) ∙ GuardTrees.arrays-Cell a ∙ sym (source.arrays-Cell a),
      ))
      (λ op a held. (
        (λ w. ap (λ x. guard_value V o x w) (Trees.guarded-One op a) ∙ GuardTrees.value-One V o op (guarded a) w ∙ ap (o.one op) (held.0 w) ∙ sym (value-One op a w)),
        ap arrays_in (Trees.guarded-One op a) ∙ GuardTrees.arrays-One op (guarded a) ∙ held.1 ∙ sym (source.arrays-One op a),
      ))
      (λ op a b left right. (
        (λ w. ap (λ x. guard_value V o x w) (Trees.guarded-Two op a b) ∙ GuardTrees.value-Two V o op (guarded a) (guarded b) w ∙ (λ i. o.two op (left.0 w i) (right.0 w i)) ∙ sym (value-Two op a b w)),
        ap arrays_in (Trees.guarded-Two op a b) ∙ GuardTrees.arrays-Two op (guarded a) (guarded b) ∙ (λ i. left.1 i ++ right.1 i) ∙ sym (source.arrays-Two op a b),
      ))
      (λ c a b cond left right. (
        (λ w. ap (λ x. guard_value V o x w) (Trees.guarded-Pick c a b) ∙ GuardTrees.value-Pick V o (guarded c) (guarded a) (guarded b) w ∙ (λ i. o.pick (cond.0 w i) (left.0 w i) (right.0 w i)) ∙ sym (value-Pick c a b w)),
        ap arrays_in (Trees.guarded-Pick c a b) ∙ GuardTrees.arrays-Pick (guarded c) (guarded a) (guarded b) ∙ (λ i. cond.1 i ++ (left.1 i ++ right.1 i)) ∙ sym (source.arrays-Pick c a b),
      ))
      (λ kind args held. (
        (λ w. ap (λ x. guard_value V o x w) (Trees.guarded-Hash kind args) ∙ GuardTrees.value-Hash V o kind (map guarded args) w ∙ ap (hash_of V o kind) (values args w held) ∙ sym (value-Hash kind args w)),
        ap arrays_in (Trees.guarded-Hash kind args) ∙ GuardTrees.arrays-Hash kind (map guarded args) ∙ arrays args held ∙ sym (source.arrays-Hash kind args),
      ))

module _ (V : Type 0) (d : Domain V) (indexes : Indexes V) where
  -- ---- the walk at each form

  walk-SetField : (f : ℕ) (x : CheckedExpr) → walk V d indexes (s.SetField f x) ≡ walking V d indexes (O.CheckedStmt-F.SetField f x)
  walk-SetField f x = ap (walk V d indexes) (sym (s.rolls-SetField f x)) ∙ fold-roll-CheckedStmt (Walks V) (Branch V) (walking V d indexes) (branching V d indexes) (O.CheckedStmt-F.SetField f x)

  walk-SetCell : (a : ℕ) (x : CheckedExpr) → walk V d indexes (s.SetCell a x) ≡ walking V d indexes (O.CheckedStmt-F.SetCell a x)
  walk-SetCell a x = ap (walk V d indexes) (sym (s.rolls-SetCell a x)) ∙ fold-roll-CheckedStmt (Walks V) (Branch V) (walking V d indexes) (branching V d indexes) (O.CheckedStmt-F.SetCell a x)

  walk-If : (arms : List CheckedArm) → walk V d indexes (s.If arms None) ≡ chain V d indexes (map (branch V d indexes) arms) None
  walk-If arms = ap (walk V d indexes) (sym (s.rolls-If arms None)) ∙ fold-roll-CheckedStmt (Walks V) (Branch V) (walking V d indexes) (branching V d indexes) (O.CheckedStmt-F.If arms None)

  walk-Else : (arms : List CheckedArm) (body : List CheckedStmt) → walk V d indexes (s.If arms (Some body)) ≡ chain V d indexes (map (branch V d indexes) arms) (Some (map (walk V d indexes) body))
  walk-Else arms body = ap (walk V d indexes) (sym (s.rolls-If arms (Some body))) ∙ fold-roll-CheckedStmt (Walks V) (Branch V) (walking V d indexes) (branching V d indexes) (O.CheckedStmt-F.If arms (Some body))

  walk-Arm : (cond : CheckedExpr) (body : List CheckedStmt) → branch V d indexes (record { cond = cond; body = body }) ≡ record { arrays = numbered_arrays cond; cond = walk_value V d.ops cond; body = in_turn V d indexes (map (walk V d indexes) body) }
  walk-Arm cond body = fold-roll-CheckedArm (Walks V) (Branch V) (walking V d indexes) (branching V d indexes) (record { cond = cond; body = body })

  -- ---- lines one after another

  pub guard-append : (xs ys : List GuardLine) (g : Guarded V) → guard_lines V d indexes (xs ++ ys) g ≡ guard_lines V d indexes ys (guard_lines V d indexes xs g)
  guard-append [] ys g = refl
  guard-append (x ∷ xs) ys g = guard-append xs ys (guard_line V d indexes x g)

  at_front : (G more : List V) (u : ℕ) → u < length G → at V d.ops (G ++ more) u ≡ at V d.ops G u
  at_front G more u within = get_or_append_left G more (d.ops.number (pos 0)) u within

  -- guard u of these is that of the context; guard 0 stands for the outside
  abbrev pub IsOf : List V → ℕ → Option V → Type 0
  IsOf G u None = u ≡ 0
  IsOf G u (Some g) = (0 < u) × (at V d.ops G u ≡ g)

  pub record Under (G : List V) (u : ℕ) (ctx : Option V) : Type 0 where
    pub there : u < length G
    pub first : at V d.ops G 0 ≡ d.ops.number (pos 1)
    pub of : IsOf G u ctx

  under_more : (G more : List V) (u : ℕ) (ctx : Option V) → Under G u ctx → Under (G ++ more) u ctx
  under_more G more u None h = record { there = omega (arith, h.there, length-append G more); first = at_front G more 0 (omega (arith, h.there)) ∙ h.first; of = h.of }
  under_more G more u (Some g) h = record { there = omega (arith, h.there, length-append G more); first = at_front G more 0 (omega (arith, h.there)) ∙ h.first; of = (h.of.0, at_front G more u h.there ∙ h.of.1) }

  guard_is : (G : List V) (u : ℕ) (ctx : Option V) → Under G u ctx → at V d.ops G u ≡ guard_of V d indexes ctx
  guard_is G u None h = ap (at V d.ops G) h.of ∙ h.first
  guard_is G u (Some g) h = h.of.1

  abbrev pub with_guards : Core V → List V → Guarded V
  with_guards c G = record { fields = c.fields; copies = c.copies; guards = G }

  -- from so many guards on, the lines do this, and the guards grow
  pub record Does (made : Made) (what : Core V → Core V) (c : Core V) (G : List V) : Type 0 where
    pub more : List V
    pub long : length (G ++ more) ≡ made.next
    pub ends : guard_lines V d indexes made.lines (with_guards c G) ≡ with_guards (what c) (G ++ more)

  abbrev pub Follows : Emits → Walks V → Type 0
  Follows emits what = (u n : ℕ) (G : List V) (ctx : Option V) (c : Core V) → length G ≡ n → Under G u ctx → Does (emits u n) (what ctx) c G

  nothing : (n : ℕ) (G : List V) (c : Core V) → length G ≡ n → Does (record { lines = []; next = n }) (λ x. x) c G
  nothing n G c is = record { more = []; long = ap length (append-nil G) ∙ is; ends = ap (with_guards c) (sym (append-nil G)) }

  joins : (a b : Made) (f h : Core V → Core V) (c : Core V) (G : List V) (x : Does a f c G) → Does b h (f c) (G ++ x.more) → Does (before a.lines b) (λ y. h (f y)) c G
  joins a b f h c G x y = record {
    more = x.more ++ y.more;
    long = ap length (sym (append_assoc G x.more y.more)) ∙ y.long;
    ends = guard-append a.lines b.lines (with_guards c G) ∙ ap (guard_lines V d indexes b.lines) x.ends ∙ y.ends ∙ ap (with_guards (h (f c))) (append_assoc G x.more y.more);
  }

  -- another function that does the same here
  does_here : (made : Made) (f h : Core V → Core V) (c : Core V) (G : List V) → f c ≡ h c → Does made f c G → Does made h c G
  does_here made f h c G same x = record { more = x.more; long = x.long; ends = x.ends ∙ ap (λ k. with_guards k (G ++ x.more)) same }

  abbrev P : CheckedStmt → Type 0
  P x = Follows (stmt_lines x) (walk V d indexes x)

  block : (body : List CheckedStmt) → Each P body → Follows (block_lines (map stmt_lines body)) (in_turn V d indexes (map (walk V d indexes) body))
  block [] held u n G ctx c is under = nothing n G c is
  block (x ∷ xs) held u n G ctx c is under =
      let one = held.0 u n G ctx c is under in
      joins (stmt_lines x u n) (block_lines (map stmt_lines xs) u (stmt_lines x u n).next) (walk V d indexes x ctx) (in_turn V d indexes (map (walk V d indexes) xs) ctx) c G one
      (block xs held.1 u (stmt_lines x u n).next (G ++ one.more) ctx (walk V d indexes x ctx c) one.long (under_more G one.more u ctx under))

  -- ---- chains

  -- the arrays of an arm's condition are touched, it is evaluated, and its block is walked
  abbrev cond_of : Branch V → Option V → Core V → V
  cond_of b ctx c = b.cond (seen_core V d indexes (touch_core V d indexes b.arrays (guard_of V d indexes ctx) c))

  abbrev entered : Branch V → Option V → Core V → Core V
  entered b ctx c = b.body (Some (d.yes (guard_of V d indexes ctx) (cond_of b ctx c))) (touch_core V d indexes b.arrays (guard_of V d indexes ctx) c)

  record ArmDoes (made : Made) (b : Branch V) (ctx : Option V) (n : ℕ) (c : Core V) (G : List V) : Type 0 where
    does : Does made (entered b ctx) c G
    within : suc n < made.next
    rest : at V d.ops (G ++ does.more) (suc n) ≡ d.no (guard_of V d indexes ctx) (cond_of b ctx c)

  abbrev ArmFollows : Emits → Branch V → Type 0
  ArmFollows emits b = (u n : ℕ) (G : List V) (ctx : Option V) (c : Core V) → length G ≡ n → Under G u ctx → ArmDoes (emits u n) b ctx n c G

  abbrev EachOf : Option (List CheckedStmt) → Type 0
  EachOf None = Unit {0}
  EachOf (Some body) = Each P body

  abbrev lines_of : Option (List CheckedStmt) → Option (List Emits)
  lines_of None = None
  lines_of (Some body) = Some (map stmt_lines body)

  abbrev walks_of : Option (List CheckedStmt) → Option (List (Walks V))
  walks_of None = None
  walks_of (Some body) = Some (map (walk V d indexes) body)

  at_end : (last : Option (List CheckedStmt)) → EachOf last → Follows (last_lines (lines_of last)) (last_walk V d indexes (walks_of last))
  at_end None held u n G ctx c is under = nothing n G c is
  at_end (Some body) held u n G ctx c is under = block body held u n G ctx c is under

  chained : (last : Option (List CheckedStmt)) → EachOf last → (arms : List CheckedArm) → Each (λ a. ArmFollows (arm_lines a) (branch V d indexes a)) arms
      → Follows (chain_lines (map arm_lines arms) (lines_of last)) (chain V d indexes (map (branch V d indexes) arms) (walks_of last))
  chained last kept [] held u n G ctx c is under = at_end last kept u n G ctx c is under
  chained last kept (arm ∷ arms) held u n G ctx c is under =
      let made : Made = arm_lines arm u n in
      let b : Branch V = branch V d indexes arm in
      let one = held.0 u n G ctx c is under in
      let not_it : V = d.no (guard_of V d indexes ctx) (cond_of b ctx c) in
      let there : Under (G ++ one.does.more) (suc n) (Some not_it) = record {
        there = omega (arith, one.within, one.does.long);
        first = at_front G one.does.more 0 (omega (arith, under.there)) ∙ under.first;
        of = (omega arith, one.rest);
      } in
      does_here (before made.lines (chain_lines (map arm_lines arms) (lines_of last) (suc n) made.next)) (λ t. chain V d indexes (map (branch V d indexes) arms) (walks_of last) (Some not_it) (entered b ctx t)) (chain V d indexes (b ∷ map (branch V d indexes) arms) (walks_of last) ctx) c G refl
      (joins made (chain_lines (map arm_lines arms) (lines_of last) (suc n) made.next) (entered b ctx) (chain V d indexes (map (branch V d indexes) arms) (walks_of last) (Some not_it)) c G one.does
      (chained last kept arms held.1 (suc n) made.next (G ++ one.does.more) (Some not_it) (entered b ctx c) one.does.long there))

  -- ---- an arm

  seam : (G : List V) (y : V) (rest : List V) (n : ℕ) → length G ≡ n → at V d.ops (G ++ (y ∷ rest)) n ≡ y
  seam G y rest n long = subst (λ k. at V d.ops (G ++ (y ∷ rest)) k ≡ y) long (get_or-append_seam G y rest (d.ops.number (pos 0)))

  seam_next : (G : List V) (y z : V) (n : ℕ) → length G ≡ n → at V d.ops (G ++ (y ∷ z ∷ [])) (suc n) ≡ z
  seam_next G y z n long = ap (λ l. at V d.ops l (suc n)) (sym (append_assoc G (y ∷ []) (z ∷ []))) ∙ seam (G ++ y ∷ []) z [] (suc n) (omega (arith, long, length-append G (y ∷ [])))

  arm_follows : (cond : CheckedExpr) (body : List CheckedStmt) → Each P body → ArmFollows (arm_lines (record { cond = cond; body = body })) (branch V d indexes (record { cond = cond; body = body }))
  arm_follows cond body held u n G ctx c is under =
      subst (λ (m : Made). ArmDoes m (branch V d indexes (record { cond = cond; body = body })) ctx n c G) (sym (Trees.lines-Arm cond body u n))
      (subst (λ (b : Branch V). ArmDoes (before (line.Test (guarded cond) u n (suc n) ∷ []) (block_lines (map stmt_lines body) n (suc (suc n)))) b ctx n c G) (sym (walk-Arm cond body)) result)
    where
      b : Branch V
      b = record { arrays = numbered_arrays cond; cond = walk_value V d.ops cond; body = in_turn V d indexes (map (walk V d indexes) body) }

      t : Core V
      t = touch_core V d indexes b.arrays (guard_of V d indexes ctx) c

      y : V
      y = d.yes (guard_of V d indexes ctx) (cond_of b ctx c)

      z : V
      z = d.no (guard_of V d indexes ctx) (cond_of b ctx c)

      G1 : List V
      G1 = G ++ (y ∷ z ∷ [])

      long1 : length G1 ≡ suc (suc n)
      long1 = omega (arith, is, length-append G (y ∷ z ∷ []))

      tested : guard_line V d indexes (line.Test (guarded cond) u n (suc n)) (with_guards c G) ≡ with_guards t G1
      tested =
          (λ i. record {
            fields = c.fields;
            copies = fold (touch V d indexes c.fields (guard_is G u ctx under i)) c.copies ((same_walk V d.ops cond).1 i);
            guards = G ++ (d.yes (guard_is G u ctx under i) (guard_value V d.ops (guarded cond) (seen_core V d indexes (touch_core V d indexes ((same_walk V d.ops cond).1 i) (guard_is G u ctx under i) c)))
                ∷ d.no (guard_is G u ctx under i) (guard_value V d.ops (guarded cond) (seen_core V d indexes (touch_core V d indexes ((same_walk V d.ops cond).1 i) (guard_is G u ctx under i) c))) ∷ []);
          })
          ∙ (λ i. with_guards t (G ++ (d.yes (guard_of V d indexes ctx) ((same_walk V d.ops cond).0 (seen_core V d indexes t) i) ∷ d.no (guard_of V d indexes ctx) ((same_walk V d.ops cond).0 (seen_core V d indexes t) i) ∷ [])))

      inner_under : Under G1 n (Some y)
      inner_under = record { there = omega (arith, long1); first = at_front G (y ∷ z ∷ []) 0 (omega (arith, under.there)) ∙ under.first; of = (omega (arith, under.there, is), seam G y (z ∷ []) n is) }

      inner : Does (block_lines (map stmt_lines body) n (suc (suc n))) (b.body (Some y)) t G1
      inner = block body held n (suc (suc n)) G1 (Some y) t long1 inner_under

      result : ArmDoes (before (line.Test (guarded cond) u n (suc n) ∷ []) (block_lines (map stmt_lines body) n (suc (suc n)))) b ctx n c G
      result = record {
        does = record {
          more = (y ∷ z ∷ []) ++ inner.more;
          long = ap length (sym (append_assoc G (y ∷ z ∷ []) inner.more)) ∙ inner.long;
          ends = ap (guard_lines V d indexes (block_lines (map stmt_lines body) n (suc (suc n))).lines) tested ∙ inner.ends ∙ ap (with_guards (entered b ctx c)) (append_assoc G (y ∷ z ∷ []) inner.more);
        };
        within = omega (arith, inner.long, long1, length-append G1 inner.more);
        rest = ap (λ l. at V d.ops l (suc n)) (sym (append_assoc G (y ∷ z ∷ []) inner.more)) ∙ at_front G1 inner.more (suc n) (omega (arith, long1)) ∙ seam_next G y z n is;
      }

  -- ---- statements

  one_line : (l : GuardLine) (what : Walks V) (u n : ℕ) (G : List V) (ctx : Option V) (c : Core V) → length G ≡ n → guard_line V d indexes l (with_guards c G) ≡ with_guards (what ctx c) G → Does (record { lines = l ∷ []; next = n }) (what ctx) c G
  one_line l what u n G ctx c long is = record { more = []; long = ap length (append-nil G) ∙ long; ends = is ∙ ap (with_guards (what ctx c)) (sym (append-nil G)) }

  set_is : (G : List V) (u : ℕ) (ctx : Option V) (v old : V) → Under G u ctx → set_under V d u (at V d.ops G u) v old ≡ set_in V d indexes ctx v old
  set_is G zero None v old h = refl
  set_is G zero (Some g) v old h = absurd (omega (arith, h.of.0))
  set_is G (suc u) None v old h = absurd (omega (arith, h.of))
  set_is G (suc u) (Some g) v old h = ap (λ x. d.ops.pick x v old) h.of.1

  stored_is : (G : List V) (a u : ℕ) (ctx : Option V) (v : V) (c : Option (Copy V)) → Under G u ctx → stored_under V d a u (at V d.ops G u) v c ≡ stored_in V d indexes a ctx v c
  stored_is G a u ctx v None h = refl
  stored_is G a u ctx v (Some c) h = λ i. Some (record { index = c.index; latest = d.cover a (set_is G u ctx v c.latest h i); under = c.under; stored = c.stored ++ v ∷ [] })

  follows_as : (a b : Emits) (f h : Walks V) → ((u n : ℕ) → a u n ≡ b u n) → f ≡ h → Follows b h → Follows a f
  follows_as a b f h same does held u n G ctx c long under =
      subst (λ (m : Made). Does m (f ctx) c G) (sym (same u n))
      (subst (λ (w : Walks V). Does (b u n) (w ctx) c G) (sym does) (held u n G ctx c long under))

  -- the lines of a statement do what the walk does
  pub follows : (x : CheckedStmt) → P x
  follows = stmt_induct P (λ a. ArmFollows (arm_lines a) (branch V d indexes a))
      (λ f x. follows_as _ (λ u n. record { lines = line.SetField f u (guarded x) ∷ []; next = n }) _ (walking V d indexes (O.CheckedStmt-F.SetField f x)) (Trees.lines-SetField f x) (walk-SetField f x)
      (λ u n G ctx c long under. one_line (line.SetField f u (guarded x)) (walking V d indexes (O.CheckedStmt-F.SetField f x)) u n G ctx c long (field_is f x u G ctx c under)))
      (λ a x. follows_as _ (λ u n. record { lines = line.SetCell a u (guarded x) ∷ []; next = n }) _ (walking V d indexes (O.CheckedStmt-F.SetCell a x)) (Trees.lines-SetCell a x) (walk-SetCell a x)
      (λ u n G ctx c long under. one_line (line.SetCell a u (guarded x)) (walking V d indexes (O.CheckedStmt-F.SetCell a x)) u n G ctx c long (cell_is a x u G ctx c under)))
      (λ arms held. follows_as _ (chain_lines (map arm_lines arms) None) _ (chain V d indexes (map (branch V d indexes) arms) None) (Trees.lines-If arms) (walk-If arms) (chained None tt arms held))
      (λ arms body held inside. follows_as _ (chain_lines (map arm_lines arms) (Some (map stmt_lines body))) _ (chain V d indexes (map (branch V d indexes) arms) (Some (map (walk V d indexes) body))) (Trees.lines-Else arms body) (walk-Else arms body) (chained (Some body) inside arms held))
      (λ cond body inside. arm_follows cond body inside)
    where
      touched_is : (bs cs : List ℕ) → bs ≡ cs → (u : ℕ) (G : List V) (ctx : Option V) (c : Core V) → Under G u ctx → touch_core V d indexes bs (at V d.ops G u) c ≡ touch_core V d indexes cs (guard_of V d indexes ctx) c
      touched_is bs cs same u G ctx c under = λ i. touch_core V d indexes (same i) (guard_is G u ctx under i) c

      field_is : (f : ℕ) (x : CheckedExpr) (u : ℕ) (G : List V) (ctx : Option V) (c : Core V) → Under G u ctx
          → guard_line V d indexes (line.SetField f u (guarded x)) (with_guards c G) ≡ with_guards (walking V d indexes (O.CheckedStmt-F.SetField f x) ctx c) G
      field_is f x u G ctx c under =
          let t : Core V = touch_core V d indexes (numbered_arrays x) (guard_of V d indexes ctx) c in
          (λ i. let h : Core V = touched_is (arrays_in (guarded x)) (numbered_arrays x) (same_walk V d.ops x).1 u G ctx c under i in
          record { fields = slice_set h.fields f (set_under V d u (at V d.ops G u) (guard_value V d.ops (guarded x) (seen_core V d indexes h)) (at V d.ops h.fields f)); copies = h.copies; guards = G })
          ∙ (λ i. record { fields = slice_set t.fields f (set_is G u ctx ((same_walk V d.ops x).0 (seen_core V d indexes t) i) (at V d.ops t.fields f) under i); copies = t.copies; guards = G })

      cell_is : (a : ℕ) (x : CheckedExpr) (u : ℕ) (G : List V) (ctx : Option V) (c : Core V) → Under G u ctx
          → guard_line V d indexes (line.SetCell a u (guarded x)) (with_guards c G) ≡ with_guards (walking V d indexes (O.CheckedStmt-F.SetCell a x) ctx c) G
      cell_is a x u G ctx c under =
          let t : Core V = touch_core V d indexes (a ∷ numbered_arrays x) (guard_of V d indexes ctx) c in
          (λ i. let h : Core V = touched_is (a ∷ arrays_in (guarded x)) (a ∷ numbered_arrays x) (ap (λ l. a ∷ l) (same_walk V d.ops x).1) u G ctx c under i in
          record { fields = h.fields; copies = slice_set h.copies a (stored_under V d a u (at V d.ops G u) (guard_value V d.ops (guarded x) (seen_core V d indexes h)) (get_or h.copies a None)); guards = G })
          ∙ (λ i. record { fields = t.fields; copies = slice_set t.copies a (stored_is G a u ctx ((same_walk V d.ops x).0 (seen_core V d indexes t) i) (get_or t.copies a None) under i); guards = G })

  all_follow : (body : List CheckedStmt) → Each P body
  all_follow [] = tt
  all_follow (x ∷ xs) = (follows x, all_follow xs)

  -- the lines of a body do what the walk over it does
  pub body_follows : (body : List CheckedStmt) (arrays : ℕ) (header : List V) → (more : List V) × (guard_lines V d indexes (body_lines body) (guard_start V d arrays header) ≡ with_guards (walked V d indexes body arrays header) more)
  body_follows body arrays header =
      let all = block body (all_follow body) 0 1 (d.ops.number (pos 1) ∷ []) None (record { fields = header; copies = replicate arrays None }) refl (record { there = omega arith; first = refl; of = refl }) in
      ((d.ops.number (pos 1) ∷ []) ++ all.more, all.ends)
