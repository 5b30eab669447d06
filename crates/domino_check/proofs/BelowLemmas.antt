-- Where each name is declared and used as its kind, each array that is accessed is one of the program.
use Rattle.std.proofs.Common.{◌≡◌, ℕ, ◌<◌, ℤ, true, List, [], ◌∷◌, ◌++◌, length, map, flat_map, Option, Some, None, refl, sym, ap, subst, true≢false}
use Rattle.domino_tree.specs.declared.expr.Expr.{Expr}
use Rattle.domino_tree.specs.declared.expr.Expr.TheVariants as e
use Rattle.domino_tree.specs.declared.program.Target.{Target}
use Rattle.domino_tree.specs.declared.program.Target.TheVariants as target
use Rattle.domino_tree.specs.declared.program.Stmt.{Stmt}
use Rattle.domino_tree.specs.declared.program.Arm.{Arm}
use Rattle.domino_tree.specs.declared.program.Program.{Program}
use Rattle.domino_tree.specs.Value.{names_of, number_of, array_number}
use Rattle.domino_tree.proofs.ExprLemmas.{Each, induct}
use Rattle.domino_tree.proofs.StmtLemmas as statements
use Rattle.domino_names.specs.declared.role.Role.TheVariants as role
use Rattle.domino_names.specs.declared.role.Kind.{Kind}
use Rattle.domino_names.specs.declared.role.Kind.TheVariants as kind
use Rattle.domino_names.specs.declared.role.Class.TheVariants as class
use Rattle.domino_names.specs.Uses.{Use, joined, expr_uses, target_uses, stmt_uses, arm_uses}
use Rattle.domino_names.specs.Checks.{kinds_in, takes}
use Rattle.domino_check.specs.Numbering.{Access}
use Rattle.domino_check.specs.Numbering.{Numbered, numbered_word, in_numbers, accesses_in, target_accesses, stmt_accesses, arm_accesses, in_turn, block_accesses, accesses}
use Rattle.domino_check.specs.Indexes.{AreBelow}
use Rattle.domino_names.specs.NamesRefused.{PassesNames}
use Rattle.domino_names.proofs.UseLemmas.{AllGood, good_left, good_right, body_good, expr_uses-Number, expr_uses-Word, expr_uses-Cell, expr_uses-One, expr_uses-Two, expr_uses-Pick, expr_uses-Call, expr_uses-Group, stmt_uses-Set, stmt_uses-If, stmt_uses-Else, arm_uses-Arm}
use Rattle.domino_check.proofs.NumberingLemmas.{in_numbers-Number, in_numbers-Word, in_numbers-Field, in_numbers-Cell, in_numbers-One, in_numbers-Two, in_numbers-Pick, in_numbers-Call, in_numbers-Group, stmt_accesses-Set, stmt_accesses-If, stmt_accesses-Else, arm_accesses-Arm}
use Rattle.domino_names.proofs.DeclaredLemmas.{defined_number, register_number}

-- ---- accesses

below_append : (n : ℕ) (xs ys : List Access) → AreBelow n xs → AreBelow n ys → AreBelow n (xs ++ ys)
below_append n [] ys a b = b
below_append n (x ∷ xs) ys a b = (a.0, below_append n xs ys a.1 b)

module _ (p : Program) where
  abbrev n : ℕ
  n = length (names_of p).arrays

  -- ---- expressions

  -- the accesses of a word that is used as a value
  value_below : (w : List ℕ) (k : Kind) → kinds_in p class.Others w ≡ Some k → takes role.Value k ≡ true → AreBelow n (numbered_word (number_of w (names_of p).defines) (array_number (names_of p) w)).accesses
  value_below w kind.Define is t =
      let d = defined_number p class.Others w is in
      subst (λ o. AreBelow n (numbered_word o (array_number (names_of p) w)).accesses) (sym d.1) tt
  value_below w kind.Scalar is t = by (number_of w (names_of p).defines)
    where
      by : (o : Option ℤ) → AreBelow n (numbered_word o (array_number (names_of p) w)).accesses
      by None = (register_number p class.Others w kind.Scalar is refl, tt)
      by (Some z) = tt
  value_below w kind.Field is t = absurd (true≢false (sym t))
  value_below w kind.Struct is t = absurd (true≢false (sym t))
  value_below w kind.Array is t = absurd (true≢false (sym t))
  value_below w kind.Function is t = absurd (true≢false (sym t))
  value_below w kind.Packet is t = absurd (true≢false (sym t))
  value_below w kind.Hash is t = absurd (true≢false (sym t))

  array_below : (w : List ℕ) (k : Kind) → kinds_in p class.Others w ≡ Some k → takes role.Array k ≡ true → array_number (names_of p) w < n
  array_below w kind.Array is t = register_number p class.Others w kind.Array is refl
  array_below w kind.Define is t = absurd (true≢false (sym t))
  array_below w kind.Scalar is t = absurd (true≢false (sym t))
  array_below w kind.Field is t = absurd (true≢false (sym t))
  array_below w kind.Struct is t = absurd (true≢false (sym t))
  array_below w kind.Function is t = absurd (true≢false (sym t))
  array_below w kind.Packet is t = absurd (true≢false (sym t))
  array_below w kind.Hash is t = absurd (true≢false (sym t))

  target_below : (w : List ℕ) (k : Kind) → kinds_in p class.Others w ≡ Some k → takes role.Target k ≡ true → array_number (names_of p) w < n
  target_below w kind.Scalar is t = register_number p class.Others w kind.Scalar is refl
  target_below w kind.Array is t = absurd (true≢false (sym t))
  target_below w kind.Define is t = absurd (true≢false (sym t))
  target_below w kind.Field is t = absurd (true≢false (sym t))
  target_below w kind.Struct is t = absurd (true≢false (sym t))
  target_below w kind.Function is t = absurd (true≢false (sym t))
  target_below w kind.Packet is t = absurd (true≢false (sym t))
  target_below w kind.Hash is t = absurd (true≢false (sym t))

  abbrev Below : Expr → Type 0
  Below x = AllGood p (expr_uses x) → AreBelow n (accesses_in (names_of p) x)

  -- the accesses are these, and the uses those
  below_by : (x : Expr) (uses : List Use) (is : List Access) → expr_uses x ≡ uses → accesses_in (names_of p) x ≡ is → (AllGood p uses → AreBelow n is) → Below x
  below_by x uses is u a h good = subst (AreBelow n) (sym a) (h (subst (AllGood p) u good))

  args_below : (args : List Expr) → Each Below args → AllGood p (joined (map expr_uses args)) → AreBelow n (flat_map (λ (x : Numbered). x.accesses) (map (in_numbers (names_of p)) args))
  args_below [] each good = tt
  args_below (a ∷ args) each good =
      below_append n (accesses_in (names_of p) a) (flat_map (λ (x : Numbered). x.accesses) (map (in_numbers (names_of p)) args))
      (each.0 (good_left p (expr_uses a) (joined (map expr_uses args)) good))
      (args_below args each.1 (good_right p (expr_uses a) (joined (map expr_uses args)) good))

  expr_below : (x : Expr) → Below x
  expr_below = induct Below
      (λ m. below_by (e.Number m) [] [] (expr_uses-Number m) (ap (λ (x : Numbered). x.accesses) (in_numbers-Number (names_of p) m)) (λ good. tt))
      (λ w. below_by (e.Word w) _ _ (expr_uses-Word w) (ap (λ (x : Numbered). x.accesses) (in_numbers-Word (names_of p) w)) (λ good. value_below w good.0.known good.0.is good.0.taken))
      (λ q f good. subst (AreBelow n) (sym (ap (λ (x : Numbered). x.accesses) (in_numbers-Field (names_of p) q f))) tt)
      (λ a i h. below_by (e.Cell a i) _ _ (expr_uses-Cell a i) (ap (λ (x : Numbered). x.accesses) (in_numbers-Cell (names_of p) a i)) (λ good. (array_below a good.0.known good.0.is good.0.taken, h good.1)))
      (λ op a h. below_by (e.One op a) _ _ (expr_uses-One op a) (ap (λ (x : Numbered). x.accesses) (in_numbers-One (names_of p) op a)) h)
      (λ op a b h k. below_by (e.Two op a b) _ _ (expr_uses-Two op a b) (ap (λ (x : Numbered). x.accesses) (in_numbers-Two (names_of p) op a b))
      (λ good. below_append n (accesses_in (names_of p) a) (accesses_in (names_of p) b) (h (good_left p (expr_uses a) (expr_uses b) good)) (k (good_right p (expr_uses a) (expr_uses b) good))))
      (λ c a b h k l. below_by (e.Pick c a b) _ _ (expr_uses-Pick c a b) (ap (λ (x : Numbered). x.accesses) (in_numbers-Pick (names_of p) c a b))
      (λ good. let rest = good_right p (expr_uses c) (expr_uses a ++ expr_uses b) good in
      below_append n (accesses_in (names_of p) c) (accesses_in (names_of p) a ++ accesses_in (names_of p) b) (h (good_left p (expr_uses c) (expr_uses a ++ expr_uses b) good))
      (below_append n (accesses_in (names_of p) a) (accesses_in (names_of p) b) (k (good_left p (expr_uses a) (expr_uses b) rest)) (l (good_right p (expr_uses a) (expr_uses b) rest)))))
      (λ f args each. below_by (e.Call f args) _ _ (expr_uses-Call f args) (ap (λ (x : Numbered). x.accesses) (in_numbers-Call (names_of p) f args)) (λ good. args_below args each good.1))
      (λ a h. below_by (e.Group a) _ _ (expr_uses-Group a) (ap (λ (x : Numbered). x.accesses) (in_numbers-Group (names_of p) a)) h)

  -- ---- statements

  goal_below : (t : Target) → AllGood p (target_uses t) → AreBelow n (target_accesses (names_of p) t)
  goal_below (target.Word w) good = (target_below w good.0.known good.0.is good.0.taken, tt)
  goal_below (target.Field q f) good = tt
  goal_below (target.Cell a i) good = (array_below a good.0.known good.0.is good.0.taken, expr_below i good.1)

  abbrev StmtBelow : Stmt → Type 0
  StmtBelow x = AllGood p (stmt_uses x) → AreBelow n (stmt_accesses (names_of p) x)

  abbrev ArmBelow : Arm → Type 0
  ArmBelow x = AllGood p (arm_uses x) → AreBelow n (arm_accesses (names_of p) x)

  stmts_below : (body : List Stmt) → Each StmtBelow body → AllGood p (joined (map stmt_uses body)) → AreBelow n (in_turn (map (stmt_accesses (names_of p)) body))
  stmts_below [] each good = tt
  stmts_below (x ∷ body) each good =
      below_append n (stmt_accesses (names_of p) x) (in_turn (map (stmt_accesses (names_of p)) body))
      (each.0 (good_left p (stmt_uses x) (joined (map stmt_uses body)) good))
      (stmts_below body each.1 (good_right p (stmt_uses x) (joined (map stmt_uses body)) good))

  arms_below : (arms : List Arm) → Each ArmBelow arms → AllGood p (joined (map arm_uses arms)) → AreBelow n (in_turn (map (arm_accesses (names_of p)) arms))
  arms_below [] each good = tt
  arms_below (x ∷ arms) each good =
      below_append n (arm_accesses (names_of p) x) (in_turn (map (arm_accesses (names_of p)) arms))
      (each.0 (good_left p (arm_uses x) (joined (map arm_uses arms)) good))
      (arms_below arms each.1 (good_right p (arm_uses x) (joined (map arm_uses arms)) good))

  stmt_below : (x : Stmt) → StmtBelow x
  stmt_below = statements.induct StmtBelow ArmBelow
      (λ t x good.
      let good' = subst (AllGood p) (stmt_uses-Set t x) good in
      subst (AreBelow n) (sym (stmt_accesses-Set (names_of p) t x))
      (below_append n (target_accesses (names_of p) t) (accesses_in (names_of p) x) (goal_below t (good_left p (target_uses t) (expr_uses x) good')) (expr_below x (good_right p (target_uses t) (expr_uses x) good'))))
      (λ arms each good.
      let good' = subst (AllGood p) (stmt_uses-If arms) good in
      subst (AreBelow n) (sym (stmt_accesses-If (names_of p) arms))
      (below_append n (in_turn (map (arm_accesses (names_of p)) arms)) [] (arms_below arms each (good_left p (joined (map arm_uses arms)) [] good')) tt))
      (λ arms body each rest good.
      let good' = subst (AllGood p) (stmt_uses-Else arms body) good in
      subst (AreBelow n) (sym (stmt_accesses-Else (names_of p) arms body))
      (below_append n (in_turn (map (arm_accesses (names_of p)) arms)) (block_accesses (names_of p) body)
      (arms_below arms each (good_left p (joined (map arm_uses arms)) (joined (map stmt_uses body)) good'))
      (stmts_below body rest (good_right p (joined (map arm_uses arms)) (joined (map stmt_uses body)) good'))))
      (λ cond body rest good.
      let good' = subst (AllGood p) (arm_uses-Arm cond body) good in
      subst (AreBelow n) (sym (arm_accesses-Arm (names_of p) cond body))
      (below_append n (accesses_in (names_of p) cond) (block_accesses (names_of p) body)
      (expr_below cond (good_left p (expr_uses cond) (joined (map stmt_uses body)) good'))
      (stmts_below body rest (good_right p (expr_uses cond) (joined (map stmt_uses body)) good'))))

  body_below : (body : List Stmt) → AllGood p (joined (map stmt_uses body)) → AreBelow n (block_accesses (names_of p) body)
  body_below [] good = tt
  body_below (x ∷ body) good =
      below_append n (stmt_accesses (names_of p) x) (block_accesses (names_of p) body)
      (stmt_below x (good_left p (stmt_uses x) (joined (map stmt_uses body)) good))
      (body_below body (good_right p (stmt_uses x) (joined (map stmt_uses body)) good))

  -- each array that is accessed is one of the program
  pub accesses_below : PassesNames p → AreBelow n (accesses p)
  accesses_below passes = body_below p.function.body (body_good p passes)
