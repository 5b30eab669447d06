-- Trees in numbers of a program whose names pass are well formed.
use Rattle.std.proofs.Common.{◌≡◌, ℕ, ◌==◌, ℤ, pos, Bool, true, false, ◌&&◌, nat_lt, nat_eq, List, [], ◌∷◌, ◌++◌, length, map, flat_map, Option, Some, None, if◌then◌else◌, refl, sym, ap, subst, ◌∙◌, eq-eqb}
use Rattle.std.proofs.lemmas.Bool.{lt-ltb}
use Rattle.std.proofs.lemmas.List.{length-map}
use Rattle.mp5_words.specs.declared.op.Op1.{Op1}
use Rattle.mp5_words.specs.declared.op.Op2.{Op2}
use Rattle.mp5_words.specs.declared.hashing.HashKind.{HashKind}
use Rattle.mp5_words.specs.Words.{arity}
use Rattle.domino_tree.specs.declared.expr.Expr.{Expr}
use Rattle.domino_tree.specs.declared.expr.Expr.TheVariants as e
use Rattle.domino_tree.specs.declared.program.Target.{Target}
use Rattle.domino_tree.specs.declared.program.Target.TheVariants as target
use Rattle.domino_tree.specs.declared.program.Stmt.{Stmt}
use Rattle.domino_tree.specs.declared.program.Arm.{Arm}
use Rattle.domino_tree.specs.declared.program.Program.{Program}
use Rattle.domino_tree.specs.Grammar.{all_true}
use Rattle.domino_tree.specs.Value.{Names, names_of, number_of, array_number, field_number}
use Rattle.domino_tree.proofs.ExprLemmas.{Each, induct}
use Rattle.domino_tree.proofs.StmtLemmas as statements
use Rattle.domino_check.specs.declared.numbered.CheckedExpr.{CheckedExpr, fold-roll-CheckedExpr}
use Rattle.domino_check.specs.declared.numbered.CheckedExpr.TheOpen as F
use Rattle.domino_check.specs.declared.numbered.CheckedExpr.TheVariants as expr
use Rattle.domino_check.specs.declared.numbered.CheckedStmt.{CheckedStmt, fold-roll-CheckedStmt}
use Rattle.domino_check.specs.declared.numbered.CheckedStmt.TheOpen as O
use Rattle.domino_check.specs.declared.numbered.CheckedStmt.TheVariants as stmt
use Rattle.domino_check.specs.declared.numbered.CheckedArm.{CheckedArm, fold-roll-CheckedArm}
use Rattle.domino_check.specs.Numbering.{Access}
use Rattle.domino_names.specs.declared.role.Kind.{Kind}
use Rattle.domino_names.specs.declared.role.Kind.TheVariants as kind
use Rattle.domino_names.specs.declared.role.Role.TheVariants as role
use Rattle.domino_names.specs.declared.role.Class.TheVariants as class
use Rattle.domino_names.specs.Uses.{Use, joined, expr_uses, target_uses, stmt_uses, arm_uses}
use Rattle.domino_names.specs.Checks.{kinds_in, takes}
use Rattle.domino_check.specs.Numbering.{Numbered, in_numbers, numbered, accesses_in, plain_index, access_at, register_at, numbered_word, or_two, called, numbered_set, numbered_stmt, numbered_arm, target_accesses, stmt_accesses, arm_accesses, in_turn, block_accesses, numbered_body, accesses}
use Rattle.domino_check.specs.Indexes.{AreBelow, index_of}
use Rattle.domino_names.specs.NamesRefused.{PassesNames}
use Rattle.domino_check.specs.WellFormed.{fitting, fits, index_fits, stmt_fitting, arm_fitting, stmt_fits, arm_fits, body_fits}
use Rattle.domino_check.proofs.NumberingLemmas as numbering
use Rattle.domino_names.proofs.DeclaredLemmas.{field_below}
use Rattle.domino_names.proofs.UseLemmas.{AllGood, good_left, good_right, body_good, expr_uses-Field, expr_uses-Cell, expr_uses-One, expr_uses-Two, expr_uses-Pick, expr_uses-Call, expr_uses-Group, stmt_uses-Set, stmt_uses-If, stmt_uses-Else, arm_uses-Arm}
use Rattle.domino_check.proofs.BelowLemmas.{accesses_below}
use Rattle.std.proofs.Common.{true≢false}

-- ---- well-formedness at each form

module _ (fields arrays : ℕ) where
  pub fits-Number : (n : ℤ) → fits fields arrays (expr.Number n) ≡ true
  fits-Number n = ap (fits fields arrays) (sym (expr.rolls-Number n)) ∙ fold-roll-CheckedExpr Bool (fitting fields arrays) (F.CheckedExpr-F.Number n)

  pub fits-Field : (f : ℕ) → fits fields arrays (expr.Field f) ≡ nat_lt f fields
  fits-Field f = ap (fits fields arrays) (sym (expr.rolls-Field f)) ∙ fold-roll-CheckedExpr Bool (fitting fields arrays) (F.CheckedExpr-F.Field f)

  pub fits-Cell : (a : ℕ) → fits fields arrays (expr.Cell a) ≡ nat_lt a arrays
  fits-Cell a = ap (fits fields arrays) (sym (expr.rolls-Cell a)) ∙ fold-roll-CheckedExpr Bool (fitting fields arrays) (F.CheckedExpr-F.Cell a)

  pub fits-One : (op : Op1) (a : CheckedExpr) → fits fields arrays (expr.One op a) ≡ fits fields arrays a
  fits-One op a = ap (fits fields arrays) (sym (expr.rolls-One op a)) ∙ fold-roll-CheckedExpr Bool (fitting fields arrays) (F.CheckedExpr-F.One op a)

  pub fits-Two : (op : Op2) (a b : CheckedExpr) → fits fields arrays (expr.Two op a b) ≡ (fits fields arrays a && fits fields arrays b)
  fits-Two op a b = ap (fits fields arrays) (sym (expr.rolls-Two op a b)) ∙ fold-roll-CheckedExpr Bool (fitting fields arrays) (F.CheckedExpr-F.Two op a b)

  pub fits-Pick : (c a b : CheckedExpr) → fits fields arrays (expr.Pick c a b) ≡ (fits fields arrays c && (fits fields arrays a && fits fields arrays b))
  fits-Pick c a b = ap (fits fields arrays) (sym (expr.rolls-Pick c a b)) ∙ fold-roll-CheckedExpr Bool (fitting fields arrays) (F.CheckedExpr-F.Pick c a b)

  pub fits-Hash : (k : HashKind) (args : List CheckedExpr) → fits fields arrays (expr.Hash k args) ≡ (nat_eq (length (map (fits fields arrays) args)) (arity k) && all_true (map (fits fields arrays) args))
  fits-Hash k args = ap (fits fields arrays) (sym (expr.rolls-Hash k args)) ∙ fold-roll-CheckedExpr Bool (fitting fields arrays) (F.CheckedExpr-F.Hash k args)

  pub fits-SetField : (f : ℕ) (x : CheckedExpr) → stmt_fits fields arrays (stmt.SetField f x) ≡ (nat_lt f fields && fits fields arrays x)
  fits-SetField f x = ap (stmt_fits fields arrays) (sym (stmt.rolls-SetField f x)) ∙ fold-roll-CheckedStmt Bool Bool (stmt_fitting fields arrays) (arm_fitting fields arrays) (O.CheckedStmt-F.SetField f x)

  pub fits-SetCell : (a : ℕ) (x : CheckedExpr) → stmt_fits fields arrays (stmt.SetCell a x) ≡ (nat_lt a arrays && fits fields arrays x)
  fits-SetCell a x = ap (stmt_fits fields arrays) (sym (stmt.rolls-SetCell a x)) ∙ fold-roll-CheckedStmt Bool Bool (stmt_fitting fields arrays) (arm_fitting fields arrays) (O.CheckedStmt-F.SetCell a x)

  pub fits-If : (arms : List CheckedArm) → stmt_fits fields arrays (stmt.If arms None) ≡ (all_true (map (arm_fits fields arrays) arms) && true)
  fits-If arms = ap (stmt_fits fields arrays) (sym (stmt.rolls-If arms None)) ∙ fold-roll-CheckedStmt Bool Bool (stmt_fitting fields arrays) (arm_fitting fields arrays) (O.CheckedStmt-F.If arms None)

  pub fits-Else : (arms : List CheckedArm) (body : List CheckedStmt) → stmt_fits fields arrays (stmt.If arms (Some body)) ≡ (all_true (map (arm_fits fields arrays) arms) && all_true (map (stmt_fits fields arrays) body))
  fits-Else arms body = ap (stmt_fits fields arrays) (sym (stmt.rolls-If arms (Some body))) ∙ fold-roll-CheckedStmt Bool Bool (stmt_fitting fields arrays) (arm_fitting fields arrays) (O.CheckedStmt-F.If arms (Some body))

  pub fits-Arm : (cond : CheckedExpr) (body : List CheckedStmt) → arm_fits fields arrays (record { cond = cond; body = body }) ≡ (fits fields arrays cond && all_true (map (stmt_fits fields arrays) body))
  fits-Arm cond body = fold-roll-CheckedArm Bool Bool (stmt_fitting fields arrays) (arm_fitting fields arrays) (record { cond = cond; body = body })

-- ---- truths

both : {a b : Bool} → a ≡ true → b ≡ true → (a && b) ≡ true
both {a = a} {b = b} h k = λ i. h i && k i

-- ---- accesses whose indexes are well formed

abbrev pub AllIndexFit : ℕ → List Access → Type 0
AllIndexFit fields [] = Unit {0}
AllIndexFit fields (x ∷ xs) = (index_fits fields x.index ≡ true) × AllIndexFit fields xs

index_append : (fields : ℕ) (xs ys : List Access) → AllIndexFit fields xs → AllIndexFit fields ys → AllIndexFit fields (xs ++ ys)
index_append fields [] ys a b = b
index_append fields (x ∷ xs) ys a b = (a.0, index_append fields xs ys a.1 b)

-- the index of an array is that of an access, or none
pub index_of_fits : (fields : ℕ) (xs : List Access) (a : ℕ) → AllIndexFit fields xs → index_fits fields (index_of xs a) ≡ true
index_of_fits fields [] a fit = refl
index_of_fits fields (x ∷ xs) a fit = by (x.array == a) (index_of_fits fields xs a fit.1)
  where
    by : (b : Bool) → index_fits fields (index_of xs a) ≡ true → index_fits fields (if b then x.index else index_of xs a) ≡ true
    by true rest = fit.0
    by false rest = rest

-- an index in which no array stands
plain_fits : (fields : ℕ) (tree : CheckedExpr) (inside : List Access) → (inside ≡ [] → fits fields 0 tree ≡ true) → index_fits fields (plain_index tree inside) ≡ true
plain_fits fields tree [] h = h refl
plain_fits fields tree (x ∷ inside) h = refl

below_front : (n : ℕ) (xs ys : List Access) → AreBelow n (xs ++ ys) → AreBelow n xs
below_front n [] ys h = tt
below_front n (x ∷ xs) ys h = (h.0, below_front n xs ys h.1)

below_back : (n : ℕ) (xs ys : List Access) → AreBelow n (xs ++ ys) → AreBelow n ys
below_back n [] ys h = h
below_back n (x ∷ xs) ys h = below_back n xs ys h.1

below_none : (n : ℕ) (xs : List Access) → xs ≡ [] → AreBelow n xs
below_none n xs is = subst (AreBelow n) (sym is) tt

module _ (p : Program) where
  abbrev names : Names
  names = names_of p

  abbrev count : ℕ
  count = length p.packet.fields

  -- the tree fits wherever its accesses are of arrays that there are, and the indexes of its accesses fit
  abbrev Good : Expr → Type 0
  Good x = AllGood p (expr_uses x) → ((m : ℕ) → AreBelow m (accesses_in names x) → fits count m (numbered names x) ≡ true) × AllIndexFit count (accesses_in names x)

  -- the form in numbers and its uses are these
  good_by : (x : Expr) (uses : List Use) (is : Numbered) → expr_uses x ≡ uses → in_numbers names x ≡ is
      → (AllGood p uses → ((m : ℕ) → AreBelow m is.accesses → fits count m is.tree ≡ true) × AllIndexFit count is.accesses) → Good x
  good_by x uses is u form h good =
      subst (λ (y : Numbered). ((m : ℕ) → AreBelow m y.accesses → fits count m y.tree ≡ true) × AllIndexFit count y.accesses) (sym form) (h (subst (AllGood p) u good))

  field_fits : (f : List ℕ) (k : Kind) → kinds_in p class.Fields f ≡ Some k → takes role.Field k ≡ true → nat_lt (field_number names f) count ≡ true
  field_fits f kind.Field is t = lt-ltb (field_number names f) count (field_below p class.Fields f is)
  field_fits f kind.Define is t = absurd (true≢false (sym t))
  field_fits f kind.Scalar is t = absurd (true≢false (sym t))
  field_fits f kind.Struct is t = absurd (true≢false (sym t))
  field_fits f kind.Array is t = absurd (true≢false (sym t))
  field_fits f kind.Function is t = absurd (true≢false (sym t))
  field_fits f kind.Packet is t = absurd (true≢false (sym t))
  field_fits f kind.Hash is t = absurd (true≢false (sym t))

  register_fits : (a : ℕ) → AllIndexFit count (register_at a ∷ [])
  register_fits a = (fits-Number count 0 (pos 0), tt)

  word_fits : (number : Option ℤ) (a : ℕ) → ((m : ℕ) → AreBelow m (numbered_word number a).accesses → fits count m (numbered_word number a).tree ≡ true) × AllIndexFit count (numbered_word number a).accesses
  word_fits (Some n) a = ((λ m below. fits-Number count m n), tt)
  word_fits None a = ((λ m below. fits-Cell count m a ∙ lt-ltb a m below.0), register_fits a)

  -- the access of an array at an index
  access_fits : (a : ℕ) (i : Expr) → Good i → AllGood p (expr_uses i) → AllIndexFit count (access_at a (in_numbers names i))
  access_fits a i held good = (plain_fits count (numbered names i) (accesses_in names i) (λ none. (held good).0 0 (below_none 0 (accesses_in names i) none)), (held good).1)

  abbrev trees : List Expr → List CheckedExpr
  trees args = map (λ (a : Numbered). a.tree) (map (in_numbers names) args)

  args_fit : (args : List Expr) → Each Good args → AllGood p (joined (map expr_uses args))
      → ((m : ℕ) → AreBelow m (flat_map (λ (a : Numbered). a.accesses) (map (in_numbers names) args)) → all_true (map (fits count m) (trees args)) ≡ true)
      × AllIndexFit count (flat_map (λ (a : Numbered). a.accesses) (map (in_numbers names) args))
  args_fit [] each good = ((λ m below. refl), tt)
  args_fit (x ∷ args) each good =
      let here = each.0 (good_left p (expr_uses x) (joined (map expr_uses args)) good) in
      let rest = args_fit args each.1 (good_right p (expr_uses x) (joined (map expr_uses args)) good) in (
        (λ m below. both (here.0 m (below_front m (accesses_in names x) _ below)) (rest.0 m (below_back m (accesses_in names x) _ below))),
        index_append count (accesses_in names x) _ here.1 rest.1,
      )

  args_count : (args : List Expr) (m : ℕ) → length (map (fits count m) (trees args)) ≡ length (map expr_uses args)
  args_count args m =
      length-map (trees args) (fits count m)
      ∙ length-map (map (in_numbers names) args) (λ (a : Numbered). a.tree)
      ∙ length-map args (in_numbers names)
      ∙ sym (length-map args expr_uses)

  expr_good : (x : Expr) → Good x
  expr_good = induct Good
      (λ n good. subst (λ (y : Numbered). ((m : ℕ) → AreBelow m y.accesses → fits count m y.tree ≡ true) × AllIndexFit count y.accesses) (sym (numbering.in_numbers-Number names n)) ((λ m below. fits-Number count m n), tt))
      (λ w good. subst (λ (y : Numbered). ((m : ℕ) → AreBelow m y.accesses → fits count m y.tree ≡ true) × AllIndexFit count y.accesses) (sym (numbering.in_numbers-Word names w)) (word_fits (number_of w names.defines) (array_number names w)))
      (λ q f. good_by (e.Field q f) _ _ (expr_uses-Field q f) (numbering.in_numbers-Field names q f)
      (λ good. ((λ m below. fits-Field count m (field_number names f) ∙ field_fits f good.1.0.known good.1.0.is good.1.0.taken), tt)))
      (λ a i held. good_by (e.Cell a i) _ _ (expr_uses-Cell a i) (numbering.in_numbers-Cell names a i)
      (λ good. ((λ m below. fits-Cell count m (array_number names a) ∙ lt-ltb (array_number names a) m below.0), access_fits (array_number names a) i held good.1)))
      (λ op a held. good_by (e.One op a) _ _ (expr_uses-One op a) (numbering.in_numbers-One names op a)
      (λ good. ((λ m below. fits-One count m op (numbered names a) ∙ (held good).0 m below), (held good).1)))
      (λ op a b held also. good_by (e.Two op a b) _ _ (expr_uses-Two op a b) (numbering.in_numbers-Two names op a b)
      (λ good.
      let left = held (good_left p (expr_uses a) (expr_uses b) good) in
      let right = also (good_right p (expr_uses a) (expr_uses b) good) in (
        (λ m below. fits-Two count m op (numbered names a) (numbered names b) ∙ both (left.0 m (below_front m (accesses_in names a) (accesses_in names b) below)) (right.0 m (below_back m (accesses_in names a) (accesses_in names b) below))),
        index_append count (accesses_in names a) (accesses_in names b) left.1 right.1,
      )))
      (λ c a b held also too. good_by (e.Pick c a b) _ _ (expr_uses-Pick c a b) (numbering.in_numbers-Pick names c a b)
      (λ good.
      let rest = good_right p (expr_uses c) (expr_uses a ++ expr_uses b) good in
      let cond = held (good_left p (expr_uses c) (expr_uses a ++ expr_uses b) good) in
      let left = also (good_left p (expr_uses a) (expr_uses b) rest) in
      let right = too (good_right p (expr_uses a) (expr_uses b) rest) in (
        (λ m below.
            let back = below_back m (accesses_in names c) (accesses_in names a ++ accesses_in names b) below in
            fits-Pick count m (numbered names c) (numbered names a) (numbered names b)
            ∙ both (cond.0 m (below_front m (accesses_in names c) (accesses_in names a ++ accesses_in names b) below))
            (both (left.0 m (below_front m (accesses_in names a) (accesses_in names b) back)) (right.0 m (below_back m (accesses_in names a) (accesses_in names b) back)))),
        index_append count (accesses_in names c) (accesses_in names a ++ accesses_in names b) cond.1 (index_append count (accesses_in names a) (accesses_in names b) left.1 right.1),
      )))
      (λ f args each. good_by (e.Call f args) _ _ (expr_uses-Call f args) (numbering.in_numbers-Call names f args)
      (λ good.
      let parts = args_fit args each good.1 in
      let call = good.0.call in (
        (λ m below.
            fits-Hash count m (called f) (trees args)
            ∙ both (ap (λ (k : HashKind). nat_eq (length (map (fits count m) (trees args))) (arity k)) (ap or_two call.1) ∙ eq-eqb (length (map (fits count m) (trees args))) (arity call.0) (args_count args m ∙ call.2)) (parts.0 m below)),
        parts.1,
      )))
      (λ a held. good_by (e.Group a) _ _ (expr_uses-Group a) (numbering.in_numbers-Group names a) held)

  -- ---- statements

  -- an assignment in numbers fits, and so do the indexes of its accesses
  set_good : (t : Target) (x : Expr) → AllGood p (target_uses t ++ expr_uses x)
      → ((m : ℕ) → AreBelow m (target_accesses names t ++ accesses_in names x) → stmt_fits count m (numbered_set names t (numbered names x)) ≡ true) × AllIndexFit count (target_accesses names t ++ accesses_in names x)
  set_good (target.Word w) x good =
      let right = expr_good x good.1 in (
        (λ m below. fits-SetCell count m (array_number names w) (numbered names x) ∙ both (lt-ltb (array_number names w) m below.0) (right.0 m below.1)),
        (fits-Number count 0 (pos 0), right.1),
      )
  set_good (target.Field q f) x good =
      let right = expr_good x good.1.1 in (
        (λ m below. fits-SetField count m (field_number names f) (numbered names x) ∙ both (field_fits f good.1.0.known good.1.0.is good.1.0.taken) (right.0 m below)),
        right.1,
      )
  set_good (target.Cell a i) x good =
      let right = expr_good x (good_right p (expr_uses i) (expr_uses x) good.1) in
      let inside = access_fits (array_number names a) i (expr_good i) (good_left p (expr_uses i) (expr_uses x) good.1) in (
        (λ m below. fits-SetCell count m (array_number names a) (numbered names x) ∙ both (lt-ltb (array_number names a) m below.0) (right.0 m (below_back m (accesses_in names i) (accesses_in names x) below.1))),
        index_append count (access_at (array_number names a) (in_numbers names i)) (accesses_in names x) inside right.1,
      )

  abbrev StmtGood : Stmt → Type 0
  StmtGood x = AllGood p (stmt_uses x) → ((m : ℕ) → AreBelow m (stmt_accesses names x) → stmt_fits count m (numbered_stmt names x) ≡ true) × AllIndexFit count (stmt_accesses names x)

  abbrev ArmGood : Arm → Type 0
  ArmGood x = AllGood p (arm_uses x) → ((m : ℕ) → AreBelow m (arm_accesses names x) → arm_fits count m (numbered_arm names x) ≡ true) × AllIndexFit count (arm_accesses names x)

  stmts_good : (body : List Stmt) → Each StmtGood body → AllGood p (joined (map stmt_uses body))
      → ((m : ℕ) → AreBelow m (block_accesses names body) → all_true (map (stmt_fits count m) (map (numbered_stmt names) body)) ≡ true) × AllIndexFit count (block_accesses names body)
  stmts_good [] each good = ((λ m below. refl), tt)
  stmts_good (x ∷ body) each good =
      let here = each.0 (good_left p (stmt_uses x) (joined (map stmt_uses body)) good) in
      let rest = stmts_good body each.1 (good_right p (stmt_uses x) (joined (map stmt_uses body)) good) in (
        (λ m below. both (here.0 m (below_front m (stmt_accesses names x) (block_accesses names body) below)) (rest.0 m (below_back m (stmt_accesses names x) (block_accesses names body) below))),
        index_append count (stmt_accesses names x) (block_accesses names body) here.1 rest.1,
      )

  arms_good : (arms : List Arm) → Each ArmGood arms → AllGood p (joined (map arm_uses arms))
      → ((m : ℕ) → AreBelow m (in_turn (map (arm_accesses names) arms)) → all_true (map (arm_fits count m) (map (numbered_arm names) arms)) ≡ true) × AllIndexFit count (in_turn (map (arm_accesses names) arms))
  arms_good [] each good = ((λ m below. refl), tt)
  arms_good (x ∷ arms) each good =
      let here = each.0 (good_left p (arm_uses x) (joined (map arm_uses arms)) good) in
      let rest = arms_good arms each.1 (good_right p (arm_uses x) (joined (map arm_uses arms)) good) in (
        (λ m below. both (here.0 m (below_front m (arm_accesses names x) (in_turn (map (arm_accesses names) arms)) below)) (rest.0 m (below_back m (arm_accesses names x) (in_turn (map (arm_accesses names) arms)) below))),
        index_append count (arm_accesses names x) (in_turn (map (arm_accesses names) arms)) here.1 rest.1,
      )

  -- the statement in numbers and its accesses are these
  stmt_by : (x : Stmt) (uses : List Use) (tree : CheckedStmt) (is : List Access) → stmt_uses x ≡ uses → numbered_stmt names x ≡ tree → stmt_accesses names x ≡ is
      → (AllGood p uses → ((m : ℕ) → AreBelow m is → stmt_fits count m tree ≡ true) × AllIndexFit count is) → StmtGood x
  stmt_by x uses tree is u t a h good =
      subst (λ (l : List Access). ((m : ℕ) → AreBelow m l → stmt_fits count m (numbered_stmt names x) ≡ true) × AllIndexFit count l) (sym a)
      (subst (λ (y : CheckedStmt). ((m : ℕ) → AreBelow m is → stmt_fits count m y ≡ true) × AllIndexFit count is) (sym t) (h (subst (AllGood p) u good)))

  arm_by : (x : Arm) (uses : List Use) (tree : CheckedArm) (is : List Access) → arm_uses x ≡ uses → numbered_arm names x ≡ tree → arm_accesses names x ≡ is
      → (AllGood p uses → ((m : ℕ) → AreBelow m is → arm_fits count m tree ≡ true) × AllIndexFit count is) → ArmGood x
  arm_by x uses tree is u t a h good =
      subst (λ (l : List Access). ((m : ℕ) → AreBelow m l → arm_fits count m (numbered_arm names x) ≡ true) × AllIndexFit count l) (sym a)
      (subst (λ (y : CheckedArm). ((m : ℕ) → AreBelow m is → arm_fits count m y ≡ true) × AllIndexFit count is) (sym t) (h (subst (AllGood p) u good)))

  stmt_good : (x : Stmt) → StmtGood x
  stmt_good = statements.induct StmtGood ArmGood
      (λ t x. stmt_by _ _ _ _ (stmt_uses-Set t x) (numbering.numbered_stmt-Set names t x) (numbering.stmt_accesses-Set names t x) (set_good t x))
      (λ arms each. stmt_by _ _ _ _ (stmt_uses-If arms) (numbering.numbered_stmt-If names arms) (numbering.stmt_accesses-If names arms)
      (λ good.
      let parts = arms_good arms each (good_left p (joined (map arm_uses arms)) [] good) in (
        (λ m below. fits-If count m (map (numbered_arm names) arms) ∙ both (parts.0 m (below_front m (in_turn (map (arm_accesses names) arms)) [] below)) refl),
        index_append count (in_turn (map (arm_accesses names) arms)) [] parts.1 tt,
      )))
      (λ arms body each inside. stmt_by _ _ _ _ (stmt_uses-Else arms body) (numbering.numbered_stmt-Else names arms body) (numbering.stmt_accesses-Else names arms body)
      (λ good.
      let parts = arms_good arms each (good_left p (joined (map arm_uses arms)) (joined (map stmt_uses body)) good) in
      let rest = stmts_good body inside (good_right p (joined (map arm_uses arms)) (joined (map stmt_uses body)) good) in (
        (λ m below. fits-Else count m (map (numbered_arm names) arms) (map (numbered_stmt names) body) ∙ both (parts.0 m (below_front m (in_turn (map (arm_accesses names) arms)) (block_accesses names body) below)) (rest.0 m (below_back m (in_turn (map (arm_accesses names) arms)) (block_accesses names body) below))),
        index_append count (in_turn (map (arm_accesses names) arms)) (block_accesses names body) parts.1 rest.1,
      )))
      (λ cond body inside. arm_by _ _ _ _ (arm_uses-Arm cond body) (numbering.numbered_arm-Arm names cond body) (numbering.arm_accesses-Arm names cond body)
      (λ good.
      let first = expr_good cond (good_left p (expr_uses cond) (joined (map stmt_uses body)) good) in
      let rest = stmts_good body inside (good_right p (expr_uses cond) (joined (map stmt_uses body)) good) in (
        (λ m below. fits-Arm count m (numbered names cond) (map (numbered_stmt names) body) ∙ both (first.0 m (below_front m (accesses_in names cond) (block_accesses names body) below)) (rest.0 m (below_back m (accesses_in names cond) (block_accesses names body) below))),
        index_append count (accesses_in names cond) (block_accesses names body) first.1 rest.1,
      )))

  body_good_in : (body : List Stmt) → AllGood p (joined (map stmt_uses body))
      → ((m : ℕ) → AreBelow m (block_accesses names body) → body_fits count m (map (numbered_stmt names) body) ≡ true) × AllIndexFit count (block_accesses names body)
  body_good_in [] good = ((λ m below. refl), tt)
  body_good_in (x ∷ body) good =
      let here = stmt_good x (good_left p (stmt_uses x) (joined (map stmt_uses body)) good) in
      let rest = body_good_in body (good_right p (stmt_uses x) (joined (map stmt_uses body)) good) in (
        (λ m below. both (here.0 m (below_front m (stmt_accesses names x) (block_accesses names body) below)) (rest.0 m (below_back m (stmt_accesses names x) (block_accesses names body) below))),
        index_append count (stmt_accesses names x) (block_accesses names body) here.1 rest.1,
      )

  -- the body in numbers is well formed
  pub body_is_fit : PassesNames p → body_fits count (length names.arrays) (numbered_body p) ≡ true
  body_is_fit passes = (body_good_in p.function.body (body_good p passes)).0 (length names.arrays) (accesses_below p passes)

  -- and so is each index
  pub index_is_fit : (a : ℕ) → PassesNames p → index_fits count (index_of (accesses p) a) ≡ true
  index_is_fit a passes = index_of_fits count (accesses p) a (body_good_in p.function.body (body_good p passes)).1
