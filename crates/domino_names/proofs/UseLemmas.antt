-- The uses in each form, and uses of names that are declared as a kind that can be used so.
use Rattle.std.proofs.Common.{◌≡◌, ℕ, ℤ, Bool, true, false, not, List, [], ◌∷◌, ◌++◌, length, map, flat_map, Option, Some, None, is_none, refl, sym, ap, ◌∙◌, true≢false}
use Rattle.mp5_words.specs.declared.op.Op1.{Op1}
use Rattle.mp5_words.specs.declared.op.Op2.{Op2}
use Rattle.mp5_words.specs.declared.hashing.HashKind.{HashKind}
use Rattle.domino_tree.specs.declared.expr.Expr.{Expr, fold-roll-Expr}
use Rattle.domino_tree.specs.declared.expr.Expr.TheOpen as F
use Rattle.domino_tree.specs.declared.expr.Expr.TheVariants as e
use Rattle.domino_tree.specs.declared.program.Target.{Target}
use Rattle.domino_tree.specs.declared.program.Stmt.{Stmt, fold-roll-Stmt}
use Rattle.domino_tree.specs.declared.program.Arm.{Arm, fold-roll-Arm}
use Rattle.domino_tree.specs.declared.program.Stmt.TheOpen as O
use Rattle.domino_tree.specs.declared.program.Stmt.TheVariants as s
use Rattle.domino_tree.specs.declared.program.Program.{Program}
use Rattle.domino_tree.specs.Value.{hash_kind}
use Rattle.domino_names.specs.declared.role.Role.{Role}
use Rattle.domino_names.specs.declared.role.Role.TheVariants as role
use Rattle.domino_names.specs.declared.role.Kind.{Kind}
use Rattle.domino_names.specs.declared.role.Kind.TheVariants as kind
use Rattle.domino_names.specs.First.{NoFault}
use Rattle.domino_names.specs.Uses.{Use, one_use, field_uses, joined, using, expr_uses, target_uses, stmt_using, arm_using, stmt_uses, arm_uses, item_uses, uses_of}
use Rattle.domino_names.specs.Checks.{kinds_in, kind_for, takes, is_misused, is_miscalled, UnknownAt, WrongKindAt, ArityAt}
use Rattle.domino_names.specs.NamesRefused.{PassesNames}
use Rattle.mp5_words.specs.Words.{arity}
use Rattle.domino_names.proofs.DeclaredLemmas.{hash_called}

-- ---- the uses at each form

pub expr_uses-Number : (n : ℤ) → expr_uses (e.Number n) ≡ []
expr_uses-Number n = ap expr_uses (sym (e.rolls-Number n)) ∙ fold-roll-Expr (List Use) using (F.Expr-F.Number n)

pub expr_uses-Word : (w : List ℕ) → expr_uses (e.Word w) ≡ one_use w role.Value
expr_uses-Word w = ap expr_uses (sym (e.rolls-Word w)) ∙ fold-roll-Expr (List Use) using (F.Expr-F.Word w)

pub expr_uses-Field : (p f : List ℕ) → expr_uses (e.Field p f) ≡ field_uses p f
expr_uses-Field p f = ap expr_uses (sym (e.rolls-Field p f)) ∙ fold-roll-Expr (List Use) using (F.Expr-F.Field p f)

pub expr_uses-Cell : (a : List ℕ) (i : Expr) → expr_uses (e.Cell a i) ≡ one_use a role.Array ++ expr_uses i
expr_uses-Cell a i = ap expr_uses (sym (e.rolls-Cell a i)) ∙ fold-roll-Expr (List Use) using (F.Expr-F.Cell a i)

pub expr_uses-One : (op : Op1) (a : Expr) → expr_uses (e.One op a) ≡ expr_uses a
expr_uses-One op a = ap expr_uses (sym (e.rolls-One op a)) ∙ fold-roll-Expr (List Use) using (F.Expr-F.One op a)

pub expr_uses-Two : (op : Op2) (a b : Expr) → expr_uses (e.Two op a b) ≡ expr_uses a ++ expr_uses b
expr_uses-Two op a b = ap expr_uses (sym (e.rolls-Two op a b)) ∙ fold-roll-Expr (List Use) using (F.Expr-F.Two op a b)

pub expr_uses-Pick : (c a b : Expr) → expr_uses (e.Pick c a b) ≡ expr_uses c ++ (expr_uses a ++ expr_uses b)
expr_uses-Pick c a b = ap expr_uses (sym (e.rolls-Pick c a b)) ∙ fold-roll-Expr (List Use) using (F.Expr-F.Pick c a b)

pub expr_uses-Call : (f : List ℕ) (args : List Expr) → expr_uses (e.Call f args) ≡ one_use f (role.Call (length (map expr_uses args))) ++ joined (map expr_uses args)
expr_uses-Call f args = ap expr_uses (sym (e.rolls-Call f args)) ∙ fold-roll-Expr (List Use) using (F.Expr-F.Call f args)

pub expr_uses-Group : (a : Expr) → expr_uses (e.Group a) ≡ expr_uses a
expr_uses-Group a = ap expr_uses (sym (e.rolls-Group a)) ∙ fold-roll-Expr (List Use) using (F.Expr-F.Group a)

pub stmt_uses-Set : (t : Target) (x : Expr) → stmt_uses (s.Set t x) ≡ target_uses t ++ expr_uses x
stmt_uses-Set t x = ap stmt_uses (sym (s.rolls-Set t x)) ∙ fold-roll-Stmt (List Use) (List Use) stmt_using arm_using (O.Stmt-F.Set t x)

pub stmt_uses-If : (arms : List Arm) → stmt_uses (s.If arms None) ≡ joined (map arm_uses arms) ++ []
stmt_uses-If arms = ap stmt_uses (sym (s.rolls-If arms None)) ∙ fold-roll-Stmt (List Use) (List Use) stmt_using arm_using (O.Stmt-F.If arms None)

pub stmt_uses-Else : (arms : List Arm) (body : List Stmt) → stmt_uses (s.If arms (Some body)) ≡ joined (map arm_uses arms) ++ joined (map stmt_uses body)
stmt_uses-Else arms body = ap stmt_uses (sym (s.rolls-If arms (Some body))) ∙ fold-roll-Stmt (List Use) (List Use) stmt_using arm_using (O.Stmt-F.If arms (Some body))

pub arm_uses-Arm : (cond : Expr) (body : List Stmt) → arm_uses (record { cond = cond; body = body }) ≡ expr_uses cond ++ joined (map stmt_uses body)
arm_uses-Arm cond body = fold-roll-Arm (List Use) (List Use) stmt_using arm_using (record { cond = cond; body = body })

-- ---- uses of declared names

-- a call is of a hash function, with as many arguments as that takes
abbrev pub IsCall : List ℕ → Role → Type 0
IsCall name (role.Call n) = (k : HashKind) × (hash_kind name ≡ Some k) × (n ≡ arity k)
IsCall name r = Unit {0}

abbrev pub AllCalls : List Use → Type 0
AllCalls [] = Unit {0}
AllCalls (u ∷ us) = IsCall u.name u.role × AllCalls us

pub calls_left : (xs ys : List Use) → AllCalls (xs ++ ys) → AllCalls xs
calls_left [] ys h = tt
calls_left (x ∷ xs) ys h = (h.0, calls_left xs ys h.1)

pub calls_right : (xs ys : List Use) → AllCalls (xs ++ ys) → AllCalls ys
calls_right [] ys h = h
calls_right (x ∷ xs) ys h = calls_right xs ys h.1

module _ (p : Program) where
  -- the name of the use is declared as a kind that can be used so, and a call is one of a hash function
  pub record IsGood (u : Use) : Type 0 where
    pub known : Kind
    pub is : kind_for (kinds_in p) u ≡ Some known
    pub taken : takes u.role known ≡ true
    pub call : IsCall u.name u.role

  abbrev pub AllGood : List Use → Type 0
  AllGood [] = Unit {0}
  AllGood (u ∷ us) = IsGood u × AllGood us

  pub good_left : (xs ys : List Use) → AllGood (xs ++ ys) → AllGood xs
  good_left [] ys h = tt
  good_left (x ∷ xs) ys h = (h.0, good_left xs ys h.1)

  pub good_right : (xs ys : List Use) → AllGood (xs ++ ys) → AllGood ys
  good_right [] ys h = h
  good_right (x ∷ xs) ys h = good_right xs ys h.1

  pub good_calls : (us : List Use) → AllGood us → AllCalls us
  good_calls [] h = tt
  good_calls (u ∷ us) h = (h.0.call, good_calls us h.1)

  -- a call of a name that is declared as one that can be called
  good_call : (name : List ℕ) (r : Role) (k : Kind) → kind_for (kinds_in p) (record { name = name; role = r }) ≡ Some k → takes r k ≡ true → (is_miscalled name r ≡ true → ⊥) → IsCall name r
  good_call name (role.Call n) kind.Hash is t right = hash_called p name n is right
  good_call name (role.Call n) kind.Field is t right = absurd (true≢false (sym t))
  good_call name (role.Call n) kind.Struct is t right = absurd (true≢false (sym t))
  good_call name (role.Call n) kind.Define is t right = absurd (true≢false (sym t))
  good_call name (role.Call n) kind.Scalar is t right = absurd (true≢false (sym t))
  good_call name (role.Call n) kind.Array is t right = absurd (true≢false (sym t))
  good_call name (role.Call n) kind.Function is t right = absurd (true≢false (sym t))
  good_call name (role.Call n) kind.Packet is t right = absurd (true≢false (sym t))
  good_call name role.Field k is t right = tt
  good_call name role.Struct k is t right = tt
  good_call name role.Size k is t right = tt
  good_call name role.Value k is t right = tt
  good_call name role.Target k is t right = tt
  good_call name role.Packet k is t right = tt
  good_call name role.Array k is t right = tt

  -- nothing is unknown, of a wrong kind or called wrongly, so each use is good
  good_use : (u : Use) → (is_none (kind_for (kinds_in p) u) ≡ true → ⊥) → (is_misused u.role (kind_for (kinds_in p) u) ≡ true → ⊥) → (is_miscalled u.name u.role ≡ true → ⊥) → IsGood u
  good_use u known kept right = by (kind_for (kinds_in p) u) refl
    where
      by : (o : Option Kind) → kind_for (kinds_in p) u ≡ o → IsGood u
      by None h = absurd (known (ap is_none h))
      by (Some k) h = taking (takes u.role k) refl
        where
          taking : (b : Bool) → takes u.role k ≡ b → IsGood u
          taking true t = record { known = k; is = h; taken = t; call = good_call u.name u.role k h t right }
          taking false t = absurd (kept (ap (is_misused u.role) h ∙ ap not t))

  all_good : (us : List Use) → NoFault (UnknownAt (kinds_in p)) us → NoFault (WrongKindAt (kinds_in p)) us → NoFault ArityAt us → AllGood us
  all_good [] known kept right = tt
  all_good (u ∷ us) known kept right = (
    good_use u (λ h. known [] u us _ refl (h, refl)) (λ h. kept [] u us _ refl (h, refl)) (λ h. right [] u us _ refl (h, refl)),
    all_good us
        (λ before x after g is a. known (u ∷ before) x after g (ap (λ (l : List Use). u ∷ l) is) a)
        (λ before x after g is a. kept (u ∷ before) x after g (ap (λ (l : List Use). u ∷ l) is) a)
        (λ before x after g is a. right (u ∷ before) x after g (ap (λ (l : List Use). u ∷ l) is) a),
  )

  -- all uses of a program whose names pass are good
  pub uses_good : PassesNames p → AllGood (uses_of p)
  uses_good passes = all_good (uses_of p) passes.known passes.kinds passes.calls

  -- those in its body are
  pub body_good : PassesNames p → AllGood (joined (map stmt_uses p.function.body))
  body_good passes = (good_right (flat_map item_uses p.after) _ (good_right (flat_map item_uses p.before) _ (uses_good passes))).1

-- each call in its body is one of a hash function
pub body_calls : (p : Program) → PassesNames p → AllCalls (joined (map stmt_uses p.function.body))
body_calls p passes = good_calls p (joined (map stmt_uses p.function.body)) (body_good p passes)
