-- The grammar's functions at each form of an expression, and induction over expressions.
use Rattle.std.proofs.Common.{◌≡◌, ℕ, suc, ℤ, Bool, true, ◌&&◌, nat_eq, nat_le, List, [], ◌∷◌, ◌++◌, map, sym, ap, subst, ◌∙◌}
use Rattle.std.specs.List.{list_all}
use Rattle.mp5_words.specs.declared.op.Op1.{Op1}
use Rattle.mp5_words.specs.declared.op.Op2.{Op2}
use Rattle.domino_tree.specs.declared.token.Token.{Token}
use Rattle.domino_tree.specs.declared.token.Token.TheVariants as token
use Rattle.domino_tree.specs.declared.token.Sign.TheVariants as sign
use Rattle.domino_tree.specs.declared.expr.Expr.{Expr, ind-Expr, roll-Expr, map-Expr, fold-roll-Expr}
use Rattle.domino_tree.specs.declared.expr.Expr.TheOpen as F
use Rattle.domino_tree.specs.declared.expr.Expr.TheVariants as e
use Rattle.domino_tree.specs.Grammar.{is_name, field_tokens, in_square, in_round, separated, spelling, spelled, standing, stands}
use Rattle.domino_tree.specs.Operators.{sign_before, sign_of, level}

-- ---- the tokens

pub spelled-Number : (n : ℤ) → spelled (e.Number n) ≡ token.Number n ∷ []
spelled-Number n = ap spelled (sym (e.rolls-Number n)) ∙ fold-roll-Expr (List Token) spelling (F.Expr-F.Number n)

pub spelled-Word : (w : List ℕ) → spelled (e.Word w) ≡ token.Name w ∷ []
spelled-Word w = ap spelled (sym (e.rolls-Word w)) ∙ fold-roll-Expr (List Token) spelling (F.Expr-F.Word w)

pub spelled-Field : (p f : List ℕ) → spelled (e.Field p f) ≡ field_tokens p f
spelled-Field p f = ap spelled (sym (e.rolls-Field p f)) ∙ fold-roll-Expr (List Token) spelling (F.Expr-F.Field p f)

pub spelled-Cell : (a : List ℕ) (i : Expr) → spelled (e.Cell a i) ≡ token.Name a ∷ in_square (spelled i)
spelled-Cell a i = ap spelled (sym (e.rolls-Cell a i)) ∙ fold-roll-Expr (List Token) spelling (F.Expr-F.Cell a i)

pub spelled-One : (op : Op1) (a : Expr) → spelled (e.One op a) ≡ token.Sign (sign_before op) ∷ spelled a
spelled-One op a = ap spelled (sym (e.rolls-One op a)) ∙ fold-roll-Expr (List Token) spelling (F.Expr-F.One op a)

pub spelled-Two : (op : Op2) (a b : Expr) → spelled (e.Two op a b) ≡ spelled a ++ (token.Sign (sign_of op) ∷ spelled b)
spelled-Two op a b = ap spelled (sym (e.rolls-Two op a b)) ∙ fold-roll-Expr (List Token) spelling (F.Expr-F.Two op a b)

pub spelled-Pick : (c a b : Expr) → spelled (e.Pick c a b) ≡ spelled c ++ (token.Sign sign.Question ∷ (spelled a ++ (token.Sign sign.Colon ∷ spelled b)))
spelled-Pick c a b = ap spelled (sym (e.rolls-Pick c a b)) ∙ fold-roll-Expr (List Token) spelling (F.Expr-F.Pick c a b)

pub spelled-Call : (f : List ℕ) (args : List Expr) → spelled (e.Call f args) ≡ token.Name f ∷ in_round (separated (map spelled args))
spelled-Call f args = ap spelled (sym (e.rolls-Call f args)) ∙ fold-roll-Expr (List Token) spelling (F.Expr-F.Call f args)

pub spelled-Group : (a : Expr) → spelled (e.Group a) ≡ in_round (spelled a)
spelled-Group a = ap spelled (sym (e.rolls-Group a)) ∙ fold-roll-Expr (List Token) spelling (F.Expr-F.Group a)

-- ---- where a form stands

pub stands-Number : (n : ℤ) (k : ℕ) → stands (e.Number n) k ≡ true
stands-Number n k = ap (λ x. stands x k) (sym (e.rolls-Number n)) ∙ ap (λ g. g k) (fold-roll-Expr (ℕ → Bool) standing (F.Expr-F.Number n))

pub stands-Word : (w : List ℕ) (k : ℕ) → stands (e.Word w) k ≡ is_name w
stands-Word w k = ap (λ x. stands x k) (sym (e.rolls-Word w)) ∙ ap (λ g. g k) (fold-roll-Expr (ℕ → Bool) standing (F.Expr-F.Word w))

pub stands-Field : (p f : List ℕ) (k : ℕ) → stands (e.Field p f) k ≡ (is_name p && is_name f)
stands-Field p f k = ap (λ x. stands x k) (sym (e.rolls-Field p f)) ∙ ap (λ g. g k) (fold-roll-Expr (ℕ → Bool) standing (F.Expr-F.Field p f))

pub stands-Cell : (a : List ℕ) (i : Expr) (k : ℕ) → stands (e.Cell a i) k ≡ (is_name a && stands i 0)
stands-Cell a i k = ap (λ x. stands x k) (sym (e.rolls-Cell a i)) ∙ ap (λ g. g k) (fold-roll-Expr (ℕ → Bool) standing (F.Expr-F.Cell a i))

pub stands-One : (op : Op1) (a : Expr) (k : ℕ) → stands (e.One op a) k ≡ (nat_le k 11 && stands a 11)
stands-One op a k = ap (λ x. stands x k) (sym (e.rolls-One op a)) ∙ ap (λ g. g k) (fold-roll-Expr (ℕ → Bool) standing (F.Expr-F.One op a))

pub stands-Two : (op : Op2) (a b : Expr) (k : ℕ) → stands (e.Two op a b) k ≡ (nat_le k (level op) && (stands a (level op) && stands b (suc (level op))))
stands-Two op a b k = ap (λ x. stands x k) (sym (e.rolls-Two op a b)) ∙ ap (λ g. g k) (fold-roll-Expr (ℕ → Bool) standing (F.Expr-F.Two op a b))

pub stands-Pick : (c a b : Expr) (k : ℕ) → stands (e.Pick c a b) k ≡ (nat_eq k 0 && (stands c 1 && (stands a 0 && stands b 0)))
stands-Pick c a b k = ap (λ x. stands x k) (sym (e.rolls-Pick c a b)) ∙ ap (λ g. g k) (fold-roll-Expr (ℕ → Bool) standing (F.Expr-F.Pick c a b))

pub stands-Call : (f : List ℕ) (args : List Expr) (k : ℕ) → stands (e.Call f args) k ≡ (is_name f && list_all (λ a. a 0) (map stands args))
stands-Call f args k = ap (λ x. stands x k) (sym (e.rolls-Call f args)) ∙ ap (λ g. g k) (fold-roll-Expr (ℕ → Bool) standing (F.Expr-F.Call f args))

pub stands-Group : (a : Expr) (k : ℕ) → stands (e.Group a) k ≡ stands a 0
stands-Group a k = ap (λ x. stands x k) (sym (e.rolls-Group a)) ∙ ap (λ g. g k) (fold-roll-Expr (ℕ → Bool) standing (F.Expr-F.Group a))

-- ---- induction

-- it holds of each expression in the list
abbrev pub Each : {X : Type 0} → (X → Type 0) → List X → Type 0
Each P [] = Unit {0}
Each P (x ∷ xs) = P x × Each P xs

-- what holds of every part holds of each part in a list
pub each_part : {X S : Type 0} (P : X → Type 0) (part : S → X) (held : (s : S) → P (part s)) (ss : List S) → Each P (map part ss)
each_part P part held [] = tt
each_part P part held (s ∷ ss) = (held s, each_part P part held ss)

module _ (P : Expr → Type 0)
    (number : (n : ℤ) → P (e.Number n))
    (word : (w : List ℕ) → P (e.Word w))
    (field : (p f : List ℕ) → P (e.Field p f))
    (cell : (a : List ℕ) (i : Expr) → P i → P (e.Cell a i))
    (one : (op : Op1) (a : Expr) → P a → P (e.One op a))
    (two : (op : Op2) (a b : Expr) → P a → P b → P (e.Two op a b))
    (pick : (c a b : Expr) → P c → P a → P b → P (e.Pick c a b))
    (call : (f : List ℕ) (args : List Expr) → Each P args → P (e.Call f args))
    (group : (a : Expr) → P a → P (e.Group a)) where
  by_form : {S : Type 0} (part : S → Expr) (held : (s : S) → P (part s)) (y : F.Expr-F S) → P (roll-Expr (map-Expr S Expr part y))
  by_form part held (F.Expr-F.Number n) = subst P (sym (e.rolls-Number n)) (number n)
  by_form part held (F.Expr-F.Word w) = subst P (sym (e.rolls-Word w)) (word w)
  by_form part held (F.Expr-F.Field p f) = subst P (sym (e.rolls-Field p f)) (field p f)
  by_form part held (F.Expr-F.Cell a i) = subst P (sym (e.rolls-Cell a (part i))) (cell a (part i) (held i))
  by_form part held (F.Expr-F.One op a) = subst P (sym (e.rolls-One op (part a))) (one op (part a) (held a))
  by_form part held (F.Expr-F.Two op a b) = subst P (sym (e.rolls-Two op (part a) (part b))) (two op (part a) (part b) (held a) (held b))
  by_form part held (F.Expr-F.Pick c a b) = subst P (sym (e.rolls-Pick (part c) (part a) (part b))) (pick (part c) (part a) (part b) (held c) (held a) (held b))
  by_form part held (F.Expr-F.Call f args) = subst P (sym (e.rolls-Call f (map part args))) (call f (map part args) (each_part P part held args))
  by_form part held (F.Expr-F.Group a) = subst P (sym (e.rolls-Group (part a))) (group (part a) (held a))

  -- what holds of each form if it holds of the expressions in it holds of all expressions
  pub induct : (x : Expr) → P x
  induct x = ind-Expr P (λ d y h. subst (λ (d : F.Expr-F Expr). P (roll-Expr d)) h (by_form (λ s. s.0) (λ s. s.1) y)) x
