-- Induction over guarded expressions, and what is said of them at each form.
use Rattle.std.proofs.Common.{◌≡◌, ℕ, ◌+◌, ◌==◌, ℤ, Bool, true, false, ◌&&◌, ◌||◌, nat_lt, List, [], ◌∷◌, ◌++◌, length, map, flat_map, sum, sym, ap, subst, ◌∙◌}
use Rattle.std.specs.List.{list_any, list_all}
use Rattle.mp5_words.specs.Words.{arity}
use Rattle.mp5_words.specs.declared.op.Op1.{Op1}
use Rattle.mp5_words.specs.declared.op.Op2.{Op2}
use Rattle.mp5_words.specs.declared.hashing.HashKind.{HashKind}
use Rattle.code_forms.proofs.EachLemmas.{Each, each_part}
use Rattle.code_forms.specs.declared.guard.GuardExpr.{GuardExpr, ind-GuardExpr, roll-GuardExpr, map-GuardExpr, fold-roll-GuardExpr}
use Rattle.code_forms.specs.declared.guard.GuardExpr.TheOpen as G
use Rattle.code_forms.specs.declared.guard.GuardExpr.TheVariants as g
use Rattle.code_forms.specs.GuardValid.{mentioning, arrays_in, mentioning_field, mentions, counting, operators_in, fitting, fits}
use Rattle.mp5_words.specs.Domain.{Ops}
use Rattle.mp5_words.specs.Copies.{Seen, at, hash_of}
use Rattle.code_forms.specs.GuardMeaning.{guard_meaning, guard_value}

-- ---- induction

module _ (P : GuardExpr → Type 0)
    (number : (n : ℤ) → P (g.Number n))
    (field : (f : ℕ) → P (g.Field f))
    (cell : (a : ℕ) → P (g.Cell a))
    (one : (op : Op1) (a : GuardExpr) → P a → P (g.One op a))
    (two : (op : Op2) (a b : GuardExpr) → P a → P b → P (g.Two op a b))
    (pick : (c a b : GuardExpr) → P c → P a → P b → P (g.Pick c a b))
    (hash : (kind : HashKind) (args : List GuardExpr) → Each P args → P (g.Hash kind args)) where
  by_form : {S : Type 0} (part : S → GuardExpr) (held : (s : S) → P (part s)) (y : G.GuardExpr-F S) → P (roll-GuardExpr (map-GuardExpr S GuardExpr part y))
  by_form part held (G.GuardExpr-F.Number n) = subst P (sym (g.rolls-Number n)) (number n)
  by_form part held (G.GuardExpr-F.Field f) = subst P (sym (g.rolls-Field f)) (field f)
  by_form part held (G.GuardExpr-F.Cell a) = subst P (sym (g.rolls-Cell a)) (cell a)
  by_form part held (G.GuardExpr-F.One op a) = subst P (sym (g.rolls-One op (part a))) (one op (part a) (held a))
  by_form part held (G.GuardExpr-F.Two op a b) = subst P (sym (g.rolls-Two op (part a) (part b))) (two op (part a) (part b) (held a) (held b))
  by_form part held (G.GuardExpr-F.Pick c a b) = subst P (sym (g.rolls-Pick (part c) (part a) (part b))) (pick (part c) (part a) (part b) (held c) (held a) (held b))
  by_form part held (G.GuardExpr-F.Hash kind args) = subst P (sym (g.rolls-Hash kind (map part args))) (hash kind (map part args) (each_part P part held args))

  pub guard_induct : (x : GuardExpr) → P x
  guard_induct x = ind-GuardExpr P (λ d y h. subst (λ (d : G.GuardExpr-F GuardExpr). P (roll-GuardExpr d)) h (by_form (λ s. s.0) (λ s. s.1) y)) x

-- ---- the value at each form

module _ (V : Type 0) (o : Ops V) where
  pub value-Number : (n : ℤ) (w : Seen V) → guard_value V o (g.Number n) w ≡ o.number n
  value-Number n w = ap (λ x. guard_value V o x w) (sym (g.rolls-Number n)) ∙ ap (λ h. h w) (fold-roll-GuardExpr (Seen V → V) (guard_meaning V o) (G.GuardExpr-F.Number n))

  pub value-Field : (f : ℕ) (w : Seen V) → guard_value V o (g.Field f) w ≡ at V o w.fields f
  value-Field f w = ap (λ x. guard_value V o x w) (sym (g.rolls-Field f)) ∙ ap (λ h. h w) (fold-roll-GuardExpr (Seen V → V) (guard_meaning V o) (G.GuardExpr-F.Field f))

  pub value-Cell : (a : ℕ) (w : Seen V) → guard_value V o (g.Cell a) w ≡ w.array a
  value-Cell a w = ap (λ x. guard_value V o x w) (sym (g.rolls-Cell a)) ∙ ap (λ h. h w) (fold-roll-GuardExpr (Seen V → V) (guard_meaning V o) (G.GuardExpr-F.Cell a))

  pub value-One : (op : Op1) (a : GuardExpr) (w : Seen V) → guard_value V o (g.One op a) w ≡ o.one op (guard_value V o a w)
  value-One op a w = ap (λ x. guard_value V o x w) (sym (g.rolls-One op a)) ∙ ap (λ h. h w) (fold-roll-GuardExpr (Seen V → V) (guard_meaning V o) (G.GuardExpr-F.One op a))

  pub value-Two : (op : Op2) (a b : GuardExpr) (w : Seen V) → guard_value V o (g.Two op a b) w ≡ o.two op (guard_value V o a w) (guard_value V o b w)
  value-Two op a b w = ap (λ x. guard_value V o x w) (sym (g.rolls-Two op a b)) ∙ ap (λ h. h w) (fold-roll-GuardExpr (Seen V → V) (guard_meaning V o) (G.GuardExpr-F.Two op a b))

  pub value-Pick : (c a b : GuardExpr) (w : Seen V) → guard_value V o (g.Pick c a b) w ≡ o.pick (guard_value V o c w) (guard_value V o a w) (guard_value V o b w)
  value-Pick c a b w = ap (λ x. guard_value V o x w) (sym (g.rolls-Pick c a b)) ∙ ap (λ h. h w) (fold-roll-GuardExpr (Seen V → V) (guard_meaning V o) (G.GuardExpr-F.Pick c a b))

  pub value-Hash : (kind : HashKind) (args : List GuardExpr) (w : Seen V) → guard_value V o (g.Hash kind args) w ≡ hash_of V o kind (map (λ (a : Seen V → V). a w) (map (guard_value V o) args))
  value-Hash kind args w = ap (λ x. guard_value V o x w) (sym (g.rolls-Hash kind args)) ∙ ap (λ h. h w) (fold-roll-GuardExpr (Seen V → V) (guard_meaning V o) (G.GuardExpr-F.Hash kind args))

-- ---- the arrays at each form

pub arrays-Number : (n : ℤ) → arrays_in (g.Number n) ≡ []
arrays-Number n = ap arrays_in (sym (g.rolls-Number n)) ∙ fold-roll-GuardExpr (List ℕ) mentioning (G.GuardExpr-F.Number n)

pub arrays-Field : (f : ℕ) → arrays_in (g.Field f) ≡ []
arrays-Field f = ap arrays_in (sym (g.rolls-Field f)) ∙ fold-roll-GuardExpr (List ℕ) mentioning (G.GuardExpr-F.Field f)

pub arrays-Cell : (a : ℕ) → arrays_in (g.Cell a) ≡ a ∷ []
arrays-Cell a = ap arrays_in (sym (g.rolls-Cell a)) ∙ fold-roll-GuardExpr (List ℕ) mentioning (G.GuardExpr-F.Cell a)

pub arrays-One : (op : Op1) (a : GuardExpr) → arrays_in (g.One op a) ≡ arrays_in a
arrays-One op a = ap arrays_in (sym (g.rolls-One op a)) ∙ fold-roll-GuardExpr (List ℕ) mentioning (G.GuardExpr-F.One op a)

pub arrays-Two : (op : Op2) (a b : GuardExpr) → arrays_in (g.Two op a b) ≡ arrays_in a ++ arrays_in b
arrays-Two op a b = ap arrays_in (sym (g.rolls-Two op a b)) ∙ fold-roll-GuardExpr (List ℕ) mentioning (G.GuardExpr-F.Two op a b)

pub arrays-Pick : (c a b : GuardExpr) → arrays_in (g.Pick c a b) ≡ arrays_in c ++ (arrays_in a ++ arrays_in b)
arrays-Pick c a b = ap arrays_in (sym (g.rolls-Pick c a b)) ∙ fold-roll-GuardExpr (List ℕ) mentioning (G.GuardExpr-F.Pick c a b)

pub arrays-Hash : (kind : HashKind) (args : List GuardExpr) → arrays_in (g.Hash kind args) ≡ flat_map (λ (a : List ℕ). a) (map arrays_in args)
arrays-Hash kind args = ap arrays_in (sym (g.rolls-Hash kind args)) ∙ fold-roll-GuardExpr (List ℕ) mentioning (G.GuardExpr-F.Hash kind args)

-- ---- whether a field stands in it

module _ (field : ℕ) where
  pub mentions-Number : (n : ℤ) → mentions field (g.Number n) ≡ false
  mentions-Number n = ap (mentions field) (sym (g.rolls-Number n)) ∙ fold-roll-GuardExpr Bool (mentioning_field field) (G.GuardExpr-F.Number n)

  pub mentions-Field : (f : ℕ) → mentions field (g.Field f) ≡ (f == field)
  mentions-Field f = ap (mentions field) (sym (g.rolls-Field f)) ∙ fold-roll-GuardExpr Bool (mentioning_field field) (G.GuardExpr-F.Field f)

  pub mentions-Cell : (a : ℕ) → mentions field (g.Cell a) ≡ false
  mentions-Cell a = ap (mentions field) (sym (g.rolls-Cell a)) ∙ fold-roll-GuardExpr Bool (mentioning_field field) (G.GuardExpr-F.Cell a)

  pub mentions-One : (op : Op1) (a : GuardExpr) → mentions field (g.One op a) ≡ mentions field a
  mentions-One op a = ap (mentions field) (sym (g.rolls-One op a)) ∙ fold-roll-GuardExpr Bool (mentioning_field field) (G.GuardExpr-F.One op a)

  pub mentions-Two : (op : Op2) (a b : GuardExpr) → mentions field (g.Two op a b) ≡ (mentions field a || mentions field b)
  mentions-Two op a b = ap (mentions field) (sym (g.rolls-Two op a b)) ∙ fold-roll-GuardExpr Bool (mentioning_field field) (G.GuardExpr-F.Two op a b)

  pub mentions-Pick : (c a b : GuardExpr) → mentions field (g.Pick c a b) ≡ (mentions field c || (mentions field a || mentions field b))
  mentions-Pick c a b = ap (mentions field) (sym (g.rolls-Pick c a b)) ∙ fold-roll-GuardExpr Bool (mentioning_field field) (G.GuardExpr-F.Pick c a b)

  pub mentions-Hash : (kind : HashKind) (args : List GuardExpr) → mentions field (g.Hash kind args) ≡ list_any (λ (a : Bool). a) (map (mentions field) args)
  mentions-Hash kind args = ap (mentions field) (sym (g.rolls-Hash kind args)) ∙ fold-roll-GuardExpr Bool (mentioning_field field) (G.GuardExpr-F.Hash kind args)

-- ---- whether it is well formed

module _ (fields arrays : ℕ) where
  pub fits-Number : (n : ℤ) → fits fields arrays (g.Number n) ≡ true
  fits-Number n = ap (fits fields arrays) (sym (g.rolls-Number n)) ∙ fold-roll-GuardExpr Bool (fitting fields arrays) (G.GuardExpr-F.Number n)

  pub fits-Field : (f : ℕ) → fits fields arrays (g.Field f) ≡ nat_lt f fields
  fits-Field f = ap (fits fields arrays) (sym (g.rolls-Field f)) ∙ fold-roll-GuardExpr Bool (fitting fields arrays) (G.GuardExpr-F.Field f)

  pub fits-Cell : (a : ℕ) → fits fields arrays (g.Cell a) ≡ nat_lt a arrays
  fits-Cell a = ap (fits fields arrays) (sym (g.rolls-Cell a)) ∙ fold-roll-GuardExpr Bool (fitting fields arrays) (G.GuardExpr-F.Cell a)

  pub fits-One : (op : Op1) (a : GuardExpr) → fits fields arrays (g.One op a) ≡ fits fields arrays a
  fits-One op a = ap (fits fields arrays) (sym (g.rolls-One op a)) ∙ fold-roll-GuardExpr Bool (fitting fields arrays) (G.GuardExpr-F.One op a)

  pub fits-Two : (op : Op2) (a b : GuardExpr) → fits fields arrays (g.Two op a b) ≡ (fits fields arrays a && fits fields arrays b)
  fits-Two op a b = ap (fits fields arrays) (sym (g.rolls-Two op a b)) ∙ fold-roll-GuardExpr Bool (fitting fields arrays) (G.GuardExpr-F.Two op a b)

  pub fits-Pick : (c a b : GuardExpr) → fits fields arrays (g.Pick c a b) ≡ (fits fields arrays c && (fits fields arrays a && fits fields arrays b))
  fits-Pick c a b = ap (fits fields arrays) (sym (g.rolls-Pick c a b)) ∙ fold-roll-GuardExpr Bool (fitting fields arrays) (G.GuardExpr-F.Pick c a b)

  pub fits-Hash : (kind : HashKind) (args : List GuardExpr) → fits fields arrays (g.Hash kind args) ≡ ((length (map (fits fields arrays) args) == arity kind) && list_all (λ (a : Bool). a) (map (fits fields arrays) args))
  fits-Hash kind args = ap (fits fields arrays) (sym (g.rolls-Hash kind args)) ∙ fold-roll-GuardExpr Bool (fitting fields arrays) (G.GuardExpr-F.Hash kind args)

-- ---- how much it counts

pub operators-Number : (n : ℤ) → operators_in (g.Number n) ≡ 0
operators-Number n = ap operators_in (sym (g.rolls-Number n)) ∙ fold-roll-GuardExpr ℕ counting (G.GuardExpr-F.Number n)

pub operators-Field : (f : ℕ) → operators_in (g.Field f) ≡ 0
operators-Field f = ap operators_in (sym (g.rolls-Field f)) ∙ fold-roll-GuardExpr ℕ counting (G.GuardExpr-F.Field f)

pub operators-Cell : (a : ℕ) → operators_in (g.Cell a) ≡ 0
operators-Cell a = ap operators_in (sym (g.rolls-Cell a)) ∙ fold-roll-GuardExpr ℕ counting (G.GuardExpr-F.Cell a)

pub operators-One : (op : Op1) (a : GuardExpr) → operators_in (g.One op a) ≡ 1 + operators_in a
operators-One op a = ap operators_in (sym (g.rolls-One op a)) ∙ fold-roll-GuardExpr ℕ counting (G.GuardExpr-F.One op a)

pub operators-Two : (op : Op2) (a b : GuardExpr) → operators_in (g.Two op a b) ≡ 1 + (operators_in a + operators_in b)
operators-Two op a b = ap operators_in (sym (g.rolls-Two op a b)) ∙ fold-roll-GuardExpr ℕ counting (G.GuardExpr-F.Two op a b)

pub operators-Pick : (c a b : GuardExpr) → operators_in (g.Pick c a b) ≡ 1 + (operators_in c + (operators_in a + operators_in b))
operators-Pick c a b = ap operators_in (sym (g.rolls-Pick c a b)) ∙ fold-roll-GuardExpr ℕ counting (G.GuardExpr-F.Pick c a b)

pub operators-Hash : (kind : HashKind) (args : List GuardExpr) → operators_in (g.Hash kind args) ≡ 1 + sum (map operators_in args)
operators-Hash kind args = ap operators_in (sym (g.rolls-Hash kind args)) ∙ fold-roll-GuardExpr ℕ counting (G.GuardExpr-F.Hash kind args)
