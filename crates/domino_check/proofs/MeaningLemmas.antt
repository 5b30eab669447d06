-- The meaning of a body in numbers at each form.
use Rattle.std.proofs.Common.{◌≡◌, ℕ, ℤ, List, [], ◌∷◌, ◌++◌, map, flat_map, None, Some, sym, ap, ◌∙◌}
use Rattle.mp5_words.specs.declared.op.Op1.{Op1}
use Rattle.mp5_words.specs.declared.op.Op2.{Op2}
use Rattle.mp5_words.specs.declared.hashing.HashKind.{HashKind}
use Rattle.mp5_words.specs.Words.{op1, op2, truth}
use Rattle.domino_tree.specs.Value.{Store}
use Rattle.mp5_words.specs.Cells.{word_at, cells_at, picked, hash_all}
use Rattle.domino_tree.specs.Execution.{State, Does, Choice, chosen, in_turn}
use Rattle.domino_check.specs.declared.numbered.CheckedExpr.{CheckedExpr, fold-roll-CheckedExpr}
use Rattle.domino_check.specs.declared.numbered.CheckedExpr.TheOpen as F
use Rattle.domino_check.specs.declared.numbered.CheckedExpr.TheVariants as e
use Rattle.domino_check.specs.declared.numbered.CheckedStmt.{CheckedStmt, fold-roll-CheckedStmt}
use Rattle.domino_check.specs.declared.numbered.CheckedStmt.TheOpen as O
use Rattle.domino_check.specs.declared.numbered.CheckedStmt.TheVariants as s
use Rattle.domino_check.specs.declared.numbered.CheckedArm.{CheckedArm, fold-roll-CheckedArm}
use Rattle.domino_check.specs.NumberedMeaning.{Indexing, plain_meaning, plain_value, place, numbered_meaning, numbered_value, numbered_mentioning, numbered_arrays, set_field, set_cell, numbered_doing, numbered_choosing, numbered_step, numbered_choice}

-- ---- the value on the fields alone

pub plain-Number : (n : ℤ) (fields : List ℤ) → plain_value (e.Number n) fields ≡ n
plain-Number n fields = ap (λ x. plain_value x fields) (sym (e.rolls-Number n)) ∙ ap (λ g. g fields) (fold-roll-CheckedExpr (List ℤ → ℤ) plain_meaning (F.CheckedExpr-F.Number n))

pub plain-Field : (f : ℕ) (fields : List ℤ) → plain_value (e.Field f) fields ≡ word_at fields f
plain-Field f fields = ap (λ x. plain_value x fields) (sym (e.rolls-Field f)) ∙ ap (λ g. g fields) (fold-roll-CheckedExpr (List ℤ → ℤ) plain_meaning (F.CheckedExpr-F.Field f))

pub plain-One : (op : Op1) (a : CheckedExpr) (fields : List ℤ) → plain_value (e.One op a) fields ≡ op1 op (plain_value a fields)
plain-One op a fields = ap (λ x. plain_value x fields) (sym (e.rolls-One op a)) ∙ ap (λ g. g fields) (fold-roll-CheckedExpr (List ℤ → ℤ) plain_meaning (F.CheckedExpr-F.One op a))

pub plain-Two : (op : Op2) (a b : CheckedExpr) (fields : List ℤ) → plain_value (e.Two op a b) fields ≡ op2 op (plain_value a fields) (plain_value b fields)
plain-Two op a b fields = ap (λ x. plain_value x fields) (sym (e.rolls-Two op a b)) ∙ ap (λ g. g fields) (fold-roll-CheckedExpr (List ℤ → ℤ) plain_meaning (F.CheckedExpr-F.Two op a b))

pub plain-Pick : (c a b : CheckedExpr) (fields : List ℤ) → plain_value (e.Pick c a b) fields ≡ picked (plain_value c fields) (plain_value a fields) (plain_value b fields)
plain-Pick c a b fields = ap (λ x. plain_value x fields) (sym (e.rolls-Pick c a b)) ∙ ap (λ g. g fields) (fold-roll-CheckedExpr (List ℤ → ℤ) plain_meaning (F.CheckedExpr-F.Pick c a b))

pub plain-Hash : (kind : HashKind) (args : List CheckedExpr) (fields : List ℤ) → plain_value (e.Hash kind args) fields ≡ hash_all kind (map (λ (a : List ℤ → ℤ). a fields) (map plain_value args))
plain-Hash kind args fields = ap (λ x. plain_value x fields) (sym (e.rolls-Hash kind args)) ∙ ap (λ g. g fields) (fold-roll-CheckedExpr (List ℤ → ℤ) plain_meaning (F.CheckedExpr-F.Hash kind args))

-- ---- the value of an expression

pub value-Number : (ix : Indexing) (n : ℤ) (st : Store) → numbered_value ix (e.Number n) st ≡ n
value-Number ix n st = ap (λ x. numbered_value ix x st) (sym (e.rolls-Number n)) ∙ ap (λ g. g st) (fold-roll-CheckedExpr (Store → ℤ) (numbered_meaning ix) (F.CheckedExpr-F.Number n))

pub value-Field : (ix : Indexing) (f : ℕ) (st : Store) → numbered_value ix (e.Field f) st ≡ word_at st.fields f
value-Field ix f st = ap (λ x. numbered_value ix x st) (sym (e.rolls-Field f)) ∙ ap (λ g. g st) (fold-roll-CheckedExpr (Store → ℤ) (numbered_meaning ix) (F.CheckedExpr-F.Field f))

pub value-Cell : (ix : Indexing) (a : ℕ) (st : Store) → numbered_value ix (e.Cell a) st ≡ word_at (cells_at st.cells a) (place ix a st.fields)
value-Cell ix a st = ap (λ x. numbered_value ix x st) (sym (e.rolls-Cell a)) ∙ ap (λ g. g st) (fold-roll-CheckedExpr (Store → ℤ) (numbered_meaning ix) (F.CheckedExpr-F.Cell a))

pub value-One : (ix : Indexing) (op : Op1) (a : CheckedExpr) (st : Store) → numbered_value ix (e.One op a) st ≡ op1 op (numbered_value ix a st)
value-One ix op a st = ap (λ x. numbered_value ix x st) (sym (e.rolls-One op a)) ∙ ap (λ g. g st) (fold-roll-CheckedExpr (Store → ℤ) (numbered_meaning ix) (F.CheckedExpr-F.One op a))

pub value-Two : (ix : Indexing) (op : Op2) (a b : CheckedExpr) (st : Store) → numbered_value ix (e.Two op a b) st ≡ op2 op (numbered_value ix a st) (numbered_value ix b st)
value-Two ix op a b st = ap (λ x. numbered_value ix x st) (sym (e.rolls-Two op a b)) ∙ ap (λ g. g st) (fold-roll-CheckedExpr (Store → ℤ) (numbered_meaning ix) (F.CheckedExpr-F.Two op a b))

pub value-Pick : (ix : Indexing) (c a b : CheckedExpr) (st : Store) → numbered_value ix (e.Pick c a b) st ≡ picked (numbered_value ix c st) (numbered_value ix a st) (numbered_value ix b st)
value-Pick ix c a b st = ap (λ x. numbered_value ix x st) (sym (e.rolls-Pick c a b)) ∙ ap (λ g. g st) (fold-roll-CheckedExpr (Store → ℤ) (numbered_meaning ix) (F.CheckedExpr-F.Pick c a b))

pub value-Hash : (ix : Indexing) (kind : HashKind) (args : List CheckedExpr) (st : Store) → numbered_value ix (e.Hash kind args) st ≡ hash_all kind (map (λ (a : Store → ℤ). a st) (map (numbered_value ix) args))
value-Hash ix kind args st = ap (λ x. numbered_value ix x st) (sym (e.rolls-Hash kind args)) ∙ ap (λ g. g st) (fold-roll-CheckedExpr (Store → ℤ) (numbered_meaning ix) (F.CheckedExpr-F.Hash kind args))

-- ---- the arrays in an expression

pub arrays-Number : (n : ℤ) → numbered_arrays (e.Number n) ≡ []
arrays-Number n = ap numbered_arrays (sym (e.rolls-Number n)) ∙ fold-roll-CheckedExpr (List ℕ) numbered_mentioning (F.CheckedExpr-F.Number n)

pub arrays-Field : (f : ℕ) → numbered_arrays (e.Field f) ≡ []
arrays-Field f = ap numbered_arrays (sym (e.rolls-Field f)) ∙ fold-roll-CheckedExpr (List ℕ) numbered_mentioning (F.CheckedExpr-F.Field f)

pub arrays-Cell : (a : ℕ) → numbered_arrays (e.Cell a) ≡ a ∷ []
arrays-Cell a = ap numbered_arrays (sym (e.rolls-Cell a)) ∙ fold-roll-CheckedExpr (List ℕ) numbered_mentioning (F.CheckedExpr-F.Cell a)

pub arrays-One : (op : Op1) (a : CheckedExpr) → numbered_arrays (e.One op a) ≡ numbered_arrays a
arrays-One op a = ap numbered_arrays (sym (e.rolls-One op a)) ∙ fold-roll-CheckedExpr (List ℕ) numbered_mentioning (F.CheckedExpr-F.One op a)

pub arrays-Two : (op : Op2) (a b : CheckedExpr) → numbered_arrays (e.Two op a b) ≡ numbered_arrays a ++ numbered_arrays b
arrays-Two op a b = ap numbered_arrays (sym (e.rolls-Two op a b)) ∙ fold-roll-CheckedExpr (List ℕ) numbered_mentioning (F.CheckedExpr-F.Two op a b)

pub arrays-Pick : (c a b : CheckedExpr) → numbered_arrays (e.Pick c a b) ≡ numbered_arrays c ++ (numbered_arrays a ++ numbered_arrays b)
arrays-Pick c a b = ap numbered_arrays (sym (e.rolls-Pick c a b)) ∙ fold-roll-CheckedExpr (List ℕ) numbered_mentioning (F.CheckedExpr-F.Pick c a b)

pub arrays-Hash : (kind : HashKind) (args : List CheckedExpr) → numbered_arrays (e.Hash kind args) ≡ flat_map (λ (a : List ℕ). a) (map numbered_arrays args)
arrays-Hash kind args = ap numbered_arrays (sym (e.rolls-Hash kind args)) ∙ fold-roll-CheckedExpr (List ℕ) numbered_mentioning (F.CheckedExpr-F.Hash kind args)

-- ---- statements

pub step-SetField : (ix : Indexing) (f : ℕ) (x : CheckedExpr) (st : State) → numbered_step ix (s.SetField f x) st ≡ set_field ix f x st
step-SetField ix f x st = ap (λ y. numbered_step ix y st) (sym (s.rolls-SetField f x)) ∙ ap (λ (does : Does). does st) (fold-roll-CheckedStmt Does Choice (numbered_doing ix) (numbered_choosing ix) (O.CheckedStmt-F.SetField f x))

pub step-SetCell : (ix : Indexing) (a : ℕ) (x : CheckedExpr) (st : State) → numbered_step ix (s.SetCell a x) st ≡ set_cell ix a x st
step-SetCell ix a x st = ap (λ y. numbered_step ix y st) (sym (s.rolls-SetCell a x)) ∙ ap (λ (does : Does). does st) (fold-roll-CheckedStmt Does Choice (numbered_doing ix) (numbered_choosing ix) (O.CheckedStmt-F.SetCell a x))

pub step-If : (ix : Indexing) (arms : List CheckedArm) (st : State) → numbered_step ix (s.If arms None) st ≡ chosen (map (numbered_choice ix) arms) None st
step-If ix arms st = ap (λ y. numbered_step ix y st) (sym (s.rolls-If arms None)) ∙ ap (λ (does : Does). does st) (fold-roll-CheckedStmt Does Choice (numbered_doing ix) (numbered_choosing ix) (O.CheckedStmt-F.If arms None))

pub step-Else : (ix : Indexing) (arms : List CheckedArm) (body : List CheckedStmt) (st : State) → numbered_step ix (s.If arms (Some body)) st ≡ chosen (map (numbered_choice ix) arms) (Some (map (numbered_step ix) body)) st
step-Else ix arms body st = ap (λ y. numbered_step ix y st) (sym (s.rolls-If arms (Some body))) ∙ ap (λ (does : Does). does st) (fold-roll-CheckedStmt Does Choice (numbered_doing ix) (numbered_choosing ix) (O.CheckedStmt-F.If arms (Some body)))

pub choice-Arm : (ix : Indexing) (cond : CheckedExpr) (body : List CheckedStmt) → numbered_choice ix (record { cond = cond; body = body }) ≡ record { holds = λ st. truth (numbered_value ix cond st); arrays = numbered_arrays cond; block = in_turn (map (numbered_step ix) body) }
choice-Arm ix cond body = fold-roll-CheckedArm Does Choice (numbered_doing ix) (numbered_choosing ix) (record { cond = cond; body = body })
