-- The value of an expression, and the arrays in it, at each form.
use Rattle.std.proofs.Common.{◌≡◌, ℕ, ℤ, List, [], ◌∷◌, ◌++◌, map, flat_map, sym, ap, ◌∙◌}
use Rattle.mp5_words.specs.declared.op.Op1.{Op1}
use Rattle.mp5_words.specs.declared.op.Op2.{Op2}
use Rattle.mp5_words.specs.Words.{op1, op2}
use Rattle.domino_tree.specs.declared.expr.Expr.{Expr, fold-roll-Expr}
use Rattle.domino_tree.specs.declared.expr.Expr.TheOpen as F
use Rattle.domino_tree.specs.declared.expr.Expr.TheVariants as e
use Rattle.domino_tree.specs.Value.{Names, Store, defined_or, number_of, array_number, field_number, index_place, cell_at, hash_kind, hashed, meaning, value, array_word, mentioning, arrays_in}
use Rattle.mp5_words.specs.Cells.{word_at, picked}

-- ---- values

pub value-Number : (names : Names) (n : ℤ) (st : Store) → value names (e.Number n) st ≡ n
value-Number names n st = ap (λ x. value names x st) (sym (e.rolls-Number n)) ∙ ap (λ g. g st) (fold-roll-Expr (Store → ℤ) (meaning names) (F.Expr-F.Number n))

pub value-Word : (names : Names) (w : List ℕ) (st : Store) → value names (e.Word w) st ≡ defined_or (number_of w names.defines) (cell_at names w 0 st)
value-Word names w st = ap (λ x. value names x st) (sym (e.rolls-Word w)) ∙ ap (λ g. g st) (fold-roll-Expr (Store → ℤ) (meaning names) (F.Expr-F.Word w))

pub value-Field : (names : Names) (p f : List ℕ) (st : Store) → value names (e.Field p f) st ≡ word_at st.fields (field_number names f)
value-Field names p f st = ap (λ x. value names x st) (sym (e.rolls-Field p f)) ∙ ap (λ g. g st) (fold-roll-Expr (Store → ℤ) (meaning names) (F.Expr-F.Field p f))

pub value-Cell : (names : Names) (a : List ℕ) (i : Expr) (st : Store) → value names (e.Cell a i) st ≡ cell_at names a (index_place names a (value names i st)) st
value-Cell names a i st = ap (λ x. value names x st) (sym (e.rolls-Cell a i)) ∙ ap (λ g. g st) (fold-roll-Expr (Store → ℤ) (meaning names) (F.Expr-F.Cell a i))

pub value-One : (names : Names) (op : Op1) (a : Expr) (st : Store) → value names (e.One op a) st ≡ op1 op (value names a st)
value-One names op a st = ap (λ x. value names x st) (sym (e.rolls-One op a)) ∙ ap (λ g. g st) (fold-roll-Expr (Store → ℤ) (meaning names) (F.Expr-F.One op a))

pub value-Two : (names : Names) (op : Op2) (a b : Expr) (st : Store) → value names (e.Two op a b) st ≡ op2 op (value names a st) (value names b st)
value-Two names op a b st = ap (λ x. value names x st) (sym (e.rolls-Two op a b)) ∙ ap (λ g. g st) (fold-roll-Expr (Store → ℤ) (meaning names) (F.Expr-F.Two op a b))

pub value-Pick : (names : Names) (c a b : Expr) (st : Store) → value names (e.Pick c a b) st ≡ picked (value names c st) (value names a st) (value names b st)
value-Pick names c a b st = ap (λ x. value names x st) (sym (e.rolls-Pick c a b)) ∙ ap (λ g. g st) (fold-roll-Expr (Store → ℤ) (meaning names) (F.Expr-F.Pick c a b))

pub value-Call : (names : Names) (f : List ℕ) (args : List Expr) (st : Store) → value names (e.Call f args) st ≡ hashed (hash_kind f) (map (λ (a : Store → ℤ). a st) (map (value names) args))
value-Call names f args st = ap (λ x. value names x st) (sym (e.rolls-Call f args)) ∙ ap (λ g. g st) (fold-roll-Expr (Store → ℤ) (meaning names) (F.Expr-F.Call f args))

pub value-Group : (names : Names) (a : Expr) (st : Store) → value names (e.Group a) st ≡ value names a st
value-Group names a st = ap (λ x. value names x st) (sym (e.rolls-Group a)) ∙ ap (λ g. g st) (fold-roll-Expr (Store → ℤ) (meaning names) (F.Expr-F.Group a))

-- ---- the arrays in a form

pub arrays_in-Number : (names : Names) (n : ℤ) → arrays_in names (e.Number n) ≡ []
arrays_in-Number names n = ap (arrays_in names) (sym (e.rolls-Number n)) ∙ fold-roll-Expr (List ℕ) (mentioning names) (F.Expr-F.Number n)

pub arrays_in-Word : (names : Names) (w : List ℕ) → arrays_in names (e.Word w) ≡ array_word (number_of w names.defines) (array_number names w)
arrays_in-Word names w = ap (arrays_in names) (sym (e.rolls-Word w)) ∙ fold-roll-Expr (List ℕ) (mentioning names) (F.Expr-F.Word w)

pub arrays_in-Field : (names : Names) (p f : List ℕ) → arrays_in names (e.Field p f) ≡ []
arrays_in-Field names p f = ap (arrays_in names) (sym (e.rolls-Field p f)) ∙ fold-roll-Expr (List ℕ) (mentioning names) (F.Expr-F.Field p f)

pub arrays_in-Cell : (names : Names) (a : List ℕ) (i : Expr) → arrays_in names (e.Cell a i) ≡ array_number names a ∷ arrays_in names i
arrays_in-Cell names a i = ap (arrays_in names) (sym (e.rolls-Cell a i)) ∙ fold-roll-Expr (List ℕ) (mentioning names) (F.Expr-F.Cell a i)

pub arrays_in-One : (names : Names) (op : Op1) (a : Expr) → arrays_in names (e.One op a) ≡ arrays_in names a
arrays_in-One names op a = ap (arrays_in names) (sym (e.rolls-One op a)) ∙ fold-roll-Expr (List ℕ) (mentioning names) (F.Expr-F.One op a)

pub arrays_in-Two : (names : Names) (op : Op2) (a b : Expr) → arrays_in names (e.Two op a b) ≡ arrays_in names a ++ arrays_in names b
arrays_in-Two names op a b = ap (arrays_in names) (sym (e.rolls-Two op a b)) ∙ fold-roll-Expr (List ℕ) (mentioning names) (F.Expr-F.Two op a b)

pub arrays_in-Pick : (names : Names) (c a b : Expr) → arrays_in names (e.Pick c a b) ≡ arrays_in names c ++ (arrays_in names a ++ arrays_in names b)
arrays_in-Pick names c a b = ap (arrays_in names) (sym (e.rolls-Pick c a b)) ∙ fold-roll-Expr (List ℕ) (mentioning names) (F.Expr-F.Pick c a b)

pub arrays_in-Call : (names : Names) (f : List ℕ) (args : List Expr) → arrays_in names (e.Call f args) ≡ flat_map (λ (a : List ℕ). a) (map (arrays_in names) args)
arrays_in-Call names f args = ap (arrays_in names) (sym (e.rolls-Call f args)) ∙ fold-roll-Expr (List ℕ) (mentioning names) (F.Expr-F.Call f args)

pub arrays_in-Group : (names : Names) (a : Expr) → arrays_in names (e.Group a) ≡ arrays_in names a
arrays_in-Group names a = ap (arrays_in names) (sym (e.rolls-Group a)) ∙ fold-roll-Expr (List ℕ) (mentioning names) (F.Expr-F.Group a)
