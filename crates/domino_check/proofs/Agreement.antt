-- The body of a program in numbers means what the program's body means over names.
use Rattle.std.proofs.Common.{◌≡◌, ℕ, zero, suc, ℤ, pos, if◌then◌else◌, List, [], ◌∷◌, ◌++◌, map, flat_map, None, Some, Option, slice_set, refl, sym, ap, subst, ◌∙◌, append-nil, arith}
use Rattle.mp5_words.specs.declared.hashing.HashKind.{HashKind}
use Rattle.mp5_words.specs.Words.{op1, op2, truth, cell}
use Rattle.domino_tree.specs.declared.expr.Expr.{Expr}
use Rattle.domino_tree.specs.declared.program.Target.{Target}
use Rattle.domino_tree.specs.declared.program.Target.TheVariants as target
use Rattle.domino_tree.specs.declared.program.Stmt.{Stmt}
use Rattle.domino_tree.specs.declared.program.Arm.{Arm}
use Rattle.domino_tree.specs.declared.program.Program.{Program}
use Rattle.domino_tree.specs.Value.{Names, names_of, Store, number_of, array_number, field_number, array_length, hash_kind, hashed, value, arrays_in, array_word, defined_or, cell_at, index_place}
use Rattle.mp5_words.specs.Cells.{picked, cells_at, word_at, touching, cell_set, hash_all}
use Rattle.domino_tree.specs.Execution.{State, Does, Choice, touch, set_target, in_turn, at_last, chosen, step, choice, exec}
use Rattle.domino_tree.proofs.ValueLemmas as named
use Rattle.domino_tree.proofs.ExecutionLemmas as executed
use Rattle.domino_tree.proofs.ExprLemmas.{Each, induct}
use Rattle.domino_tree.proofs.StmtLemmas as statements
use Rattle.domino_check.specs.declared.numbered.CheckedExpr.{CheckedExpr}
use Rattle.domino_check.specs.declared.numbered.CheckedExpr.TheVariants as expr
use Rattle.domino_names.specs.Uses.{joined, expr_uses, target_uses, stmt_uses, arm_uses}
use Rattle.domino_names.specs.NamesRefused.{PassesNames}
use Rattle.domino_check.specs.declared.numbered.CheckedStmt.{CheckedStmt}
use Rattle.domino_check.specs.Numbering.{Access}
use Rattle.domino_check.specs.Numbering as numbers
use Rattle.domino_check.specs.Numbering.{Numbered, in_numbers, numbered, accesses_in, plain_index, access_at, register_at, numbered_word, called, or_two, numbered_set, numbered_stmt, numbered_arm, target_accesses, stmt_accesses, arm_accesses, block_accesses, numbered_body}
use Rattle.domino_check.specs.Indexes.{Keeps, AllKeep, HasIndexes}
use Rattle.domino_check.specs.NumberedMeaning.{Indexing, indexing, plain_value, named_place, place, numbered_value, numbered_arrays, numbered_step, numbered_choice, numbered_exec}
use Rattle.domino_check.proofs.NumberingLemmas as numbering
use Rattle.domino_check.proofs.MeaningLemmas as meaning
use Rattle.domino_names.proofs.UseLemmas.{AllCalls, calls_left, calls_right, body_calls, expr_uses-Cell, expr_uses-One, expr_uses-Two, expr_uses-Pick, expr_uses-Call, expr_uses-Group, stmt_uses-Set, stmt_uses-If, stmt_uses-Else, arm_uses-Arm}

-- ---- accesses that have the index of their array

pub keep_front : (index : ℕ → Option CheckedExpr) (xs ys : List Access) → AllKeep index (xs ++ ys) → AllKeep index xs
keep_front index [] ys kept = tt
keep_front index (x ∷ xs) ys kept = (kept.0, keep_front index xs ys kept.1)

pub keep_back : (index : ℕ → Option CheckedExpr) (xs ys : List Access) → AllKeep index (xs ++ ys) → AllKeep index ys
keep_back index [] ys kept = kept
keep_back index (x ∷ xs) ys kept = keep_back index xs ys kept.1

-- ---- expressions in which no array stands

-- the parts of an empty list are empty
nil_front : {A : Type 0} (xs ys : List A) → xs ++ ys ≡ [] → xs ≡ []
nil_front [] ys is = refl
nil_front (x ∷ xs) ys is = absurd (cc)

nil_back : {A : Type 0} (xs ys : List A) → xs ++ ys ≡ [] → ys ≡ []
nil_back [] ys is = is
nil_back (x ∷ xs) ys is = absurd (cc)

module _ (names : Names) (st : Store) where
  -- the value of an expression in numbers on the fields alone
  abbrev SamePlain : Expr → Type 0
  SamePlain x = accesses_in names x ≡ [] → AllCalls (expr_uses x) → (plain_value (numbered names x) st.fields ≡ value names x st) × (arrays_in names x ≡ [])

  -- the words of the arguments
  abbrev SameArgs : List Expr → Type 0
  SameArgs args =
      (map (λ (a : List ℤ → ℤ). a st.fields) (map plain_value (map (λ (a : Numbered). a.tree) (map (in_numbers names) args))) ≡ map (λ (a : Store → ℤ). a st) (map (value names) args))
      × (flat_map (λ (a : List ℕ). a) (map (arrays_in names) args) ≡ [])

  same_args : (args : List Expr) → Each SamePlain args → flat_map (λ (a : Numbered). a.accesses) (map (in_numbers names) args) ≡ [] → AllCalls (joined (map expr_uses args)) → SameArgs args
  same_args [] held none calls = (refl, refl)
  same_args (x ∷ args) held none calls =
      let here = held.0 (nil_front (accesses_in names x) _ none) (calls_left (expr_uses x) _ calls) in
      let rest = same_args args held.1 (nil_back (accesses_in names x) _ none) (calls_right (expr_uses x) _ calls) in
      ((λ i. here.0 i ∷ rest.0 i), (λ i. here.1 i ++ rest.1 i))

  same_call : (f : List ℕ) (trees : List CheckedExpr) (words : List ℤ) → map (λ (a : List ℤ → ℤ). a st.fields) (map plain_value trees) ≡ words
      → (kind : HashKind) → hash_kind f ≡ Some kind → plain_value (expr.Hash (called f) trees) st.fields ≡ hashed (hash_kind f) words
  same_call f trees words is kind named =
      ap (λ (k : HashKind). plain_value (expr.Hash k trees) st.fields) (ap or_two named)
      ∙ meaning.plain-Hash kind trees st.fields
      ∙ ap (hash_all kind) is
      ∙ ap (λ (o : Option HashKind). hashed o words) (sym named)

  same_word : (number : Option ℤ) (array : ℕ) (other : ℤ) → (numbered_word number array).accesses ≡ [] → (plain_value (numbered_word number array).tree st.fields ≡ defined_or number other) × (array_word number array ≡ [])
  same_word (Some n) array other none = (meaning.plain-Number n st.fields, refl)
  same_word None array other none = absurd (cc)

  pub same_plain : (x : Expr) → SamePlain x
  same_plain = induct SamePlain
      (λ n none calls. (ap (λ (y : Numbered). plain_value y.tree st.fields) (numbering.in_numbers-Number names n) ∙ meaning.plain-Number n st.fields ∙ sym (named.value-Number names n st), named.arrays_in-Number names n))
      (λ w none calls.
      let form = numbering.in_numbers-Word names w in
      let word = same_word (number_of w names.defines) (array_number names w) (cell_at names w 0 st) (sym (ap (λ (y : Numbered). y.accesses) form) ∙ none) in
      (ap (λ (y : Numbered). plain_value y.tree st.fields) form ∙ word.0 ∙ sym (named.value-Word names w st), named.arrays_in-Word names w ∙ word.1))
      (λ p f none calls. (ap (λ (y : Numbered). plain_value y.tree st.fields) (numbering.in_numbers-Field names p f) ∙ meaning.plain-Field (field_number names f) st.fields ∙ sym (named.value-Field names p f st), named.arrays_in-Field names p f))
      (λ a i held none calls. let form : access_at (array_number names a) (in_numbers names i) ≡ [] = sym (ap (λ (y : Numbered). y.accesses) (numbering.in_numbers-Cell names a i)) ∙ none in absurd (cc))
      (λ op a held none calls.
      let form = numbering.in_numbers-One names op a in
      let part = held (sym (ap (λ (y : Numbered). y.accesses) form) ∙ none) (subst AllCalls (expr_uses-One op a) calls) in
      (ap (λ (y : Numbered). plain_value y.tree st.fields) form ∙ meaning.plain-One op (numbered names a) st.fields ∙ ap (op1 op) part.0 ∙ sym (named.value-One names op a st), named.arrays_in-One names op a ∙ part.1))
      (λ op a b first second none calls.
      let form = numbering.in_numbers-Two names op a b in
      let both : accesses_in names a ++ accesses_in names b ≡ [] = sym (ap (λ (y : Numbered). y.accesses) form) ∙ none in
      let called = subst AllCalls (expr_uses-Two op a b) calls in
      let left = first (nil_front (accesses_in names a) (accesses_in names b) both) (calls_left (expr_uses a) (expr_uses b) called) in
      let right = second (nil_back (accesses_in names a) (accesses_in names b) both) (calls_right (expr_uses a) (expr_uses b) called) in (
        ap (λ (y : Numbered). plain_value y.tree st.fields) form ∙ meaning.plain-Two op (numbered names a) (numbered names b) st.fields ∙ (λ i. op2 op (left.0 i) (right.0 i)) ∙ sym (named.value-Two names op a b st),
        named.arrays_in-Two names op a b ∙ (λ i. left.1 i ++ right.1 i),
      ))
      (λ c a b zeroth first second none calls.
      let form = numbering.in_numbers-Pick names c a b in
      let all : accesses_in names c ++ (accesses_in names a ++ accesses_in names b) ≡ [] = sym (ap (λ (y : Numbered). y.accesses) form) ∙ none in
      let both = nil_back (accesses_in names c) (accesses_in names a ++ accesses_in names b) all in
      let called = subst AllCalls (expr_uses-Pick c a b) calls in
      let rest = calls_right (expr_uses c) (expr_uses a ++ expr_uses b) called in
      let cond = zeroth (nil_front (accesses_in names c) (accesses_in names a ++ accesses_in names b) all) (calls_left (expr_uses c) (expr_uses a ++ expr_uses b) called) in
      let left = first (nil_front (accesses_in names a) (accesses_in names b) both) (calls_left (expr_uses a) (expr_uses b) rest) in
      let right = second (nil_back (accesses_in names a) (accesses_in names b) both) (calls_right (expr_uses a) (expr_uses b) rest) in (
        ap (λ (y : Numbered). plain_value y.tree st.fields) form ∙ meaning.plain-Pick (numbered names c) (numbered names a) (numbered names b) st.fields ∙ (λ i. picked (cond.0 i) (left.0 i) (right.0 i)) ∙ sym (named.value-Pick names c a b st),
        named.arrays_in-Pick names c a b ∙ (λ i. cond.1 i ++ (left.1 i ++ right.1 i)),
      ))
      (λ f args held none calls.
      let form = numbering.in_numbers-Call names f args in
      let called = subst AllCalls (expr_uses-Call f args) calls in
      let words = same_args args held (sym (ap (λ (y : Numbered). y.accesses) form) ∙ none) called.1 in
      (ap (λ (y : Numbered). plain_value y.tree st.fields) form ∙ same_call f _ _ words.0 called.0.0 called.0.1 ∙ sym (named.value-Call names f args st), named.arrays_in-Call names f args ∙ words.1))
      (λ a held none calls.
      let form = numbering.in_numbers-Group names a in
      let part = held (sym (ap (λ (y : Numbered). y.accesses) form) ∙ none) (subst AllCalls (expr_uses-Group a) calls) in
      (ap (λ (y : Numbered). plain_value y.tree st.fields) form ∙ part.0 ∙ sym (named.value-Group names a st), named.arrays_in-Group names a ∙ part.1))

-- ---- the place that an index names

-- 0 names the first cell
cell_zero : (n : ℕ) → cell (pos 0) n ≡ 0
cell_zero zero = refl
cell_zero (suc n) = omega arith

-- an index in which no array stands is the whole index
pub plain_is : (tree index : CheckedExpr) (inside : List Access) → plain_index tree inside ≡ Some index → (tree ≡ index) × (inside ≡ [])
plain_is tree index [] is = (cc, refl)
plain_is tree index (x ∷ inside) is = absurd (cc)

module _ (names : Names) (ix : Indexing) (lengths : (array : List ℕ) → ix.length (array_number names array) ≡ array_length names array) (st : Store) where
  -- the first cell
  register_place : (w : List ℕ) → Keeps ix.index (register_at (array_number names w)) → place ix (array_number names w) st.fields ≡ 0
  register_place w kept =
      ap (λ (i : Option CheckedExpr). named_place i (ix.length (array_number names w)) st.fields) (kept.2 ∙ sym kept.1)
      ∙ ap (λ z. cell z (ix.length (array_number names w))) (meaning.plain-Number (pos 0) st.fields)
      ∙ cell_zero (ix.length (array_number names w))

  -- the cell that the index names over names
  pub cell_place : (a : List ℕ) (i : Expr) → AllKeep ix.index (access_at (array_number names a) (in_numbers names i)) → AllCalls (expr_uses i) → (place ix (array_number names a) st.fields ≡ index_place names a (value names i st)) × (arrays_in names i ≡ [])
  cell_place a i kept calls =
      let whole = plain_is (numbered names i) kept.0.0 (accesses_in names i) kept.0.1 in
      let plain = same_plain names st i whole.1 calls in (
        ap (λ (x : Option CheckedExpr). named_place x (ix.length (array_number names a)) st.fields) (kept.0.2 ∙ ap Some (sym whole.0))
            ∙ ap (λ z. cell z (ix.length (array_number names a))) plain.0
            ∙ ap (cell (value names i st)) (lengths a),
        plain.1,
      )

  -- ---- expressions

  abbrev Same : Expr → Type 0
  Same x = AllKeep ix.index (accesses_in names x) → AllCalls (expr_uses x) → (numbered_value ix (numbered names x) st ≡ value names x st) × (numbered_arrays (numbered names x) ≡ arrays_in names x)

  abbrev SameAll : List Expr → Type 0
  SameAll args =
      (map (λ (a : Store → ℤ). a st) (map (numbered_value ix) (map (λ (a : Numbered). a.tree) (map (in_numbers names) args))) ≡ map (λ (a : Store → ℤ). a st) (map (value names) args))
      × (flat_map (λ (a : List ℕ). a) (map numbered_arrays (map (λ (a : Numbered). a.tree) (map (in_numbers names) args))) ≡ flat_map (λ (a : List ℕ). a) (map (arrays_in names) args))

  same_all : (args : List Expr) → Each Same args → AllKeep ix.index (flat_map (λ (a : Numbered). a.accesses) (map (in_numbers names) args)) → AllCalls (joined (map expr_uses args)) → SameAll args
  same_all [] held kept calls = (refl, refl)
  same_all (x ∷ args) held kept calls =
      let here = held.0 (keep_front ix.index (accesses_in names x) _ kept) (calls_left (expr_uses x) _ calls) in
      let rest = same_all args held.1 (keep_back ix.index (accesses_in names x) _ kept) (calls_right (expr_uses x) _ calls) in
      ((λ i. here.0 i ∷ rest.0 i), (λ i. here.1 i ++ rest.1 i))

  same_number : (f : List ℕ) (trees : List CheckedExpr) (words : List ℤ) → map (λ (a : Store → ℤ). a st) (map (numbered_value ix) trees) ≡ words
      → (kind : HashKind) → hash_kind f ≡ Some kind → numbered_value ix (expr.Hash (called f) trees) st ≡ hashed (hash_kind f) words
  same_number f trees words is kind named =
      ap (λ (k : HashKind). numbered_value ix (expr.Hash k trees) st) (ap or_two named)
      ∙ meaning.value-Hash ix kind trees st
      ∙ ap (hash_all kind) is
      ∙ ap (λ (o : Option HashKind). hashed o words) (sym named)

  word_value : (number : Option ℤ) (array : ℕ) → AllKeep ix.index (numbered_word number array).accesses
      → (Keeps ix.index (register_at array) → place ix array st.fields ≡ 0)
      → (numbered_value ix (numbered_word number array).tree st ≡ defined_or number (word_at (cells_at st.cells array) 0)) × (numbered_arrays (numbered_word number array).tree ≡ array_word number array)
  word_value (Some n) array kept first = (meaning.value-Number ix n st, meaning.arrays-Number n)
  word_value None array kept first = (meaning.value-Cell ix array st ∙ ap (word_at (cells_at st.cells array)) (first kept.0), meaning.arrays-Cell array)

  pub same_value : (x : Expr) → Same x
  same_value = induct Same
      (λ n kept calls.
      let form = numbering.in_numbers-Number names n in (
        ap (λ (y : Numbered). numbered_value ix y.tree st) form ∙ meaning.value-Number ix n st ∙ sym (named.value-Number names n st),
        ap (λ (y : Numbered). numbered_arrays y.tree) form ∙ meaning.arrays-Number n ∙ sym (named.arrays_in-Number names n),
      ))
      (λ w kept calls.
      let form = numbering.in_numbers-Word names w in
      let word = word_value (number_of w names.defines) (array_number names w) (subst (λ (y : Numbered). AllKeep ix.index y.accesses) form kept) (register_place w) in (
        ap (λ (y : Numbered). numbered_value ix y.tree st) form ∙ word.0 ∙ sym (named.value-Word names w st),
        ap (λ (y : Numbered). numbered_arrays y.tree) form ∙ word.1 ∙ sym (named.arrays_in-Word names w),
      ))
      (λ p f kept calls.
      let form = numbering.in_numbers-Field names p f in (
        ap (λ (y : Numbered). numbered_value ix y.tree st) form ∙ meaning.value-Field ix (field_number names f) st ∙ sym (named.value-Field names p f st),
        ap (λ (y : Numbered). numbered_arrays y.tree) form ∙ meaning.arrays-Field (field_number names f) ∙ sym (named.arrays_in-Field names p f),
      ))
      (λ a i held kept calls.
      let form = numbering.in_numbers-Cell names a i in
      let there = cell_place a i (subst (λ (y : Numbered). AllKeep ix.index y.accesses) form kept) (subst AllCalls (expr_uses-Cell a i) calls).1 in (
        ap (λ (y : Numbered). numbered_value ix y.tree st) form ∙ meaning.value-Cell ix (array_number names a) st ∙ ap (word_at (cells_at st.cells (array_number names a))) there.0 ∙ sym (named.value-Cell names a i st),
        ap (λ (y : Numbered). numbered_arrays y.tree) form ∙ meaning.arrays-Cell (array_number names a) ∙ ap (λ inside. array_number names a ∷ inside) (sym there.1) ∙ sym (named.arrays_in-Cell names a i),
      ))
      (λ op a held kept calls.
      let form = numbering.in_numbers-One names op a in
      let part = held (subst (λ (y : Numbered). AllKeep ix.index y.accesses) form kept) (subst AllCalls (expr_uses-One op a) calls) in (
        ap (λ (y : Numbered). numbered_value ix y.tree st) form ∙ meaning.value-One ix op (numbered names a) st ∙ ap (op1 op) part.0 ∙ sym (named.value-One names op a st),
        ap (λ (y : Numbered). numbered_arrays y.tree) form ∙ meaning.arrays-One op (numbered names a) ∙ part.1 ∙ sym (named.arrays_in-One names op a),
      ))
      (λ op a b first second kept calls.
      let form = numbering.in_numbers-Two names op a b in
      let both = subst (λ (y : Numbered). AllKeep ix.index y.accesses) form kept in
      let called = subst AllCalls (expr_uses-Two op a b) calls in
      let left = first (keep_front ix.index (accesses_in names a) (accesses_in names b) both) (calls_left (expr_uses a) (expr_uses b) called) in
      let right = second (keep_back ix.index (accesses_in names a) (accesses_in names b) both) (calls_right (expr_uses a) (expr_uses b) called) in (
        ap (λ (y : Numbered). numbered_value ix y.tree st) form ∙ meaning.value-Two ix op (numbered names a) (numbered names b) st ∙ (λ i. op2 op (left.0 i) (right.0 i)) ∙ sym (named.value-Two names op a b st),
        ap (λ (y : Numbered). numbered_arrays y.tree) form ∙ meaning.arrays-Two op (numbered names a) (numbered names b) ∙ (λ i. left.1 i ++ right.1 i) ∙ sym (named.arrays_in-Two names op a b),
      ))
      (λ c a b zeroth first second kept calls.
      let form = numbering.in_numbers-Pick names c a b in
      let all = subst (λ (y : Numbered). AllKeep ix.index y.accesses) form kept in
      let both = keep_back ix.index (accesses_in names c) (accesses_in names a ++ accesses_in names b) all in
      let called = subst AllCalls (expr_uses-Pick c a b) calls in
      let rest = calls_right (expr_uses c) (expr_uses a ++ expr_uses b) called in
      let cond = zeroth (keep_front ix.index (accesses_in names c) (accesses_in names a ++ accesses_in names b) all) (calls_left (expr_uses c) (expr_uses a ++ expr_uses b) called) in
      let left = first (keep_front ix.index (accesses_in names a) (accesses_in names b) both) (calls_left (expr_uses a) (expr_uses b) rest) in
      let right = second (keep_back ix.index (accesses_in names a) (accesses_in names b) both) (calls_right (expr_uses a) (expr_uses b) rest) in (
        ap (λ (y : Numbered). numbered_value ix y.tree st) form ∙ meaning.value-Pick ix (numbered names c) (numbered names a) (numbered names b) st ∙ (λ i. picked (cond.0 i) (left.0 i) (right.0 i)) ∙ sym (named.value-Pick names c a b st),
        ap (λ (y : Numbered). numbered_arrays y.tree) form ∙ meaning.arrays-Pick (numbered names c) (numbered names a) (numbered names b) ∙ (λ i. cond.1 i ++ (left.1 i ++ right.1 i)) ∙ sym (named.arrays_in-Pick names c a b),
      ))
      (λ f args held kept calls.
      let form = numbering.in_numbers-Call names f args in
      let trees : List CheckedExpr = map (λ (a : Numbered). a.tree) (map (in_numbers names) args) in
      let called_well = subst AllCalls (expr_uses-Call f args) calls in
      let all = same_all args held (subst (λ (y : Numbered). AllKeep ix.index y.accesses) form kept) called_well.1 in (
        ap (λ (y : Numbered). numbered_value ix y.tree st) form ∙ same_number f trees _ all.0 called_well.0.0 called_well.0.1 ∙ sym (named.value-Call names f args st),
        ap (λ (y : Numbered). numbered_arrays y.tree) form ∙ meaning.arrays-Hash (called f) trees ∙ all.1 ∙ sym (named.arrays_in-Call names f args),
      ))
      (λ a held kept calls.
      let form = numbering.in_numbers-Group names a in
      let part = held (subst (λ (y : Numbered). AllKeep ix.index y.accesses) form kept) (subst AllCalls (expr_uses-Group a) calls) in (
        ap (λ (y : Numbered). numbered_value ix y.tree st) form ∙ part.0 ∙ sym (named.value-Group names a st),
        ap (λ (y : Numbered). numbered_arrays y.tree) form ∙ part.1 ∙ sym (named.arrays_in-Group names a),
      ))

-- ---- statements

-- a store without fields and cells
pub nowhere : Store
nowhere = record { fields = []; cells = [] }

module _ (names : Names) (ix : Indexing) (lengths : (array : List ℕ) → ix.length (array_number names array) ≡ array_length names array) where
  same_set : (t : Target) (x : Expr) (s : State) → AllKeep ix.index (target_accesses names t ++ accesses_in names x) → AllCalls (target_uses t ++ expr_uses x) → numbered_step ix (numbered_set names t (numbered names x)) s ≡ set_target names t x s
  same_set (target.Word w) x s kept calls =
      let there = register_place names ix lengths s.store w kept.0 in
      let right = same_value names ix lengths s.store x kept.1 calls.1 in
      meaning.step-SetCell ix (array_number names w) (numbered names x) s
      ∙ (λ i. record {
        store = record { fields = s.store.fields; cells = cell_set s.store.cells (array_number names w) (there i) (right.0 i) };
        touched = touching (array_number names w ∷ right.1 i) s.touched;
      })
  same_set (target.Field p f) x s kept calls =
      let right = same_value names ix lengths s.store x kept calls.1.1 in
      meaning.step-SetField ix (field_number names f) (numbered names x) s
      ∙ (λ i. record {
        store = record { fields = slice_set s.store.fields (field_number names f) (right.0 i); cells = s.store.cells };
        touched = touching (right.1 i) s.touched;
      })
  same_set (target.Cell a i) x s kept calls =
      let there = cell_place names ix lengths s.store a i (keep_front ix.index (access_at (array_number names a) (in_numbers names i)) (accesses_in names x) kept) (calls_left (expr_uses i) (expr_uses x) calls.1) in
      let right = same_value names ix lengths s.store x (keep_back ix.index (access_at (array_number names a) (in_numbers names i)) (accesses_in names x) kept) (calls_right (expr_uses i) (expr_uses x) calls.1) in
      meaning.step-SetCell ix (array_number names a) (numbered names x) s
      ∙ (λ j. record {
        store = record { fields = s.store.fields; cells = cell_set s.store.cells (array_number names a) (there.0 j) (right.0 j) };
        touched = touching (array_number names a ∷ (sym there.1 j ++ right.1 j)) s.touched;
      })

  abbrev SameStep : Stmt → Type 0
  SameStep x = AllKeep ix.index (stmt_accesses names x) → AllCalls (stmt_uses x) → (s : State) → numbered_step ix (numbered_stmt names x) s ≡ step names x s

  abbrev SameChoice : Choice → Choice → Type 0
  SameChoice c d = ((st : Store) → c.holds st ≡ d.holds st) × (c.arrays ≡ d.arrays) × ((s : State) → c.block s ≡ d.block s)

  abbrev SameArm : Arm → Type 0
  SameArm arm = AllKeep ix.index (arm_accesses names arm) → AllCalls (arm_uses arm) → SameChoice (numbered_choice ix (numbered_arm names arm)) (choice names arm)

  pub same_block : (body : List Stmt) → Each SameStep body → AllKeep ix.index (block_accesses names body) → AllCalls (joined (map stmt_uses body)) → (s : State)
      → in_turn (map (numbered_step ix) (map (numbered_stmt names) body)) s ≡ in_turn (map (step names) body) s
  same_block [] held kept calls s = refl
  same_block (x ∷ body) held kept calls s =
      ap (in_turn (map (numbered_step ix) (map (numbered_stmt names) body))) (held.0 (keep_front ix.index (stmt_accesses names x) (block_accesses names body) kept) (calls_left (stmt_uses x) (joined (map stmt_uses body)) calls) s)
      ∙ same_block body held.1 (keep_back ix.index (stmt_accesses names x) (block_accesses names body) kept) (calls_right (stmt_uses x) (joined (map stmt_uses body)) calls) (step names x s)

  same_chain : (arms : List Arm) → Each SameArm arms → AllKeep ix.index (numbers.in_turn (map (arm_accesses names) arms)) → AllCalls (joined (map arm_uses arms)) → (last other : Option (List Does)) → ((s : State) → at_last last s ≡ at_last other s) → (s : State)
      → chosen (map (numbered_choice ix) (map (numbered_arm names) arms)) last s ≡ chosen (map (choice names) arms) other s
  same_chain [] held kept calls last other ends s = ends s
  same_chain (arm ∷ arms) held kept calls last other ends s =
      let here = held.0 (keep_front ix.index (arm_accesses names arm) (numbers.in_turn (map (arm_accesses names) arms)) kept) (calls_left (arm_uses arm) (joined (map arm_uses arms)) calls) in
      let rest = same_chain arms held.1 (keep_back ix.index (arm_accesses names arm) (numbers.in_turn (map (arm_accesses names) arms)) kept) (calls_right (arm_uses arm) (joined (map arm_uses arms)) calls) last other ends in
      let mine : Choice = numbered_choice ix (numbered_arm names arm) in
      let theirs : Choice = choice names arm in
      (λ i. if here.0 s.store i then mine.block (touch (here.1 i) s) else chosen (map (numbered_choice ix) (map (numbered_arm names) arms)) last (touch (here.1 i) s))
      ∙ (λ i. if theirs.holds s.store then here.2 (touch theirs.arrays s) i else rest (touch theirs.arrays s) i)

  same_step : (x : Stmt) → SameStep x
  same_step = statements.induct SameStep SameArm
      (λ t x kept calls s.
      ap (λ (y : CheckedStmt). numbered_step ix y s) (numbering.numbered_stmt-Set names t x)
      ∙ same_set t x s (subst (AllKeep ix.index) (numbering.stmt_accesses-Set names t x) kept) (subst AllCalls (stmt_uses-Set t x) calls)
      ∙ sym (executed.step-Set names t x s))
      (λ arms held kept calls s.
      let called = calls_left (joined (map arm_uses arms)) [] (subst AllCalls (stmt_uses-If arms) calls) in
      let all = subst (AllKeep ix.index) (numbering.stmt_accesses-If names arms ∙ append-nil (numbers.in_turn (map (arm_accesses names) arms))) kept in
      ap (λ (y : CheckedStmt). numbered_step ix y s) (numbering.numbered_stmt-If names arms)
      ∙ meaning.step-If ix (map (numbered_arm names) arms) s
      ∙ same_chain arms held all called None None (λ t. refl) s
      ∙ sym (executed.step-If names arms s))
      (λ arms body held inside kept calls s.
      let called = subst AllCalls (stmt_uses-Else arms body) calls in
      let all = subst (AllKeep ix.index) (numbering.stmt_accesses-Else names arms body) kept in
      let front = keep_front ix.index (numbers.in_turn (map (arm_accesses names) arms)) (block_accesses names body) all in
      let back = keep_back ix.index (numbers.in_turn (map (arm_accesses names) arms)) (block_accesses names body) all in
      ap (λ (y : CheckedStmt). numbered_step ix y s) (numbering.numbered_stmt-Else names arms body)
      ∙ meaning.step-Else ix (map (numbered_arm names) arms) (map (numbered_stmt names) body) s
      ∙ same_chain arms held front (calls_left (joined (map arm_uses arms)) (joined (map stmt_uses body)) called) (Some (map (numbered_step ix) (map (numbered_stmt names) body))) (Some (map (step names) body)) (same_block body inside back (calls_right (joined (map arm_uses arms)) (joined (map stmt_uses body)) called)) s
      ∙ sym (executed.step-Else names arms body s))
      (λ cond body inside kept calls.
      let called = subst AllCalls (arm_uses-Arm cond body) calls in
      let first = calls_left (expr_uses cond) (joined (map stmt_uses body)) called in
      let rest = calls_right (expr_uses cond) (joined (map stmt_uses body)) called in
      let all = subst (AllKeep ix.index) (numbering.arm_accesses-Arm names cond body) kept in
      let front = keep_front ix.index (accesses_in names cond) (block_accesses names body) all in
      let back = keep_back ix.index (accesses_in names cond) (block_accesses names body) all in
      let mine : numbered_choice ix (numbered_arm names (record { cond = cond; body = body })) ≡ record { holds = λ st. truth (numbered_value ix (numbered names cond) st); arrays = numbered_arrays (numbered names cond); block = in_turn (map (numbered_step ix) (map (numbered_stmt names) body)) } =
      ap (numbered_choice ix) (numbering.numbered_arm-Arm names cond body) ∙ meaning.choice-Arm ix (numbered names cond) (map (numbered_stmt names) body) in
      let theirs = executed.choice-Arm names cond body in (
        (λ st. ap (λ (c : Choice). c.holds st) mine ∙ ap truth (same_value names ix lengths st cond front first).0 ∙ sym (ap (λ (c : Choice). c.holds st) theirs)),
        ap (λ (c : Choice). c.arrays) mine ∙ (same_value names ix lengths nowhere cond front first).1 ∙ sym (ap (λ (c : Choice). c.arrays) theirs),
        (λ s. ap (λ (c : Choice). c.block s) mine ∙ same_block body inside back rest s ∙ sym (ap (λ (c : Choice). c.block s) theirs)),
      ))

  all_steps : (body : List Stmt) → Each SameStep body
  all_steps [] = tt
  all_steps (x ∷ body) = (same_step x, all_steps body)

-- ---- programs

-- executing the body in numbers is executing the body
pub agreement : (p : Program) → PassesNames p → HasIndexes p → (s : State) → numbered_exec (indexing p) (numbered_body p) s ≡ exec (names_of p) p.function.body s
agreement p passes kept s =
    same_block (names_of p) (indexing p) (λ a. refl) p.function.body (all_steps (names_of p) (indexing p) (λ a. refl) p.function.body) kept (body_calls p passes) s
