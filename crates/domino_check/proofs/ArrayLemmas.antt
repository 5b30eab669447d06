-- The arrays that are accessed are those that the sites touch.
use Rattle.std.proofs.Common.{◌≡◌, ℕ, ◌==◌, false, ◌||◌, ℤ, List, [], ◌∷◌, ◌++◌, map, flat_map, Some, None, Option, refl, sym, ap, subst, ◌∙◌, append-nil, inl, inr, true≢false}
use Rattle.std.proofs.lemmas.Bool.Decides.{eqb_tells}
use Rattle.std.specs.List.{list_any}
use Rattle.std.proofs.lemmas.List.{map-append}
use Rattle.std.proofs.lemmas.Grind.{flat_map-append}
use Rattle.domino_tree.specs.declared.expr.Expr.{Expr}
use Rattle.domino_tree.specs.declared.program.Target.{Target}
use Rattle.domino_tree.specs.declared.program.Target.TheVariants as target
use Rattle.domino_tree.specs.declared.program.Stmt.{Stmt}
use Rattle.domino_tree.specs.declared.program.Arm.{Arm}
use Rattle.domino_tree.specs.declared.program.Program.{Program}
use Rattle.domino_tree.specs.Value.{Names, names_of, number_of, array_number, field_number, array_length, arrays_in, array_word}
use Rattle.domino_tree.proofs.ValueLemmas as named
use Rattle.domino_tree.proofs.ExprLemmas.{Each, induct}
use Rattle.domino_tree.proofs.StmtLemmas as statements
use Rattle.domino_check.specs.Numbering.{Access}
use Rattle.domino_check.specs.declared.sites.Touch.{Touch}
use Rattle.domino_names.specs.Uses.{joined, expr_uses, target_uses, stmt_uses, arm_uses}
use Rattle.domino_check.specs.Numbering as numbers
use Rattle.domino_check.specs.Numbering.{Numbered, in_numbers, numbered, accesses_in, access_at, numbered_word, numbered_set, numbered_stmt, numbered_arm, target_accesses, stmt_accesses, arm_accesses, block_accesses, numbered_body, accesses}
use Rattle.domino_check.specs.Indexes.{AllKeep, HasIndexes, index_of}
use Rattle.domino_check.specs.NumberedMeaning.{Indexing, indexing, numbered_arrays}
use Rattle.domino_names.specs.NamesRefused.{PassesNames}
use Rattle.domino_check.specs.Sites.{Site, touches, is_touched, program_sites}
use Rattle.domino_check.specs.Touches.{touch_of, joined_touches, stmt_touches, arm_touches}
use Rattle.domino_check.proofs.NumberingLemmas as numbering
use Rattle.domino_names.proofs.UseLemmas.{AllCalls, calls_left, calls_right, body_calls, stmt_uses-Set, stmt_uses-If, stmt_uses-Else, arm_uses-Arm}
use Rattle.domino_check.proofs.Agreement.{keep_front, keep_back, nowhere, same_value, cell_place}
use Rattle.domino_check.proofs.IndexLemmas.{IsUntouched, untouched_from_none, none_from_untouched}
use Rattle.domino_check.proofs.SiteLemmas.{any_append}
use Rattle.domino_check.proofs.SiteForms.{touches-SetField, touches-SetCell, touches-If, touches-Else, touches-Arm, sites_kept}

-- the arrays of these accesses
abbrev arrays_of : List Access → List ℕ
arrays_of xs = map (λ (x : Access). x.array) xs

-- the arrays of what is kept of these sites
abbrev touched_arrays : List Touch → List ℕ
touched_arrays ts = flat_map (λ (t : Touch). t.arrays) ts

-- ---- expressions

module _ (names : Names) where
  abbrev Accessed : Expr → Type 0
  Accessed x = arrays_of (accesses_in names x) ≡ arrays_in names x

  accessed_all : (args : List Expr) → Each Accessed args → arrays_of (flat_map (λ (a : Numbered). a.accesses) (map (in_numbers names) args)) ≡ flat_map (λ (a : List ℕ). a) (map (arrays_in names) args)
  accessed_all [] each = refl
  accessed_all (x ∷ args) each =
      map-append (λ (a : Access). a.array) (accesses_in names x) (flat_map (λ (a : Numbered). a.accesses) (map (in_numbers names) args))
      ∙ (λ i. each.0 i ++ accessed_all args each.1 i)

  accessed_word : (number : Option ℤ) (array : ℕ) → arrays_of (numbered_word number array).accesses ≡ array_word number array
  accessed_word (Some n) array = refl
  accessed_word None array = refl

  accessed : (x : Expr) → Accessed x
  accessed = induct Accessed
      (λ n. ap (λ (y : Numbered). arrays_of y.accesses) (numbering.in_numbers-Number names n) ∙ sym (named.arrays_in-Number names n))
      (λ w. ap (λ (y : Numbered). arrays_of y.accesses) (numbering.in_numbers-Word names w) ∙ accessed_word (number_of w names.defines) (array_number names w) ∙ sym (named.arrays_in-Word names w))
      (λ p f. ap (λ (y : Numbered). arrays_of y.accesses) (numbering.in_numbers-Field names p f) ∙ sym (named.arrays_in-Field names p f))
      (λ a i held. ap (λ (y : Numbered). arrays_of y.accesses) (numbering.in_numbers-Cell names a i) ∙ ap (λ l. array_number names a ∷ l) held ∙ sym (named.arrays_in-Cell names a i))
      (λ op a held. ap (λ (y : Numbered). arrays_of y.accesses) (numbering.in_numbers-One names op a) ∙ held ∙ sym (named.arrays_in-One names op a))
      (λ op a b held also.
      ap (λ (y : Numbered). arrays_of y.accesses) (numbering.in_numbers-Two names op a b)
      ∙ map-append (λ (x : Access). x.array) (accesses_in names a) (accesses_in names b)
      ∙ (λ i. held i ++ also i)
      ∙ sym (named.arrays_in-Two names op a b))
      (λ c a b held also too.
      ap (λ (y : Numbered). arrays_of y.accesses) (numbering.in_numbers-Pick names c a b)
      ∙ map-append (λ (x : Access). x.array) (accesses_in names c) (accesses_in names a ++ accesses_in names b)
      ∙ ap (λ l. arrays_of (accesses_in names c) ++ l) (map-append (λ (x : Access). x.array) (accesses_in names a) (accesses_in names b))
      ∙ (λ i. held i ++ (also i ++ too i))
      ∙ sym (named.arrays_in-Pick names c a b))
      (λ f args each. ap (λ (y : Numbered). arrays_of y.accesses) (numbering.in_numbers-Call names f args) ∙ accessed_all args each ∙ sym (named.arrays_in-Call names f args))
      (λ a held. ap (λ (y : Numbered). arrays_of y.accesses) (numbering.in_numbers-Group names a) ∙ held ∙ sym (named.arrays_in-Group names a))

-- ---- statements

module _ (names : Names) (ix : Indexing) (lengths : (array : List ℕ) → ix.length (array_number names array) ≡ array_length names array) where
  -- the arrays in a tree are those of its accesses
  tree_arrays : (x : Expr) → AllKeep ix.index (accesses_in names x) → AllCalls (expr_uses x) → numbered_arrays (numbered names x) ≡ arrays_of (accesses_in names x)
  tree_arrays x kept calls = (same_value names ix lengths nowhere x kept calls).1 ∙ sym (accessed names x)

  abbrev Together : List Access → List Touch → Type 0
  Together xs ts = touched_arrays ts ≡ arrays_of xs

  together : (xs ys : List Access) (ts us : List Touch) → Together xs ts → Together ys us → Together (xs ++ ys) (ts ++ us)
  together xs ys ts us h k =
      flat_map-append (λ (t : Touch). t.arrays) ts us
      ∙ (λ i. h i ++ k i)
      ∙ sym (map-append (λ (x : Access). x.array) xs ys)

  set_arrays : (t : Target) (x : Expr) → AllKeep ix.index (target_accesses names t ++ accesses_in names x) → AllCalls (target_uses t ++ expr_uses x)
      → Together (target_accesses names t ++ accesses_in names x) (stmt_touches (numbered_set names t (numbered names x)))
  set_arrays (target.Word w) x kept calls =
      ap touched_arrays (touches-SetCell (array_number names w) (numbered names x))
      ∙ append-nil (array_number names w ∷ numbered_arrays (numbered names x))
      ∙ ap (λ l. array_number names w ∷ l) (tree_arrays x kept.1 calls.1)
  set_arrays (target.Field p f) x kept calls =
      ap touched_arrays (touches-SetField (field_number names f) (numbered names x))
      ∙ append-nil (numbered_arrays (numbered names x))
      ∙ tree_arrays x kept calls.1.1
  set_arrays (target.Cell a i) x kept calls =
      let inside = cell_place names ix lengths nowhere a i (keep_front ix.index (access_at (array_number names a) (in_numbers names i)) (accesses_in names x) kept) (calls_left (expr_uses i) (expr_uses x) calls.1) in
      let right = tree_arrays x (keep_back ix.index (access_at (array_number names a) (in_numbers names i)) (accesses_in names x) kept) (calls_right (expr_uses i) (expr_uses x) calls.1) in
      ap touched_arrays (touches-SetCell (array_number names a) (numbered names x))
      ∙ append-nil (array_number names a ∷ numbered_arrays (numbered names x))
      ∙ (λ j. array_number names a ∷ ((sym (accessed names i ∙ inside.1) j) ++ right j))
      ∙ sym (map-append (λ (y : Access). y.array) (access_at (array_number names a) (in_numbers names i)) (accesses_in names x))

  abbrev StmtTogether : Stmt → Type 0
  StmtTogether x = AllKeep ix.index (stmt_accesses names x) → AllCalls (stmt_uses x) → Together (stmt_accesses names x) (stmt_touches (numbered_stmt names x))

  abbrev ArmTogether : Arm → Type 0
  ArmTogether x = AllKeep ix.index (arm_accesses names x) → AllCalls (arm_uses x) → Together (arm_accesses names x) (arm_touches (numbered_arm names x))

  stmts_together : (body : List Stmt) → Each StmtTogether body → AllKeep ix.index (block_accesses names body) → AllCalls (joined (map stmt_uses body))
      → Together (block_accesses names body) (joined_touches (map stmt_touches (map (numbered_stmt names) body)))
  stmts_together [] each kept calls = refl
  stmts_together (x ∷ body) each kept calls =
      together (stmt_accesses names x) (block_accesses names body) (stmt_touches (numbered_stmt names x)) (joined_touches (map stmt_touches (map (numbered_stmt names) body)))
      (each.0 (keep_front ix.index (stmt_accesses names x) (block_accesses names body) kept) (calls_left (stmt_uses x) (joined (map stmt_uses body)) calls))
      (stmts_together body each.1 (keep_back ix.index (stmt_accesses names x) (block_accesses names body) kept) (calls_right (stmt_uses x) (joined (map stmt_uses body)) calls))

  arms_together : (arms : List Arm) → Each ArmTogether arms → AllKeep ix.index (numbers.in_turn (map (arm_accesses names) arms)) → AllCalls (joined (map arm_uses arms))
      → Together (numbers.in_turn (map (arm_accesses names) arms)) (joined_touches (map arm_touches (map (numbered_arm names) arms)))
  arms_together [] each kept calls = refl
  arms_together (x ∷ arms) each kept calls =
      together (arm_accesses names x) (numbers.in_turn (map (arm_accesses names) arms)) (arm_touches (numbered_arm names x)) (joined_touches (map arm_touches (map (numbered_arm names) arms)))
      (each.0 (keep_front ix.index (arm_accesses names x) (numbers.in_turn (map (arm_accesses names) arms)) kept) (calls_left (arm_uses x) (joined (map arm_uses arms)) calls))
      (arms_together arms each.1 (keep_back ix.index (arm_accesses names x) (numbers.in_turn (map (arm_accesses names) arms)) kept) (calls_right (arm_uses x) (joined (map arm_uses arms)) calls))

  -- the statement's accesses and what is kept of it are these
  by : (xs ys : List Access) (ts us : List Touch) → xs ≡ ys → ts ≡ us → Together ys us → Together xs ts
  by xs ys ts us x t h = ap touched_arrays t ∙ h ∙ sym (ap arrays_of x)

  stmt_together : (x : Stmt) → StmtTogether x
  stmt_together = statements.induct StmtTogether ArmTogether
      (λ t x kept calls. by _ _ _ _ (numbering.stmt_accesses-Set names t x) (ap stmt_touches (numbering.numbered_stmt-Set names t x))
      (set_arrays t x (subst (AllKeep ix.index) (numbering.stmt_accesses-Set names t x) kept) (subst AllCalls (stmt_uses-Set t x) calls)))
      (λ arms each kept calls.
      let all = keep_front ix.index (numbers.in_turn (map (arm_accesses names) arms)) [] (subst (AllKeep ix.index) (numbering.stmt_accesses-If names arms) kept) in
      let called = calls_left (joined (map arm_uses arms)) [] (subst AllCalls (stmt_uses-If arms) calls) in
      by _ _ _ _ (numbering.stmt_accesses-If names arms) (ap stmt_touches (numbering.numbered_stmt-If names arms) ∙ touches-If (map (numbered_arm names) arms))
      (together (numbers.in_turn (map (arm_accesses names) arms)) [] (joined_touches (map arm_touches (map (numbered_arm names) arms))) [] (arms_together arms each all called) refl))
      (λ arms body each inside kept calls.
      let all = subst (AllKeep ix.index) (numbering.stmt_accesses-Else names arms body) kept in
      let called = subst AllCalls (stmt_uses-Else arms body) calls in
      by _ _ _ _ (numbering.stmt_accesses-Else names arms body) (ap stmt_touches (numbering.numbered_stmt-Else names arms body) ∙ touches-Else (map (numbered_arm names) arms) (map (numbered_stmt names) body))
      (together (numbers.in_turn (map (arm_accesses names) arms)) (block_accesses names body) (joined_touches (map arm_touches (map (numbered_arm names) arms))) (joined_touches (map stmt_touches (map (numbered_stmt names) body)))
      (arms_together arms each (keep_front ix.index (numbers.in_turn (map (arm_accesses names) arms)) (block_accesses names body) all) (calls_left (joined (map arm_uses arms)) (joined (map stmt_uses body)) called))
      (stmts_together body inside (keep_back ix.index (numbers.in_turn (map (arm_accesses names) arms)) (block_accesses names body) all) (calls_right (joined (map arm_uses arms)) (joined (map stmt_uses body)) called))))
      (λ cond body inside kept calls.
      let all = subst (AllKeep ix.index) (numbering.arm_accesses-Arm names cond body) kept in
      let called = subst AllCalls (arm_uses-Arm cond body) calls in
      by _ _ _ _ (numbering.arm_accesses-Arm names cond body) (ap arm_touches (numbering.numbered_arm-Arm names cond body) ∙ touches-Arm (numbered names cond) (map (numbered_stmt names) body))
      ((λ i. tree_arrays cond (keep_front ix.index (accesses_in names cond) (block_accesses names body) all) (calls_left (expr_uses cond) (joined (map stmt_uses body)) called) i
      ++ stmts_together body inside (keep_back ix.index (accesses_in names cond) (block_accesses names body) all) (calls_right (expr_uses cond) (joined (map stmt_uses body)) called) i)
      ∙ sym (map-append (λ (x : Access). x.array) (accesses_in names cond) (block_accesses names body))))

  each_together : (body : List Stmt) → Each StmtTogether body
  each_together [] = tt
  each_together (x ∷ body) = (stmt_together x, each_together body)

-- ---- programs

-- an array is touched where it is among those that the sites touch
touched_any : (sites : List Site) (a : ℕ) → is_touched sites a ≡ list_any (λ (b : ℕ). b == a) (touched_arrays (map touch_of sites))
touched_any [] a = refl
touched_any (x ∷ sites) a =
    ap (λ t. touches a x || t) (touched_any sites a)
    ∙ sym (any_append (λ (b : ℕ). b == a) x.touches (touched_arrays (map touch_of sites)))

-- the sites of a program touch the arrays that its body accesses
pub touched_accessed : (p : Program) (a : ℕ) → PassesNames p → HasIndexes p → is_touched (program_sites p) a ≡ list_any (λ (b : ℕ). b == a) (arrays_of (accesses p))
touched_accessed p a passes kept =
    touched_any (program_sites p) a
    ∙ ap (λ ts. list_any (λ (b : ℕ). b == a) (touched_arrays ts)) (sites_kept (numbered_body p))
    ∙ ap (list_any (λ (b : ℕ). b == a)) (stmts_together (names_of p) (indexing p) (λ w. refl) p.function.body (each_together (names_of p) (indexing p) (λ w. refl) p.function.body) kept (body_calls p passes))

none_of : (xs : List Access) (a : ℕ) → IsUntouched xs a → list_any (λ (b : ℕ). b == a) (arrays_of xs) ≡ false
none_of [] a untouched = refl
none_of (x ∷ xs) a untouched =
    elim (eqb_tells x.array a) [
      | inl same ↦ absurd (untouched.0 same.1)
      | inr other ↦ (λ i. other.0 i || none_of xs a untouched.1 i)
    ]

untouched_by : (xs : List Access) (a : ℕ) → list_any (λ (b : ℕ). b == a) (arrays_of xs) ≡ false → IsUntouched xs a
untouched_by [] a none = tt
untouched_by (x ∷ xs) a none =
    elim (eqb_tells x.array a) [
      | inl same ↦ absurd (true≢false ((λ i. sym same.0 i || list_any (λ (b : ℕ). b == a) (arrays_of xs)) ∙ none))
      | inr other ↦ (other.1, untouched_by xs a ((λ i. sym other.0 i || list_any (λ (b : ℕ). b == a) (arrays_of xs)) ∙ none))
    ]

-- an array has no index exactly where no site touches it
pub no_index_untouched : (p : Program) (a : ℕ) → PassesNames p → HasIndexes p → index_of (accesses p) a ≡ None → is_touched (program_sites p) a ≡ false
no_index_untouched p a passes kept none = touched_accessed p a passes kept ∙ none_of (accesses p) a (untouched_from_none (index_of (accesses p)) (accesses p) a kept none)

pub untouched_no_index : (p : Program) (a : ℕ) → PassesNames p → HasIndexes p → is_touched (program_sites p) a ≡ false → index_of (accesses p) a ≡ None
untouched_no_index p a passes kept none = none_from_untouched (accesses p) a (untouched_by (accesses p) a (sym (touched_accessed p a passes kept) ∙ none))
