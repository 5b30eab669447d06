-- The count of a body in numbers is the count of the source.
use Rattle.std.proofs.Common.{◌≡◌, ◌≢◌, ℕ, zero, suc, ◌+◌, ◌<◌, ◌≤◌, ◌==◌, nat_eq, ℤ, pos, Bool, true, false, not, cond, ◌&&◌, if◌then◌else◌, List, [], ◌∷◌, ◌++◌, length, map, flat_map, filter, sum, Some, None, Option, refl, sym, ap, subst, ◌∙◌, arith, inl, inr, eq-eqb}
use Rattle.std.specs.List.{range_with_len}
use Rattle.std.proofs.lemmas.List.{map-append}
use Rattle.std.proofs.lemmas.List.Sums.{sum_by-cons, sum_by-append}
use Rattle.std.proofs.lemmas.Bool.Decides.{eqb_tells}
use Rattle.mp5_words.specs.declared.op.Op1.{Op1}
use Rattle.mp5_words.specs.declared.op.Op2.{Op2}
use Rattle.mp5_words.specs.declared.hashing.HashKind.{HashKind}
use Rattle.domino_tree.specs.declared.expr.Expr.{Expr}
use Rattle.domino_tree.specs.declared.program.Target.{Target}
use Rattle.domino_tree.specs.declared.program.Target.TheVariants as target
use Rattle.domino_tree.specs.declared.program.Stmt.{Stmt}
use Rattle.domino_tree.specs.declared.program.Arm.{Arm}
use Rattle.domino_tree.specs.declared.program.Program.{Program}
use Rattle.domino_tree.specs.Value.{Names, names_of, number_of, array_number, field_number, array_word}
use Rattle.domino_tree.specs.Count.{Access as Counted, Tally, beside, together, registers, tally, target_tally, stmt_tally, arm_tally, firsts, cost, count_of}
use Rattle.domino_tree.specs.Count.{cell as tally_cell}
use Rattle.domino_tree.proofs.CountLemmas as tallies
use Rattle.domino_tree.proofs.ExprLemmas.{Each, induct}
use Rattle.domino_tree.proofs.StmtLemmas as statements
use Rattle.domino_check.specs.declared.numbered.CheckedExpr.{CheckedExpr, fold-roll-CheckedExpr}
use Rattle.domino_check.specs.declared.numbered.CheckedExpr.TheOpen as F
use Rattle.domino_check.specs.declared.numbered.CheckedExpr.TheVariants as e
use Rattle.domino_check.specs.declared.numbered.CheckedStmt.{CheckedStmt}
use Rattle.domino_check.specs.Numbering.{Access}
use Rattle.domino_check.specs.Numbering as numbers
use Rattle.domino_check.specs.Numbering.{Numbered, in_numbers, numbered, accesses_in, plain_index, access_at, register_at, numbered_word, called, numbered_set, numbered_stmt, numbered_arm, target_accesses, stmt_accesses, arm_accesses, block_accesses, numbered_body, accesses}
use Rattle.domino_check.specs.Indexes.{AllKeep, HasIndexes, AreBelow, index_of}
use Rattle.domino_names.specs.NamesRefused.{PassesNames}
use Rattle.domino_check.specs.Sites.{Site, Sited, SitedArm, condition_site, in_block, in_last_block, in_chain, stmt_sites, arm_sites, program_indexes}
use Rattle.domino_check.specs.Count.{counting, operators_in, site_count, index_count, numbered_count}
use Rattle.domino_check.proofs.NumberingLemmas as numbering
use Rattle.domino_check.proofs.Agreement.{keep_front, keep_back, plain_is}
use Rattle.domino_check.proofs.BelowLemmas.{accesses_below}
use Rattle.domino_check.proofs.SiteForms.{sites-SetField, sites-SetCell, sites-If, sites-Else, sites-Arm}

-- ---- what counts at each form

operators-Number : (n : ℤ) → operators_in (e.Number n) ≡ 0
operators-Number n = ap operators_in (sym (e.rolls-Number n)) ∙ fold-roll-CheckedExpr ℕ counting (F.CheckedExpr-F.Number n)

operators-Field : (f : ℕ) → operators_in (e.Field f) ≡ 0
operators-Field f = ap operators_in (sym (e.rolls-Field f)) ∙ fold-roll-CheckedExpr ℕ counting (F.CheckedExpr-F.Field f)

operators-Cell : (a : ℕ) → operators_in (e.Cell a) ≡ 0
operators-Cell a = ap operators_in (sym (e.rolls-Cell a)) ∙ fold-roll-CheckedExpr ℕ counting (F.CheckedExpr-F.Cell a)

operators-One : (op : Op1) (a : CheckedExpr) → operators_in (e.One op a) ≡ 1 + operators_in a
operators-One op a = ap operators_in (sym (e.rolls-One op a)) ∙ fold-roll-CheckedExpr ℕ counting (F.CheckedExpr-F.One op a)

operators-Two : (op : Op2) (a b : CheckedExpr) → operators_in (e.Two op a b) ≡ 1 + (operators_in a + operators_in b)
operators-Two op a b = ap operators_in (sym (e.rolls-Two op a b)) ∙ fold-roll-CheckedExpr ℕ counting (F.CheckedExpr-F.Two op a b)

operators-Pick : (c a b : CheckedExpr) → operators_in (e.Pick c a b) ≡ 1 + (operators_in c + (operators_in a + operators_in b))
operators-Pick c a b = ap operators_in (sym (e.rolls-Pick c a b)) ∙ fold-roll-CheckedExpr ℕ counting (F.CheckedExpr-F.Pick c a b)

operators-Hash : (kind : HashKind) (args : List CheckedExpr) → operators_in (e.Hash kind args) ≡ 1 + sum (map operators_in args)
operators-Hash kind args = ap operators_in (sym (e.rolls-Hash kind args)) ∙ fold-roll-CheckedExpr ℕ counting (F.CheckedExpr-F.Hash kind args)

-- ---- apart from the arrays

sum_more : (x : ℕ) (xs : List ℕ) → sum (x ∷ xs) ≡ x + sum xs
sum_more x xs = sum_by-cons (λ n. n) x xs

sum_append : (xs ys : List ℕ) → sum (xs ++ ys) ≡ sum xs + sum ys
sum_append xs ys = sum_by-append (λ n. n) xs ys

-- what these sites count
abbrev sites_count : List Site → ℕ
sites_count sites = sum (map site_count sites)

sites_count-append : (xs ys : List Site) → sites_count (xs ++ ys) ≡ sites_count xs + sites_count ys
sites_count-append xs ys = ap sum (map-append site_count xs ys) ∙ sum_append (map site_count xs) (map site_count ys)

module _ (names : Names) where
  abbrev Plain : Expr → Type 0
  Plain x = (tally names x).plain ≡ operators_in (numbered names x)

  plain_args : (args : List Expr) → Each Plain args → (together (map (tally names) args)).plain ≡ sum (map operators_in (map (λ (a : Numbered). a.tree) (map (in_numbers names) args)))
  plain_args [] each = refl
  plain_args (x ∷ args) each =
      (λ i. each.0 i + plain_args args each.1 i)
      ∙ sym (sum_more (operators_in (numbered names x)) (map operators_in (map (λ (a : Numbered). a.tree) (map (in_numbers names) args))))

  word_operators : (number : Option ℤ) (array : ℕ) → operators_in (numbered_word number array).tree ≡ 0
  word_operators (Some n) array = operators-Number n
  word_operators None array = operators-Cell array

  plain : (x : Expr) → Plain x
  plain = induct Plain
      (λ n. ap (λ (t : Tally). t.plain) (tallies.tally-Number names n) ∙ sym (ap (λ (y : Numbered). operators_in y.tree) (numbering.in_numbers-Number names n) ∙ operators-Number n))
      (λ w. ap (λ (t : Tally). t.plain) (tallies.tally-Word names w) ∙ sym (ap (λ (y : Numbered). operators_in y.tree) (numbering.in_numbers-Word names w) ∙ word_operators (number_of w names.defines) (array_number names w)))
      (λ p f. ap (λ (t : Tally). t.plain) (tallies.tally-Field names p f) ∙ sym (ap (λ (y : Numbered). operators_in y.tree) (numbering.in_numbers-Field names p f) ∙ operators-Field (field_number names f)))
      (λ a i held. ap (λ (t : Tally). t.plain) (tallies.tally-Cell names a i) ∙ sym (ap (λ (y : Numbered). operators_in y.tree) (numbering.in_numbers-Cell names a i) ∙ operators-Cell (array_number names a)))
      (λ op a held. ap (λ (t : Tally). t.plain) (tallies.tally-One names op a) ∙ ap (λ n. 1 + n) held ∙ sym (ap (λ (y : Numbered). operators_in y.tree) (numbering.in_numbers-One names op a) ∙ operators-One op (numbered names a)))
      (λ op a b held also. ap (λ (t : Tally). t.plain) (tallies.tally-Two names op a b) ∙ (λ i. 1 + (held i + also i)) ∙ sym (ap (λ (y : Numbered). operators_in y.tree) (numbering.in_numbers-Two names op a b) ∙ operators-Two op (numbered names a) (numbered names b)))
      (λ c a b held also too. ap (λ (t : Tally). t.plain) (tallies.tally-Pick names c a b) ∙ (λ i. 1 + (held i + (also i + too i))) ∙ sym (ap (λ (y : Numbered). operators_in y.tree) (numbering.in_numbers-Pick names c a b) ∙ operators-Pick (numbered names c) (numbered names a) (numbered names b)))
      (λ f args each. ap (λ (t : Tally). t.plain) (tallies.tally-Call names f args) ∙ ap (λ n. 1 + n) (plain_args args each) ∙ sym (ap (λ (y : Numbered). operators_in y.tree) (numbering.in_numbers-Call names f args) ∙ operators-Hash (called f) (map (λ (a : Numbered). a.tree) (map (in_numbers names) args))))
      (λ a held. ap (λ (t : Tally). t.plain) (tallies.tally-Group names a) ∙ held ∙ sym (ap (λ (y : Numbered). operators_in y.tree) (numbering.in_numbers-Group names a)))

  abbrev PlainStmt : Stmt → Type 0
  PlainStmt x = (context : List CheckedExpr) → (stmt_tally names x).plain ≡ sites_count (stmt_sites (numbered_stmt names x) context)

  abbrev PlainArm : Arm → Type 0
  PlainArm x = (context inner : List CheckedExpr) → (arm_tally names x).plain ≡ site_count (condition_site (arm_sites (numbered_arm names x)).cond context) + sites_count ((arm_sites (numbered_arm names x)).block inner)

  plain_block : (body : List Stmt) → Each PlainStmt body → (context : List CheckedExpr) → (together (map (stmt_tally names) body)).plain ≡ sites_count (in_block (map stmt_sites (map (numbered_stmt names) body)) context)
  plain_block [] each context = refl
  plain_block (x ∷ body) each context =
      (λ i. each.0 context i + plain_block body each.1 context i)
      ∙ sym (sites_count-append (stmt_sites (numbered_stmt names x) context) (in_block (map stmt_sites (map (numbered_stmt names) body)) context))

  plain_chain : (arms : List Arm) → Each PlainArm arms → (last : Option (List Sited)) (end : ℕ) → ((context : List CheckedExpr) → end ≡ sites_count (in_last_block last context)) → (context : List CheckedExpr)
      → (together (map (arm_tally names) arms)).plain + end ≡ sites_count (in_chain (map arm_sites (map (numbered_arm names) arms)) last context)
  plain_chain [] each last end ends context = let is : end ≡ sites_count (in_last_block last context) = ends context in omega (arith, is)
  plain_chain (x ∷ arms) each last end ends context =
      let arm = arm_sites (numbered_arm names x) in
      let inner : List CheckedExpr = context ++ arm.cond ∷ [] in
      let tail : List Site = in_chain (map arm_sites (map (numbered_arm names) arms)) last inner in
      let here : (arm_tally names x).plain ≡ site_count (condition_site arm.cond context) + sites_count (arm.block inner) = each.0 context inner in
      let rest : (together (map (arm_tally names) arms)).plain + end ≡ sites_count tail = plain_chain arms each.1 last end ends inner in
      let both : sites_count (arm.block inner ++ tail) ≡ sites_count (arm.block inner) + sites_count tail = sites_count-append (arm.block inner) tail in
      let together_is : ((arm_tally names x).plain + (together (map (arm_tally names) arms)).plain) + end ≡ site_count (condition_site arm.cond context) + sites_count (arm.block inner ++ tail) = omega (arith, here, rest, both) in
      together_is ∙ sym (sum_more (site_count (condition_site arm.cond context)) (map site_count (arm.block inner ++ tail)))

  plain_set : (t : Target) (x : Expr) (context : List CheckedExpr) → 1 + ((target_tally names t).plain + (tally names x).plain) ≡ sites_count (stmt_sites (numbered_set names t (numbered names x)) context)
  plain_set (target.Word w) x context = let is : (tally names x).plain ≡ operators_in (numbered names x) = plain x in omega (arith, is) ∙ sym (ap sites_count (sites-SetCell (array_number names w) (numbered names x) context))
  plain_set (target.Field p f) x context = let is : (tally names x).plain ≡ operators_in (numbered names x) = plain x in omega (arith, is) ∙ sym (ap sites_count (sites-SetField (field_number names f) (numbered names x) context))
  plain_set (target.Cell a i) x context = let is : (tally names x).plain ≡ operators_in (numbered names x) = plain x in omega (arith, is) ∙ sym (ap sites_count (sites-SetCell (array_number names a) (numbered names x) context))

  plain_stmt : (x : Stmt) → PlainStmt x
  plain_stmt = statements.induct PlainStmt PlainArm
      (λ t x context. ap (λ (y : Tally). y.plain) (tallies.stmt_tally-Set names t x) ∙ plain_set t x context ∙ sym (ap (λ (y : CheckedStmt). sites_count (stmt_sites y context)) (numbering.numbered_stmt-Set names t x)))
      (λ arms each context. ap (λ (y : Tally). y.plain) (tallies.stmt_tally-If names arms) ∙ plain_chain arms each None 0 (λ c. refl) context
      ∙ sym (ap (λ (y : CheckedStmt). sites_count (stmt_sites y context)) (numbering.numbered_stmt-If names arms) ∙ ap sites_count (sites-If (map (numbered_arm names) arms) context)))
      (λ arms body each inside context. ap (λ (y : Tally). y.plain) (tallies.stmt_tally-Else names arms body)
      ∙ plain_chain arms each (Some (map stmt_sites (map (numbered_stmt names) body))) (together (map (stmt_tally names) body)).plain (plain_block body inside) context
      ∙ sym (ap (λ (y : CheckedStmt). sites_count (stmt_sites y context)) (numbering.numbered_stmt-Else names arms body) ∙ ap sites_count (sites-Else (map (numbered_arm names) arms) (map (numbered_stmt names) body) context)))
      (λ c body inside context inner.
      let head : (tally names c).plain ≡ operators_in (numbered names c) = plain c in
      let tail : (together (map (stmt_tally names) body)).plain ≡ sites_count (in_block (map stmt_sites (map (numbered_stmt names) body)) inner) = plain_block body inside inner in
      let form : arm_sites (numbered_arm names (record { cond = c; body = body })) ≡ record { cond = numbered names c; block = in_block (map stmt_sites (map (numbered_stmt names) body)) } =
      ap arm_sites (numbering.numbered_arm-Arm names c body) ∙ sites-Arm (numbered names c) (map (numbered_stmt names) body) in
      let sum_up : 2 + ((tally names c).plain + (together (map (stmt_tally names) body)).plain) ≡ (2 + operators_in (numbered names c)) + sites_count (in_block (map stmt_sites (map (numbered_stmt names) body)) inner) = omega (arith, head, tail) in
      ap (λ (y : Tally). y.plain) (tallies.arm_tally-Arm names c body)
      ∙ sum_up
      ∙ sym (ap (λ (arm : SitedArm). site_count (condition_site arm.cond context) + sites_count (arm.block inner)) form))

  plain_each : (body : List Stmt) → Each PlainStmt body
  plain_each [] = tt
  plain_each (x ∷ body) = (plain_stmt x, plain_each body)

-- ---- the accesses

-- what counts in an index, where there is one
abbrev operators_of : Option CheckedExpr → ℕ
operators_of None = 0
operators_of (Some tree) = operators_in tree

-- an access as it is counted
abbrev counted : Access → Counted
counted x = record { array = x.array; index = operators_of x.index }

module _ (names : Names) (index : ℕ → Option CheckedExpr) where
  abbrev Tallied : Expr → Type 0
  Tallied x = AllKeep index (accesses_in names x) → (tally names x).accesses ≡ map counted (accesses_in names x)

  tallied_args : (args : List Expr) → Each Tallied args → AllKeep index (flat_map (λ (a : Numbered). a.accesses) (map (in_numbers names) args))
      → (together (map (tally names) args)).accesses ≡ map counted (flat_map (λ (a : Numbered). a.accesses) (map (in_numbers names) args))
  tallied_args [] each kept = refl
  tallied_args (x ∷ args) each kept =
      let rest = flat_map (λ (a : Numbered). a.accesses) (map (in_numbers names) args) in
      (λ i. each.0 (keep_front index (accesses_in names x) rest kept) i ++ tallied_args args each.1 (keep_back index (accesses_in names x) rest kept) i)
      ∙ sym (map-append counted (accesses_in names x) rest)

  tallied_word : (number : Option ℤ) (array : ℕ) → (registers (array_word number array)).accesses ≡ map counted (numbered_word number array).accesses
  tallied_word (Some n) array = refl
  tallied_word None array = λ i. record { array = array; index = sym (operators-Number (pos 0)) i } ∷ []

  tallied_cell : (a : ℕ) (i : Expr) → Tallied i → AllKeep index (access_at a (in_numbers names i)) → (tally_cell a (tally names i)).accesses ≡ map counted (access_at a (in_numbers names i))
  tallied_cell a i held kept =
      let whole = plain_is (numbered names i) kept.0.0 (accesses_in names i) kept.0.1 in
      let head : (tally names i).plain ≡ operators_of (plain_index (numbered names i) (accesses_in names i)) = plain names i ∙ ap operators_in whole.0 ∙ sym (ap operators_of kept.0.1) in
      (λ j. record { array = a; index = head j } ∷ held kept.1 j)

  tallied_both : (a b : Tally) (xs ys : List Access) → a.accesses ≡ map counted xs → b.accesses ≡ map counted ys → (beside a b).accesses ≡ map counted (xs ++ ys)
  tallied_both a b xs ys h k = (λ i. h i ++ k i) ∙ sym (map-append counted xs ys)

  -- the form's tally and its accesses are these
  tallied_by : (x : Expr) (t : Tally) (y : Numbered) → tally names x ≡ t → in_numbers names x ≡ y → (AllKeep index y.accesses → t.accesses ≡ map counted y.accesses) → Tallied x
  tallied_by x t y is form h kept = ap (λ (u : Tally). u.accesses) is ∙ h (subst (λ (z : Numbered). AllKeep index z.accesses) form kept) ∙ sym (ap (λ (z : Numbered). map counted z.accesses) form)

  tallied : (x : Expr) → Tallied x
  tallied = induct Tallied
      (λ n. tallied_by _ _ _ (tallies.tally-Number names n) (numbering.in_numbers-Number names n) (λ kept. refl))
      (λ w. tallied_by _ _ _ (tallies.tally-Word names w) (numbering.in_numbers-Word names w) (λ kept. tallied_word (number_of w names.defines) (array_number names w)))
      (λ p f. tallied_by _ _ _ (tallies.tally-Field names p f) (numbering.in_numbers-Field names p f) (λ kept. refl))
      (λ a i held. tallied_by _ _ _ (tallies.tally-Cell names a i) (numbering.in_numbers-Cell names a i) (tallied_cell (array_number names a) i held))
      (λ op a held. tallied_by _ _ _ (tallies.tally-One names op a) (numbering.in_numbers-One names op a) held)
      (λ op a b held also. tallied_by _ _ _ (tallies.tally-Two names op a b) (numbering.in_numbers-Two names op a b)
      (λ kept. tallied_both (tally names a) (tally names b) (accesses_in names a) (accesses_in names b) (held (keep_front index (accesses_in names a) (accesses_in names b) kept)) (also (keep_back index (accesses_in names a) (accesses_in names b) kept))))
      (λ c a b held also too. tallied_by _ _ _ (tallies.tally-Pick names c a b) (numbering.in_numbers-Pick names c a b)
      (λ kept.
      let rest = keep_back index (accesses_in names c) (accesses_in names a ++ accesses_in names b) kept in
      tallied_both (tally names c) (beside (tally names a) (tally names b)) (accesses_in names c) (accesses_in names a ++ accesses_in names b) (held (keep_front index (accesses_in names c) (accesses_in names a ++ accesses_in names b) kept))
      (tallied_both (tally names a) (tally names b) (accesses_in names a) (accesses_in names b) (also (keep_front index (accesses_in names a) (accesses_in names b) rest)) (too (keep_back index (accesses_in names a) (accesses_in names b) rest)))))
      (λ f args each. tallied_by _ _ _ (tallies.tally-Call names f args) (numbering.in_numbers-Call names f args) (tallied_args args each))
      (λ a held. tallied_by _ _ _ (tallies.tally-Group names a) (numbering.in_numbers-Group names a) held)

  tallied_target : (t : Target) → AllKeep index (target_accesses names t) → (target_tally names t).accesses ≡ map counted (target_accesses names t)
  tallied_target (target.Word w) kept = λ i. record { array = array_number names w; index = sym (operators-Number (pos 0)) i } ∷ []
  tallied_target (target.Field p f) kept = refl
  tallied_target (target.Cell a i) kept = tallied_cell (array_number names a) i (tallied i) kept

  abbrev TalliedStmt : Stmt → Type 0
  TalliedStmt x = AllKeep index (stmt_accesses names x) → (stmt_tally names x).accesses ≡ map counted (stmt_accesses names x)

  abbrev TalliedArm : Arm → Type 0
  TalliedArm x = AllKeep index (arm_accesses names x) → (arm_tally names x).accesses ≡ map counted (arm_accesses names x)

  tallied_block : (body : List Stmt) → Each TalliedStmt body → AllKeep index (block_accesses names body) → (together (map (stmt_tally names) body)).accesses ≡ map counted (block_accesses names body)
  tallied_block [] each kept = refl
  tallied_block (x ∷ body) each kept =
      tallied_both (stmt_tally names x) (together (map (stmt_tally names) body)) (stmt_accesses names x) (block_accesses names body)
      (each.0 (keep_front index (stmt_accesses names x) (block_accesses names body) kept)) (tallied_block body each.1 (keep_back index (stmt_accesses names x) (block_accesses names body) kept))

  tallied_arms : (arms : List Arm) → Each TalliedArm arms → AllKeep index (numbers.in_turn (map (arm_accesses names) arms)) → (together (map (arm_tally names) arms)).accesses ≡ map counted (numbers.in_turn (map (arm_accesses names) arms))
  tallied_arms [] each kept = refl
  tallied_arms (x ∷ arms) each kept =
      tallied_both (arm_tally names x) (together (map (arm_tally names) arms)) (arm_accesses names x) (numbers.in_turn (map (arm_accesses names) arms))
      (each.0 (keep_front index (arm_accesses names x) (numbers.in_turn (map (arm_accesses names) arms)) kept)) (tallied_arms arms each.1 (keep_back index (arm_accesses names x) (numbers.in_turn (map (arm_accesses names) arms)) kept))

  -- the tally and the accesses are these
  by : (t u : Tally) (xs ys : List Access) → t ≡ u → xs ≡ ys → (AllKeep index ys → u.accesses ≡ map counted ys) → AllKeep index xs → t.accesses ≡ map counted xs
  by t u xs ys is form h kept = ap (λ (v : Tally). v.accesses) is ∙ h (subst (AllKeep index) form kept) ∙ sym (ap (map counted) form)

  tallied_stmt : (x : Stmt) → TalliedStmt x
  tallied_stmt = statements.induct TalliedStmt TalliedArm
      (λ t x. by _ _ _ _ (tallies.stmt_tally-Set names t x) (numbering.stmt_accesses-Set names t x)
      (λ kept. tallied_both (target_tally names t) (tally names x) (target_accesses names t) (accesses_in names x) (tallied_target t (keep_front index (target_accesses names t) (accesses_in names x) kept)) (tallied x (keep_back index (target_accesses names t) (accesses_in names x) kept))))
      (λ arms each. by _ _ _ _ (tallies.stmt_tally-If names arms) (numbering.stmt_accesses-If names arms)
      (λ kept. tallied_both (together (map (arm_tally names) arms)) (together []) (numbers.in_turn (map (arm_accesses names) arms)) [] (tallied_arms arms each (keep_front index (numbers.in_turn (map (arm_accesses names) arms)) [] kept)) refl))
      (λ arms body each inside. by _ _ _ _ (tallies.stmt_tally-Else names arms body) (numbering.stmt_accesses-Else names arms body)
      (λ kept. tallied_both (together (map (arm_tally names) arms)) (together (map (stmt_tally names) body)) (numbers.in_turn (map (arm_accesses names) arms)) (block_accesses names body)
      (tallied_arms arms each (keep_front index (numbers.in_turn (map (arm_accesses names) arms)) (block_accesses names body) kept)) (tallied_block body inside (keep_back index (numbers.in_turn (map (arm_accesses names) arms)) (block_accesses names body) kept))))
      (λ c body inside. by _ _ _ _ (tallies.arm_tally-Arm names c body) (numbering.arm_accesses-Arm names c body)
      (λ kept. tallied_both (tally names c) (together (map (stmt_tally names) body)) (accesses_in names c) (block_accesses names body)
      (tallied c (keep_front index (accesses_in names c) (block_accesses names body) kept)) (tallied_block body inside (keep_back index (accesses_in names c) (block_accesses names body) kept))))

  tallied_each : (body : List Stmt) → Each TalliedStmt body
  tallied_each [] = tt
  tallied_each (x ∷ body) = (tallied_stmt x, tallied_each body)

-- ---- the first access of each array

filter_twice : (P Q : Counted → Bool) (xs : List Counted) → filter P (filter Q xs) ≡ filter (λ x. Q x && P x) xs
filter_twice P Q [] = refl
filter_twice P Q (x ∷ xs) = by (Q x) (P x) refl (filter_twice P Q xs)
  where
    kept : (p : Bool) → P x ≡ p → filter P (x ∷ filter Q xs) ≡ cond p (x ∷ filter P (filter Q xs)) (filter P (filter Q xs))
    kept p is = ap (λ b. cond b (x ∷ filter P (filter Q xs)) (filter P (filter Q xs))) is

    by : (q p : Bool) → P x ≡ p → filter P (filter Q xs) ≡ filter (λ y. Q y && P y) xs
        → filter P (cond q (x ∷ filter Q xs) (filter Q xs)) ≡ cond (q && p) (x ∷ filter (λ y. Q y && P y) xs) (filter (λ y. Q y && P y) xs)
    by true true is rest = kept true is ∙ ap (λ l. x ∷ l) rest
    by true false is rest = kept false is ∙ rest
    by false p is rest = rest

filter_all : (xs : List Counted) → filter (λ x. true) xs ≡ xs
filter_all [] = refl
filter_all (x ∷ xs) = ap (λ l. x ∷ l) (filter_all xs)

-- what the first access of an array costs
abbrev first_cost : List Counted → ℕ → ℕ
first_cost [] a = 0
first_cost (y ∷ ys) a = if y.array == a then 3 + y.index else first_cost ys a

abbrev AllBelow : ℕ → List Counted → Type 0
AllBelow n [] = Unit {0}
AllBelow n (y ∷ ys) = (y.array < n) × AllBelow n ys

sum_same : (a n : ℕ) (h g : ℕ → ℕ) → ((b : ℕ) → a ≤ b → h b ≡ g b) → sum (map h (range_with_len a n)) ≡ sum (map g (range_with_len a n))
sum_same a zero h g same = refl
sum_same a (suc n) h g same =
    sum_more (h a) (map h (range_with_len (a + 1) n))
    ∙ (λ i. same a (omega arith) i + sum_same (a + 1) n h g (λ b least. same b (omega (arith, least))) i)
    ∙ sym (sum_more (g a) (map g (range_with_len (a + 1) n)))

-- one number counts more
sum_one : (a n k v : ℕ) (h g : ℕ → ℕ) → a ≤ k → k < a + n → h k ≡ v + g k → ((b : ℕ) → b ≢ k → h b ≡ g b) → sum (map h (range_with_len a n)) ≡ v + sum (map g (range_with_len a n))
sum_one a zero k v h g least most here others = absurd (omega (arith, least, most))
sum_one a (suc n) k v h g least most here others =
    let later_h = sum (map h (range_with_len (a + 1) n)) in
    let later_g = sum (map g (range_with_len (a + 1) n)) in
    let more : h a + later_h ≡ v + (g a + later_g) =
    elim (eqb_tells a k) [
      | inl same ↦
          let first : h a ≡ v + g a = subst (λ (j : ℕ). h j ≡ v + g j) (sym same.1) here in
          let rest : later_h ≡ later_g = sum_same (a + 1) n h g (λ b above. others b (λ is. absurd (omega (arith, above, is, same.1)))) in
          omega (arith, first, rest)
      | inr other ↦
          let first : h a ≡ g a = others a other.1 in
          let rest : later_h ≡ v + later_g = sum_one (a + 1) n k v h g (omega (arith, least, other.1)) (omega (arith, most)) here others in
          omega (arith, first, rest)
    ] in
    sum_more (h a) (map h (range_with_len (a + 1) n)) ∙ more ∙ ap (λ m. v + m) (sym (sum_more (g a) (map g (range_with_len (a + 1) n))))

plus_zero : (n : ℕ) → n ≡ n + 0
plus_zero n = omega arith

unequal : (a b : ℕ) → a ≢ b → (a == b) ≡ false
unequal a b other = elim (eqb_tells a b) [ inl same ↦ absurd (other same.1) | inr apart ↦ apart.0 ]

-- where nothing is accessed nothing counts
abbrev no_cost : Bool → ℕ
no_cost b = if b then 0 else 0

no_cost_is : (b : Bool) → no_cost b ≡ 0
no_cost_is true = refl
no_cost_is false = refl

nothing_costs : (q : ℕ → Bool) (a n : ℕ) → ◌≡◌ {A = ℕ} 0 (sum (map (λ a. if q a then 0 else 0) (range_with_len a n)))
nothing_costs q a zero = refl
nothing_costs q a (suc n) =
    let rest : ◌≡◌ {A = ℕ} 0 (sum (map (λ a. if q a then 0 else 0) (range_with_len (a + 1) n))) = nothing_costs q (a + 1) n in
    let none : no_cost (q a) ≡ 0 = no_cost_is (q a) in
    let sum_up : ◌≡◌ {A = ℕ} 0 (no_cost (q a) + sum (map (λ a. if q a then 0 else 0) (range_with_len (a + 1) n))) = omega (arith, rest, none) in
    sum_up ∙ sym (sum_more (no_cost (q a)) (map (λ a. if q a then 0 else 0) (range_with_len (a + 1) n)))

first_costs : (n : ℕ) (ys : List Counted) → AllBelow n ys → (q : ℕ → Bool) → cost (filter (λ (y : Counted). q y.array) (firsts ys)) ≡ sum (map (λ a. if q a then first_cost ys a else 0) (range_with_len 0 n))
first_costs n [] below q = nothing_costs q 0 n
first_costs n (y ∷ ys) below q =
    let k = y.array in
    let later : ℕ → Bool = λ a. not (nat_eq a k) && q a in
    let f = first_cost ys in
    let h : ℕ → ℕ = λ a. if q a then (if k == a then 3 + y.index else f a) else 0 in
    let g : ℕ → ℕ = λ a. if later a then f a else 0 in
    let v : ℕ = if q k then 3 + y.index else 0 in
    let rest = filter (λ (b : Counted). not (nat_eq b.array k)) (firsts ys) in
    let others : cost (filter (λ (b : Counted). q b.array) rest) ≡ sum (map g (range_with_len 0 n)) =
    ap cost (filter_twice (λ (b : Counted). q b.array) (λ (b : Counted). not (nat_eq b.array k)) (firsts ys)) ∙ first_costs n ys below.1 later in
    let front : (b : Bool) → cost (cond b (y ∷ filter (λ (c : Counted). q c.array) rest) (filter (λ (c : Counted). q c.array) rest)) ≡ (if b then 3 + y.index else 0) + cost (filter (λ (c : Counted). q c.array) rest) = λ b.
    elim b as (λ b. cost (cond b (y ∷ filter (λ (c : Counted). q c.array) rest) (filter (λ (c : Counted). q c.array) rest)) ≡ (if b then 3 + y.index else 0) + cost (filter (λ (c : Counted). q c.array) rest)) [ true ↦ refl | false ↦ omega arith ] in
    let same : (k == k) ≡ true = eq-eqb k k refl in
    let itself : h k ≡ v + g k =
    (λ i. if q k then (if same i then 3 + y.index else f k) else 0)
    ∙ plus_zero v
    ∙ (λ i. v + (if not (sym same i) && q k then f k else 0)) in
    let apart : (b : ℕ) → b ≢ k → h b ≡ g b = λ b other.
    (λ i. if q b then (if unequal k b (λ is. other (sym is)) i then 3 + y.index else f b) else 0)
    ∙ sym (λ i. if not (unequal b k other i) && q b then f b else 0) in
    front (q k) ∙ ap (λ n. v + n) others ∙ sym (sum_one 0 n k v h g (omega arith) (omega (arith, below.0)) itself apart)

-- ---- the count

map_twice : {A B C : Type 0} (f : B → C) (g : A → B) (xs : List A) → map f (map g xs) ≡ map (λ x. f (g x)) xs
map_twice f g [] = refl
map_twice f g (x ∷ xs) = ap (λ l. f (g x) ∷ l) (map_twice f g xs)

below_counted : (n : ℕ) (xs : List Access) → AreBelow n xs → AllBelow n (map counted xs)
below_counted n [] below = tt
below_counted n (x ∷ xs) below = (below.0, below_counted n xs below.1)

-- what the first access of an array costs is what its index counts
index_cost : (index : ℕ → Option CheckedExpr) (xs : List Access) (a : ℕ) → AllKeep index xs → first_cost (map counted xs) a ≡ index_count (index_of xs a)
index_cost index [] a kept = refl
index_cost index (x ∷ xs) a kept = by (x.array == a) (index_cost index xs a kept.1)
  where
    here : 3 + operators_of x.index ≡ index_count x.index
    here = (λ j. 3 + operators_of (kept.0.1 j)) ∙ (λ j. index_count (sym kept.0.1 j))

    by : (b : Bool) → first_cost (map counted xs) a ≡ index_count (index_of xs a) → (if b then 3 + operators_of x.index else first_cost (map counted xs) a) ≡ index_count (if b then x.index else index_of xs a)
    by true rest = here
    by false rest = rest

-- the count of the body in numbers is that of the source
pub count_agrees : (p : Program) → PassesNames p → HasIndexes p → numbered_count (numbered_body p) (program_indexes p) ≡ count_of p
count_agrees p passes kept =
    let names = names_of p in
    let body = p.function.body in
    let xs = accesses p in
    let n = length names.arrays in
    let apart = plain_block names body (plain_each names body) [] in
    let accessed = tallied_block names (index_of xs) body (tallied_each names (index_of xs) body) kept in
    let arrays : cost (firsts (map counted xs)) ≡ sum (map index_count (program_indexes p)) =
    ap cost (sym (filter_all (firsts (map counted xs))))
    ∙ first_costs n (map counted xs) (below_counted n xs (accesses_below p passes)) (λ a. true)
    ∙ sum_same 0 n (first_cost (map counted xs)) (λ a. index_count (index_of xs a)) (λ b least. index_cost (index_of xs) xs b kept)
    ∙ ap sum (sym (map_twice index_count (index_of xs) (range_with_len 0 n))) in
    sym (λ i. apart i + (ap (λ ys. cost (firsts ys)) accessed ∙ arrays) i)
