-- The count of a transaction is at most three times the number of its tokens.
use Rattle.std.proofs.Common.{◌≡◌, ◌≤◌, ℕ, ◌+◌, ◌*◌, Bool, true, false, not, nat_eq, List, [], ◌∷◌, ◌++◌, map, flat_map, length, Option, Some, None, sym, ap, subst, ◌∙◌, length-append, arith, if◌then◌else◌}
use Rattle.std.specs.List.{filter}
use Rattle.mp5_words.specs.declared.op.Op1.{Op1}
use Rattle.mp5_words.specs.declared.op.Op2.{Op2}
use Rattle.domino_tree.specs.declared.token.Token.{Token}
use Rattle.domino_tree.specs.declared.token.Token.TheVariants as token
use Rattle.domino_tree.specs.declared.token.Sign.TheVariants as sign
use Rattle.domino_tree.specs.declared.token.Keyword.TheVariants as keyword
use Rattle.domino_tree.specs.declared.expr.Expr.{Expr, fold-roll-Expr}
use Rattle.domino_tree.specs.declared.expr.Expr.TheOpen as F
use Rattle.domino_tree.specs.declared.expr.Expr.TheVariants as e
use Rattle.domino_tree.specs.declared.program.Target.{Target}
use Rattle.domino_tree.specs.declared.program.Target.TheVariants as target
use Rattle.domino_tree.specs.declared.program.Stmt.{Stmt, fold-roll-Stmt}
use Rattle.domino_tree.specs.declared.program.Stmt.TheOpen as O
use Rattle.domino_tree.specs.declared.program.Stmt.TheVariants as s
use Rattle.domino_tree.specs.declared.program.Arm.{Arm, fold-roll-Arm}
use Rattle.domino_tree.specs.declared.program.Program.{Program}
use Rattle.domino_tree.specs.Value.{Names, names_of, number_of, array_number, array_word}
use Rattle.domino_tree.specs.Grammar.{in_square, in_round, with_commas, separated, spelled, target_tokens, block_tokens, chained, with_elses, last_block, stmt_tokens, arm_tokens, function_tokens}
use Rattle.domino_tree.specs.Operators.{sign_of}
use Rattle.domino_tree.specs.Count.{Access, Tally, more, beside, together, registers, cell, tallying, tally, target_tally, last_tally, stmt_tallying, arm_tallying, stmt_tally, arm_tally, firsts, cost, count_of}
use Rattle.domino_tree.proofs.ExprLemmas as x
use Rattle.domino_tree.proofs.ExprLemmas.{Each}
use Rattle.domino_tree.proofs.StmtLemmas as y

-- ---- the tally at each form

pub tally-Number : (names : Names) (n : _) → tally names (e.Number n) ≡ tallying names (F.Expr-F.Number n)
tally-Number names n = ap (tally names) (sym (e.rolls-Number n)) ∙ fold-roll-Expr Tally (tallying names) (F.Expr-F.Number n)

pub tally-Word : (names : Names) (w : List ℕ) → tally names (e.Word w) ≡ registers (array_word (number_of w names.defines) (array_number names w))
tally-Word names w = ap (tally names) (sym (e.rolls-Word w)) ∙ fold-roll-Expr Tally (tallying names) (F.Expr-F.Word w)

pub tally-Field : (names : Names) (p f : List ℕ) → tally names (e.Field p f) ≡ tallying names (F.Expr-F.Field p f)
tally-Field names p f = ap (tally names) (sym (e.rolls-Field p f)) ∙ fold-roll-Expr Tally (tallying names) (F.Expr-F.Field p f)

pub tally-Cell : (names : Names) (a : List ℕ) (i : Expr) → tally names (e.Cell a i) ≡ cell (array_number names a) (tally names i)
tally-Cell names a i = ap (tally names) (sym (e.rolls-Cell a i)) ∙ fold-roll-Expr Tally (tallying names) (F.Expr-F.Cell a i)

pub tally-One : (names : Names) (op : Op1) (a : Expr) → tally names (e.One op a) ≡ more 1 (tally names a)
tally-One names op a = ap (tally names) (sym (e.rolls-One op a)) ∙ fold-roll-Expr Tally (tallying names) (F.Expr-F.One op a)

pub tally-Two : (names : Names) (op : Op2) (a b : Expr) → tally names (e.Two op a b) ≡ more 1 (beside (tally names a) (tally names b))
tally-Two names op a b = ap (tally names) (sym (e.rolls-Two op a b)) ∙ fold-roll-Expr Tally (tallying names) (F.Expr-F.Two op a b)

pub tally-Pick : (names : Names) (c a b : Expr) → tally names (e.Pick c a b) ≡ more 1 (beside (tally names c) (beside (tally names a) (tally names b)))
tally-Pick names c a b = ap (tally names) (sym (e.rolls-Pick c a b)) ∙ fold-roll-Expr Tally (tallying names) (F.Expr-F.Pick c a b)

pub tally-Call : (names : Names) (f : List ℕ) (args : List Expr) → tally names (e.Call f args) ≡ more 1 (together (map (tally names) args))
tally-Call names f args = ap (tally names) (sym (e.rolls-Call f args)) ∙ fold-roll-Expr Tally (tallying names) (F.Expr-F.Call f args)

pub tally-Group : (names : Names) (a : Expr) → tally names (e.Group a) ≡ tally names a
tally-Group names a = ap (tally names) (sym (e.rolls-Group a)) ∙ fold-roll-Expr Tally (tallying names) (F.Expr-F.Group a)

pub stmt_tally-Set : (names : Names) (t : Target) (v : Expr) → stmt_tally names (s.Set t v) ≡ more 1 (beside (target_tally names t) (tally names v))
stmt_tally-Set names t v = ap (stmt_tally names) (sym (s.rolls-Set t v)) ∙ fold-roll-Stmt Tally Tally (stmt_tallying names) (arm_tallying names) (O.Stmt-F.Set t v)

pub stmt_tally-If : (names : Names) (arms : List Arm) → stmt_tally names (s.If arms None) ≡ beside (together (map (arm_tally names) arms)) (last_tally None)
stmt_tally-If names arms = ap (stmt_tally names) (sym (s.rolls-If arms None)) ∙ fold-roll-Stmt Tally Tally (stmt_tallying names) (arm_tallying names) (O.Stmt-F.If arms None)

pub stmt_tally-Else : (names : Names) (arms : List Arm) (body : List Stmt) → stmt_tally names (s.If arms (Some body)) ≡ beside (together (map (arm_tally names) arms)) (together (map (stmt_tally names) body))
stmt_tally-Else names arms body = ap (stmt_tally names) (sym (s.rolls-If arms (Some body))) ∙ fold-roll-Stmt Tally Tally (stmt_tallying names) (arm_tallying names) (O.Stmt-F.If arms (Some body))

pub arm_tally-Arm : (names : Names) (cond : Expr) (body : List Stmt) → arm_tally names (record { cond = cond; body = body }) ≡ more 2 (beside (tally names cond) (together (map (stmt_tally names) body)))
arm_tally-Arm names cond body = fold-roll-Arm Tally Tally (stmt_tallying names) (arm_tallying names) (record { cond = cond; body = body })

-- ---- a tally and tokens

cost-append : (us vs : List Access) → cost (us ++ vs) ≡ cost us + cost vs
cost-append [] vs = omega arith
cost-append (u ∷ us) vs = omega (arith, cost-append us vs)

-- all accesses and all else are at most three for each token
abbrev Within : Tally → List Token → Type 0
Within t tokens = t.plain + cost t.accesses ≤ 3 * length tokens

within_beside : (a b : Tally) (xs ys : List Token) → Within a xs → Within b ys → Within (beside a b) (xs ++ ys)
within_beside a b xs ys h k = omega (arith, h, k, cost-append a.accesses b.accesses, length-append xs ys)

-- so many tokens in front pay for three times as much
within_more : (n : ℕ) (t : Tally) (front xs : List Token) → n ≤ 3 * length front → Within t xs → Within (more n t) (front ++ xs)
within_more n t front xs h k = omega (arith, h, k, length-append front xs)

-- tokens behind cost nothing
within_front : (t : Tally) (xs back : List Token) → Within t xs → Within t (xs ++ back)
within_front t xs back h = omega (arith, h, length-append xs back)

within_behind : (t : Tally) (front xs : List Token) → Within t xs → Within t (front ++ xs)
within_behind t front xs h = omega (arith, h, length-append front xs)

-- ---- expressions

module _ (names : Names) where
  abbrev Spells : Expr → Type 0
  Spells a = Within (tally names a) (spelled a)

  both : (t u : Tally) (xs ys : List Token) → t ≡ u → xs ≡ ys → Within u ys → Within t xs
  both t u xs ys is are h = subst (λ v. Within v xs) (sym is) (subst (Within u) (sym are) h)

  word : (o : Option _) (array : ℕ) (t : Token) → Within (registers (array_word o array)) (t ∷ [])
  word None array t = omega arith
  word (Some n) array t = omega arith

  indexed : (array : ℕ) (t : Token) (i : Expr) → Spells i → Within (cell array (tally names i)) (t ∷ in_square (spelled i))
  indexed array t i h = omega (arith, h, length-append (spelled i) (token.Sign sign.CloseSquare ∷ []))

  commas : (args : List Expr) → Each Spells args → Within (together (map (tally names) args)) (with_commas (map spelled args))
  commas [] each = omega arith
  commas (a ∷ args) each =
      within_beside (tally names a) (together (map (tally names) args)) (token.Sign sign.Comma ∷ spelled a) (with_commas (map spelled args))
      (omega (arith, each.0)) (commas args each.1)

  arguments : (args : List Expr) → Each Spells args → Within (together (map (tally names) args)) (separated (map spelled args))
  arguments [] each = omega arith
  arguments (a ∷ args) each = within_beside (tally names a) (together (map (tally names) args)) (spelled a) (with_commas (map spelled args)) each.0 (commas args each.1)

  spells-Two : (op : Op2) (a b : Expr) → Spells a → Spells b → Spells (e.Two op a b)
  spells-Two op a b left right =
      both (tally names (e.Two op a b)) (more 1 (beside (tally names a) (tally names b))) (spelled (e.Two op a b)) (spelled a ++ (token.Sign (sign_of op) ∷ spelled b))
      (tally-Two names op a b) (x.spelled-Two op a b)
      (omega (arith, left, right, cost-append (tally names a).accesses (tally names b).accesses, length-append (spelled a) (token.Sign (sign_of op) ∷ spelled b)))

  spells-Pick : (c a b : Expr) → Spells c → Spells a → Spells b → Spells (e.Pick c a b)
  spells-Pick c a b test left right =
      let two : List Token = spelled a ++ (token.Sign sign.Colon ∷ spelled b) in
      both (tally names (e.Pick c a b)) (more 1 (beside (tally names c) (beside (tally names a) (tally names b)))) (spelled (e.Pick c a b)) (spelled c ++ (token.Sign sign.Question ∷ two))
      (tally-Pick names c a b) (x.spelled-Pick c a b)
      (omega (arith, test, left, right, cost-append (tally names c).accesses ((tally names a).accesses ++ (tally names b).accesses), cost-append (tally names a).accesses (tally names b).accesses, length-append (spelled c) (token.Sign sign.Question ∷ two), length-append (spelled a) (token.Sign sign.Colon ∷ spelled b)))

  spells-Call : (f : List ℕ) (args : List Expr) → Each Spells args → Spells (e.Call f args)
  spells-Call f args each =
      both (tally names (e.Call f args)) (more 1 (together (map (tally names) args))) (spelled (e.Call f args)) (token.Name f ∷ in_round (separated (map spelled args)))
      (tally-Call names f args) (x.spelled-Call f args)
      (omega (arith, arguments args each, length-append (separated (map spelled args)) (token.Sign sign.CloseRound ∷ [])))

  expr_within : (a : Expr) → Spells a
  expr_within = x.induct Spells
      (λ n. both (tally names (e.Number n)) (tallying names (F.Expr-F.Number n)) (spelled (e.Number n)) (token.Number n ∷ []) (tally-Number names n) (x.spelled-Number n) (omega arith))
      (λ w. both (tally names (e.Word w)) (registers (array_word (number_of w names.defines) (array_number names w))) (spelled (e.Word w)) (token.Name w ∷ []) (tally-Word names w) (x.spelled-Word w) (word (number_of w names.defines) (array_number names w) (token.Name w)))
      (λ p f. both (tally names (e.Field p f)) (tallying names (F.Expr-F.Field p f)) (spelled (e.Field p f)) (token.Name p ∷ token.Sign sign.Dot ∷ token.Name f ∷ []) (tally-Field names p f) (x.spelled-Field p f) (omega arith))
      (λ a i h. both (tally names (e.Cell a i)) (cell (array_number names a) (tally names i)) (spelled (e.Cell a i)) (token.Name a ∷ in_square (spelled i)) (tally-Cell names a i) (x.spelled-Cell a i) (indexed (array_number names a) (token.Name a) i h))
      (λ op a h. both (tally names (e.One op a)) (more 1 (tally names a)) (spelled (e.One op a)) _ (tally-One names op a) (x.spelled-One op a) (omega (arith, h)))
      spells-Two spells-Pick spells-Call
      (λ a h. both (tally names (e.Group a)) (tally names a) (spelled (e.Group a)) (in_round (spelled a)) (tally-Group names a) (x.spelled-Group a) (omega (arith, h, length-append (spelled a) (token.Sign sign.CloseRound ∷ []))))

  -- ---- statements

  target_within : (t : Target) → Within (target_tally names t) (target_tokens t)
  target_within (target.Word w) = omega arith
  target_within (target.Field p f) = omega arith
  target_within (target.Cell a i) = indexed (array_number names a) (token.Name a) i (expr_within i)

  abbrev StmtSpells : Stmt → Type 0
  StmtSpells a = Within (stmt_tally names a) (stmt_tokens a)

  abbrev ArmSpells : Arm → Type 0
  ArmSpells a = Within (arm_tally names a) (arm_tokens a)

  statements : (body : List Stmt) → Each StmtSpells body → Within (together (map (stmt_tally names) body)) (flat_map (λ tokens. tokens) (map stmt_tokens body))
  statements [] each = omega arith
  statements (a ∷ body) each = within_beside (stmt_tally names a) (together (map (stmt_tally names) body)) (stmt_tokens a) (flat_map (λ tokens. tokens) (map stmt_tokens body)) each.0 (statements body each.1)

  block : (body : List Stmt) → Each StmtSpells body → Within (together (map (stmt_tally names) body)) (block_tokens (map stmt_tokens body))
  block body each = omega (arith, statements body each, length-append (flat_map (λ tokens. tokens) (map stmt_tokens body)) (token.Sign sign.CloseCurly ∷ []))

  elses : (arms : List Arm) → Each ArmSpells arms → Within (together (map (arm_tally names) arms)) (with_elses (map arm_tokens arms))
  elses [] each = omega arith
  elses (a ∷ arms) each =
      within_beside (arm_tally names a) (together (map (arm_tally names) arms)) (token.Keyword keyword.Else ∷ arm_tokens a) (with_elses (map arm_tokens arms))
      (omega (arith, each.0)) (elses arms each.1)

  chain : (arms : List Arm) → Each ArmSpells arms → Within (together (map (arm_tally names) arms)) (chained (map arm_tokens arms))
  chain [] each = omega arith
  chain (a ∷ arms) each = within_beside (arm_tally names a) (together (map (arm_tally names) arms)) (arm_tokens a) (with_elses (map arm_tokens arms)) each.0 (elses arms each.1)

  spells-Set : (t : Target) (v : Expr) → StmtSpells (s.Set t v)
  spells-Set t v =
      let behind : List Token = token.Sign sign.Assign ∷ (spelled v ++ (token.Sign sign.Semicolon ∷ [])) in
      both (stmt_tally names (s.Set t v)) (more 1 (beside (target_tally names t) (tally names v))) (stmt_tokens (s.Set t v)) (target_tokens t ++ behind)
      (stmt_tally-Set names t v) (y.stmt_tokens-Set t v)
      (omega (arith, target_within t, expr_within v, cost-append (target_tally names t).accesses (tally names v).accesses, length-append (target_tokens t) behind, length-append (spelled v) (token.Sign sign.Semicolon ∷ [])))

  spells-If : (arms : List Arm) → Each ArmSpells arms → StmtSpells (s.If arms None)
  spells-If arms each =
      both (stmt_tally names (s.If arms None)) (beside (together (map (arm_tally names) arms)) (last_tally None)) (stmt_tokens (s.If arms None)) (chained (map arm_tokens arms) ++ [])
      (stmt_tally-If names arms) (y.stmt_tokens-If arms)
      (within_beside (together (map (arm_tally names) arms)) (last_tally None) (chained (map arm_tokens arms)) [] (chain arms each) (omega arith))

  spells-Else : (arms : List Arm) (body : List Stmt) → Each ArmSpells arms → Each StmtSpells body → StmtSpells (s.If arms (Some body))
  spells-Else arms body each each_body =
      both (stmt_tally names (s.If arms (Some body))) (beside (together (map (arm_tally names) arms)) (together (map (stmt_tally names) body))) (stmt_tokens (s.If arms (Some body))) (chained (map arm_tokens arms) ++ last_block (Some (map stmt_tokens body)))
      (stmt_tally-Else names arms body) (y.stmt_tokens-Else arms body)
      (within_beside (together (map (arm_tally names) arms)) (together (map (stmt_tally names) body)) (chained (map arm_tokens arms)) (last_block (Some (map stmt_tokens body))) (chain arms each) (omega (arith, block body each_body)))

  spells-Arm : (cond : Expr) (body : List Stmt) → Each StmtSpells body → ArmSpells (record { cond = cond; body = body })
  spells-Arm cond body each =
      let all : List Stmt = body in
      both (arm_tally names (record { cond = cond; body = body })) (more 2 (beside (tally names cond) (together (map (stmt_tally names) body)))) (arm_tokens (record { cond = cond; body = body })) (token.Keyword keyword.If ∷ (in_round (spelled cond) ++ block_tokens (map stmt_tokens body)))
      (arm_tally-Arm names cond body) (y.arm_tokens-Arm cond body)
      (omega (arith, expr_within cond, block body each, cost-append (tally names cond).accesses (together (map (stmt_tally names) body)).accesses, length-append (in_round (spelled cond)) (block_tokens (map stmt_tokens body)), length-append (spelled cond) (token.Sign sign.CloseRound ∷ [])))

  stmt_within : (a : Stmt) → StmtSpells a
  stmt_within = y.induct StmtSpells ArmSpells spells-Set spells-If spells-Else spells-Arm

  each_within : (body : List Stmt) → Each StmtSpells body
  each_within [] = tt
  each_within (a ∷ body) = (stmt_within a, each_within body)

-- ---- programs

kept_or_not : (keep : Bool) (u : Access) (us vs : List Access) → cost us ≤ cost vs → cost (if keep then (u ∷ us) else us) ≤ cost (u ∷ vs)
kept_or_not true u us vs h = omega (arith, h)
kept_or_not false u us vs h = omega (arith, h)

filter_costs : (keep : Access → Bool) (us : List Access) → cost (filter keep us) ≤ cost us
filter_costs keep [] = omega arith
filter_costs keep (u ∷ us) = kept_or_not (keep u) u (filter keep us) us (filter_costs keep us)

firsts_cost : (us : List Access) → cost (firsts us) ≤ cost us
firsts_cost [] = omega arith
firsts_cost (u ∷ us) = omega (arith, firsts_cost us, filter_costs (λ (b : Access). not (nat_eq b.array u.array)) (firsts us))

-- the count is at most three for each token of the function
pub count_within : (p : Program) → count_of p ≤ 3 * length (function_tokens p.function)
count_within p =
    let names : Names = names_of p in
    let body : List Stmt = p.function.body in
    let all : Tally = together (map (stmt_tally names) body) in
    let block_part : List Token = block_tokens (map stmt_tokens body) in
    let head : List Token = in_round (token.Keyword keyword.Struct ∷ token.Name p.function.of ∷ token.Name p.function.packet ∷ []) in
    omega (arith, block names body (each_within names body), firsts_cost all.accesses, length-append head block_part)
