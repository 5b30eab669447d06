-- The lines of a body count what its sites count, and make fewer guards than that.
use Rattle.std.proofs.Common.{◌≡◌, ℕ, suc, ◌+◌, ◌*◌, ◌≤◌, List, [], ◌∷◌, map, sum, Option, None, Some, refl, sym, ap, subst, ◌∙◌, arith}
use Rattle.std.proofs.lemmas.List.Sums.{sum_by-cons}
use Rattle.domino_tree.proofs.ExprLemmas.{Each}
use Rattle.domino_check.specs.declared.numbered.CheckedExpr.{CheckedExpr}
use Rattle.domino_check.specs.declared.numbered.CheckedStmt.{CheckedStmt, fold-roll-CheckedStmt}
use Rattle.domino_check.specs.declared.numbered.CheckedStmt.TheOpen as O
use Rattle.domino_check.specs.declared.numbered.CheckedStmt.TheVariants as s
use Rattle.domino_check.specs.declared.numbered.CheckedArm.{CheckedArm, fold-roll-CheckedArm}
use Rattle.domino_check.specs.Count.{count_alone, site_count}
use Rattle.domino_check.specs.Sites.{Site, sites_of}
use Rattle.domino_check.proofs.TreeLemmas.{stmt_induct}
use Rattle.code_forms.specs.declared.guard.GuardLine.{GuardLine}
use Rattle.code_forms.specs.declared.guard.GuardLine.TheVariants as line
use Rattle.code_forms.specs.GuardValid.{operators_in, line_count}
use Rattle.code_forms.proofs.ValidLemmas.{guards_behind}
use Rattle.branch_removal.specs.GuardedLines.{Made, Emits, block_lines, last_lines, chain_lines, stmt_lines, arm_lines, body_lines, stmt_guarding, arm_guarding, guards_in, arm_guards}
use Rattle.branch_removal.proofs.GuardedLemmas.{operators_same}
use Rattle.branch_removal.proofs.LineSites.{Part, of_line, of_site, parts_same}
use Rattle.branch_removal.proofs.Trees

-- ---- the count

abbrev part_count : Part → ℕ
part_count x = count_alone x.assigns + operators_in x.value

lines_count : (lines : List GuardLine) → map line_count lines ≡ map part_count (map of_line lines)
lines_count [] = refl
lines_count (line.Test cond under holds fails ∷ lines) = ap (λ l. (2 + operators_in cond) ∷ l) (lines_count lines)
lines_count (line.SetField f guard value ∷ lines) = ap (λ l. (1 + operators_in value) ∷ l) (lines_count lines)
lines_count (line.SetCell a guard value ∷ lines) = ap (λ l. (1 + operators_in value) ∷ l) (lines_count lines)

sites_count : (sites : List Site) → map part_count (map of_site sites) ≡ map site_count sites
sites_count [] = refl
sites_count (x ∷ sites) = λ i. (count_alone x.assigns + operators_same x.value i) ∷ sites_count sites i

pub counts_same : (body : List CheckedStmt) → map line_count (body_lines body) ≡ map site_count (sites_of body)
counts_same body = lines_count (body_lines body) ∙ ap (map part_count) (parts_same body) ∙ sites_count (sites_of body)

-- ---- how many guards

sum_more : (x : ℕ) (xs : List ℕ) → sum (x ∷ xs) ≡ x + sum xs
sum_more x xs = sum_by-cons (λ n. n) x xs

guards-SetField : (f : ℕ) (x : CheckedExpr) → guards_in (s.SetField f x) ≡ 0
guards-SetField f x = ap guards_in (sym (s.rolls-SetField f x)) ∙ fold-roll-CheckedStmt ℕ ℕ stmt_guarding arm_guarding (O.CheckedStmt-F.SetField f x)

guards-SetCell : (a : ℕ) (x : CheckedExpr) → guards_in (s.SetCell a x) ≡ 0
guards-SetCell a x = ap guards_in (sym (s.rolls-SetCell a x)) ∙ fold-roll-CheckedStmt ℕ ℕ stmt_guarding arm_guarding (O.CheckedStmt-F.SetCell a x)

guards-If : (arms : List CheckedArm) → guards_in (s.If arms None) ≡ sum (map arm_guards arms) + 0
guards-If arms = ap guards_in (sym (s.rolls-If arms None)) ∙ fold-roll-CheckedStmt ℕ ℕ stmt_guarding arm_guarding (O.CheckedStmt-F.If arms None)

guards-Else : (arms : List CheckedArm) (body : List CheckedStmt) → guards_in (s.If arms (Some body)) ≡ sum (map arm_guards arms) + sum (map guards_in body)
guards-Else arms body = ap guards_in (sym (s.rolls-If arms (Some body))) ∙ fold-roll-CheckedStmt ℕ ℕ stmt_guarding arm_guarding (O.CheckedStmt-F.If arms (Some body))

guards-Arm : (cond : CheckedExpr) (body : List CheckedStmt) → arm_guards (record { cond = cond; body = body }) ≡ 2 + sum (map guards_in body)
guards-Arm cond body = fold-roll-CheckedArm ℕ ℕ stmt_guarding arm_guarding (record { cond = cond; body = body })

-- the number of the next guard, from so many more
abbrev Counted : ℕ → Emits → Type 0
Counted k emits = (u n : ℕ) → (emits u n).next ≡ n + k

block_counted : (body : List CheckedStmt) → Each (λ x. Counted (guards_in x) (stmt_lines x)) body → Counted (sum (map guards_in body)) (block_lines (map stmt_lines body))
block_counted [] held u n = omega arith
block_counted (x ∷ body) held u n =
    let k : ℕ = guards_in x in
    let more : ℕ = sum (map guards_in body) in
    let all : (n + k) + more ≡ n + (k + more) = omega arith in
    block_counted body held.1 u (stmt_lines x u n).next ∙ ap (λ m. m + more) (held.0 u n) ∙ all ∙ ap (λ m. n + m) (sym (sum_more k (map guards_in body)))

chain_counted : (arms : List CheckedArm) → Each (λ x. Counted (arm_guards x) (arm_lines x)) arms → (last : Option (List Emits)) (k : ℕ) → Counted k (last_lines last) → Counted (sum (map arm_guards arms) + k) (chain_lines (map arm_lines arms) last)
chain_counted [] held last k ends u n = ends u n ∙ ap (λ m. n + m) (sym (plus_none k)) where
  plus_none : (k : ℕ) → 0 + k ≡ k
  plus_none k = omega arith
chain_counted (x ∷ arms) held last k ends u n =
    let one : ℕ = arm_guards x in
    let more : ℕ = sum (map arm_guards arms) in
    let all : (n + one) + (more + k) ≡ n + ((one + more) + k) = omega arith in
    chain_counted arms held.1 last k ends (suc n) (arm_lines x u n).next ∙ ap (λ m. m + (more + k)) (held.0 u n) ∙ all ∙ ap (λ m. n + (m + k)) (sym (sum_more one (map arm_guards arms)))

stmt_counted : (x : CheckedStmt) → Counted (guards_in x) (stmt_lines x)
stmt_counted = stmt_induct (λ x. Counted (guards_in x) (stmt_lines x)) (λ x. Counted (arm_guards x) (arm_lines x))
    (λ f x u n. ap (λ (m : Made). m.next) (Trees.lines-SetField f x u n) ∙ omega (arith, guards-SetField f x))
    (λ a x u n. ap (λ (m : Made). m.next) (Trees.lines-SetCell a x u n) ∙ omega (arith, guards-SetCell a x))
    (λ arms held u n. ap (λ (m : Made). m.next) (Trees.lines-If arms u n) ∙ chain_counted arms held None 0 (λ u n. omega arith) u n ∙ ap (λ k. n + k) (sym (guards-If arms)))
    (λ arms body held inside u n. ap (λ (m : Made). m.next) (Trees.lines-Else arms body u n) ∙ chain_counted arms held (Some (map stmt_lines body)) (sum (map guards_in body)) (block_counted body inside) u n ∙ ap (λ k. n + k) (sym (guards-Else arms body)))
    (λ cond body inside u n. ap (λ (m : Made). m.next) (Trees.lines-Arm cond body u n) ∙ block_counted body inside n (suc (suc n)) ∙ omega (arith, guards-Arm cond body))

each_counted : (body : List CheckedStmt) → Each (λ x. Counted (guards_in x) (stmt_lines x)) body
each_counted [] = tt
each_counted (x ∷ body) = (stmt_counted x, each_counted body)

-- each test makes two guards, and counts as much
abbrev tests : List GuardLine → ℕ
tests [] = 0
tests (line.Test cond under holds fails ∷ lines) = suc (tests lines)
tests (line.SetField f guard value ∷ lines) = tests lines
tests (line.SetCell a guard value ∷ lines) = tests lines

behind_tests : (lines : List GuardLine) (n : ℕ) → guards_behind lines n ≡ n + 2 * tests lines
behind_tests [] n = omega arith
behind_tests (line.Test cond under holds fails ∷ lines) n = behind_tests lines (2 + n) ∙ omega arith
behind_tests (line.SetField f guard value ∷ lines) n = behind_tests lines n
behind_tests (line.SetCell a guard value ∷ lines) n = behind_tests lines n

tests_counted : (lines : List GuardLine) → 2 * tests lines ≤ sum (map line_count lines)
tests_counted [] = omega arith
tests_counted (line.Test cond under holds fails ∷ lines) =
    let more : 2 * suc (tests lines) ≤ (2 + operators_in cond) + sum (map line_count lines) = omega (arith, tests_counted lines) in
    subst (λ m. 2 * suc (tests lines) ≤ m) (sym (sum_more (2 + operators_in cond) (map line_count lines))) more
tests_counted (line.SetField f guard value ∷ lines) =
    let more : 2 * tests lines ≤ (1 + operators_in value) + sum (map line_count lines) = omega (arith, tests_counted lines) in
    subst (λ m. 2 * tests lines ≤ m) (sym (sum_more (1 + operators_in value) (map line_count lines))) more
tests_counted (line.SetCell a guard value ∷ lines) =
    let more : 2 * tests lines ≤ (1 + operators_in value) + sum (map line_count lines) = omega (arith, tests_counted lines) in
    subst (λ m. 2 * tests lines ≤ m) (sym (sum_more (1 + operators_in value) (map line_count lines))) more

-- the guards of a body are numbered within 32 bits, where its count is
pub guards_bound : (body : List CheckedStmt) → guards_behind (body_lines body) 1 ≡ (block_lines (map stmt_lines body) 0 1).next → sum (map line_count (body_lines body)) ≤ 4294967295 → 1 + sum (map guards_in body) ≤ 4294967295
guards_bound body behind most =
    let next : (block_lines (map stmt_lines body) 0 1).next ≡ 1 + sum (map guards_in body) = block_counted body (each_counted body) 0 1 in
    omega (arith, next, behind, behind_tests (body_lines body) 1, tests_counted (body_lines body), most)
