-- The guards of the lines of a body are made before their use.
use Rattle.std.proofs.Common.{◌≡◌, ℕ, suc, ◌<◌, ◌≤◌, true, List, [], ◌∷◌, map, Option, None, Some, refl, sym, ap, subst, ◌∙◌, arith}
use Rattle.std.proofs.lemmas.Bool.Decides.{nat_tests}
use Rattle.domino_tree.proofs.ExprLemmas.{Each}
use Rattle.domino_check.specs.declared.numbered.CheckedExpr.{CheckedExpr}
use Rattle.domino_check.specs.declared.numbered.CheckedStmt.{CheckedStmt}
use Rattle.domino_check.specs.declared.numbered.CheckedArm.{CheckedArm}
use Rattle.code_forms.specs.declared.guard.GuardLine.{GuardLine}
use Rattle.code_forms.specs.declared.guard.GuardLine.TheVariants as line
use Rattle.code_forms.specs.GuardValid.{guards_fit}
use Rattle.code_forms.proofs.ValidLemmas.{guards_behind, guards_join, behind_join}
use Rattle.branch_removal.specs.GuardedLines.{guarded, Made, Emits, before, block_lines, last_lines, chain_lines, stmt_lines, arm_lines, body_lines}
use Rattle.domino_check.proofs.TreeLemmas.{stmt_induct}
use Rattle.branch_removal.proofs.Trees

-- these lines use guards that are made, and make those up to the next
record InOrder (made : Made) (next : ℕ) : Type 0 where
  fit : guards_fit next made.lines ≡ true
  behind : guards_behind made.lines next ≡ made.next
  more : next ≤ made.next

abbrev Ordered : Emits → Type 0
Ordered emits = (under next : ℕ) → under < next → InOrder (emits under next) next

followed : (lines : List GuardLine) (middle next : ℕ) (made : Made) → InOrder (record { lines = lines; next = middle }) next → InOrder made middle → InOrder (before lines made) next
followed lines middle next made one two = record {
  fit = guards_join lines made.lines next one.fit (subst (λ k. guards_fit k made.lines ≡ true) (sym one.behind) two.fit);
  behind = behind_join lines made.lines next ∙ ap (guards_behind made.lines) one.behind ∙ two.behind;
  more = omega (arith, one.more, two.more);
}

none : (next : ℕ) → InOrder (record { lines = []; next = next }) next
none next = record { fit = refl; behind = refl; more = omega arith }

block_order : (body : List CheckedStmt) → Each (λ x. Ordered (stmt_lines x)) body → Ordered (block_lines (map stmt_lines body))
block_order [] held u n within = none n
block_order (x ∷ body) held u n within =
    let one = held.0 u n within in
    followed (stmt_lines x u n).lines (stmt_lines x u n).next n (block_lines (map stmt_lines body) u (stmt_lines x u n).next) one (block_order body held.1 u (stmt_lines x u n).next (omega (arith, one.more)))

-- an arm makes two guards at least
abbrev ArmOrdered : Emits → Type 0
ArmOrdered emits = (under next : ℕ) → under < next → InOrder (emits under next) next × (suc next < (emits under next).next)

chain_order : (arms : List CheckedArm) → Each (λ x. ArmOrdered (arm_lines x)) arms → (last : Option (List Emits)) → Ordered (last_lines last) → Ordered (chain_lines (map arm_lines arms) last)
chain_order [] held last ends u n within = ends u n within
chain_order (arm ∷ arms) held last ends u n within =
    let one = held.0 u n within in
    followed (arm_lines arm u n).lines (arm_lines arm u n).next n (chain_lines (map arm_lines arms) last (suc n) (arm_lines arm u n).next) one.0 (chain_order arms held.1 last ends (suc n) (arm_lines arm u n).next one.1)

test_fits : (cond : CheckedExpr) (u n : ℕ) → u < n → guards_fit n (line.Test (guarded cond) u n (suc n) ∷ []) ≡ true
test_fits cond u n within = grind (arith, nat_tests)

stmt_order : (x : CheckedStmt) → Ordered (stmt_lines x)
stmt_order = stmt_induct (λ x. Ordered (stmt_lines x)) (λ x. ArmOrdered (arm_lines x))
    (λ f x u n within. subst (λ m. InOrder m n) (sym (Trees.lines-SetField f x u n)) (record { fit = grind (arith, nat_tests); behind = refl; more = omega arith }))
    (λ a x u n within. subst (λ m. InOrder m n) (sym (Trees.lines-SetCell a x u n)) (record { fit = grind (arith, nat_tests); behind = refl; more = omega arith }))
    (λ arms held u n within. subst (λ m. InOrder m n) (sym (Trees.lines-If arms u n)) (chain_order arms held None (λ u n within. none n) u n within))
    (λ arms body held inside u n within. subst (λ m. InOrder m n) (sym (Trees.lines-Else arms body u n)) (chain_order arms held (Some (map stmt_lines body)) (block_order body inside) u n within))
    (λ cond body inside u n within.
    let inner = block_order body inside n (suc (suc n)) (omega arith) in
    subst (λ (m : Made). InOrder m n × (suc n < m.next)) (sym (Trees.lines-Arm cond body u n)) (
      followed (line.Test (guarded cond) u n (suc n) ∷ []) (suc (suc n)) n (block_lines (map stmt_lines body) n (suc (suc n))) (record { fit = test_fits cond u n within; behind = omega arith; more = omega arith }) inner,
      omega (arith, inner.more),
    ))

each_order : (body : List CheckedStmt) → Each (λ x. Ordered (stmt_lines x)) body
each_order [] = tt
each_order (x ∷ body) = (stmt_order x, each_order body)

body_order : (body : List CheckedStmt) → InOrder (block_lines (map stmt_lines body) 0 1) 1
body_order body = block_order body (each_order body) 0 1 (omega arith)

pub lines_ordered : (body : List CheckedStmt) → guards_fit 1 (body_lines body) ≡ true
lines_ordered body = (body_order body).fit

pub lines_behind : (body : List CheckedStmt) → guards_behind (body_lines body) 1 ≡ (block_lines (map stmt_lines body) 0 1).next
lines_behind body = (body_order body).behind
