-- The count of two bodies.
use Rattle.std.proofs.Common.{◌≡◌, ℕ, zero, suc, ◌+◌, ◌∷◌, [], List, map, codes, pos, None, replicate, refl, ap, ◌∙◌, arith}
use Rattle.mp5_words.specs.declared.op.Op2.TheVariants.{Add, Gt}
use Rattle.domino_tree.specs.declared.expr.Expr.{Expr}
use Rattle.domino_tree.specs.declared.expr.Expr.TheVariants as e
use Rattle.domino_tree.specs.declared.program.Target.TheVariants as target
use Rattle.domino_tree.specs.declared.program.Stmt.{Stmt}
use Rattle.domino_tree.specs.declared.program.Stmt.TheVariants as s
use Rattle.domino_tree.specs.Value.{Names}
use Rattle.domino_tree.specs.Count.{Tally, beside, together, firsts, cost, stmt_tally, body_count}
use Rattle.domino_tree.proofs.CountLemmas.{stmt_tally-If, stmt_tally-Set, arm_tally-Arm, tally-Two, tally-Cell, tally-Field, tally-Number}

-- two fields, and two arrays of four cells
names : Names
names = record {
  defines = [];
  fields = codes "sport" ∷ codes "dport" ∷ [];
  arrays = record { name = codes "a"; length = 4; start = pos 0 } ∷ record { name = codes "b"; length = 4; start = pos 0 } ∷ [];
}

abbrev sport : Expr
sport = e.Field (codes "p") (codes "sport")

abbrev dport : Expr
dport = e.Field (codes "p") (codes "dport")

-- `if (a[p.sport] > 3) { b[p.dport] = b[p.dport] + 1; } a[p.sport] = a[p.sport] + 2;`
abbrev branching : List Stmt
branching =
    s.If (record { cond = e.Two Gt (e.Cell (codes "a") sport) (e.Number (pos 3)); body = s.Set (target.Cell (codes "b") dport) (e.Two Add (e.Cell (codes "b") dport) (e.Number (pos 1))) ∷ [] } ∷ []) None
    ∷ s.Set (target.Cell (codes "a") sport) (e.Two Add (e.Cell (codes "a") sport) (e.Number (pos 2)))
    ∷ []

-- three operators, two assignments, a condition and two arrays
branching_counts : body_count names branching ≡ 13
unfolding names
branching_counts = simp (stmt_tally-If, stmt_tally-Set, arm_tally-Arm, tally-Two, tally-Cell, tally-Field, tally-Number) refl

-- so many statements that count one and touch nothing
ones : (n : ℕ) (a : Stmt) → stmt_tally names a ≡ record { plain = 1; accesses = [] } → together (map (stmt_tally names) (replicate n a)) ≡ record { plain = n; accesses = [] }
ones zero a one = refl
ones (suc n) a one = ap (beside (stmt_tally names a)) (ones n a one) ∙ ap (λ t. beside t (record { plain = n; accesses = [] })) one ∙ ap (λ k. record { plain = k; accesses = [] }) (omega arith)

-- `p.n = 0;`
abbrev clearing : Stmt
clearing = s.Set (target.Field (codes "p") (codes "n")) (e.Number (pos 0))

one_counts : stmt_tally names clearing ≡ record { plain = 1; accesses = [] }
one_counts = simp (stmt_tally-Set, tally-Number) refl

-- 1,024 such statements
many_count : body_count names (replicate 1024 clearing) ≡ 1024
many_count = ap (λ (t : Tally). t.plain + cost (firsts t.accesses)) (ones 1024 clearing one_counts)
