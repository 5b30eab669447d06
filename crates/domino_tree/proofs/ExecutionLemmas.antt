-- The execution of a statement at each form.
use Rattle.std.proofs.Common.{◌≡◌, List, map, None, Some, sym, ap, ◌∙◌}
use Rattle.mp5_words.specs.Words.{truth}
use Rattle.domino_tree.specs.declared.expr.Expr.{Expr}
use Rattle.domino_tree.specs.declared.program.Target.{Target}
use Rattle.domino_tree.specs.declared.program.Stmt.{Stmt, fold-roll-Stmt}
use Rattle.domino_tree.specs.declared.program.Arm.{Arm, fold-roll-Arm}
use Rattle.domino_tree.specs.declared.program.Stmt.TheOpen as O
use Rattle.domino_tree.specs.declared.program.Stmt.TheVariants as s
use Rattle.domino_tree.specs.Value.{Names, value, arrays_in}
use Rattle.domino_tree.specs.Execution.{State, Does, Choice, set_target, chosen, doing, choosing, step, choice, in_turn}

pub step-Set : (names : Names) (t : Target) (x : Expr) (st : State) → step names (s.Set t x) st ≡ set_target names t x st
step-Set names t x st = ap (λ y. step names y st) (sym (s.rolls-Set t x)) ∙ ap (λ (does : Does). does st) (fold-roll-Stmt Does Choice (doing names) (choosing names) (O.Stmt-F.Set t x))

pub step-If : (names : Names) (arms : List Arm) (st : State) → step names (s.If arms None) st ≡ chosen (map (choice names) arms) None st
step-If names arms st = ap (λ y. step names y st) (sym (s.rolls-If arms None)) ∙ ap (λ (does : Does). does st) (fold-roll-Stmt Does Choice (doing names) (choosing names) (O.Stmt-F.If arms None))

pub step-Else : (names : Names) (arms : List Arm) (body : List Stmt) (st : State) → step names (s.If arms (Some body)) st ≡ chosen (map (choice names) arms) (Some (map (step names) body)) st
step-Else names arms body st = ap (λ y. step names y st) (sym (s.rolls-If arms (Some body))) ∙ ap (λ (does : Does). does st) (fold-roll-Stmt Does Choice (doing names) (choosing names) (O.Stmt-F.If arms (Some body)))

pub choice-Arm : (names : Names) (cond : Expr) (body : List Stmt) → choice names (record { cond = cond; body = body }) ≡ record { holds = λ st. truth (value names cond st); arrays = arrays_in names cond; block = in_turn (map (step names) body) }
choice-Arm names cond body = fold-roll-Arm Does Choice (doing names) (choosing names) (record { cond = cond; body = body })
