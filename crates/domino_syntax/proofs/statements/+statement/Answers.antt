use Rattle.std.proofs.Common.{◌≡◌, ◌-◌, ◌+◌, suc, true, false, length, Ok, ◌∙◌, ap, sym, arith}
use Rattle.domino_tree.specs.declared.token.Keyword.TheVariants as keywords
use Rattle.domino_syntax.specs.Parsers.{first, keyword, sees_keyword}
use Rattle.domino_syntax.specs.ReadingPrograms.{begins_statement, statement, arm, block, links}
use Rattle.domino_syntax.proofs.Turns.{all_turn, passes_on}
use Rattle.domino_syntax.proofs.Chains.{links_end, links_full, else_refused, last_refused, last_read, arm_refused, arm_read, statement_if, statement_set}
use Rattle.domino_syntax.proofs.statements.+statement.Goals as goal

pub body-loop-turn-preserved : goal.body-loop-turn-preserved
body-loop-turn-preserved t c =
    let n = length c.args.reader.now - c.loop-turn._turn in
    let m = length c.args.reader.now - (c.loop-turn._turn + 1) in
    let is_suc : n ≡ suc m = omega arith in
    let form = statement c.args.depth in
    let sees : begins_statement (first c.loop-turn.reader) ≡ true = cc in
    let read : form c.loop-turn.reader ≡ Ok (c.in_ok-statement.field-0, c.statement.new.reader) = c.in_ok-statement.ensures in
    let turn = all_turn begins_statement form n m c.loop-turn.found c.loop-turn.reader c.statement.new.reader c.in_ok-statement.field-0 is_suc sees read in
    cc (c.in_ok-push.ensures.ok)

pub statement-returns-then-sees_keyword : goal.statement-returns-then-sees_keyword
statement-returns-then-sees_keyword t c =
    let is_suc : c.args.depth ≡ suc (c.args.depth - 1) = omega arith in
    let sees : sees_keyword keywords.If (first c.args.reader.now) ≡ true = cc in
    rw (statement_if c.args.depth (c.args.depth - 1) is_suc c.args.reader.now sees) c.conditional.ensures

pub statement-returns-else-sees_keyword : goal.statement-returns-else-sees_keyword
statement-returns-else-sees_keyword t c =
    let is_suc : c.args.depth ≡ suc (c.args.depth - 1) = omega arith in
    let sees : sees_keyword keywords.If (first c.args.reader.now) ≡ false = cc in
    rw (statement_set c.args.depth (c.args.depth - 1) is_suc c.args.reader.now sees) c.assignment.ensures

pub conditional-returns : goal.conditional-returns
conditional-returns t c =
    let none : length c.arm.new.reader - c.loop-turn._turn ≡ 0 = omega arith in
    c.loop-turn.invariant ∙ links_full (arm c.args.depth (statement c.args.depth)) (block (statement c.args.depth)) c.loop-turn.arms c.loop-turn.reader (length c.arm.new.reader - c.loop-turn._turn) none

pub conditional-returns-then-not-sees_keyword : goal.conditional-returns-then-not-sees_keyword
conditional-returns-then-not-sees_keyword t c =
    let sees : sees_keyword keywords.Else (first c.loop-turn.reader) ≡ false = cc in
    c.loop-turn.invariant ∙ links_end (arm c.args.depth (statement c.args.depth)) (block (statement c.args.depth)) c.loop-turn.arms c.loop-turn.reader (length c.arm.new.reader - c.loop-turn._turn) sees

pub conditional-returns-in_err-keyword : goal.conditional-returns-in_err-keyword
conditional-returns-in_err-keyword t c =
    let n = length c.arm.new.reader - c.loop-turn._turn in
    let m = length c.arm.new.reader - (c.loop-turn._turn + 1) in
    let is_suc : n ≡ suc m = omega arith in
    let sees : sees_keyword keywords.Else (first c.loop-turn.reader) ≡ true = cc in
    let another = arm c.args.depth (statement c.args.depth) in
    let last = block (statement c.args.depth) in
    passes_on (keyword keywords.Else c.loop-turn.reader) _ c.in_err-keyword.field-0.0 _ _ c.from_residual-in_err-keyword.ensures.1
    (λ e. c.loop-turn.invariant ∙ else_refused another last c.loop-turn.arms c.loop-turn.reader n m is_suc sees _ e)
    c.in_err-keyword.ensures

pub conditional-returns-in_err-last : goal.conditional-returns-in_err-last
conditional-returns-in_err-last t c =
    let n = length c.arm.new.reader - c.loop-turn._turn in
    let m = length c.arm.new.reader - (c.loop-turn._turn + 1) in
    let is_suc : n ≡ suc m = omega arith in
    let sees : sees_keyword keywords.Else (first c.loop-turn.reader) ≡ true = cc in
    let another = arm c.args.depth (statement c.args.depth) in
    let last = block (statement c.args.depth) in
    let other : sees_keyword keywords.If (first c.keyword.new.self) ≡ false = cc in
    passes_on (last c.keyword.new.self) _ c.in_err-last.field-0.0 _ _ c.from_residual-in_err-last.ensures.1
    (λ e. c.loop-turn.invariant ∙ last_refused another last c.loop-turn.arms c.loop-turn.reader n m is_suc sees _ c.keyword.new.self c.in_ok-keyword.ensures other e)
    c.in_err-last.ensures

pub conditional-returns-then-not-sees_keyword-2 : goal.conditional-returns-then-not-sees_keyword-2
conditional-returns-then-not-sees_keyword-2 t c =
    let n = length c.arm.new.reader - c.loop-turn._turn in
    let m = length c.arm.new.reader - (c.loop-turn._turn + 1) in
    let is_suc : n ≡ suc m = omega arith in
    let sees : sees_keyword keywords.Else (first c.loop-turn.reader) ≡ true = cc in
    let another = arm c.args.depth (statement c.args.depth) in
    let last = block (statement c.args.depth) in
    let other : sees_keyword keywords.If (first c.keyword.new.self) ≡ false = cc in
    c.loop-turn.invariant ∙ last_read another last c.loop-turn.arms c.loop-turn.reader n m is_suc sees c.block.new.reader c.keyword.new.self c.in_ok-keyword.ensures c.in_ok-last.last other c.in_ok-last.ensures

pub conditional-returns-in_err-arm-2 : goal.conditional-returns-in_err-arm-2
conditional-returns-in_err-arm-2 t c =
    let n = length c.arm.new.reader - c.loop-turn._turn in
    let m = length c.arm.new.reader - (c.loop-turn._turn + 1) in
    let is_suc : n ≡ suc m = omega arith in
    let sees : sees_keyword keywords.Else (first c.loop-turn.reader) ≡ true = cc in
    let another = arm c.args.depth (statement c.args.depth) in
    let last = block (statement c.args.depth) in
    let again : sees_keyword keywords.If (first c.keyword.new.self) ≡ true = cc in
    passes_on (another c.keyword.new.self) _ c.in_err-arm-2.field-0.0 _ _ c.from_residual-in_err-arm-2.ensures.1
    (λ e. c.loop-turn.invariant ∙ arm_refused another last c.loop-turn.arms c.loop-turn.reader n m is_suc sees _ c.keyword.new.self c.in_ok-keyword.ensures again e)
    c.in_err-arm-2.ensures

pub conditional-loop-turn-preserved : goal.conditional-loop-turn-preserved
conditional-loop-turn-preserved t c =
    let n = length c.arm.new.reader - c.loop-turn._turn in
    let m = length c.arm.new.reader - (c.loop-turn._turn + 1) in
    let is_suc : n ≡ suc m = omega arith in
    let sees : sees_keyword keywords.Else (first c.loop-turn.reader) ≡ true = cc in
    let another = arm c.args.depth (statement c.args.depth) in
    let last = block (statement c.args.depth) in
    let again : sees_keyword keywords.If (first c.keyword.new.self) ≡ true = cc in
    let turn = arm_read another last c.loop-turn.arms c.loop-turn.reader n m is_suc sees c.arm-in-loop-turn.new.reader c.keyword.new.self c.in_ok-keyword.ensures c.in_ok-arm-2.field-0 again c.in_ok-arm-2.ensures in
    c.loop-turn.invariant ∙ (turn ∙ ap (λ arms. links another last m arms c.arm-in-loop-turn.new.reader) (sym c.in_ok-push-2.ensures.ok))
