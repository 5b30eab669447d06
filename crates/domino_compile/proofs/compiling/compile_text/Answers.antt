use Rattle.std.proofs.Common.{◌<◌, sym, subst}
use Rattle.std.proofs.lemmas.Result.{err_from_is_err_and}
use Rattle.domino_tree.specs.declared.program.Program.{Program}
use Rattle.domino_tree.specs.Count.{count_of}
use Rattle.domino_compile.specs.Accepted.{IsTooLarge}
use Rattle.domino_compile.proofs.AcceptedLemmas.{not_read, not_passed, not_flat}
use Rattle.domino_compile.proofs.compiling.compile_text.Goals as goal

pub returns-in_err-program-clause-refused : goal.returns-in_err-program-clause-refused
returns-in_err-program-clause-refused c =
    let p = err_from_is_err_and c.from_residual.result c.from_residual.ensures.1 in
    rw (p.1, p.2) (not_read c.args.text.now c.in_err-program.field-0.0 c.in_err-program.ensures.refused)

pub returns-in_err-source-clause-refused : goal.returns-in_err-source-clause-refused
returns-in_err-source-clause-refused c =
    let p = err_from_is_err_and c.from_residual-in_err-source.result c.from_residual-in_err-source.ensures.1 in
    rw (p.1, p.2) (not_passed c.args.text.now c.in_ok-program.program c.in_err-source.field-0.0 c.in_ok-program.ensures.read c.in_err-source.ensures.refused)

pub staged_code-requires : goal.staged_code-requires
staged_code-requires c = subst (λ (p : Program). count_of p < 4294967296) (sym c.in_ok-source.ensures.read) c.in_ok-program.ensures.counted

pub returns-in_err-code-clause-refused : goal.returns-in_err-code-clause-refused
returns-in_err-code-clause-refused c =
    let p = err_from_is_err_and c.from_residual-in_err-code.result c.from_residual-in_err-code.ensures.1 in
    let fault = c.in_err-code.field-0.0 in
    rw (p.1, p.2) (λ other. not_flat c.args.text.now c.in_ok-program.program fault c.in_ok-program.ensures.read c.in_ok-source.ensures.passes
    (subst (λ (q : Program). IsTooLarge q fault) c.in_ok-source.ensures.read (c.in_err-code.ensures.refused other)))
