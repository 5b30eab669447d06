use Rattle.std.proofs.Common.{◌≡◌, ◌≢◌, ◌∙◌, ℕ, List, take, subst}
use Rattle.std.proofs.lemmas.Result.{err_from_is_err_and}
use Rattle.domino_compile.specs.declared.fault.ProgramFault.TheVariants as program
use Rattle.domino_compile.specs.Accepted.{IsAccepted, IsUnaccepted}
use Rattle.switch_runner.proofs.TopLemmas.{accepted_told, if_told}
use Rattle.switch_runner.proofs.FaultLemmas.{source_unread, no_source}
use Rattle.switch_runner.proofs.top.read_source.Goals as goal

pub returns-in_err-text-clause-refused : goal.returns-in_err-text-clause-refused
returns-in_err-text-clause-refused g c =
    let p = err_from_is_err_and c.from_residual.result c.from_residual.ensures.1 in
    rw (p.1, p.2) (source_unread c.args.name.now (g.S.Store.seen c.args.store.now) (g.S.Store.seen c.read_whole.new.store) c.in_err-text.field-0.0 c.in_err-text.ensures.reads.failed)

pub returns-in_err-compile-clause-refused : goal.returns-in_err-compile-clause-refused
returns-in_err-compile-clause-refused g c =
    let p = err_from_is_err_and c.from_residual-in_err-compile.result c.from_residual-in_err-compile.ensures.1 in
    let fault = c.in_err-compile.field-0.0 in
    rw (p.1, p.2) (no_source c.args.name.now (g.S.Store.seen c.args.store.now) (g.S.Store.seen c.read_whole.new.store) c.in_ok-text.text.items fault c.in_ok-text.ensures.read
    (subst (λ (l : List ℕ). fault ≢ program.NoMemory → IsUnaccepted fault l) c.deref.ensures.value c.in_err-compile.ensures.refused))

pub returns-clause-read : goal.returns-clause-read
returns-clause-read g c =
    if_told ((g.S.Store.seen c.args.store.now).told c.args.name.now) (λ bytes. c.in_ok-text.text.items ≡ take 65537 bytes) (λ text. IsAccepted text c.in_ok-compile.field-0.program)
    (λ bytes e. accepted_told c.deref.result.now bytes c.in_ok-compile.field-0.program (c.deref.ensures.value ∙ e) c.in_ok-compile.ensures.read) c.in_ok-text.ensures.read
