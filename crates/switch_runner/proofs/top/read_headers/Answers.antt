use Rattle.std.proofs.Common.{◌≡◌, ◌≢◌, ◌∙◌, ℕ, List, take, subst}
use Rattle.std.proofs.lemmas.Result.{err_from_is_err_and}
use Rattle.capture_io.specs.declared.fault.CaptureFault.TheVariants as capture
use Rattle.capture_io.specs.ClassicCapture.{IsCapture}
use Rattle.capture_io.specs.Refusal.{Refuses}
use Rattle.switch_runner.proofs.TopLemmas.{capture_told, if_told}
use Rattle.switch_runner.proofs.FaultLemmas.{headers_unread, no_headers}
use Rattle.switch_runner.proofs.top.read_headers.Goals as goal

pub returns-in_err-bytes-clause-refused : goal.returns-in_err-bytes-clause-refused
returns-in_err-bytes-clause-refused g c =
    let p = err_from_is_err_and c.from_residual.result c.from_residual.ensures.1 in
    rw (p.1, p.2) (headers_unread c.args.name.now (g.S.Store.seen c.args.store.now) (g.S.Store.seen c.read_whole.new.store) c.in_err-bytes.field-0.0 c.in_err-bytes.ensures.reads.failed)

pub returns-in_err-read_capture-clause-refused : goal.returns-in_err-read_capture-clause-refused
returns-in_err-read_capture-clause-refused g c =
    let p = err_from_is_err_and c.from_residual-in_err-read_capture.result c.from_residual-in_err-read_capture.ensures.1 in
    let fault = c.in_err-read_capture.field-0.0 in
    rw (p.1, p.2) (no_headers c.args.name.now (g.S.Store.seen c.args.store.now) (g.S.Store.seen c.read_whole.new.store) c.in_ok-bytes.bytes.items fault c.in_ok-bytes.ensures.read
    (subst (λ (l : List ℕ). fault ≢ capture.NoMemory → Refuses l fault) c.deref.ensures.value c.in_err-read_capture.ensures.refused))

pub returns-clause-read : goal.returns-clause-read
returns-clause-read g c =
    let a = c.in_ok-read_capture.ensures.read in (
      a.0,
      a.2,
      if_told ((g.S.Store.seen c.args.store.now).told c.args.name.now) (λ bytes. c.in_ok-bytes.bytes.items ≡ take 134217729 bytes) (λ bytes. IsCapture bytes a.0)
          (λ bytes e. capture_told c.deref.result.now bytes a.0 (c.deref.ensures.value ∙ e) a.1) c.in_ok-bytes.ensures.read,
    )
