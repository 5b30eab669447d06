use Rattle.std.proofs.Common.{ℤ, List, length, sym, subst}
use Rattle.std.proofs.lemmas.Result.{IfOk-weaker}
use Rattle.switch_runner.specs.Top.{AreWide}
use Rattle.switch_runner.proofs.TopLemmas.{wide_headers, wide_made}
use Rattle.switch_runner.proofs.top.headers_from.Goals as goal

pub returns-in-File-clause-wide : goal.returns-in-File-clause-wide
returns-in-File-clause-wide g c =
    IfOk-weaker c.read_headers.result _ _ (λ hs h. subst (AreWide (length c.args.fields.now)) (sym h.1) (wide_headers c.args.fields.now h.0)) c.read_headers.ensures.read

pub returns-in-Made-clause-wide : goal.returns-in-Made-clause-wide
returns-in-Made-clause-wide g c =
    IfOk-weaker c.made_headers.result _ _ (λ hs e. subst (AreWide (length c.args.fields.now)) (sym e) (wide_made c.args.fields.now _ _)) c.made_headers.ensures.made
