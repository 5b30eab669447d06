use Rattle.std.proofs.Common.{rules, ◌≡◌, ◌∙◌, ℕ, ℤ, List, length, sym, ap, subst}
use Rattle.std.specs.Prelude.{IfSome}
use Rattle.domino_compile.specs.Compiled.{Translation}
use Rattle.command_line.specs.CommandLine.{origin_of}
use Rattle.switch_runner.specs.Loads.{load_of, AreHeadersOf}
use Rattle.switch_runner.specs.Top.{AreWide, words_of}
use Rattle.switch_runner.proofs.CauseLemmas.{serves_no_source, serves_no_headers, serves_run}
use Rattle.switch_runner.proofs.top.serve.Goals as goal

pub returns-in-Err-clause-serves : goal.returns-in-Err-clause-serves
returns-in-Err-clause-serves g c =
    serves_no_source c.in-Err.status (words_of c.args.request.now) _ _ _ _ c.in-Err.ensures.only c.in-Err.ensures.refused

pub returns-in-Err-headers_from-clause-serves : goal.returns-in-Err-headers_from-clause-serves
returns-in-Err-headers_from-clause-serves g c =
    serves_no_headers c.in-Err-headers_from.status (words_of c.args.request.now) c.in-Ok.compiled.program _ _ _ _ _
    c.in-Ok.ensures.only c.in-Err-headers_from.ensures.only c.in-Ok.ensures.read c.in-Err-headers_from.ensures.refused

pub run_and_print-requires : goal.run_and_print-requires
run_and_print-requires g c =
    let fields = c.field_names-fields.ensures ∙ ap (λ (t : Translation). t.program.packet.fields) c.compiled.view_is in (
      search rules,
      (
        search rules,
        subst (λ (names : List (List ℕ)). AreWide (length names) c.in-Ok-headers_from.headers) fields c.in-Ok-headers_from.ensures.wide,
      ),
    )

pub returns-clause-serves : goal.returns-clause-serves
returns-clause-serves g c =
    let fields = c.field_names-fields.ensures ∙ ap (λ (t : Translation). t.program.packet.fields) c.compiled.view_is in
    serves_run c.run_and_print.result (words_of c.args.request.now) c.in-Ok.compiled.program c.in-Ok-headers_from.headers _ _ _ _ _ _ _
    c.in-Ok.ensures.only c.in-Ok-headers_from.ensures.only c.in-Ok.ensures.read
    (subst (λ (names : List (List ℕ)). IfSome (load_of (origin_of c.args.request.now.capture) (g.S.Store.seen c.read_source.new.store)) (λ load. AreHeadersOf load names c.in-Ok-headers_from.headers)) fields
    c.in-Ok-headers_from.ensures.load)
    c.run_and_print.ensures.ends c.run_and_print.ensures.ran
