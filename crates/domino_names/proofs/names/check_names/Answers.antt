use Rattle.std.proofs.Common.{List, map, ap, inl, inr, sym, ◌∙◌, subst}
use Rattle.std.proofs.lemmas.Result.{err_from_is_err_and}
use Rattle.domino_names.specs.First.{FirstFault, NoFault}
use Rattle.domino_names.specs.Declarations.{Declaration}
use Rattle.domino_names.specs.Uses.{Use}
use Rattle.domino_names.specs.Checks.{TwiceAt, UnknownAt, WrongKindAt, ArityAt}
use Rattle.domino_names.proofs.AssemblyLemmas.{table_is, table_kinds, at_program}
use Rattle.domino_names.specs.Symbols.{declaration_of, kinds_at}
use Rattle.domino_names.proofs.OnceLemmas.{declarations_are}
use Rattle.domino_names.proofs.names.check_names.Goals as goal

pub returns-in_err-symbols-clause-refuses : goal.returns-in_err-symbols-clause-refuses
returns-in_err-symbols-clause-refuses c =
    let p = c.args.program.now in
    let e = err_from_is_err_and c.from_residual-in_err-symbols.result c.from_residual-in_err-symbols.ensures.1 in
    let text = c.deref.ensures.value ∙ c.in_ok-declared.ensures in
    let declared = ap (map declaration_of) text ∙ declarations_are p in
    rw e.1 (λ n. inl (subst (FirstFault TwiceAt _) (sym e.2) (subst (λ (ds : List Declaration). FirstFault TwiceAt ds c.in_err-symbols.field-0.0) declared (c.in_err-symbols.ensures.refuses (λ m. n (e.2 ∙ m))))))

pub returns-in_err-check_known-clause-refuses : goal.returns-in_err-check_known-clause-refuses
returns-in_err-check_known-clause-refuses c =
    let p = c.args.program.now in
    let e = err_from_is_err_and c.from_residual-in_err-check_known.result c.from_residual-in_err-check_known.ensures.1 in
    let text = c.deref.ensures.value ∙ c.in_ok-declared.ensures in
    let declared = ap (map declaration_of) text ∙ declarations_are p in
    let once = subst (NoFault TwiceAt) declared c.in_ok-symbols.ensures.passes in
    let kinds = table_kinds c.in_ok-symbols.symbols p (table_is c.in_ok-symbols.symbols c.deref.result.now p text c.in_ok-symbols.ensures.table) in
    let uses = c.deref-2.ensures.value ∙ c.in_ok-uses.ensures in
    rw e.1 (λ n. inr (
      once,
      inl (at_program (λ k us. FirstFault (UnknownAt k) us e.0) p (kinds_at c.in_ok-symbols.symbols) c.deref-2.result.now kinds uses
          (subst (FirstFault (UnknownAt (kinds_at c.in_ok-symbols.symbols)) c.deref-2.result.now) (sym e.2) (c.in_err-check_known.ensures.refuses (λ m. n (e.2 ∙ m))))),
    ))

pub returns-in_err-check_kinds-clause-refuses : goal.returns-in_err-check_kinds-clause-refuses
returns-in_err-check_kinds-clause-refuses c =
    let p = c.args.program.now in
    let e = err_from_is_err_and c.from_residual-in_err-check_kinds.result c.from_residual-in_err-check_kinds.ensures.1 in
    let text = c.deref.ensures.value ∙ c.in_ok-declared.ensures in
    let declared = ap (map declaration_of) text ∙ declarations_are p in
    let once = subst (NoFault TwiceAt) declared c.in_ok-symbols.ensures.passes in
    let kinds = table_kinds c.in_ok-symbols.symbols p (table_is c.in_ok-symbols.symbols c.deref.result.now p text c.in_ok-symbols.ensures.table) in
    let known = at_program (λ k us. NoFault (UnknownAt k) us) p (kinds_at c.in_ok-symbols.symbols) c.deref-2.result.now kinds (c.deref-2.ensures.value ∙ c.in_ok-uses.ensures) c.in_ok-check_known.ensures.passes in
    let uses = c.deref-3.ensures.value ∙ c.in_ok-uses.ensures in
    rw e.1 (λ n. inr (
      once,
      inr (
        known,
        inl (at_program (λ k us. FirstFault (WrongKindAt k) us e.0) p (kinds_at c.in_ok-symbols.symbols) c.deref-3.result.now kinds uses
            (subst (FirstFault (WrongKindAt (kinds_at c.in_ok-symbols.symbols)) c.deref-3.result.now) (sym e.2) (c.in_err-check_kinds.ensures.refuses (λ m. n (e.2 ∙ m))))),
      ),
    ))

pub returns-in_err-check_calls-clause-refuses : goal.returns-in_err-check_calls-clause-refuses
returns-in_err-check_calls-clause-refuses c =
    let p = c.args.program.now in
    let e = err_from_is_err_and c.from_residual-in_err-check_calls.result c.from_residual-in_err-check_calls.ensures.1 in
    let text = c.deref.ensures.value ∙ c.in_ok-declared.ensures in
    let declared = ap (map declaration_of) text ∙ declarations_are p in
    let once = subst (NoFault TwiceAt) declared c.in_ok-symbols.ensures.passes in
    let kinds = table_kinds c.in_ok-symbols.symbols p (table_is c.in_ok-symbols.symbols c.deref.result.now p text c.in_ok-symbols.ensures.table) in
    let known = at_program (λ k us. NoFault (UnknownAt k) us) p (kinds_at c.in_ok-symbols.symbols) c.deref-2.result.now kinds (c.deref-2.ensures.value ∙ c.in_ok-uses.ensures) c.in_ok-check_known.ensures.passes in
    let kept = at_program (λ k us. NoFault (WrongKindAt k) us) p (kinds_at c.in_ok-symbols.symbols) c.deref-3.result.now kinds (c.deref-3.ensures.value ∙ c.in_ok-uses.ensures) c.in_ok-check_kinds.ensures.passes in
    let uses = c.deref-4.ensures.value ∙ c.in_ok-uses.ensures in
    rw e.1 (λ n. inr (once, inr (known, inr (kept, subst (FirstFault ArityAt _) (sym e.2) (subst (λ (us : List Use). FirstFault ArityAt us c.in_err-check_calls.field-0.0) uses (c.in_err-check_calls.ensures.refuses (λ m. n (e.2 ∙ m))))))))

pub returns-clause-symbols : goal.returns-clause-symbols
returns-clause-symbols c =
    table_is c.in_ok-symbols.symbols c.deref.result.now c.args.program.now (c.deref.ensures.value ∙ c.in_ok-declared.ensures) c.in_ok-symbols.ensures.table

pub returns-clause-passes : goal.returns-clause-passes
returns-clause-passes c =
    let p = c.args.program.now in
    let text = c.deref.ensures.value ∙ c.in_ok-declared.ensures in
    let declared = ap (map declaration_of) text ∙ declarations_are p in
    let kinds = table_kinds c.in_ok-symbols.symbols p (table_is c.in_ok-symbols.symbols c.deref.result.now p text c.in_ok-symbols.ensures.table) in
    record {
      once = subst (NoFault TwiceAt) declared c.in_ok-symbols.ensures.passes;
      known = at_program (λ k us. NoFault (UnknownAt k) us) p (kinds_at c.in_ok-symbols.symbols) c.deref-2.result.now kinds (c.deref-2.ensures.value ∙ c.in_ok-uses.ensures) c.in_ok-check_known.ensures.passes;
      kinds = at_program (λ k us. NoFault (WrongKindAt k) us) p (kinds_at c.in_ok-symbols.symbols) c.deref-3.result.now kinds (c.deref-3.ensures.value ∙ c.in_ok-uses.ensures) c.in_ok-check_kinds.ensures.passes;
      calls = subst (NoFault ArityAt) (c.deref-4.ensures.value ∙ c.in_ok-uses.ensures) c.in_ok-check_calls.ensures.passes;
    }
