use Rattle.std.proofs.Common.{◌≡◌, ◌<◌, not, take, length, map, get_or, sym, ap, ◌∙◌, true≢false, arith}
use Rattle.std.proofs.lemmas.List.{length-map, get_or-map}
use Rattle.domino_names.specs.declared.fault.CheckFault.TheVariants as fault
use Rattle.domino_names.specs.Checks.{TwiceAt, is_twice}
use Rattle.domino_names.specs.Symbols.{Named, declaration_of}
use Rattle.domino_names.proofs.FirstLemmas.{none_at_start, none_more, none_at_end, first_at}
use Rattle.domino_names.proofs.AssemblyLemmas.{twice_is, held_more}
use Rattle.domino_names.proofs.name_checks.symbols_of.Goals as goal

pub loop-declaration-init : goal.loop-declaration-init
loop-declaration-init c = record { held = c.in_ok-symbols.ensures; fine = none_at_start TwiceAt }

pub returns-then-not-branch-clause-refuses : goal.returns-then-not-branch-clause-refuses
returns-then-not-branch-clause-refuses c = λ _.
    let ds = c.args.declarations.now in
    let i = c.loop-declaration.declaration-index in
    let d : Named = c.declaration-item.result in
    let within : i < length (map declaration_of ds) = omega (arith, length-map ds declaration_of, c.loop-declaration-test.true) in
    let here : declaration_of d ≡ get_or (map declaration_of ds) i (declaration_of d) = ap declaration_of c.declaration-item.is ∙ sym (get_or-map declaration_of ds i d (declaration_of d) c.loop-declaration-test.true) in
    let twice : is_twice (take i (map declaration_of ds)) (declaration_of d) ≡ not c.in_ok-declare.field-0 =
    twice_is c.loop-declaration.symbols ds i d c.bytes.result.now c.symbol.result c.in_ok-declare.field-0 c.loop-declaration.invariant.held (c.bytes.ensures ∙ c.name-name.ensures) c.symbol.ensures c.in_ok-declare.ensures.new in
    first_at TwiceAt (map declaration_of ds) i (declaration_of d) _ within here c.loop-declaration.invariant.fine
    (twice ∙ ap not c.if-not-branch.true, ap fault.Twice (c.in_ok-copy_name.ensures ∙ c.name-name.ensures))

pub loop-declaration-preserved : goal.loop-declaration-preserved
loop-declaration-preserved c =
    let ds = c.args.declarations.now in
    let i = c.loop-declaration.declaration-index in
    let d : Named = c.declaration-item.result in
    let within : i < length (map declaration_of ds) = omega (arith, length-map ds declaration_of, c.loop-declaration-test.true) in
    let here : declaration_of d ≡ get_or (map declaration_of ds) i (declaration_of d) = ap declaration_of c.declaration-item.is ∙ sym (get_or-map declaration_of ds i d (declaration_of d) c.loop-declaration-test.true) in
    let twice : is_twice (take i (map declaration_of ds)) (declaration_of d) ≡ not c.in_ok-declare.field-0 =
    twice_is c.loop-declaration.symbols ds i d c.bytes.result.now c.symbol.result c.in_ok-declare.field-0 c.loop-declaration.invariant.held (c.bytes.ensures ∙ c.name-name.ensures) c.symbol.ensures c.in_ok-declare.ensures.new in
    record {
      held = held_more c.loop-declaration.symbols c.declare.new.self ds i d c.bytes.result.now c.symbol.result c.in_ok-declare.field-0 c.if-not-branch.false c.loop-declaration-test.true c.declaration-item.is
          c.loop-declaration.invariant.held (c.bytes.ensures ∙ c.name-name.ensures) c.symbol.ensures c.in_ok-declare.ensures.held;
      fine = none_more TwiceAt (map declaration_of ds) i (declaration_of d) within here c.loop-declaration.invariant.fine
          (λ g a. true≢false (sym a.0 ∙ twice ∙ ap not c.if-not-branch.false));
    }

pub returns-clause-passes : goal.returns-clause-passes
returns-clause-passes c =
    none_at_end TwiceAt (map declaration_of c.args.declarations.now) c.loop-declaration.declaration-index (omega (arith, length-map c.args.declarations.now declaration_of, c.loop-declaration-test.false)) c.loop-declaration.invariant.fine
