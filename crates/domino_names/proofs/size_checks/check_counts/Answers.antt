use Rattle.std.proofs.Common.{◌≡◌, [], ◌∷◌, length, vec_len, arith, sum, sym, ap, ◌∙◌, subst}
use Rattle.std.proofs.lemmas.Result.{err_from_is_err_and, on_ok_weaker, IfErr-weaker}
use Rattle.domino_tree.specs.Value.{names_of}
use Rattle.domino_names.specs.declared.fault.What.TheVariants as what
use Rattle.domino_names.specs.Checks.{FirstTooMany}
use Rattle.domino_names.proofs.FirstLemmas.{none_at_start}
use Rattle.domino_names.proofs.CountLemmas.{defines_counted, lengths_counted, arrays_counted, few, few_defines, few_fields, few_arrays, few_cells, many}
use Rattle.domino_names.specs.Checks.{TooManyAt}
use Rattle.domino_names.specs.Symbols.{defines_in}
use Rattle.domino_names.proofs.size_checks.check_counts.Goals as goal

pub returns-in_err-check_count-clause-refuses : goal.returns-in_err-check_count-clause-refuses
returns-in_err-check_count-clause-refuses c =
    let p = c.args.program.now in
    let names = names_of p in
    let defines = defines_counted p c.as_slice-before.result.now c.as_slice-after.result.now _ _ c.as_slice-before.ensures c.as_slice-after.ensures c.define_count.ensures.count c.define_count-2.ensures.count in
    let e = err_from_is_err_and c.from_residual.result c.from_residual.ensures.1 in
    rw e.1 (λ _. subst (FirstTooMany p) (sym e.2)
    (many names what.Defines [] (what.Fields ∷ what.Arrays ∷ what.Cells ∷ []) _ c.in_err-check_count.field-0.0 defines (none_at_start (TooManyAt names)) c.in_err-check_count.ensures.refuses))

pub returns-in_err-check_count-2-clause-refuses : goal.returns-in_err-check_count-2-clause-refuses
returns-in_err-check_count-2-clause-refuses c =
    let p = c.args.program.now in
    let names = names_of p in
    let defines = defines_counted p c.as_slice-before.result.now c.as_slice-after.result.now _ _ c.as_slice-before.ensures c.as_slice-after.ensures c.define_count.ensures.count c.define_count-2.ensures.count in
    let fine = few_defines names (few names what.Defines _ defines c.in_ok-check_count.ensures.passes) in
    let e = err_from_is_err_and c.from_residual-in_err-check_count-2.result c.from_residual-in_err-check_count-2.ensures.1 in
    rw e.1 (λ _. subst (FirstTooMany p) (sym e.2)
    (many names what.Fields (what.Defines ∷ []) (what.Arrays ∷ what.Cells ∷ []) _ c.in_err-check_count-2.field-0.0 c.len.ensures fine c.in_err-check_count-2.ensures.refuses))

pub returns-in_err-check_count-3-clause-refuses : goal.returns-in_err-check_count-3-clause-refuses
returns-in_err-check_count-3-clause-refuses c =
    let p = c.args.program.now in
    let names = names_of p in
    let defines = defines_counted p c.as_slice-before.result.now c.as_slice-after.result.now _ _ c.as_slice-before.ensures c.as_slice-after.ensures c.define_count.ensures.count c.define_count-2.ensures.count in
    let fine = few_fields names (few names what.Defines _ defines c.in_ok-check_count.ensures.passes) (few names what.Fields _ c.len.ensures c.in_ok-check_count-2.ensures.passes) in
    let len : vec_len c.push_lengths-2.new.out ≡ length c.push_lengths-2.new.out.items = omega (arith, c.push_lengths-2.new.out.ok.0) in
    let lengths = lengths_counted p (defines_in c.args.symbols.now) c.requires.defines c.as_slice-before.result.now c.as_slice-after.result.now c.new-lengths.result.items c.push_lengths.new.out.items c.push_lengths-2.new.out.items
    c.as_slice-before.ensures c.as_slice-after.ensures c.new-lengths.ensures.items c.in_ok-push_lengths.ensures c.in_ok-push_lengths-2.ensures in
    let e = err_from_is_err_and c.from_residual-in_err-check_count-3.result c.from_residual-in_err-check_count-3.ensures.1 in
    rw e.1 (λ _. subst (FirstTooMany p) (sym e.2)
    (many names what.Arrays (what.Defines ∷ what.Fields ∷ []) (what.Cells ∷ []) _ c.in_err-check_count-3.field-0.0 (c.len-2.ensures ∙ len ∙ arrays_counted c.push_lengths-2.new.out.items names.arrays lengths) fine c.in_err-check_count-3.ensures.refuses))

pub returns-clause-passes : goal.returns-clause-passes
returns-clause-passes c =
    let p = c.args.program.now in
    let names = names_of p in
    let defines = defines_counted p c.as_slice-before.result.now c.as_slice-after.result.now _ _ c.as_slice-before.ensures c.as_slice-after.ensures c.define_count.ensures.count c.define_count-2.ensures.count in
    let len : vec_len c.push_lengths-2.new.out ≡ length c.push_lengths-2.new.out.items = omega (arith, c.push_lengths-2.new.out.ok.0) in
    let lengths = lengths_counted p (defines_in c.args.symbols.now) c.requires.defines c.as_slice-before.result.now c.as_slice-after.result.now c.new-lengths.result.items c.push_lengths.new.out.items c.push_lengths-2.new.out.items
    c.as_slice-before.ensures c.as_slice-after.ensures c.new-lengths.ensures.items c.in_ok-push_lengths.ensures c.in_ok-push_lengths-2.ensures in
    on_ok_weaker c.check_count-4.result
    (λ h. few_cells names
    (few names what.Defines _ defines c.in_ok-check_count.ensures.passes)
    (few names what.Fields _ c.len.ensures c.in_ok-check_count-2.ensures.passes)
    (few names what.Arrays _ (c.len-2.ensures ∙ len ∙ arrays_counted c.push_lengths-2.new.out.items names.arrays lengths) c.in_ok-check_count-3.ensures.passes)
    (few names what.Cells _ (c.total.ensures ∙ ap sum (c.deref.ensures.value ∙ lengths)) h))
    c.check_count-4.ensures.passes

pub returns-clause-refuses : goal.returns-clause-refuses
returns-clause-refuses c =
    let p = c.args.program.now in
    let names = names_of p in
    let defines = defines_counted p c.as_slice-before.result.now c.as_slice-after.result.now _ _ c.as_slice-before.ensures c.as_slice-after.ensures c.define_count.ensures.count c.define_count-2.ensures.count in
    let len : vec_len c.push_lengths-2.new.out ≡ length c.push_lengths-2.new.out.items = omega (arith, c.push_lengths-2.new.out.ok.0) in
    let lengths = lengths_counted p (defines_in c.args.symbols.now) c.requires.defines c.as_slice-before.result.now c.as_slice-after.result.now c.new-lengths.result.items c.push_lengths.new.out.items c.push_lengths-2.new.out.items
    c.as_slice-before.ensures c.as_slice-after.ensures c.new-lengths.ensures.items c.in_ok-push_lengths.ensures c.in_ok-push_lengths-2.ensures in
    let fine = few_arrays names
    (few names what.Defines _ defines c.in_ok-check_count.ensures.passes)
    (few names what.Fields _ c.len.ensures c.in_ok-check_count-2.ensures.passes)
    (few names what.Arrays _ (c.len-2.ensures ∙ len ∙ arrays_counted c.push_lengths-2.new.out.items names.arrays lengths) c.in_ok-check_count-3.ensures.passes) in
    IfErr-weaker c.check_count-4.result _ _
    (λ f h _. many names what.Cells (what.Defines ∷ what.Fields ∷ what.Arrays ∷ []) [] _ f (c.total.ensures ∙ ap sum (c.deref.ensures.value ∙ lengths)) fine h)
    c.check_count-4.ensures.refuses
