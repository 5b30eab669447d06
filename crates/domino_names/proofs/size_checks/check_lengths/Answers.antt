use Rattle.std.proofs.Common.{List, ◌++◌, OnOk, sym, ◌∙◌, subst}
use Rattle.std.proofs.lemmas.Result.{err_from_is_err_and, on_ok_weaker, IfErr-weaker}
use Rattle.domino_tree.specs.declared.program.Item.{Item}
use Rattle.domino_tree.specs.Value.{Defined}
use Rattle.domino_names.specs.declared.fault.CheckFault.{CheckFault}
use Rattle.domino_names.specs.First.{FirstFault, NoFault, IfRefused}
use Rattle.domino_names.specs.Checks.{BadLengthAt}
use Rattle.domino_names.specs.Symbols.{defines_in}
use Rattle.domino_names.proofs.FirstLemmas.{none_both, first_left, first_right}
use Rattle.domino_names.proofs.size_checks.check_lengths.Goals as goal

pub returns-clause-passes : goal.returns-clause-passes
returns-clause-passes c =
    let Amiss = BadLengthAt (defines_in c.args.symbols.now) in
    subst (λ (defines : List Defined). OnOk c.check_items-2.result (NoFault (BadLengthAt defines) (c.args.program.now.before ++ c.args.program.now.after))) c.requires.defines
    (on_ok_weaker c.check_items-2.result
    (λ h. none_both Amiss (λ before other x f a. a) c.args.program.now.before c.args.program.now.after
    (subst (NoFault Amiss) c.as_slice.ensures c.in_ok-check_items.ensures.passes)
    (subst (NoFault Amiss) c.as_slice-2.ensures h))
    c.check_items-2.ensures.passes)

pub returns-clause-refuses : goal.returns-clause-refuses
returns-clause-refuses c =
    let Amiss = BadLengthAt (defines_in c.args.symbols.now) in
    subst (λ (defines : List Defined). IfRefused c.check_items-2.result (FirstFault (BadLengthAt defines) (c.args.program.now.before ++ c.args.program.now.after))) c.requires.defines
    (IfErr-weaker c.check_items-2.result _ _
    (λ f h n. first_right Amiss (λ before other x g a. a) c.args.program.now.before c.args.program.now.after f
    (subst (NoFault Amiss) c.as_slice.ensures c.in_ok-check_items.ensures.passes)
    (subst (λ (items : List Item). FirstFault Amiss items f) c.as_slice-2.ensures (h n)))
    c.check_items-2.ensures.refuses)

pub returns-in_err-check_items-clause-refuses : goal.returns-in_err-check_items-clause-refuses
returns-in_err-check_items-clause-refuses c =
    let Amiss = BadLengthAt (defines_in c.args.symbols.now) in
    let p = err_from_is_err_and c.from_residual.result c.from_residual.ensures.1 in
    rw p.1
    (λ n. subst (λ (defines : List Defined). FirstFault (BadLengthAt defines) (c.args.program.now.before ++ c.args.program.now.after) p.0) c.requires.defines
    (first_left Amiss c.args.program.now.before c.args.program.now.after p.0
    (subst (λ (f : CheckFault). FirstFault Amiss c.args.program.now.before f) (sym p.2)
    (subst (λ (items : List Item). FirstFault Amiss items c.in_err-check_items.field-0.0) c.as_slice.ensures
    (c.in_err-check_items.ensures.refuses (λ e. n (p.2 ∙ e)))))))
