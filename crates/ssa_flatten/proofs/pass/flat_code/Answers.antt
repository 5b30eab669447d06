-- the code behind all lines and its stores are valid
use Rattle.std.proofs.Common.{◌++◌, ◌∙◌, length, ap, refl, sym, subst, arith}
use Rattle.std.proofs.lemmas.List.{length-map}
use Rattle.code_forms.specs.FlatValid.{is_flat_code}
use Rattle.code_forms.specs.SameIndexes.{SameWords}
use Rattle.ssa_flatten.specs.Views.{View, held, stores_of, AreArrays}
use Rattle.ssa_flatten.specs.declared.sofar.Touches.{Touches}
use Rattle.ssa_flatten.proofs.Going.{few_shapes, end_copies, end_touched, end_instrs, end_arrays}
use Rattle.ssa_flatten.proofs.Valid.{flat_valid}
use Rattle.ssa_flatten.proofs.Meaning.{same_words}
use Rattle.ssa_flatten.proofs.pass.flat_code.Goals as goal

pub push_stores-requires : goal.push_stores-requires
push_stores-requires c =
    let g = c.args.code.now in
    let few = few_shapes g.fields g.arrays g.lines g.valid in
    let many = end_copies g.fields g.arrays g.lines g.valid (held c.in_ok-out.field-0) c.in_ok-out.ensures in
    let same = ap length c.deref.ensures.value in
    omega (arith, few, many, same)

pub flat_arrays-requires-clause-long : goal.flat_arrays-requires-clause-long
flat_arrays-requires-clause-long c =
    let g = c.args.code.now in
    ap length c.deref-2.ensures.value ∙ sym (length-map c.in_ok-out.field-0.arrays.items (λ (t : Touches). t.touched))
    ∙ end_touched g.fields g.arrays g.lines g.valid (held c.in_ok-out.field-0) c.in_ok-out.ensures ∙ sym (ap length c.as_slice-shapes.ensures)

pub returns-clause-instrs : goal.returns-clause-instrs
returns-clause-instrs c =
    let g = c.args.code.now in
    c.from_vec-2.ensures ∙ c.in_ok-push_stores.ensures ∙ ap (λ l. c.in_ok-out.field-0.out.instrs.items ++ stores_of 0 l) c.deref.ensures.value
    ∙ end_instrs g.fields g.arrays g.lines g.valid (held c.in_ok-out.field-0) c.in_ok-out.ensures

pub invariant_of-result : goal.invariant_of-result
invariant_of-result c =
    let g = c.args.code.now in
    let h : View = held c.in_ok-out.field-0 in
    let instrs = c.from_vec-2.ensures ∙ c.in_ok-push_stores.ensures ∙ ap (λ l. c.in_ok-out.field-0.out.instrs.items ++ stores_of 0 l) c.deref.ensures.value
    ∙ end_instrs g.fields g.arrays g.lines g.valid h c.in_ok-out.ensures in
    let last = c.from_vec-3.ensures ∙ ap (λ (v : View). v.fields) c.in_ok-out.ensures in
    let made : AreArrays g.arrays c.in_ok-out.field-0.arrays.items c.from_vec.result =
    subst (λ a. AreArrays g.arrays c.in_ok-out.field-0.arrays.items a) (sym c.from_vec.ensures)
    (subst (λ t. AreArrays g.arrays t c.in_ok-arrays.arrays.items) c.deref-2.ensures.value
    (subst (λ s. AreArrays s c.deref-2.result.now c.in_ok-arrays.arrays.items) c.as_slice-shapes.ensures c.in_ok-arrays.ensures)) in
    let flat = end_arrays g.fields g.arrays g.lines g.valid h c.in_ok-out.field-0.arrays.items c.from_vec.result c.in_ok-out.ensures refl refl made in
    record {
      valid = (λ i. is_flat_code g.fields c.from_vec.result (instrs i) (last i)) ∙ flat_valid g.fields g.arrays g.lines g.valid c.from_vec.result flat c.requires;
      words = subst (SameWords g.fields c.from_vec.result) (sym instrs) (same_words g.fields g.arrays g.lines g.valid c.from_vec.result flat);
    }
