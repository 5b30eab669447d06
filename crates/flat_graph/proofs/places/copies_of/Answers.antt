-- one array before is noted
use Rattle.std.proofs.Common.{◌≡◌, ◌<◌, ◌-◌, ◌∙◌, All, drop, get_or, length, [], sym, ap, subst, arith}
use Rattle.std.proofs.lemmas.List.{get_or-map}
use Rattle.code_forms.specs.declared.flat.FlatArray.{FlatArray}
use Rattle.flat_graph.specs.Orders.{AreCopies, copies_in}
use Rattle.flat_graph.proofs.PlaceLemmas.{copies_before, taken}
use Rattle.flat_graph.proofs.places.copies_of.Goals as goal

pub mark-requires : goal.mark-requires
mark-requires c =
    let n = c.loop-array.array - 1 in
    let there : n < length c.args.arrays.now = omega arith in
    let same : get_or (copies_in c.args.arrays.now) n [] ≡ c.as_slice.result.now =
    get_or-map (λ (g : FlatArray). g.copies) c.args.arrays.now n c.index-arrays-array.result [] there ∙ sym c.as_slice.ensures in
    let long : length c.deref_mut.result.now ≡ c.args.count = ap length c.deref_mut.ensures.value ∙ c.loop-array.invariant.long in
    subst (λ l. All (λ m. m < length c.deref_mut.result.now) l) same
    (subst (λ m. All (λ k. k < m) (get_or (copies_in c.args.arrays.now) n [])) (sym long) (c.requires.copies n there))

pub loop-array-preserved : goal.loop-array-preserved
loop-array-preserved c =
    let n = c.loop-array.array in
    let value = c.deref_mut.ensures.value in
    let long : length c.deref_mut.result.now ≡ c.args.count = ap length value ∙ c.loop-array.invariant.long in
    let all = taken c.loop-array.copies.len c.mark.new.copies _ (sym c.deref_mut.ensures.len ∙ sym c.mark.ensures.long) in
    record {
      long = ap length all ∙ c.mark.ensures.long ∙ long;
      copies = subst (AreCopies c.args.count (n - 1) (drop (n - 1) (copies_in c.args.arrays.now))) (sym all)
          (copies_before c.args.count n c.args.arrays.now c.index-arrays-array.result c.as_slice.result.now c.deref_mut.result.now c.mark.new.copies (omega arith) (omega arith) c.as_slice.ensures
          (λ k less. c.mark.ensures.marked k (subst (λ m. k < m) (sym long) less))
          (subst (AreCopies c.args.count n (drop n (copies_in c.args.arrays.now))) (sym value) c.loop-array.invariant.copies));
    }
