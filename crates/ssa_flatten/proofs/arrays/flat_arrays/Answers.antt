-- one array more is made
use Rattle.std.proofs.Common.{◌≡◌, ◌∙◌, ◌<◌, sym, ap, subst, length, get_or, arith}
use Rattle.code_forms.specs.declared.flat.FlatArray.{FlatArray}
use Rattle.code_forms.specs.GuardMeaning.{index_at}
use Rattle.ssa_flatten.specs.Flattened.{IsLeast}
use Rattle.ssa_flatten.specs.Views.{no_array, with_shape}
use Rattle.ssa_flatten.proofs.Unloaded.{any_default}
use Rattle.ssa_flatten.proofs.ArrayLists.{no_shape, AreMade, made_none, made_more, all_made}
use Rattle.ssa_flatten.proofs.arrays.flat_arrays.Goals as goal

pub loop-array-init : goal.loop-array-init
loop-array-init c = subst (AreMade c.args.shapes.now c.args.touches.now 0) (sym c.in_ok-arrays.ensures.items) (made_none c.args.shapes.now c.args.touches.now)

pub loop-array-preserved : goal.loop-array-preserved
loop-array-preserved c =
    let k = c.loop-array.array in
    let there : k < length c.args.touches.now = omega (arith, c.loop-array-test.true, c.requires.long) in
    let shape : c.index-shapes-array.result ≡ get_or c.args.shapes.now k no_shape = c.index-shapes-array.is ∙ any_default c.args.shapes.now k c.index-shapes-array.result no_shape c.loop-array-test.true in
    let touches : c.index-touches-array.result ≡ get_or c.args.touches.now k no_array = c.index-touches-array.is ∙ any_default c.args.touches.now k c.index-touches-array.result no_array there in
    let made = c.in_ok-flat_array.ensures in
    let same = ap (λ (f : FlatArray). f.same) made in
    made_more c.args.shapes.now c.args.touches.now k c.loop-array.arrays.items _ c.in_ok-flat_array.field-0 c.loop-array.invariant c.in_ok-push.ensures.items
    (record {
      is = made ∙ (λ i. with_shape (shape i) (sym same i) (touches i));
      least = subst (λ n. IsLeast c.args.shapes.now k n (index_at c.args.shapes.now k)) (sym same) c.least_same-same.ensures.least;
    })

pub returns : goal.returns
returns c =
    let all : c.loop-array.array ≡ length c.args.shapes.now = omega (arith, c.loop-array-test.false, c.loop-array.auto.array-end) in
    all_made c.args.shapes.now c.args.touches.now _ c.requires.long (subst (λ n. AreMade c.args.shapes.now c.args.touches.now n c.loop-array.arrays.items) all c.loop-array.invariant)
