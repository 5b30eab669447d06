-- the loads that are left are fewer by this one
use Rattle.std.proofs.Common.{◌∙◌, ap, sym, length, length-set, arith}
use Rattle.std.proofs.lemmas.List.{length-map}
use Rattle.ssa_flatten.specs.declared.sofar.Touches.{Touches}
use Rattle.ssa_flatten.specs.Views.{View}
use Rattle.ssa_flatten.proofs.Unloaded.{one_loaded}
use Rattle.code_forms.specs.declared.flat.Operand.TheVariants as operand
use Rattle.ssa_flatten.proofs.sofar.Sofar.load.Goals as goal

pub index-requires-clause-room : goal.index-requires-clause-room
index-requires-clause-room c =
    let one = one_loaded c.args.shapes.now c.args.self.now.copies.items c.args.array (operand.Slot 0) c.requires.copies c.requires.there c.requires.new in
    omega (arith, one, c.requires.room)

pub emit-requires : goal.emit-requires
emit-requires c =
    let one = one_loaded c.args.shapes.now c.args.self.now.copies.items c.args.array (operand.Slot 0) c.requires.copies c.requires.there c.requires.new in
    omega (arith, one, c.requires.room, c.in_ok-index.ensures.count)

pub emit-requires-2 : goal.emit-requires-2
emit-requires-2 c =
    let one = one_loaded c.args.shapes.now c.args.self.now.copies.items c.args.array (operand.Slot 0) c.requires.copies c.requires.there c.requires.new in
    omega (arith, one, c.requires.room, c.in_ok-index.ensures.count, c.in_ok-emit.ensures.next)

pub returns-clause-keeps : goal.returns-clause-keeps
returns-clause-keeps c =
    let one = one_loaded c.args.shapes.now c.args.self.now.copies.items c.args.array c.in_ok-word.word c.requires.copies c.requires.there c.requires.new in
    let same = c.in_ok-index.ensures.instrs in
    record {
      room = rw (ap (λ (v : View). v.copies) same) (omega (arith, one, c.in_ok-index.ensures.count, c.in_ok-emit.ensures.next, c.in_ok-word.ensures.next));
      copies = length-set c.index.new.self.copies.items c.args.array _ ∙ ap (λ (v : View). length v.copies) same;
      arrays = sym (length-map c.index.new.self.arrays.items (λ (f : Touches). f.touched)) ∙ ap (λ (v : View). length v.touched) same ∙ length-map c.args.self.now.arrays.items (λ (f : Touches). f.touched);
      grows = omega (arith, c.in_ok-index.ensures.count, c.in_ok-emit.ensures.next, c.in_ok-word.ensures.next);
    }
