-- the lists before the first line
use Rattle.std.proofs.Common.{◌∙◌, ◌++◌, ◌∷◌, [], pos, ap}
use Rattle.code_forms.specs.declared.flat.Operand.TheVariants as operand
use Rattle.ssa_flatten.specs.Views.{touched_lists, copy_lists}
use Rattle.ssa_flatten.proofs.Starting.{start_view}
use Rattle.ssa_flatten.proofs.pass.start.Goals as goal

pub returns : goal.returns
returns c =
    (λ i. record {
      instrs = c.new.ensures.items i;
      next = c.args.header;
      fields = c.in_ok-fields.fields.items;
      copies = c.in_ok-copies.copies.items;
      guards = c.push.new.self.items;
      touched = touched_lists c.in_ok-arrays.arrays.items;
      later = copy_lists c.in_ok-arrays.arrays.items;
    })
    ∙ start_view c.args.header c.args.shapes.now c.in_ok-fields.fields.items c.push.new.self.items c.in_ok-copies.copies.items c.in_ok-arrays.arrays.items
    c.in_ok-fields.ensures c.in_ok-copies.ensures (c.in_ok-push.ensures.items ∙ ap (λ l. l ++ operand.Number (pos 1) ∷ []) c.new-guards.ensures.items) c.in_ok-arrays.ensures
