use Rattle.std.proofs.Common.{◌≡◌, ◌∙◌, ◌++◌, ◌∷◌, [], length, refl, ap, arith}
use Rattle.std.proofs.lemmas.List.{with_items_is}
use Rattle.shard_rounds.specs.Holding.{moved_rows}
use Rattle.shard_rounds.proofs.Rows.{moved_groups}
use Rattle.shard_rounds.proofs.Tables.{log_room, few_moves, table_of, applied_at, applied_is}
use Rattle.shard_rounds.proofs.owners.Owners.apply.Goals as goal

pub unreachable-requires : goal.unreachable-requires
unreachable-requires c =
    let room = log_room _ _ _ _ _ _ _ c.args.plan.now.moves.items c.self.view_is c.self.invariant c.requires.room c.requires.plan in
    omega (arith, c.in-Err.ensures.full, ap length c.deref-2.ensures.value)

pub overflow_cast-len : goal.overflow_cast-len
overflow_cast-len c =
    let few = few_moves c.args.self.now c.args.plan.now.moves.items c.requires.plan in
    let table = table_of _ _ c.self.view_is c.self.invariant.table in
    omega arith

pub invariant_of-self : goal.invariant_of-self
invariant_of-self c =
    let moved : c.move_units.new.rows ≡ moved_rows c.self.inside.rows.items c.args.plan.now.moves.items = c.move_units.ensures ∙ rw (c.deref_mut.ensures.value, c.deref.ensures.value) refl in
    let kept = moved_groups c.self.inside.rows.items c.args.plan.now.moves.items in
    let long : length c.move_units.new.rows ≡ c.self.inside.rows.len = ap length moved ∙ kept ∙ omega arith in
    let logged : c.extend_from_slice.new.self.items ≡ c.self.inside.log.items ++ c.args.plan.now.moves.items = c.in-Ok.ensures.items ∙ rw c.deref-2.ensures.value refl in
    let count : c.len.result ≡ length c.args.plan.now.moves.items = omega arith in
    let sized : c.push_reserved.new.self.items ≡ c.self.inside.sizes.items ++ length c.args.plan.now.moves.items ∷ [] = c.push_reserved.ensures.items ∙ rw count refl in
    applied_at _ _ _ _ _ _ _ _ _ _ _ _ c.args.plan.now.moves.items c.self.view_is c.self.invariant c.requires.room c.requires.plan c.in-Ok.ensures.capacity c.push_reserved.ensures.capacity
    refl (with_items_is c.self.inside.rows c.move_units.new.rows long ∙ moved) logged sized

pub returns : goal.returns
returns c =
    let logged : c.extend_from_slice.new.self.items ≡ c.self.inside.log.items ++ c.args.plan.now.moves.items = c.in-Ok.ensures.items ∙ rw c.deref-2.ensures.value refl in
    let count : c.len.result ≡ length c.args.plan.now.moves.items = omega arith in
    let sized : c.push_reserved.new.self.items ≡ c.self.inside.sizes.items ++ length c.args.plan.now.moves.items ∷ [] = c.push_reserved.ensures.items ∙ rw count refl in
    applied_is _ _ c.self.inside.log.items _ c.args.plan.now.moves.items c.self.inside.sizes.items _ c.self.view_is refl c.self.invariant.whole logged sized
