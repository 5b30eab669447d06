use Rattle.std.proofs.Common.{◌≡◌, ◌+◌, ◌-◌, ◌∙◌, ◌<◌, List, length, take, drop, sum, slice_index, slice_index_or, refl, ap, subst, sym, arith}
use Rattle.std.proofs.lemmas.Grind.{get_or_default_zero}
use Rattle.shard_rounds.specs.declared.plan.Move.{Move}
use Rattle.shard_rounds.specs.Rounds.{OwnerTable}
use Rattle.shard_rounds.specs.Holding.{cut}
use Rattle.shard_rounds.proofs.Tables.{last_moves, few_logged, tail_is, plan_at}
use Rattle.shard_rounds.proofs.owners.Owners.plan.Goals as goal

pub total-requires : goal.total-requires
total-requires c =
    let parts = last_moves c.self.inside.sizes.items c.self.inside.log.items c.args.e c.self.invariant.whole in
    let few = few_logged _ _ _ _ _ _ c.self.invariant in
    rw (c.deref.ensures.value, tail_is c.args.e c.self.inside.sizes.items) (omega arith)

pub overflow_sub-start : goal.overflow_sub-start
overflow_sub-start c =
    let parts = last_moves c.self.inside.sizes.items c.self.inside.log.items c.args.e c.self.invariant.whole in
    let recent : c.total.result ≡ sum (drop c.args.e c.self.inside.sizes.items) =
    c.total.ensures ∙ rw (c.deref.ensures.value, tail_is c.args.e c.self.inside.sizes.items) refl in
    omega arith

pub returns : goal.returns
returns c =
    let parts = last_moves c.self.inside.sizes.items c.self.inside.log.items c.args.e c.self.invariant.whole in
    let recent : c.total.result ≡ sum (drop c.args.e c.self.inside.sizes.items) =
    c.total.ensures ∙ rw (c.deref.ensures.value, tail_is c.args.e c.self.inside.sizes.items) refl in
    let start = c.len.result - c.total.result in
    let begins : start + sum (drop c.args.e c.self.inside.sizes.items) ≡ length c.self.inside.log.items = omega arith in
    let plans : c.args.e < length (cut c.self.inside.sizes.items c.self.inside.log.items) =
    subst (λ (o : OwnerTable). c.args.e < length o.plans) (sym c.self.view_is) c.requires in
    let known : c.args.e < length c.self.inside.sizes.items = (let counted = c.self.invariant.counted in omega (arith, counted, plans)) in
    let count : c.index.result.now ≡ slice_index c.self.inside.sizes.items c.args.e = c.index.ensures ∙ get_or_default_zero c.self.inside.sizes.items c.args.e c.index.result.now known in
    let width : start + c.index.result.now - start ≡ c.index.result.now = omega arith in
    (λ i. take (width i) (drop start (c.deref-2.ensures.value i)))
    ∙ (plan_at _ _ c.self.inside.log.items c.self.inside.sizes.items c.args.e start c.index.result.now c.self.view_is refl c.self.invariant.whole known begins count)
