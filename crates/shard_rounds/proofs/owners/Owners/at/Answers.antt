use Rattle.std.proofs.Common.{◌≡◌, ◌<◌, ◌+◌, ◌-◌, ◌∙◌, ℕ, List, Some, None, length, drop, sum, slice_index, find, option_map, refl, subst, sym, ap, arith}
use Rattle.shard_rounds.specs.declared.plan.Move.{Move}
use Rattle.shard_rounds.specs.Holding.{concerns, row_at}
use Rattle.shard_rounds.proofs.Tables.{owner_is_pipe, table_of, row_is, groups_of, last_moves, few_logged, tail_is, owner_at}
use Rattle.shard_rounds.proofs.owners.Owners.at.Goals as goal

pub total-recent-requires : goal.total-recent-requires
total-recent-requires c =
    let parts = last_moves c.self.inside.sizes.items c.self.inside.log.items c.args.e c.self.invariant.whole in
    let few = few_logged _ _ _ _ _ _ c.self.invariant in
    rw (c.deref.ensures.value, tail_is c.args.e c.self.inside.sizes.items) (omega arith)

pub overflow_sub-start : goal.overflow_sub-start
overflow_sub-start c =
    let parts = last_moves c.self.inside.sizes.items c.self.inside.log.items c.args.e c.self.invariant.whole in
    let recent : c.total-recent.result ≡ sum (drop c.args.e c.self.inside.sizes.items) =
    c.total-recent.ensures ∙ rw (c.deref.ensures.value, tail_is c.args.e c.self.inside.sizes.items) refl in
    omega arith

pub returns-in-Some-clause-owner : goal.returns-in-Some-clause-owner
returns-in-Some-clause-owner c =
    let parts = last_moves c.self.inside.sizes.items c.self.inside.log.items c.args.e c.self.invariant.whole in
    let recent : c.total-recent.result ≡ sum (drop c.args.e c.self.inside.sizes.items) =
    c.total-recent.ensures ∙ rw (c.deref.ensures.value, tail_is c.args.e c.self.inside.sizes.items) refl in
    let start = c.len.result - c.total-recent.result in
    let begins : start + sum (drop c.args.e c.self.inside.sizes.items) ≡ length c.self.inside.log.items = omega arith in
    let finds : c.first_giver.result ≡ option_map (λ (m : Move). m.giver) (find (concerns c.args.g c.args.u) (drop start c.self.inside.log.items)) =
    c.first_giver.ensures ∙ rw (c.deref-2.ensures.value, tail_is start c.self.inside.log.items) refl in
    let found : Some c.in-Some.giver ≡ option_map (λ (m : Move). m.giver) (find (concerns c.args.g c.args.u) (drop start c.self.inside.log.items)) = sym c.in-Some.is ∙ finds in
    owner_at _ _ _ _ _ _ _ c.args.e c.args.g c.args.u start (slice_index (row_at c.self.inside.rows.items c.args.g) c.args.u) (Some c.in-Some.giver) c.self.view_is c.self.invariant refl c.requires.unit begins found refl

pub returns-in-Some-clause-pipe : goal.returns-in-Some-clause-pipe
returns-in-Some-clause-pipe c =
    subst (λ n. n < c.args.self.now.pipelines) (sym (returns-in-Some-clause-owner c)) (owner_is_pipe c.args.self.now c.args.e c.args.g c.args.u (table_of _ _ c.self.view_is c.self.invariant.table))

pub returns-in-None-clause-owner : goal.returns-in-None-clause-owner
returns-in-None-clause-owner c =
    let parts = last_moves c.self.inside.sizes.items c.self.inside.log.items c.args.e c.self.invariant.whole in
    let recent : c.total-recent.result ≡ sum (drop c.args.e c.self.inside.sizes.items) =
    c.total-recent.ensures ∙ rw (c.deref.ensures.value, tail_is c.args.e c.self.inside.sizes.items) refl in
    let start = c.len.result - c.total-recent.result in
    let in' = groups_of _ _ _ _ _ _ _ c.args.g c.self.view_is c.self.invariant c.requires.unit.group in
    let row = row_is c.self.inside.rows.items c.args.g c.index.result.now in' c.index.ensures in
    let begins : start + sum (drop c.args.e c.self.inside.sizes.items) ≡ length c.self.inside.log.items = omega arith in
    let finds : c.first_giver.result ≡ option_map (λ (m : Move). m.giver) (find (concerns c.args.g c.args.u) (drop start c.self.inside.log.items)) =
    c.first_giver.ensures ∙ rw (c.deref-2.ensures.value, tail_is start c.self.inside.log.items) refl in
    let found : None ≡ option_map (λ (m : Move). m.giver) (find (concerns c.args.g c.args.u) (drop start c.self.inside.log.items)) = sym c.in-None.is ∙ finds in
    owner_at _ _ _ _ _ _ _ c.args.e c.args.g c.args.u start c.at.result None c.self.view_is c.self.invariant refl c.requires.unit begins found (c.at.ensures ∙ ap (λ (r : List ℕ). slice_index r c.args.u) row)

pub returns-in-None-clause-pipe : goal.returns-in-None-clause-pipe
returns-in-None-clause-pipe c =
    subst (λ n. n < c.args.self.now.pipelines) (sym (returns-in-None-clause-owner c)) (owner_is_pipe c.args.self.now c.args.e c.args.g c.args.u (table_of _ _ c.self.view_is c.self.invariant.table))
