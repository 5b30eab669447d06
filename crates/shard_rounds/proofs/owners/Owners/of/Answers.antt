use Rattle.std.proofs.Common.{◌<◌, ◌∙◌, ℕ, List, slice_index, subst, sym, ap}
use Rattle.shard_rounds.proofs.Tables.{now_is_pipe, table_of, row_is, row_read, groups_of}
use Rattle.shard_rounds.proofs.owners.Owners.of.Goals as goal

pub returns-clause-pipe : goal.returns-clause-pipe
returns-clause-pipe c =
    let in' = groups_of _ _ _ _ _ _ _ c.args.g c.self.view_is c.self.invariant c.requires.group in
    let row = row_is c.self.inside.rows.items c.args.g c.index.result.now in' c.index.ensures in
    let is = c.at.ensures ∙ ap (λ (r : List ℕ). slice_index r c.args.u) row ∙ row_read _ _ _ _ _ _ _ c.args.g c.args.u c.self.view_is c.self.invariant c.requires in
    subst (λ n. n < c.args.self.now.pipelines) (sym is) (now_is_pipe c.args.self.now c.args.g c.args.u (table_of _ _ c.self.view_is c.self.invariant.table))
