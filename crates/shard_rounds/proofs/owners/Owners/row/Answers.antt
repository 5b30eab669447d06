use Rattle.std.proofs.Common.{◌∙◌}
use Rattle.shard_rounds.proofs.Choosing.{row_owners}
use Rattle.shard_rounds.proofs.Tables.{row_is, groups_of}
use Rattle.shard_rounds.proofs.owners.Owners.row.Goals as goal

pub returns : goal.returns
returns c =
    let in' = groups_of _ _ _ _ _ _ _ c.args.g c.self.view_is c.self.invariant c.requires in
    c.as_slice.ensures ∙ row_is c.self.inside.rows.items c.args.g c.index.result.now in' c.index.ensures ∙ row_owners _ _ c.self.inside.rows.items c.args.g c.self.view_is c.self.invariant.rows_are c.requires
