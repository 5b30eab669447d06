use Rattle.std.proofs.Common.{sym, subst, length, ◌≤◌, ap}
use Rattle.source_rows.proofs.ShardLemmas.{no_index_past}
use Rattle.source_rows.proofs.shards.index_at.Goals as goal

pub returns-else-a-arrays : goal.returns-else-a-arrays
returns-else-a-arrays c =
    sym (no_index_past c.args.checked.now c.args.a c.program-program.ensures.passes (subst (λ n. n ≤ c.args.a) (ap length c.arrays.ensures.arrays) c.if-a-arrays.false))
