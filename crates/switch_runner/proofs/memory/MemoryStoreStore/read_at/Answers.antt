use Rattle.std.proofs.Common.{◌≡◌, ap, rules}
use Rattle.switch_runner.proofs.MemoryLemmas.{counted, failed_read}
use Rattle.switch_runner.proofs.memory.MemoryStoreStore.read_at.Goals as goal

pub returns-then-contains-clause-reads : goal.returns-then-contains-clause-reads
returns-then-contains-clause-reads c =
    let same : c.self.inside.files.items ≡ c.args.self.now.files = ap (λ s. s.files) c.self.view_is in
    failed_read _ _ c.args.name.now c.in-Some.place _ _ same (record { found = search rules; was = search rules; now = c.count_fault.ensures.risen; more = c.count_fault.ensures.more })

pub returns-then-contains-clause-counted : goal.returns-then-contains-clause-counted
returns-then-contains-clause-counted c =
    let same : c.self.inside.files.items ≡ c.args.self.now.files = ap (λ s. s.files) c.self.view_is in
    counted _ _ c.args.name.now c.in-Some.place _ _ same (record { found = search rules; was = search rules; now = c.count_fault.ensures.risen; more = c.count_fault.ensures.more })
