use Rattle.std.proofs.Common.{refl, ◌∙◌, ◌≡◌, arith, rules}
use Rattle.switch_runner.specs.Memory.{faults_of}
use Rattle.switch_runner.proofs.MemoryLemmas.{Counts, counted, not_fewer, stays}
use Rattle.switch_runner.proofs.edge.FileStoreStore.read_at.Goals as goal

pub returns-in-Err-clause-reads : goal.returns-in-Err-clause-reads
returns-in-Err-clause-reads g c =
    let counts : Counts c.listed.new.names.items c.args.name.now c.in_ok-place.place c.index_mut-file.result.now c.count_fault.new.self = record { found = search rules; was = search rules; now = c.count_fault.ensures.risen; more = c.count_fault.ensures.more } in
    let before : faults_of c.listed.new.names.items c.args.name.now ≡ faults_of c.args.self.now.names.items c.args.name.now = c.in_ok-place.ensures.counts c.args.name.now in
    let now = counted _ _ c.args.name.now c.in_ok-place.place _ _ refl counts in
    record {
      only = record {
        told = λ other. refl;
        later = omega (arith, before, not_fewer _ _ c.args.name.now c.in_ok-place.place _ _ refl counts);
        others = λ other ne. stays _ _ c.args.name.now c.in_ok-place.place _ _ refl counts other ne ∙ c.in_ok-place.ensures.counts other;
      };
      failed = λ _. omega (arith, before, now);
    }
