use Rattle.std.proofs.Common.{List, ℕ, bytes_eq, ap, sym, ◌∙◌}
use Rattle.capture_io.specs.Header.{filled}
use Rattle.capture_io.proofs.PacketRows.{passed_source}
use Rattle.capture_io.proofs.source.source_of.Goals as goal

pub loop-source-preserved : goal.loop-source-preserved
loop-source-preserved c =
    sym (passed_source filled c.loop-source.source-index _ c.args.name.now c.loop-source-test.true (ap (λ (text : List ℕ). bytes_eq c.args.name.now text) (sym c.name.ensures) ∙ (sym c.is_named.ensures ∙ c.if-is_named.false))) ∙ c.loop-source.invariant
