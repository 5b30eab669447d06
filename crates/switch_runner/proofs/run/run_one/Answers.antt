use Rattle.std.proofs.Common.{◌≡◌, ◌*◌, ◌++◌, ◌∙◌, ℕ, ℤ, List, length, take, drop, sym, ap, subst, arith}
use Rattle.std.proofs.Math.Seq.{take-append_seam}
use Rattle.switch_runner.specs.Running.{IsEnd}
use Rattle.switch_runner.specs.Top.{AreWide}
use Rattle.capture_io.specs.Rows.{rows}
use Rattle.switch_runner.proofs.Lengths.{bench-cells}
use Rattle.switch_runner.proofs.RunLemmas.{run_end}
use Rattle.switch_runner.proofs.TopLemmas.{flat_length}
use Rattle.switch_runner.proofs.run.run_one.Goals as goal

pub run_packets-requires : goal.run_packets-requires
run_packets-requires c =
    let width : length c.args.checked.now.packet.fields ≡ c.count-width.result = sym (c.count-width.ensures.count ∙ ap (λ (names : List (List ℕ)). length names) c.field_names.ensures) in
    ap (λ (ws : List ℤ). length ws) (c.as_mut_slice.ensures.value ∙ c.into_words-packets.ensures)
    ∙ flat_length (length c.args.checked.now.packet.fields) c.args.capture c.requires
    ∙ ap (λ (n : ℕ). n * length c.args.checked.now.packet.fields) (sym c.count-count.ensures.count)
    ∙ ap (λ (n : ℕ). c.count-count.result * n) width

pub all_cells-requires-clause-held : goal.all_cells-requires-clause-held
all_cells-requires-clause-held c =
    bench-cells c.args.checked.now c.in_ok-bench.bench c.run_packets.new.bench (rows c.count-count.result c.count-width.result c.as_mut_slice.result.now) c.in_ok-bench.ensures c.run_packets.ensures.cells

pub returns : goal.returns
returns c =
    let width : length c.args.checked.now.packet.fields ≡ c.count-width.result = sym (c.count-width.ensures.count ∙ ap (λ (names : List (List ℕ)). length names) c.field_names.ensures) in
    let new : List ℤ = c.run_packets.new.packets in
    let behind : List ℤ = drop (length new) c.into_words-packets.result.items in
    let long : c.into_words-packets.result.len ≡ length new = omega (arith, c.run_packets.auto.packets, c.as_mut_slice.ensures.len) in
    subst (λ (ws : List ℤ). IsEnd c.args.checked.now c.args.capture c.count-count.result ws c.in_ok-cells.cells.items) (sym (ap (λ (n : ℕ). take n (new ++ behind)) long ∙ take-append_seam new behind))
    (run_end c.args.checked.now c.in_ok-bench.bench c.args.capture c.count-count.result c.count-width.result c.as_mut_slice.result.now new c.in_ok-cells.cells.items c.run_packets.new.bench
    c.in_ok-bench.ensures (subst (λ (n : ℕ). AreWide n c.args.capture) width c.requires) c.count-count.ensures.count (c.as_mut_slice.ensures.value ∙ c.into_words-packets.ensures)
    c.run_packets.ensures.packets c.run_packets.ensures.cells c.in_ok-cells.ensures)
