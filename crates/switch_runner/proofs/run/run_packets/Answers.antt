use Rattle.std.proofs.Common.{◌≡◌, ◌*◌, ◌+◌, ◌≤◌, ℕ, subst, arith}
use Rattle.capture_io.proofs.PacketRows.{row_within}
use Rattle.switch_runner.proofs.RunLemmas.{Comes, comes_first, comes_next, ended_packets, ended_bench}
use Rattle.switch_runner.proofs.run.run_packets.Goals as goal

pub loop-t-init : goal.loop-t-init
loop-t-init c = comes_first _ _ _ _ c.requires

pub returns-clause-packets : goal.returns-clause-packets
returns-clause-packets c =
    let at_end : c.loop-t.t ≡ c.args.count = omega (arith, c.loop-t.auto.t-end, c.loop-t-test.false) in
    ended_packets c.args.bench.now c.loop-t.bench c.args.packets.now c.loop-t.packets c.args.count c.args.width
    (subst (λ (t : ℕ). Comes c.args.bench.now c.loop-t.bench c.args.packets.now c.loop-t.packets c.args.count c.args.width t) at_end c.loop-t.invariant)

pub returns-clause-cells : goal.returns-clause-cells
returns-clause-cells c =
    let at_end : c.loop-t.t ≡ c.args.count = omega (arith, c.loop-t.auto.t-end, c.loop-t-test.false) in
    ended_bench c.args.bench.now c.loop-t.bench c.args.packets.now c.loop-t.packets c.args.count c.args.width
    (subst (λ (t : ℕ). Comes c.args.bench.now c.loop-t.bench c.args.packets.now c.loop-t.packets c.args.count c.args.width t) at_end c.loop-t.invariant)

pub loop-t-preserved : goal.loop-t-preserved
loop-t-preserved c =
    let within : c.loop-t.t * c.args.width + c.args.width ≤ c.args.count * c.args.width = row_within c.loop-t.t c.args.count c.args.width c.loop-t-test.true in
    let before = c.loop-t.invariant in
    comes_next c.args.bench.now c.loop-t.bench c.run_packet.new.bench c.args.packets.now c.loop-t.packets c.run_packet.new.packets c.args.count c.args.width c.loop-t.t c.loop-t-test.true
    (record { within = omega (arith, before.long, within); new_is = c.run_packet.ensures.packet; wide = c.run_packet.ensures.wide })
    c.run_packet.ensures.cells before
