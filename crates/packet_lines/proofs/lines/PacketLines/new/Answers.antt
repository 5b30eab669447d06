use Rattle.std.proofs.Common.{◌≡◌, replicate, refl, rules}
use Rattle.packet_lines.proofs.Start.{new_kept}
use Rattle.packet_lines.proofs.lines.PacketLines.new.Goals as goal

pub invariant_of-result : goal.invariant_of-result
invariant_of-result c =
    let none : c.in_ok-vec.field-0.items ≡ replicate c.args.pipes 0 = search rules in
    new_kept c.args.arrivals c.args.pipes c.args.window c.requires.some_pipe c.requires.pipes c.requires.window _ refl _ _ _ c.in_ok-new.ensures c.in_ok-new-2.ensures none
