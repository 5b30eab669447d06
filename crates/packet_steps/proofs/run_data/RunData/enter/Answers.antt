use Rattle.std.proofs.Common.{◌≡◌, ◌<◌, ℤ, List, length, sym, subst}
use Rattle.code_forms.specs.Staged.{Fits, slot_count, block_start}
use Rattle.run_laws.specs.Run.{Run, run_of, arrivals, values_of}
use Rattle.packet_steps.specs.Packet.{IsOnWay}
use Rattle.packet_steps.proofs.WayLemmas.{enters, block_on, first_way}
use Rattle.packet_steps.proofs.run_data.RunData.enter.Goals as goal

pub arrive-requires-clause-way : goal.arrive-requires-clause-way
arrive-requires-clause-way c =
    let run : Run = run_of c.self.inside.code.now c.self.inside.capture.now c.self.inside.settings in
    let there : c.args.t < arrivals run = subst (λ (r : Run). c.args.t < arrivals r) (sym c.self.view_is) c.requires.arrival in
    let long : length c.args.env ≡ slot_count run.code = subst (λ (r : Run). length c.args.env ≡ slot_count r.code) (sym c.self.view_is) c.requires.env in
    let fits : Fits run.code (values_of run c.args.t) (block_start run.code 0) c.lay_in.new.env =
    subst (λ (e : List ℤ). Fits run.code (values_of run c.args.t) (block_start run.code 0) e) (sym c.lay_in.ensures)
    (enters run c.args.t c.header.result.now c.args.env c.self.invariant there c.header.ensures long) in
    subst (λ (r : Run). IsOnWay r c.args.t 0 c.run_block.new.env _ _) c.self.view_is
    (first_way run c.args.t c.run_block.new.env there
    (block_on run c.args.t 0 c.lay_in.new.env c.run_block.new.env c.self.invariant there c.run_block.ensures fits))
