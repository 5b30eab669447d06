use Rattle.std.proofs.Common.{◌≡◌, length, sym, subst}
use Rattle.code_forms.specs.StagedMeaning.{last_words}
use Rattle.run_laws.specs.Run.{Run, run_of, values_of}
use Rattle.packet_steps.specs.Packet.{IsPacket}
use Rattle.packet_steps.proofs.WayLemmas.{finished}
use Rattle.packet_steps.proofs.run_data.RunData.finish.Goals as goal

pub returns : goal.returns
returns c =
    subst (λ (r : Run). c.finish.new.fields ≡ last_words r.code (values_of r c.args.packet.now.t)) c.self.view_is
    (finished (run_of c.self.inside.code.now c.self.inside.capture.now c.self.inside.settings) c.args.packet.now c.words.result.now c.finish.new.fields c.self.invariant
    (subst (λ (r : Run). IsPacket r c.args.packet.now) (sym c.self.view_is) c.requires.packet)
    (subst (λ (r : Run). c.args.packet.now.g ≡ length r.code.groups) (sym c.self.view_is) c.requires.group)
    c.words.ensures c.finish.ensures)
