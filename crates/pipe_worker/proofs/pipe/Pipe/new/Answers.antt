use Rattle.std.proofs.Common.{◌≡◌, ◌∙◌, ◌-◌, ◌/◌, length, ap, rules}
use Rattle.code_forms.specs.Staged.{slot_count}
use Rattle.shard_rounds.specs.Rounds.{unmoved}
use Rattle.run_laws.specs.Run.{Run, run_of, unit_counts}
use Rattle.packet_lines.specs.Lined.{no_lines}
use Rattle.home_door.specs.Door.{first_door}
use Rattle.pipe_worker.proofs.StartLemmas.{made_lawful}
use Rattle.pipe_worker.proofs.pipe.Pipe.new.Goals as goal

pub invariant_of-result : goal.invariant_of-result
invariant_of-result c =
    let settings = c.args.settings.now in
    let run : Run = run_of c.args.code.now c.args.capture.now settings in
    let count : c.count-count.result ≡ length run.headers = c.count-count.ensures.count in
    let last = c.last_round.ensures.round ∙ ap (λ n. (n - 1) / settings.round) count in
    let fields : c.fields.result ≡ run.code.fields = c.fields.ensures.count in
    let slots : c.slots.result ≡ slot_count run.code = c.slots.ensures in (
      made_lawful run c.new.result c.args.number c.in_ok-owners.field-0 c.in_ok-new.field-0 c.in_ok-new-2.field-0 c.in_ok-new-3.field-0 c.in_ok-new-4.field-0 c.new.ensures c.requires.number c.requires.wide
          (c.in_ok-owners.ensures ∙ ap (unmoved (unit_counts run) settings.pipelines) last)
          (c.in_ok-new.ensures ∙ (λ i. first_door c.args.number settings.pipelines (count i) settings.window (fields i) (slots i)))
          (c.in_ok-new-2.ensures ∙ ap (λ n. no_lines n settings.pipelines settings.window) count)
          c.in_ok-new-3.ensures.row
          c.in_ok-new-4.ensures,
      rw c.new.ensures (search rules),
      rw c.new.ensures (search rules),
    )
