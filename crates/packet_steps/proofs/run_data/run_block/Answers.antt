use Rattle.std.proofs.Common.{◌≡◌, ℤ, List, length, sym, ap, subst, ◌∙◌}
use Rattle.code_forms.specs.Staged.{Fits, block_start, group_start}
use Rattle.code_forms.specs.StagedMeaning.{staged_values}
use Rattle.pipe_parts.specs.EnvWords.{refilled}
use Rattle.packet_steps.proofs.run_data.run_block.Goals as goal

pub returns : goal.returns
returns c = λ header units long held fits.
    let size : length c.run_block.new.env ≡ length c.args.env.now = c.run_block.auto.env ∙ ap length c.words_mut.ensures.words in
    let same : refilled c.args.env.now c.run_block.new.env ≡ c.run_block.new.env = c.words_mut.ensures.whole c.run_block.new.env size in
    subst (λ (e : List ℤ). Fits c.args.code.now (staged_values c.args.code.now units header) (group_start c.args.code.now c.args.b) e) (sym same)
    (c.run_block.ensures header units long held
    (subst (λ (e : List ℤ). Fits c.args.code.now (staged_values c.args.code.now units header) (block_start c.args.code.now c.args.b) e) (sym c.words_mut.ensures.words) fits))
