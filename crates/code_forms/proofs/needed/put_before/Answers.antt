use Rattle.std.proofs.Common.{◌≡◌, ◌∙◌, ◌==◌, ℕ, false, reverse, sym, ap}
use Rattle.std.specs.List.{list_any}
use Rattle.code_forms.proofs.NeededLemmas.{follows_put, follows_less}
use Rattle.code_forms.proofs.needed.put_before.Goals as goal

pub returns-in_ok-add_reads : goal.returns-in_ok-add_reads
returns-in_ok-add_reads c asked all so_far =
    follows_put asked c.args.live.now c.add_reads.new.slots c.args.needed.now c.push.new.self all c.args.step c.in_ok-push.ensures.ok c.in_ok-add_reads.ensures so_far

pub returns-else-contains : goal.returns-else-contains
returns-else-contains c asked all so_far =
    let none : list_any (λ (b : ℕ). b == c.args.step.slot) c.args.live.now ≡ false = ap (list_any (λ (b : ℕ). b == c.args.step.slot)) (sym c.as_slice.ensures) ∙ sym c.contains.ensures.value ∙ c.if-contains.false in
    follows_less asked c.args.live.now (reverse c.args.needed.now) all c.args.step none so_far
