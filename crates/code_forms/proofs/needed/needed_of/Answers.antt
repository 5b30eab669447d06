use Rattle.std.proofs.Common.{◌≡◌, ◌∙◌, drop, reverse, ap, subst, arith}
use Rattle.std.proofs.lemmas.Result.{IfOk-weaker}
use Rattle.code_forms.specs.Needed.{Follows, Leaves}
use Rattle.code_forms.proofs.NeededLemmas.{follows_before, follows_all}
use Rattle.code_forms.proofs.needed.needed_of.Goals as goal

pub loop-k-preserved : goal.loop-k-preserved
loop-k-preserved c =
    follows_before c.args.slots c.put_before.new.live (reverse c.put_before.new.needed) c.args.header.now c.loop-k.k _ (omega arith) (omega arith)
    (c.in_ok-put_before.ensures c.args.slots (drop c.loop-k.k c.args.header.now) c.loop-k.invariant)

pub returns : goal.returns
returns c =
    let first : c.loop-k.k ≡ 0 = omega (arith, c.loop-k-test.false) in
    let all : Follows c.args.slots c.loop-k.live (reverse c.loop-k.needed) c.args.header.now =
    subst (λ n. Follows c.args.slots c.loop-k.live (reverse c.loop-k.needed) (drop n c.args.header.now)) first c.loop-k.invariant in
    IfOk-weaker c.in_reverse.result _ (λ found. Leaves c.args.slots found c.args.header.now)
    (λ found is. follows_all c.args.slots c.loop-k.live (reverse c.loop-k.needed) found c.args.header.now (is ∙ ap reverse c.as_slice-2.ensures) all) c.in_reverse.ensures
