use Rattle.std.proofs.Common.{◌∙◌, ◌++◌, ap, refl, arith}
use Rattle.std.proofs.lemmas.Result.{err_from_is_err_and}
use Rattle.switch_runner.specs.Writing.{at}
use Rattle.switch_runner.proofs.TransferLemmas.{TookFront-first, TookFront-second}
use Rattle.switch_runner.proofs.WritingLemmas.{puts_through, wrote_flushed, wrote_through}
use Rattle.switch_runner.proofs.block.Block.put_past.Goals as goal

pub returns-in_err-flush : goal.returns-in_err-flush
returns-in_err-flush g c =
    let p = err_from_is_err_and c.from_residual.result c.from_residual.ensures.1 in
    rw p.1 (record {
      front = TookFront-first _ _ _ _ _ refl c.in_err-flush.ensures.err.front;
      later = c.in_err-flush.ensures.err.later;
      rose = c.in_err-flush.ensures.err.rose;
    })

pub returns-then-add : goal.returns-then-add
returns-then-add g c =
    wrote_flushed c.args.piece.now
    (at c.args.self.now (g.K.Sink.seen c.args.out.now))
    (at c.add.new.self (g.K.Sink.seen c.flush.new.out))
    c.args.self.now refl (c.if-add.ensures.added ∙ ap (λ l. l ++ c.args.piece.now) c.in_ok-flush.ensures.empty) c.in_ok-flush.ensures.ok.taken c.in_ok-flush.ensures.ok.later

pub returns : goal.returns
returns g c =
    let before = at c.args.self.now (g.K.Sink.seen c.args.out.now) in
    let after = at c.add.new.self (g.K.Sink.seen c.write_all.new.out) in
    puts_through c.write_all.result c.args.piece.now (g.K.Sink.seen c.flush.new.out) (g.K.Sink.seen c.write_all.new.out) c.args.piece.now before after
    c.write_all.ensures.ok c.write_all.ensures.err
    (λ grew. wrote_through c.args.piece.now before after (g.K.Sink.seen c.flush.new.out).taken c.args.self.now refl (c.if-add.ensures.kept ∙ c.in_ok-flush.ensures.empty)
    c.in_ok-flush.ensures.ok.taken grew.taken (omega (arith, c.in_ok-flush.ensures.ok.later, grew.later)))
    (λ stopped. record {
      front = TookFront-second _ _ _ _ _ _ refl c.in_ok-flush.ensures.ok.taken stopped.front;
      later = omega (arith, c.in_ok-flush.ensures.ok.later, stopped.later);
      rose = omega (arith, c.in_ok-flush.ensures.ok.later, stopped.rose);
    })
