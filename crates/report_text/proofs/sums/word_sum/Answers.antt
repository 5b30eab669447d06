use Rattle.std.proofs.Common.{FitsSigned, slice_index_or, pos, w32, rules, arith}
use Rattle.switch_net.proofs.MarkLemmas.{next_word}
use Rattle.report_text.proofs.sums.word_sum.Goals as goal

pub loop-word-preserved : goal.loop-word-preserved
loop-word-preserved c =
    let fits : FitsSigned w32 (slice_index_or c.args.words.now c.loop-word.word-index (pos 0)) = search rules in
    record {
      summed = next_word c.args.words.now c.loop-word.word-index c.loop-word.sum-bits c.loop-word-test.true (omega arith) fits c.loop-word.invariant.summed;
    }
