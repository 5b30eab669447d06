use Rattle.std.proofs.Common.{◌≡◌, take}
use Rattle.switch_net.specs.Marks.{word_sum}
use Rattle.report_text.proofs.sums.word_sum.Given as goal

-- the sum of the first words
abbrev pub invariant-loop-word : goal.invariant-loop-word
invariant-loop-word l = record {
  summed : l.sum ≡ word_sum (take l.word-index l.words);
}
