-- The words' bytes, mixed in one word after another, are mixed in as one list.
use Rattle.std.proofs.Common.{ap, ◌∙◌, ◌++◌}
use Rattle.mp5_words.specs.Words.{mix, mixed, word_bytes}
use Rattle.mp5_words.proofs.HashLemmas.{mixed_three, after_passed}
use Rattle.mp5_words.proofs.hashing.state_of.Goals as goal

pub returns-in-Three : goal.returns-in-Three
returns-in-Three c =
    let salted = c.after_byte-salted.ensures ∙ ap (mix 2166136261) c.salt_of.ensures in
    let all = mixed_three c.after_byte-salted.result c.after_word.result c.after_word-state.result c.after_word-in-Three.result (word_bytes c.args.a) (word_bytes c.args.b) (word_bytes c.args.c) (after_passed _ _ c.args.a c.ranges.a c.after_word.ensures) (after_passed _ _ c.args.b c.ranges.b c.after_word-state.ensures) (after_passed _ _ c.args.c c.ranges.c c.after_word-in-Three.ensures) in
    rw c.in-Three.is (all ∙ ap (λ s. mixed s ((word_bytes c.args.a ++ word_bytes c.args.b) ++ word_bytes c.args.c)) (rw c.in-Three.is at salted))
