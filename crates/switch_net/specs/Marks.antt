-- What a fabric tells of its runs.
use Rattle.std.specs.Prelude.{◌≡◌, ◌≤◌, ◌+◌, ◌-◌, ◌^◌, ℕ, min, ℤ, pos, ◌+ℤ◌, List, sum, Option, Some}
use Rattle.std.specs.List.{fold}
use Rattle.mp5_words.specs.Words.{word}
use Rattle.run_laws.specs.Run.{Run}
use Rattle.switch_net.specs.declared.answer.Answer.{Answer}
use Rattle.switch_net.specs.declared.fabric.Mark.{Mark}

-- the sum of words, reduced to a word
abbrev pub word_sum : List ℤ → ℤ
word_sum words = word (fold (λ sum w. sum +ℤ w) (pos 0) words)

-- the mark of a run: the seed of its order, where it has one, its settings, and the sums of what it answered
abbrev pub mark_of : Run → Option ℕ → Answer → Mark
mark_of run seed a = record {
  seed = seed;
  settings = run.settings;
  arrivals = a.arrivals;
  packets = word_sum a.packets.items;
  cells = word_sum a.cells.items;
  served = sum a.counts.items;
}

-- how many networks were run, and the mark of the last one
pub record Runs : Type 0 where
  pub count : ℕ
  pub last : Option Mark

-- a network was run; a count that stands at its type's end counts as risen, and none falls
pub record HasRun (mark : Mark) (old new : Runs) : Type 0 where
  pub later : old.count ≤ new.count
  pub rose : min (old.count + 1) (2 ^ 64 - 1) ≤ new.count
  pub last : new.last ≡ Some mark
