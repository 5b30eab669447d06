-- What becomes of an environment whose words were lent to be written.
use Rattle.std.specs.Prelude.{List, ℤ, length}
use Rattle.std.specs.List.{refill}
use Rattle.std.specs.Borrow.{Lends, MutBor, Fml, Array, i32}
use Rattle.pipe_parts.specs.contracts.env.Env.{the_row}

-- as many words as before: those that were written, and behind them those that stood there
abbrev pub refilled : List ℤ → List ℤ → List ℤ
refilled before words = refill (length before) before words

-- the environment ends with the words that were written
abbrev pub LendsWords : MutBor (List ℤ) → MutBor (List ℤ) → Fml
LendsWords env words = Lends the_row (Array i32 0) env words (refilled env.now)
