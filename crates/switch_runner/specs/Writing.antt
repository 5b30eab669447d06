-- Putting a text on its way: behind what waits in a block, and from there to a sink.
use Rattle.std.specs.Prelude.{◌≡◌, ◌≤◌, ◌++◌, ℕ, List, [], Option, Result, MatchResult}
use Rattle.switch_runner.specs.Outside.{SinkView, Rose, TookFront, gained}

-- what waits, what the sink has taken, and its count of faults
pub record At : Type 0 where
  pub waits : List ℕ
  pub taken : Option (List ℕ)
  pub faults : ℕ

abbrev pub at : List ℕ → SinkView → At
at waits sink = record { waits = waits; taken = sink.taken; faults = sink.faults }

-- the text was put: once what waits is taken, all that waited and the text is taken
pub record Wrote (text : List ℕ) (old new : At) : Type 0 where
  pub whole : gained new.waits new.taken ≡ gained (old.waits ++ text) old.taken
  pub front : TookFront old.taken new.taken (old.waits ++ text)
  pub later : old.faults ≤ new.faults

-- a write failed on the way: a prefix of all that waited and the text was taken
pub record Broke (text : List ℕ) (old new : At) : Type 0 where
  pub front : TookFront old.taken new.taken (old.waits ++ text)
  pub later : old.faults ≤ new.faults
  pub rose : Rose old.faults new.faults

-- either of them, by the result
abbrev pub Puts : {T E : Type 0} → List ℕ → At → At → Result T E → Type 0
Puts text old new result = MatchResult result (λ _. Wrote text old new) (λ _. Broke text old new)

-- the text was written to a sink, where nothing waits before or after
abbrev pub Writes : {T E : Type 0} → List ℕ → SinkView → SinkView → Result T E → Type 0
Writes text old new = Puts text (at [] old) (at [] new)
