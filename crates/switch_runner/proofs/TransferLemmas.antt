-- What a sink has taken after one more piece.
use Rattle.std.proofs.Common.{◌≡◌, ℕ, ◌+◌, ◌-◌, ◌^◌, ◌≤◌, min, List, ◌++◌, length, take, drop, Option, Some, None, refl, ap, sym, ◌∙◌, append_assoc, arith}
use Rattle.std.proofs.Math.Seq.{take-add, take-append-add}
use Rattle.std.proofs.lemmas.List.{take_rest, take_min, take-append-le}
use Rattle.switch_runner.specs.Outside.{gained, TookFront, SinkView, Grew, Stopped}

-- two pieces, one after the other, are one
pub gained-gained : (a b : List ℕ) (old : Option (List ℕ)) → gained b (gained a old) ≡ gained (a ++ b) old
gained-gained a b None = refl
gained-gained a b (Some o) = ap Some (append_assoc o a b)

-- a front of what was left after a front
pub gained_more : (bytes : List ℕ) (done n : ℕ) (old middle new : Option (List ℕ)) → middle ≡ gained (take done bytes) old → new ≡ gained (take n (take (length bytes - done) (drop done bytes))) middle → new ≡ gained (take (done + n) bytes) old
gained_more bytes done n old middle new first second =
    second ∙ ap (λ rest. gained (take n rest) middle) (take_rest bytes done) ∙ ap (gained (take n (drop done bytes))) first ∙ gained-gained (take done bytes) (take n (drop done bytes)) old ∙ ap (λ front. gained front old) (sym (take-add done n bytes))

-- a front of the first part is a front of both
pub TookFront-first : (a a' b : List ℕ) (old new : Option (List ℕ)) → a' ≡ a → TookFront old new a' → TookFront old new (a ++ b)
TookFront-first a a' b old new e taken =
    let n = min taken.0 (length a) in
    let same : take n (a ++ b) ≡ take taken.0 a = take-append-le n a b (omega arith) ∙ take_min taken.0 a in
    (n, taken.1 ∙ ap (λ front. gained (take taken.0 front) old) e ∙ ap (λ front. gained front old) (sym same))

-- a front of the second part, after the first
pub TookFront-second : (a a' b : List ℕ) (old middle new : Option (List ℕ)) → a' ≡ a → middle ≡ gained a' old → TookFront middle new b → TookFront old new (a ++ b)
TookFront-second a a' b old middle new e first taken =
    (length a + taken.0, taken.1 ∙ ap (gained (take taken.0 b)) (first ∙ ap (λ front. gained front old) e) ∙ gained-gained a (take taken.0 b) old ∙ ap (λ front. gained front old) (sym (take-append-add a b taken.0)))

-- a sink that grew by a front, and then by a front of what was left
pub grew_more : (bytes : List ℕ) (done n : ℕ) (old middle new : SinkView) → Grew (take done bytes) old middle → Grew (take n (take (length bytes - done) (drop done bytes))) middle new → Grew (take (done + n) bytes) old new
grew_more bytes done n old middle new first second = record {
  taken = gained_more bytes done n old.taken middle.taken new.taken first.taken second.taken;
  later = omega (arith, first.later, second.later);
}

-- a sink that grew by a front, and then stopped
pub stopped_more : (bytes : List ℕ) (done : ℕ) (old middle new : SinkView) → Grew (take done bytes) old middle → Stopped (take (length bytes - done) (drop done bytes)) middle new → Stopped bytes old new
stopped_more bytes done old middle new first second = record {
  front = (done + second.front.0, gained_more bytes done second.front.0 old.taken middle.taken new.taken first.taken second.front.1);
  later = omega (arith, first.later, second.later);
  rose = let h : old.faults ≤ middle.faults = first.later in let k : min (middle.faults + 1) (2 ^ 64 - 1) ≤ new.faults = second.rose in omega arith;
}
