-- the array is noted at the instructions so far
use Rattle.std.proofs.Common.{◌≡◌, ◌==◌, ◌<◌, ℕ, if◌then◌else◌, Some, None, length, take, get_or}
use Rattle.std.specs.List.{list_any}
use Rattle.flat_graph.proofs.places.mark.Given as goal

abbrev pub invariant-loop-number : goal.invariant-loop-number
invariant-loop-number l = record {
  long : length l.copies ≡ length l.fn.copies;
  marked : (k : ℕ) → k < length l.fn.copies → get_or l.copies k None
      ≡ (if list_any (λ n. k == n) (take l.number-index l.numbers) then Some l.array else get_or l.fn.copies k None);
}
