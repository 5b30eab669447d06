use Rattle.std.proofs.Common.{◌≤◌, ◌+◌, length}
use Rattle.capture_io.specs.Reading.{records_of}
use Rattle.capture_io.proofs.Walk.{counted, Total}
use Rattle.capture_io.proofs.reading.words_of.Given as goal

abbrev pub invariant-loop-rest : goal.invariant-loop-rest
invariant-loop-rest l = record {
  limit : l.count ≤ 262144;
  place : l.at + length l.rest ≤ 134217728;
  so_far : Total l.encoding 262144 l.count l.sources l.start l.words.items l.at l.rest (counted l.sources l.start (records_of l.encoding 262144 24 l.bytes));
}

abbrev pub decreases-loop-rest : goal.decreases-loop-rest
decreases-loop-rest l = length l.rest
