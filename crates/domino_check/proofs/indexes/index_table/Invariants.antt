-- nothing is amiss so far, and the table has the indexes so far
use Rattle.std.proofs.Common.{length, map}
use Rattle.domino_names.specs.First.{NoFault}
use Rattle.domino_names.specs.Infos.{array_of}
use Rattle.domino_check.specs.Indexes.{IndexDiffersAt, AreIndexes, AllKeep, index_of}
use Rattle.domino_check.proofs.indexes.index_table.Given as goal

abbrev pub invariant-loop-access : goal.invariant-loop-access
invariant-loop-access l = record {
  fine : NoFault (IndexDiffersAt (map array_of l.arrays)) l.yielded;
  kept : AllKeep (index_of l.yielded) l.yielded;
  table : AreIndexes l.yielded (length l.arrays) l.table;
}
