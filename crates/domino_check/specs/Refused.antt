-- The checks in order: the first that doesn't pass refuses the program.
use Rattle.domino_tree.specs.declared.program.Program.{Program}
use Rattle.domino_names.specs.declared.fault.CheckFault.{CheckFault}
use Rattle.domino_names.specs.NamesRefused.{OrElse, RefusedNames, RefusedSizes, PassesNames, PassesSizes}
use Rattle.domino_check.specs.Indexes.{FirstIndexDiffers, NoIndexDiffers}
use Rattle.domino_check.specs.Sites.{FirstIndexMoves, NoIndexMoves}

-- the indexes are
abbrev pub RefusedIndexes : Program → CheckFault → Type 0
RefusedIndexes p f = OrElse (FirstIndexDiffers p f) (NoIndexDiffers p) (FirstIndexMoves p f)

-- the indexes pass
pub record PassesIndexes (p : Program) : Type 0 where
  pub same : NoIndexDiffers p
  pub still : NoIndexMoves p

-- the program is refused by this fault
abbrev pub Refused : Program → CheckFault → Type 0
Refused p f = OrElse (RefusedNames p f) (PassesNames p) (OrElse (RefusedSizes p f) (PassesSizes p) (RefusedIndexes p f))

-- the program passes all checks
pub record Passes (p : Program) : Type 0 where
  pub names : PassesNames p
  pub sizes : PassesSizes p
  pub indexes : PassesIndexes p
