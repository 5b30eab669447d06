-- a program that is read has a count of 32 bits
use Rattle.std.proofs.Common.{◌<◌, sym, subst}
use Rattle.domino_tree.specs.declared.program.Program.{Program}
use Rattle.domino_tree.specs.Count.{count_of}
use Rattle.table_rows.proofs.program.checked_of.Goals as goal

pub returns-in-Ok-check : goal.returns-in-Ok-check
returns-in-Ok-check c = subst (λ (p : Program). count_of p < 4294967296) (sym c.in-Ok-check.ensures.read) c.in-Ok.ensures.counted
