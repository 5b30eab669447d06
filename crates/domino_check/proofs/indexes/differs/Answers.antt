use Rattle.std.proofs.Common.{ap, ◌∙◌}
use Rattle.domino_names.specs.declared.fault.CheckFault.TheVariants as fault
use Rattle.domino_check.proofs.IndexLemmas.{name_at}
use Rattle.domino_check.proofs.indexes.differs.Goals as goal

pub returns-in-Ok : goal.returns-in-Ok
returns-in-Ok c = λ _. ap fault.IndexDiffers (c.in-Ok.ensures ∙ name_at c.args.arrays.now c.args.array c.index-arrays-array.result c.requires)
