-- The checks of names and sizes in order: the first that doesn't pass refuses the program.
use Rattle.std.specs.Prelude.{◌⊎◌}
use Rattle.domino_tree.specs.declared.program.Program.{Program}
use Rattle.domino_names.specs.declared.fault.CheckFault.{CheckFault}
use Rattle.domino_names.specs.Checks.{FirstTwice, NoTwice, FirstUnknown, NoUnknown, FirstWrongKind, NoWrongKind, FirstArity, NoArity, FirstBadLength, NoBadLength, FirstTooMany, NoTooMany}

-- a check refuses; or it passes, and a later one refuses
abbrev pub OrElse : Type 0 → Type 0 → Type 0 → Type 0
OrElse refuses passes later = refuses ⊎ (passes × later)

-- the names and the calls are refused by this fault
abbrev pub RefusedNames : Program → CheckFault → Type 0
RefusedNames p f = OrElse (FirstTwice p f) (NoTwice p) (OrElse (FirstUnknown p f) (NoUnknown p) (OrElse (FirstWrongKind p f) (NoWrongKind p) (FirstArity p f)))

-- the lengths and the counts are
abbrev pub RefusedSizes : Program → CheckFault → Type 0
RefusedSizes p f = OrElse (FirstBadLength p f) (NoBadLength p) (FirstTooMany p f)

-- the names and the calls pass
pub record PassesNames (p : Program) : Type 0 where
  pub once : NoTwice p
  pub known : NoUnknown p
  pub kinds : NoWrongKind p
  pub calls : NoArity p

-- the lengths and the counts pass
pub record PassesSizes (p : Program) : Type 0 where
  pub lengths : NoBadLength p
  pub few : NoTooMany p
