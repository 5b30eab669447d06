-- What a header alone tells of flat code: the marks of its slots, and which arrays it reserves.
use Rattle.std.specs.Prelude.{ℕ, ℤ, Bool, List}
use Rattle.mp5_words.specs.Domain.{Mark}
use Rattle.code_forms.specs.declared.flat.FlatCode.{FlatCode}
use Rattle.index_resolve.specs.HeaderRun as run

-- the marks of all slots on a header
abbrev pub code_marks : FlatCode → List ℤ → List Mark
code_marks f header = run.code_marks f.fields f.arrays f.instrs header

-- an array is reserved where some guard under which it is touched is open
abbrev pub is_reserved : FlatCode → List ℤ → ℕ → Bool
is_reserved f header a = run.is_reserved f.arrays (code_marks f header) a
