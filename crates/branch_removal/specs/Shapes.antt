-- The arrays of guarded code: those of the program, each with the index of its accesses.
use Rattle.std.specs.Prelude.{ℕ, suc, List, [], ◌∷◌}
use Rattle.domino_tree.specs.declared.program.Program.{Program}
use Rattle.domino_names.specs.declared.infos.ArrayInfo.{ArrayInfo}
use Rattle.domino_names.specs.Infos.{infos_of}
use Rattle.domino_check.specs.Numbering.{Access, accesses}
use Rattle.domino_check.specs.Indexes.{index_of}
use Rattle.code_forms.specs.declared.guard.ArrayShape.{ArrayShape}
use Rattle.branch_removal.specs.GuardedLines.{guarded_index}

-- an array, by its number, with the index of these accesses
abbrev pub shape_of : List Access → ℕ → ArrayInfo → ArrayShape
shape_of xs a info = record { length = info.length; start = info.start; index = guarded_index (index_of xs a) }

-- arrays one after another, from such a number on
abbrev pub shapes_from : List Access → ℕ → List ArrayInfo → List ArrayShape
shapes_from xs a [] = []
shapes_from xs a (info ∷ infos) = shape_of xs a info ∷ shapes_from xs (suc a) infos

-- the arrays of a program
abbrev pub shapes_of : Program → List ArrayShape
shapes_of p = shapes_from (accesses p) 0 (infos_of p)
