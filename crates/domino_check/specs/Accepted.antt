-- What a checked program keeps and offers, each of which is a function of the program.
use Rattle.std.specs.Prelude.{◌≡◌, ℕ, ◌≤◌, List, [], ◌∷◌, length, map, sum, Option}
use Rattle.domino_tree.specs.declared.program.Program.{Program}
use Rattle.domino_names.specs.declared.infos.ArrayInfo.{ArrayInfo}
use Rattle.domino_check.specs.declared.numbered.CheckedExpr.{CheckedExpr}
use Rattle.domino_check.specs.declared.numbered.CheckedStmt.{CheckedStmt}
use Rattle.domino_check.specs.declared.parts.Parts.{Parts}
use Rattle.domino_names.specs.Infos.{infos_of}
use Rattle.domino_check.specs.Numbering.{numbered_body}
use Rattle.domino_check.specs.Indexes.{HasIndexes}
use Rattle.domino_check.specs.Sites.{program_indexes}
use Rattle.domino_check.specs.Refused.{Passes}

-- each array has from 1 to 65,536 cells
abbrev pub AreSized : List ArrayInfo → Type 0
AreSized [] = Unit {0}
AreSized (i ∷ infos) = ((1 ≤ i.length) × (i.length ≤ 65536)) × AreSized infos

-- there are at most 32 fields and 16 arrays, each has from 1 to 65,536 cells and all together at most 262,144, and
-- all accesses of an array have one index
pub record Keeps (p : Program) : Type 0 where
  pub few_fields : length p.packet.fields ≤ 32
  pub few : length (infos_of p) ≤ 16
  pub few_cells : sum (map (λ (i : ArrayInfo). i.length) (infos_of p)) ≤ 262144
  pub sized : AreSized (infos_of p)
  pub indexed : HasIndexes p

-- these are the fields, arrays, body and indexes of the program, which passes all checks
pub record IsChecked (p : Program) (fields : List (List ℕ)) (arrays : List ArrayInfo) (body : List CheckedStmt) (indexes : List (Option CheckedExpr)) : Type 0 where
  pub fields_are : fields ≡ p.packet.fields
  pub arrays_are : arrays ≡ infos_of p
  pub body_is : body ≡ numbered_body p
  pub indexes_are : indexes ≡ program_indexes p
  pub keeps : Keeps p
  pub passes : Passes p

-- so they are
abbrev pub ArePartsOf : Program → Parts → Type 0
ArePartsOf p parts = IsChecked p parts.fields parts.arrays parts.body parts.indexes
