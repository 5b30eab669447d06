-- What compiled code is: the code of its program, whose groups, units and places are those of the source, and which means
-- what the source means.
use Rattle.std.specs.Prelude.{◌≡◌, ℕ, ◌<◌, ◌↔◌, ℤ, true, List, length, map, refl, Option, Some, None}
use Rattle.std.specs.Coded.{Coded, code_by, coded×}
use Rattle.domino_tree.specs.declared.program.Program.{Program}
use Rattle.domino_tree.specs.contracts.program.Program.{the_row as program_row}
use Rattle.domino_names.specs.declared.infos.ArrayInfo.{ArrayInfo}
use Rattle.domino_names.specs.Infos.{infos_of}
use Rattle.domino_check.specs.Place.{HasPlace, IsUnit}
use Rattle.domino_check.specs.SourceGroups.{AreSourceGroups, IsSharded, HasUnits}
use Rattle.code_forms.specs.declared.flat.FlatArray.{FlatArray}
use Rattle.code_forms.specs.declared.flat.FlatCode.{FlatCode}
use Rattle.code_forms.specs.declared.guard.GuardCode.{GuardCode}
use Rattle.code_forms.specs.declared.layout.Layout.{Layout}
use Rattle.code_forms.specs.contracts.staged.StagedCode.{the_row as staged_row}
use Rattle.code_forms.specs.Staged.{Staged, group_at, group_of, unit_count}
use Rattle.code_forms.specs.StagedMeaning.{place}
use Rattle.dependence.specs.Groups.{group_of as number_of}
use Rattle.index_resolve.specs.Resolve.{IsPacked, IsResolved}
use Rattle.domino_compile.specs.GroupsCode.{IsCodeOf}
use Rattle.domino_compile.specs.MeaningKept.{MeansSource}
use Rattle.domino_compile.specs.MeaningRun.{AreWide, RunsAsSource}

-- the passes made the code of the program, one after another
pub record ComesFrom (p : Program) (c : Staged) : Type 0 where
  pub guarded : GuardCode
  pub flat : FlatCode
  pub layout : Layout
  pub code : IsCodeOf p guarded flat
  pub packed : IsPacked flat layout
  pub resolved : IsResolved flat layout c

-- the place of a header at a group of the source
abbrev pub IsPlaceOf : Program → List ℤ → List (Option ℕ) → ℕ → Option ℕ → Type 0
IsPlaceOf p header of g None = ¬ HasPlace p header of g
IsPlaceOf p header of g (Some u) = HasPlace p header of g × IsUnit p header of g u

-- the code has the groups of the source, with their numbers and units, and each header has its places
pub record HasSourceGroups (p : Program) (c : Staged) : Type 0 where
  pub of : List (Option ℕ)
  pub numbers : (a : ℕ) → number_of of a ≡ group_of c a
  pub groups : AreSourceGroups p (length c.groups) of
  pub sharded : (g : ℕ) → g < length c.groups → ((group_at c g).sharded ≡ true) ↔ IsSharded p of g
  pub units : (g : ℕ) → g < length c.groups → HasUnits p of g (unit_count c (group_at c g))
  pub places : (header : List ℤ) → length header ≡ c.fields → (g : ℕ) → g < length c.groups → IsPlaceOf p header of g (place c header g)

-- compiled code of a program
pub record IsCompiled (p : Program) (c : Staged) : Type 0 where
  pub fields : c.fields ≡ length p.packet.fields
  pub lengths : map (λ (f : FlatArray). f.length) c.arrays ≡ map (λ (i : ArrayInfo). i.length) (infos_of p)
  pub starts : map (λ (f : FlatArray). f.start) c.arrays ≡ map (λ (i : ArrayInfo). i.start) (infos_of p)
  pub made : ComesFrom p c
  pub groups : HasSourceGroups p c
  pub means : MeansSource p c
  pub runs : (headers : List (List ℤ)) → AreWide c headers → RunsAsSource p c headers

-- a program and its code
pub record Translation : Type 0 where
  pub program : Program
  pub code : Staged

-- stored as a pair
abbrev pub translation_code : Coded Translation
translation_code = code_by (Program × Staged) (coded× program_row.coded staged_row.coded) (λ t. (t.program, t.code)) (λ t. record { program = t.0; code = t.1 }) (λ _. refl)
