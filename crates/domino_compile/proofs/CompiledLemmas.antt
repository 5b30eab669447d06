-- The staged code of the passes is compiled code of its program, and a refusal of the passes is one of the program.
use Rattle.std.proofs.Common.{◌≡◌, ◌≢◌, ℕ, ◌<◌, List, ap, subst, ◌∙◌}
use Rattle.domino_tree.specs.declared.program.Program.{Program}
use Rattle.domino_tree.specs.Count.{count_of}
use Rattle.code_forms.specs.declared.flat.FlatCode.{FlatCode}
use Rattle.code_forms.specs.declared.guard.GuardCode.{GuardCode}
use Rattle.code_forms.specs.declared.layout.Layout.{Layout}
use Rattle.code_forms.specs.Staged.{Staged, IsStaged}
use Rattle.code_forms.specs.StagedMeaning.{PlacesAreIndexes}
use Rattle.branch_removal.specs.Kept.{KeepsMeaning}
use Rattle.ssa_flatten.specs.declared.fault.FlatFault.{FlatFault}
use Rattle.ssa_flatten.specs.declared.fault.FlatFault.TheVariants as flat_fault
use Rattle.ssa_flatten.specs.Flattened.{count_for}
use Rattle.ssa_flatten.specs.Flattened as flattened
use Rattle.flat_graph.specs.Layouts.{IsLayout, RunsBehind}
use Rattle.flat_graph.specs.Nodes.{nodes}
use Rattle.index_resolve.specs.Places.{HasPlaces, NoneTouched}
use Rattle.index_resolve.specs.Resolve.{AreCodelets, IsPacked, IsResolved}
use Rattle.domino_compile.specs.declared.fault.ProgramFault.{ProgramFault}
use Rattle.domino_compile.specs.declared.fault.ProgramFault.TheVariants as program_fault
use Rattle.domino_compile.specs.Accepted.{IsTooLarge, of_flat}
use Rattle.domino_compile.specs.Compiled.{IsCompiled}
use Rattle.domino_compile.specs.GroupsCode.{IsCodeOf}
use Rattle.domino_compile.proofs.MadeMeaning.{MeansWords, made_means, made_runs, made_fields, made_lengths, made_starts}
use Rattle.domino_compile.proofs.ResolvedGroups.{source_groups}

-- the layout of code with these codelets
pub is_packed : (f : FlatCode) (l : Layout) (classes : List ℕ) → AreCodelets f classes → IsLayout f classes l → RunsBehind (nodes f) l.spot → IsPacked f l
is_packed f l classes codelets layout ordered = record { classes = classes; codelets = codelets; layout = layout; ordered = ordered }

-- what the last pass says of its code
pub record IsPlaced (c : Staged) : Type 0 where
  pub staged : IsStaged c
  pub places : HasPlaces c
  pub indexes : PlacesAreIndexes c
  pub untouched : NoneTouched c

pub is_compiled : (p : Program) (g : GuardCode) (f : FlatCode) (l : Layout) (c : Staged) → IsCodeOf p g f → KeepsMeaning p g.arrays g.lines → MeansWords g f → IsPacked f l → IsResolved f l c → IsPlaced c → IsCompiled p c
is_compiled p g f l c is keeps means packed resolved placed = record {
  fields = made_fields p g f is l c packed resolved;
  lengths = made_lengths p g f is l c packed resolved;
  starts = made_starts p g f is l c packed resolved;
  made = record { guarded = g; flat = f; layout = l; code = is; packed = packed; resolved = resolved };
  groups = source_groups p g f l c is packed resolved placed.staged placed.places;
  means = made_means p g f is l c packed resolved keeps means placed.staged placed.indexes placed.untouched;
  runs = made_runs p g f is l c packed resolved keeps means placed.staged placed.indexes placed.untouched;
}

-- the guarded code of a program is refused with the number of the program's instructions
pub is_too_large : (p : Program) (g : GuardCode) (e : FlatFault) (f : ProgramFault) → count_for g ≡ count_of p → f ≡ of_flat e → (e ≢ flat_fault.NoMemory → flattened.IsTooLarge g e) → f ≢ program_fault.NoMemory → IsTooLarge p f
is_too_large p g e f same is told other =
    let large = told (λ none. other (is ∙ ap of_flat none)) in
    (subst (λ n. 1024 < n) same large.0, is ∙ ap of_flat large.1 ∙ ap program_fault.TooLarge same)
