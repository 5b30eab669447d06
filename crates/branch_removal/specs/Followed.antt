-- Guarded lines do what the walk over a program's source does, over values of any kind.
use Rattle.std.specs.Prelude.{◌≡◌, List, length}
use Rattle.mp5_words.specs.Domain.{Domain}
use Rattle.domino_tree.specs.declared.program.Program.{Program}
use Rattle.domino_check.specs.SourceWalk.{walked_program}
use Rattle.domino_check.specs.Walk.{Core}
use Rattle.code_forms.specs.declared.guard.ArrayShape.{ArrayShape}
use Rattle.code_forms.specs.declared.guard.GuardLine.{GuardLine}
use Rattle.code_forms.specs.GuardMeaning.{Guarded, indexes_of, guard_lines, guard_start}

module _ (V : Type 0) (d : Domain V) where
  -- the lines, from the header's fields on
  abbrev pub lines_from : List ArrayShape → List GuardLine → List V → Guarded V
  lines_from shapes lines header = guard_lines V d (indexes_of V d.ops shapes) lines (guard_start V d (length shapes) header)

  -- the same fields, and the same is known of each array
  pub record IsFollowed (walk : Core V) (g : Guarded V) : Type 0 where
    pub fields : g.fields ≡ walk.fields
    pub copies : g.copies ≡ walk.copies

  -- for every header the lines end as the walk does
  abbrev pub Follows : Program → List ArrayShape → List GuardLine → Type 0
  Follows p shapes lines = (header : List V) → IsFollowed (walked_program V d p header) (lines_from shapes lines header)
