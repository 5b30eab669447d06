-- Which arrays an execution of a program touches, by its sites.
use Rattle.std.specs.Prelude.{ℕ, ◌||◌, false, IsTrue}
use Rattle.std.specs.List.{slice_index_or}
use Rattle.domino_tree.specs.declared.program.Program.{Program}
use Rattle.domino_tree.specs.Execution.{State}
use Rattle.domino_check.specs.NumberedMeaning.{executed_from}
use Rattle.domino_check.specs.Sites.{program_sites, is_touched, is_always_touched}

-- an array is touched after an execution only where it was before or a site touches it, and it is where it was
-- before or a site touches it about which no condition decides
pub record TouchesBySites (p : Program) (start : State) (array : ℕ) : Type 0 where
  pub within : IsTrue (slice_index_or (executed_from p start).touched array false) → IsTrue (slice_index_or start.touched array false || is_touched (program_sites p) array)
  pub stays : IsTrue (slice_index_or start.touched array false) → IsTrue (slice_index_or (executed_from p start).touched array false)
  pub always : IsTrue (is_always_touched (program_sites p) array) → IsTrue (slice_index_or (executed_from p start).touched array false)
