use Rattle.std.proofs.Common.{◌≡◌, ◌<◌, ◌≤◌, ℕ, length, slice_index}
use Rattle.code_forms.specs.Staged.{group_at}
use Rattle.code_forms.specs.StagedMeaning.{place_on, place_code}
use Rattle.code_forms.proofs.staged.StagedCode.places.Given as goal

abbrev pub invariant-loop-g : goal.invariant-loop-g
invariant-loop-g l = (length l.out ≡ 16) × ((k : ℕ) → k < l.g → slice_index l.out k ≡ place_code (place_on l.self l.room (group_at l.self k))) × ((k : ℕ) → l.g ≤ k → k < 16 → slice_index l.out k ≡ 0)
