-- the words and the arrays of the arguments so far
use Rattle.std.proofs.Common.{◌≡◌, ℕ, ℤ, List, map, flat_map, take}
use Rattle.domino_tree.specs.Value.{Store}
use Rattle.mp5_words.specs.Cells.{touching}
use Rattle.domino_check.specs.NumberedMeaning.{indexing, numbered_value, numbered_arrays}
use Rattle.domino_eval.specs.Parts.{store, first_words}
use Rattle.domino_eval.specs.Places.{marks, ArePlaces}
use Rattle.domino_eval.proofs.value.+value.Given as goal

abbrev pub invariant-hash_value-loop-place : goal.invariant-hash_value-loop-place
invariant-hash_value-loop-place l = record {
  words : l.words ≡ first_words (take l.place (map (λ (a : Store → ℤ). a (store l.fn.fields l.fn.cells)) (map (numbered_value (indexing l.checked)) l.args)));
  touched : marks l.places ≡ touching (flat_map (λ (a : List ℕ). a) (map numbered_arrays (take l.place l.args))) (marks l.fn.places);
  kept : ArePlaces (indexing l.checked) l.fn.fields l.places;
}
