-- One step of a walk: a touch, an assignment, a hash.
use Rattle.std.proofs.Common.{◌≡◌, ℕ, ◌+◌, ◌<◌, List, ◌∷◌, length, map, drop, get_or, slice_set, Option, None, Some, sym, ap, ◌∙◌}
use Rattle.std.specs.List.{slice_index_or}
use Rattle.std.proofs.lemmas.List.{set-set, drop_more}
use Rattle.mp5_words.specs.Copies.{Copy, Seen, at, touched, hash_of}
use Rattle.mp5_words.specs.Domain.{Domain}
use Rattle.mp5_words.specs.declared.hashing.HashKind.{HashKind}
use Rattle.domino_tree.specs.declared.program.Program.{Program}
use Rattle.domino_check.specs.declared.numbered.CheckedExpr.{CheckedExpr, fold-roll-CheckedExpr}
use Rattle.domino_check.specs.declared.numbered.CheckedArm.{CheckedArm}
use Rattle.domino_check.specs.declared.numbered.CheckedExpr.TheOpen as F
use Rattle.domino_check.specs.declared.numbered.CheckedExpr.TheVariants as e
use Rattle.domino_check.specs.NumberedMeaning.{numbered_arrays}
use Rattle.domino_check.specs.Walk.{Core, walk_meaning, walk_value}
use Rattle.source_rows.specs.Walking.{Copies, seen, core, indexes_in, touching, touching_all, guard_in, arm_touched, arm_cond, field_walk, cell_walk, set_value, stored_value}

module _ (V : Type 0) (d : Domain V) where
  -- the value of a hash
  pub hash_is : (expr : CheckedExpr) (kind : HashKind) (args args_read : List CheckedExpr) (all all_read : List V) (w : Seen V)
      → expr ≡ e.Hash kind args → args_read ≡ args → all ≡ map (λ (x : Seen V → V). x w) (map (walk_value V d.ops) args_read) → all_read ≡ all
      → hash_of V d.ops kind all_read ≡ walk_value V d.ops expr w
  hash_is expr kind args args_read all all_read w is read are read_all =
      ap (hash_of V d.ops kind) (read_all ∙ are ∙ ap (λ (l : List CheckedExpr). map (λ (x : Seen V → V). x w) (map (walk_value V d.ops) l)) read)
      ∙ sym (ap (λ x. walk_value V d.ops x w) (is ∙ sym (e.rolls-Hash kind args)) ∙ ap (λ h. h w) (fold-roll-CheckedExpr (Seen V → V) (walk_meaning V d.ops) (F.CheckedExpr-F.Hash kind args)))

  -- what is taken out and put back changed is set
  put_back : (xs taken put : Copies V) (a : ℕ) (y : Option (Copy V)) → taken ≡ slice_set xs a None → put ≡ slice_set taken a y → put ≡ slice_set xs a y
  put_back xs taken put a y out back = back ∙ ap (λ (l : Copies V). slice_set l a y) out ∙ set-set xs a None y

  pub touch_is : (p : Program) (fields fields_read : List V) (guard : V) (xs taken put : Copies V) (a : ℕ) (old : Option (Copy V)) (new : Copy V)
      → fields_read ≡ fields → old ≡ slice_index_or xs a None → taken ≡ slice_set xs a None
      → new ≡ touched V d a (indexes_in V d p a fields_read) guard old → put ≡ slice_set taken a (Some new)
      → put ≡ touching V d p fields guard xs a
  touch_is p fields fields_read guard xs taken put a old new read was out made back =
      put_back xs taken put a (Some new) out back
      ∙ ap (λ (c : Copy V). slice_set xs a (Some c)) (made
      ∙ ap (λ (f : List V). touched V d a (indexes_in V d p a f) guard old) read
      ∙ ap (λ (o : Option (Copy V)). touched V d a (indexes_in V d p a fields) guard o) was)

  -- an assignment to a cell, once all arrays are touched
  abbrev pub after_cell : Program → ℕ → CheckedExpr → Option V → Core V → Core V
  after_cell p a x context t = record {
    fields = t.fields;
    copies = slice_set t.copies a (stored_value V d p a context (walk_value V d.ops x (seen V d.ops t.fields t.copies)) (slice_index_or t.copies a None));
  }

  pub cell_is : (p : Program) (a : ℕ) (x : CheckedExpr) (context : Option V) (guard first second : V) (fields0 fields1 fields2 fields_read : List V) (copies0 copies1 copies2 copies_read taken put : Copies V)
      (right : V) (old new : Option (Copy V))
      → guard ≡ guard_in V d p context → first ≡ guard → second ≡ guard
      → fields1 ≡ fields0 → copies1 ≡ touching V d p fields0 first copies0 a
      → core V fields2 copies2 ≡ touching_all V d p (numbered_arrays x) second (core V fields1 copies1)
      → fields_read ≡ fields2 → copies_read ≡ copies2
      → right ≡ walk_value V d.ops x (seen V d.ops fields_read copies_read)
      → old ≡ slice_index_or copies2 a None → taken ≡ slice_set copies2 a None
      → new ≡ stored_value V d p a context right old → put ≡ slice_set taken a new
      → core V fields2 put ≡ cell_walk V d p a x context (core V fields0 copies0)
  cell_is p a x context guard first second fields0 fields1 fields2 fields_read copies0 copies1 copies2 copies_read taken put right old new is_guard is_first is_second same_fields touched_a touched_all read_fields read_copies is_right was out made back =
      let g : V = guard_in V d p context in
      let stored : put ≡ slice_set copies2 a (stored_value V d p a context (walk_value V d.ops x (seen V d.ops fields2 copies2)) (slice_index_or copies2 a None)) =
      put_back copies2 taken put a new out back
      ∙ ap (λ (c : Option (Copy V)). slice_set copies2 a c) (made
      ∙ ap (λ (r : V). stored_value V d p a context r old) (is_right ∙ (λ i. walk_value V d.ops x (seen V d.ops (read_fields i) (read_copies i))))
      ∙ ap (λ (o : Option (Copy V)). stored_value V d p a context (walk_value V d.ops x (seen V d.ops fields2 copies2)) o) was) in
      let touches : core V fields2 copies2 ≡ touching_all V d p (a ∷ numbered_arrays x) g (core V fields0 copies0) =
      touched_all
      ∙ (λ i. touching_all V d p (numbered_arrays x) ((is_second ∙ is_guard) i) (core V (same_fields i) (touched_a i)))
      ∙ ap (λ (f : V). touching_all V d p (numbered_arrays x) g (core V fields0 (touching V d p fields0 f copies0 a))) (is_first ∙ is_guard) in
      ap (λ (c : Copies V). core V fields2 c) stored ∙ ap (after_cell p a x context) touches

  -- the state behind the touch of a condition's arrays, and the condition on it
  pub touched_is : (p : Program) (arm : CheckedArm) (context : Option V) (guard : V) (now t : Core V)
      → guard ≡ guard_in V d p context → now ≡ touching_all V d p (numbered_arrays arm.cond) guard t → now ≡ arm_touched V d p arm context t
  touched_is p arm context guard now t is walked = walked ∙ ap (λ (g : V). touching_all V d p (numbered_arrays arm.cond) g t) is

  pub cond_is : (p : Program) (arm : CheckedArm) (context : Option V) (guard cond : V) (fields fields_read : List V) (copies copies_read : Copies V) (t : Core V)
      → guard ≡ guard_in V d p context → core V fields copies ≡ touching_all V d p (numbered_arrays arm.cond) guard t
      → fields_read ≡ fields → copies_read ≡ copies
      → cond ≡ walk_value V d.ops arm.cond (seen V d.ops fields_read copies_read)
      → cond ≡ arm_cond V d p arm context t
  cond_is p arm context guard cond fields fields_read copies copies_read t is walked same_fields same_copies valued =
      valued ∙ (λ i. walk_value V d.ops arm.cond (seen V d.ops (same_fields i) (same_copies i)))
      ∙ ap (λ (c : Core V). walk_value V d.ops arm.cond (seen V d.ops c.fields c.copies)) (touched_is p arm context guard (core V fields copies) t is walked)

  -- one array more is touched
  pub each_more : (p : Program) (arrays : List ℕ) (i : ℕ) (guard : V) (fields now_fields : List V) (copies now_copies : Copies V) (whole : Core V)
      → i < length arrays → now_fields ≡ fields → now_copies ≡ touching V d p fields guard copies (get_or arrays i 0)
      → touching_all V d p (drop i arrays) guard (core V fields copies) ≡ whole
      → touching_all V d p (drop (i + 1) arrays) guard (core V now_fields now_copies) ≡ whole
  each_more p arrays i guard fields now_fields copies now_copies whole within same_fields touched_a so_far =
      (λ k. touching_all V d p (drop (i + 1) arrays) guard (core V (same_fields k) (touched_a k)))
      ∙ sym (ap (λ (l : List ℕ). touching_all V d p l guard (core V fields copies)) (drop_more arrays i 0 within))
      ∙ so_far

  -- an assignment to a field, once all arrays are touched
  abbrev after_field : Program → ℕ → CheckedExpr → Option V → Core V → Core V
  after_field p f x context t = record {
    fields = slice_set t.fields f (set_value V d p context (walk_value V d.ops x (seen V d.ops t.fields t.copies)) (at V d.ops t.fields f));
    copies = t.copies;
  }

  pub field_is : (p : Program) (f : ℕ) (x : CheckedExpr) (context : Option V) (guard : V) (fields0 fields2 fields_read fields_old put : List V) (copies0 copies2 copies_read : Copies V) (right old new : V)
      → guard ≡ guard_in V d p context
      → core V fields2 copies2 ≡ touching_all V d p (numbered_arrays x) guard (core V fields0 copies0)
      → fields_read ≡ fields2 → copies_read ≡ copies2 → fields_old ≡ fields2
      → right ≡ walk_value V d.ops x (seen V d.ops fields_read copies_read)
      → old ≡ at V d.ops fields_old f → new ≡ set_value V d p context right old → put ≡ slice_set fields2 f new
      → core V put copies2 ≡ field_walk V d p f x context (core V fields0 copies0)
  field_is p f x context guard fields0 fields2 fields_read fields_old put copies0 copies2 copies_read right old new is_guard walked read_fields read_copies read_old is_right is_old made back =
      let right_is : right ≡ walk_value V d.ops x (seen V d.ops fields2 copies2) = is_right ∙ (λ i. walk_value V d.ops x (seen V d.ops (read_fields i) (read_copies i))) in
      let old_is : old ≡ at V d.ops fields2 f = is_old ∙ ap (λ (l : List V). at V d.ops l f) read_old in
      let set : put ≡ slice_set fields2 f (set_value V d p context (walk_value V d.ops x (seen V d.ops fields2 copies2)) (at V d.ops fields2 f)) =
      back ∙ ap (λ (v : V). slice_set fields2 f v) (made ∙ (λ i. set_value V d p context (right_is i) (old_is i))) in
      ap (λ (l : List V). core V l copies2) set
      ∙ ap (after_field p f x context) (walked ∙ ap (λ (g : V). touching_all V d p (numbered_arrays x) g (core V fields0 copies0)) is_guard)
