-- Groups by a closed table of needs are the program's.
use Rattle.std.proofs.Common.{◌≡◌, ℕ, zero, suc, ◌<◌, ◌≤◌, Bool, List, [], ◌∷◌, length, replicate, Option, None, Some, inl, inr, refl, sym, subst, arith}
use Rattle.std.specs.List.{slice_index_or}
use Rattle.std.proofs.lemmas.List.{length-replicate}
use Rattle.mp5_words.specs.Copies.{Copy}
use Rattle.domino_tree.specs.declared.program.Program.{Program}
use Rattle.domino_tree.specs.Value.{names_of}
use Rattle.dependence.specs.Uses.{Member}
use Rattle.dependence.specs.Reach.{Reaches, here, step}
use Rattle.dependence.specs.Tables.{Marked, Closes}
use Rattle.dependence.specs.Groups.{AreGroups, IsOn, Linked}
use Rattle.dependence.proofs.GroupLemmas.{groups_along}
use Rattle.dependence.proofs.LevelLemmas.{linked, is_linked}
use Rattle.domino_check.specs.Numbering.{numbered_body}
use Rattle.domino_check.specs.SourceGroups.{no_sources, all_sources, source_walk, source_copy, HasCopy, StandsBehind, IsTouched, Needs, AreSourceGroups}
use Rattle.source_rows.specs.Marks.{Marks, MarksPairs}
use Rattle.source_rows.specs.Views.{Sources, Copies, core}
use Rattle.source_rows.proofs.NeedLemmas.{joins_left}
use Rattle.source_rows.proofs.BelowLemmas.{Below, EachBelow, CopyBelow, Held, below_member, body_held}

module _ (p : Program) where
  -- how many arrays there are
  abbrev count_of_arrays : ℕ
  count_of_arrays = length (names_of p).arrays

  no_sets : (k f : ℕ) → slice_index_or {A = Sources} (replicate k []) f [] ≡ []
  no_sets zero f = refl
  no_sets (suc k) zero = refl
  no_sets (suc k) (suc f) = no_sets k f

  no_copy : (k a : ℕ) → slice_index_or {A = Option (Copy Sources)} (replicate k None) a None ≡ None
  no_copy zero a = refl
  no_copy (suc k) zero = refl
  no_copy (suc k) (suc a) = no_copy k a

  all_held : Held count_of_arrays (source_walk p)
  all_held = body_held count_of_arrays p (numbered_body p) (core (no_sources p) (replicate count_of_arrays None)) (record {
    fields = λ f. subst (Below count_of_arrays) (sym (no_sets (length p.packet.fields) f)) tt;
    copies = λ a. subst (CopyBelow count_of_arrays) (sym (no_copy count_of_arrays a)) tt;
    long = length-replicate count_of_arrays None;
  })

  within_lists : (b : ℕ) (lists : List Sources) → EachBelow count_of_arrays lists → Member b (all_sources lists) → b < count_of_arrays
  within_lists b [] h m = elim m [ ]
  within_lists b (xs ∷ lists) h m = elim (joins_left b xs (all_sources lists) m) [
    | inl l ↦ below_member count_of_arrays xs b h.0 l
    | inr r ↦ within_lists b lists h.1 r
  ]

  behind_below : (b : ℕ) (c : Option (Copy Sources)) → CopyBelow count_of_arrays c → StandsBehind b c → b < count_of_arrays
  behind_below b None h m = elim m [ ]
  behind_below b (Some c) h m = elim m [
    | inl i ↦ below_member count_of_arrays c.index b h.0 i
    | inr r ↦ elim r [ inl u ↦ within_lists b c.under h.2 u | inr s ↦ within_lists b c.stored h.3 s ]
  ]

  copy_there : (copies : Copies) (a : ℕ) → HasCopy (slice_index_or copies a None) → a < length copies
  copy_there [] a h = elim h [ ]
  copy_there (c ∷ copies) zero h = omega arith
  copy_there (c ∷ copies) (suc a) h = let k : a < length copies = copy_there copies a h in omega arith

  behind_there : (b : ℕ) (c : Option (Copy Sources)) → StandsBehind b c → HasCopy c
  behind_there b None m = m
  behind_there b (Some c) m = tt

  touched_below : (a : ℕ) → IsTouched p a → a < count_of_arrays
  touched_below a t = let k : a < length (source_walk p).copies = copy_there (source_walk p).copies a t in let e = all_held.long in omega arith

  -- what needs, and what is needed, are arrays that are there
  needing_below : (a b : ℕ) → Needs p a b → a < count_of_arrays
  needing_below a b m = touched_below a (behind_there b (source_copy p a) m)

  needed_below : (a b : ℕ) → Needs p a b → b < count_of_arrays
  needed_below a b m = behind_below b (source_copy p a) (all_held.copies a) m

  module _ (few : count_of_arrays ≤ 16) (table closed : List (List Bool)) (pairs : MarksPairs table (Needs p)) (closes : Closes table closed) where
    marked : (a b : ℕ) → Needs p a b → Marked table a b
    marked a b m =
        let wa : a < 16 = (let l = needing_below a b m in omega (arith, l, few)) in
        let wb : b < 16 = (let l = needed_below a b m in omega (arith, l, few)) in
        (wa, wb, (pairs a b wa wb).1 m)

    needed : (a b : ℕ) → Marked table a b → Needs p a b
    needed a b m = (pairs a b m.0 m.1).0 m.2

    reach_needs : {a b : ℕ} → Reaches (Marked table) a b → Reaches (Needs p) a b
    reach_needs (here {a = a}) = here
    reach_needs (step {a = a} {b = b} {c = c} m rest) = step (needed a b m) (reach_needs rest)

    reach_marks : {a b : ℕ} → Reaches (Needs p) a b → Reaches (Marked table) a b
    reach_marks (here {a = a}) = here
    reach_marks (step {a = a} {b = b} {c = c} m rest) = step (marked a b m) (reach_marks rest)

    ends_below : {b c : ℕ} → b < 16 → Reaches (Marked table) b c → c < 16
    ends_below w (here {a = a}) = w
    ends_below w (step {a = a} {b = b} {c = c} m rest) = ends_below m.1 rest

    pub to_source : (a b : ℕ) → Linked closed a b → Reaches (Needs p) a b
    to_source a b (inl e) = subst (λ x. Reaches (Needs p) a x) e here
    to_source a b (inr m) = reach_needs ((closes a b m.0 m.1).0 (is_linked closed a b (inr m)))

    from_steps : {a b : ℕ} → Reaches (Marked table) a b → Linked closed a b
    from_steps (here {a = a}) = inl refl
    from_steps (step {a = a} {b = b} {c = c} m rest) =
        let w : c < 16 = ends_below m.1 rest in
        linked closed a c m.0 w ((closes a c m.0 w).1 (step m rest))

    pub from_source : (a b : ℕ) → Reaches (Needs p) a b → Linked closed a b
    from_source a b r = from_steps (reach_marks r)

    module _ (row : List Bool) (marks : Marks row (IsTouched p)) where
      on : (a : ℕ) → IsTouched p a → IsOn row a
      on a t = let w : a < 16 = (let l = touched_below a t in omega (arith, l, few)) in (w, (marks a w).1 t)

      off : (a : ℕ) → IsOn row a → IsTouched p a
      off a t = (marks a t.0).0 t.1

      pub groups_are : (count : ℕ) (of : List (Option ℕ)) → AreGroups (IsOn row) (Linked closed) count of → AreSourceGroups p count of
      groups_are count of h =
          let g : AreGroups (IsOn row) (Reaches (Needs p)) count of = groups_along (IsOn row) (Linked closed) (Reaches (Needs p)) to_source from_source count of h in
          record {
            touched = λ a w t. g.touched a w (on a t);
            untouched = λ a w t. g.untouched a w (λ o. t (off a o));
            same = λ a b ta tb. g.same a b (on a ta) (on b tb);
            used = λ k w. let u = g.used k w in (u.0, u.1, off u.0 u.2, u.3);
            ordered = g.ordered;
          }
