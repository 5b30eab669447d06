-- Flat code agrees with its source: count, groups, units and places.
use Rattle.std.proofs.Common.{◌≡◌, ℕ, ℤ, List, [], length, replicate, Option, None, Some, refl, sym, ap, subst, ◌∙◌}
use Rattle.std.specs.Prelude.{IsTrue}
use Rattle.mp5_words.specs.Copies.{Copy, at}
use Rattle.mp5_words.specs.Domain.{source_ops, sources}
use Rattle.domino_tree.specs.declared.program.Program.{Program}
use Rattle.domino_check.specs.Place.{HasPlace, IsUnit}
use Rattle.domino_check.specs.SourceGroups.{no_sources, source_copy, index_sources, IsSharded}
use Rattle.code_forms.specs.declared.guard.GuardCode.{GuardCode}
use Rattle.code_forms.specs.declared.flat.FlatCode.{FlatCode}
use Rattle.code_forms.specs.declared.flat.Operand.{Operand}
use Rattle.code_forms.specs.FlatMeaning.{flat_values, index_slot}
use Rattle.dependence.specs.Groups.{group_of}
use Rattle.ssa_flatten.proofs.FlatLines.{stood}
use Rattle.index_resolve.proofs.StagedFacts.{within_of}
use Rattle.domino_compile.specs.GroupsCode.{IsCodeOf}
use Rattle.domino_compile.specs.GroupsAgree.{AreCodeGroups, CanShard, HasCodePlace, IsCodeUnit, Agrees}
use Rattle.domino_compile.proofs.CountLemmas.{instrs_count}
use Rattle.domino_compile.proofs.GroupsLemmas.{groups_are}
use Rattle.domino_compile.proofs.GroupsShared.{same_index, index_same_of, one_place}
use Rattle.domino_compile.proofs.GroupsStand.{known, lengths_are}
use Rattle.domino_compile.proofs.GroupsSteps.{index_value_is}
use Rattle.domino_compile.proofs.NeedsNodes as code
use Rattle.domino_compile.proofs.PlacesLemmas.{reserved_is}
use Rattle.domino_compile.proofs.PlacesUnits as places

module _ (p : Program) (g : GuardCode) (f : FlatCode) (is : IsCodeOf p g f) (count : ℕ) (of : List (Option ℕ)) (groups : AreCodeGroups f count of) where
  -- an array of a group is touched
  known_in : (a k : ℕ) → group_of of a ≡ Some k → (c : Copy Operand) × (known p g f is a ≡ Some c)
  known_in a k e = by_copy (known p g f is a) refl where
    by_copy : (o : Option (Copy Operand)) → known p g f is a ≡ o → (c : Copy Operand) × (known p g f is a ≡ Some c)
    by_copy (Some c) same = (c, same)
    by_copy None same = absurd (no_way (sym (groups.untouched a (within_of of a k e) (λ t. unknown (code.known_of p g f is a t))) ∙ e)) where
      no_way : None ≡ Some k → ⊥
      no_way e = cc

      unknown : (c : Copy Operand) × (known p g f is a ≡ Some c) → ⊥
      unknown h = none h.0 (sym same ∙ h.1) where
        none : (c : Copy Operand) → None ≡ Some c → ⊥
        none c e = cc

  -- the arrays behind an Index are those behind the array's index
  clean_is : (a : ℕ) (c : Copy Operand) → known p g f is a ≡ Some c → at (List ℕ) source_ops (flat_values (List ℕ) sources f.fields f.arrays f.instrs (replicate f.fields [])) (index_slot f.instrs f.fields a) ≡ index_sources (source_copy p a)
  clean_is a c e =
      (λ i. at (List ℕ) source_ops (flat_values (List ℕ) sources f.fields f.arrays f.instrs (replicate ((is.width ∙ is.fields) i) [])) (index_slot f.instrs f.fields a))
      ∙ index_value_is p g f is (List ℕ) sources (no_sources p) (code.long p g f is) a c e
      ∙ ap index_sources (sym (code.source_stands p g f is a ∙ ap (stood (code.value p g f is)) e))

  to_sharded : (k : ℕ) → CanShard f of k → IsSharded p of k
  to_sharded k h = record {
    clean = λ a e. let c = known_in a k e in sym (clean_is a c.0 c.1) ∙ h.clean a e;
    index = λ a b ea eb. let c = known_in a k ea in let d = known_in b k eb in same_index p g f is a b c.0 d.0 c.1 d.1 (h.same a b ea eb);
    length = λ a b ea eb. sym (ap (λ l. l a) (lengths_are p g f is)) ∙ h.even a b ea eb ∙ ap (λ l. l b) (lengths_are p g f is);
  }

  from_sharded : (k : ℕ) → IsSharded p of k → CanShard f of k
  from_sharded k h = record {
    clean = λ a e. let c = known_in a k e in clean_is a c.0 c.1 ∙ h.clean a e;
    same = λ a b ea eb. let c = known_in a k ea in let d = known_in b k eb in index_same_of p g f is a b c.0 d.0 c.1 d.1 (h.index a b ea eb);
    even = λ a b ea eb. ap (λ l. l a) (lengths_are p g f is) ∙ h.length a b ea eb ∙ sym (ap (λ l. l b) (lengths_are p g f is));
  }

  module _ (header : List ℤ) (long : length header ≡ length p.packet.fields) where
    to_place : (k : ℕ) → HasCodePlace f header of k → HasPlace p header of k
    to_place k h = (h.0, h.1, subst IsTrue (reserved_is p g f is header long h.0) h.2)

    from_place : (k : ℕ) → HasPlace p header of k → HasCodePlace f header of k
    from_place k h = (h.0, h.1, subst IsTrue (sym (reserved_is p g f is header long h.0)) h.2)

    -- the first array of a sharded group gives the unit of the one that is touched first
    unit_is : (k unit : ℕ) → IsCodeUnit f header of k unit → IsUnit p header of k unit
    unit_is k unit h = record {
      sharded = λ s b first.
          let one = h.sharded (from_sharded k s) in
          let c = known_in one.0 k one.1 in
          let d = known_in b k first.3 in
          one.2 ∙ places.index_place p g f is header long one.0 c.0 c.1
          ∙ one_place p g f is header long one.0 b c.0 d.0 c.1 d.1 (s.index one.0 b one.1 first.3) (s.length one.0 b one.1 first.3);
      pinned = λ n. h.pinned (λ c. n (to_sharded k c));
    }

  -- flat code agrees with its source
  pub code_agrees : Agrees p f count of
  code_agrees = record {
    instrs = instrs_count p g f is;
    cells = λ a. ap (λ l. l a) (lengths_are p g f is);
    groups = groups_are p g f is count of groups;
    sharded = λ k. (to_sharded k, from_sharded k);
    places = λ header long k. (to_place header long k, from_place header long k);
    units = λ header long k unit h. unit_is header long k unit h;
  }
