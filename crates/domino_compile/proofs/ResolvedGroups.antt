-- Resolved code has the groups, units and places of its source.
use Rattle.std.proofs.Common.{◌≡◌, ℕ, ◌<◌, ℤ, Bool, true, false, if◌then◌else◌, List, length, Option, None, Some, refl, sym, ap, subst, ◌∙◌, arith}
use Rattle.std.specs.Prelude.{◌↔◌}
use Rattle.std.specs.List.{list_any}
use Rattle.mp5_words.specs.Domain.{Mark}
use Rattle.domino_tree.specs.declared.program.Program.{Program}
use Rattle.domino_check.specs.SourceGroups.{IsSharded, HasUnits}
use Rattle.domino_check.specs.Place.{HasPlace}
use Rattle.code_forms.specs.declared.flat.FlatCode.{FlatCode}
use Rattle.code_forms.specs.declared.guard.GuardCode.{GuardCode}
use Rattle.code_forms.specs.declared.layout.Layout.{Layout}
use Rattle.code_forms.specs.declared.parts.StagedParts.{StagedParts}
use Rattle.code_forms.specs.FlatMeaning.{flat_length}
use Rattle.code_forms.specs.Staged.{Staged, group_at, first_array, unit_count, in_parts, IsStaged}
use Rattle.code_forms.specs.StagedMeaning.{place}
use Rattle.index_resolve.specs.HeaderRun.{is_reserved, unit_on}
use Rattle.index_resolve.specs.Places.{HasPlaces}
use Rattle.index_resolve.specs.Resolve.{IsPacked, ArePartsOf, IsResolved}
use Rattle.index_resolve.proofs.PlaceLaws.{no_member}
use Rattle.index_resolve.proofs.ResolveLemmas as resolved
use Rattle.dependence.specs.Groups.{group_of}
use Rattle.domino_compile.specs.GroupsCode.{IsCodeOf}
use Rattle.domino_compile.specs.PlacesCode.{code_marks}
use Rattle.domino_compile.specs.GroupsAgree.{CanShard, IsCodeUnit, index_place, Agrees}
use Rattle.domino_compile.specs.Compiled.{IsPlaceOf, HasSourceGroups}
use Rattle.domino_compile.proofs.GroupsAgreement.{code_agrees}
use Rattle.domino_compile.proofs.ListedGroups as listed

-- what isn't true is false
not_true : (b : Bool) → (b ≡ true → ⊥) → b ≡ false
not_true true n = absurd (n refl)
not_true false n = refl

false_true : {A : Type 0} → false ≡ true → A
false_true e = absurd cc

module _ (p : Program) (g : GuardCode) (f : FlatCode) (is : IsCodeOf p g f) (l : Layout) (packed : IsPacked f l) (parts : StagedParts) (are : ArePartsOf f l parts)
    (staged : IsStaged (in_parts f parts)) (places : HasPlaces (in_parts f parts)) where
  abbrev c : Staged
  c = in_parts f parts

  abbrev of : List (Option ℕ)
  of = packed.layout.of

  agrees : Agrees p f (length c.groups) of
  agrees = code_agrees p g f is (length c.groups) of (resolved.groups f l packed parts are)

  -- ---- units

  module _ (n : ℕ) (less : n < length c.groups) where
    abbrev first : ℕ
    first = first_array (group_at c n)

    first_is : group_of of first ≡ Some n
    first_is = listed.member_number f l packed parts are staged n first less (listed.first_listed f l packed parts are staged n less)

    can_be : ((group_at c n).sharded ≡ true) ↔ CanShard f of n
    can_be =
        let shards = are.shards n (omega (arith, less, are.count)) in
        ((λ e. listed.can_by_number f l packed parts are staged n less (shards.0 e)), (λ can. shards.1 (listed.can_by_list f l packed parts are staged n less can)))

    sharded_is : ((group_at c n).sharded ≡ true) ↔ IsSharded p of n
    sharded_is = ((λ e. (agrees.sharded n).0 (can_be.0 e)), (λ s. can_be.1 ((agrees.sharded n).1 s)))

    units_are : HasUnits p of n (unit_count c (group_at c n))
    units_are = record {
      sharded = λ s a e. ap count (sharded_is.1 s) ∙ agrees.cells first ∙ s.length first a first_is e;
      pinned = λ none. ap count (not_true (group_at c n).sharded (λ e. none (sharded_is.0 e)));
    } where
      count : Bool → ℕ
      count sharded = if sharded then flat_length c.arrays first else 1

    -- ---- places

    module _ (header : List ℤ) (long : length header ≡ c.fields) where
      abbrev marks : List Mark
      marks = code_marks f header

      abbrev unit : ℕ
      unit = unit_on c.fields c.instrs marks (group_at c n).sharded (group_at c n).arrays

      as_declared : length header ≡ length p.packet.fields
      as_declared = long ∙ is.width ∙ is.fields

      unit_is : IsCodeUnit f header of n unit
      unit_is = record {
        sharded = λ can. (first, first_is, ap chosen (can_be.1 can));
        pinned = λ none. ap chosen (not_true (group_at c n).sharded (λ e. none (can_be.0 e)));
      } where
        chosen : Bool → ℕ
        chosen sharded = if sharded then index_place f header first else 0

      place_is : IsPlaceOf p header of n (place c header n)
      place_is = subst (IsPlaceOf p header of n) (sym (places header long n less)) (by (list_any reserved (group_at c n).arrays) refl) where
        reserved : ℕ → Bool
        reserved a = is_reserved c.arrays marks a

        by : (b : Bool) → list_any reserved (group_at c n).arrays ≡ b → IsPlaceOf p header of n (if b then Some unit else None)
        by true e =
            let r = listed.passing_member reserved (group_at c n).arrays e in
            let has : HasPlace p header of n = (agrees.places header as_declared n).0 (r.0, listed.member_number f l packed parts are staged n r.0 less r.1, r.2) in
            (has, agrees.units header as_declared n unit unit_is)
        by false e = λ has.
            let r = (agrees.places header as_declared n).1 has in
            false_true (sym (no_member reserved (group_at c n).arrays r.0 e (listed.number_member f l packed parts are staged n r.0 less r.1)) ∙ r.2)

  -- ---- all of it

  has_groups : HasSourceGroups p c
  has_groups = record {
    of = of;
    numbers = listed.same_number f l packed parts are staged;
    groups = agrees.groups;
    sharded = sharded_is;
    units = units_are;
    places = λ header long n less. place_is n less header long;
  }

-- resolved code has the groups of its source
pub source_groups : (p : Program) (g : GuardCode) (f : FlatCode) (l : Layout) (c : Staged) → IsCodeOf p g f → IsPacked f l → IsResolved f l c → IsStaged c → HasPlaces c → HasSourceGroups p c
source_groups p g f l c is packed made staged places =
    let same : c ≡ in_parts f made.0 = made.1 in
    subst (HasSourceGroups p) (sym same) (has_groups p g f is l packed made.0 made.2 (subst IsStaged same staged) (subst HasPlaces same places))
