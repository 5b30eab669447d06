-- The arrays that a group of resolved code lists are those that have its number among the groups of the layout.
use Rattle.std.proofs.Common.{◌≡◌, inl, inr, ℕ, ◌<◌, ◌||◌, Bool, true, false, List, [], ◌∷◌, length, Option, None, Some, refl, sym, subst, ◌∙◌, arith}
use Rattle.std.specs.List.{list_any}
use Rattle.code_forms.specs.declared.flat.FlatCode.{FlatCode}
use Rattle.code_forms.specs.declared.layout.Layout.{Layout}
use Rattle.code_forms.specs.declared.parts.StagedParts.{StagedParts}
use Rattle.code_forms.specs.Staged.{Staged, Member, group_at, first_array, in_parts, IsStaged}
use Rattle.code_forms.specs.Staged.{group_of as listed_in}
use Rattle.code_forms.proofs.RunningLemmas.{below_or_past}
use Rattle.code_forms.proofs.StagedLemmas.{first_member}
use Rattle.dependence.specs.Groups.{AreGroups, group_of}
use Rattle.index_resolve.specs.HeaderRun.{CanShard as ListCanShard}
use Rattle.index_resolve.specs.Resolve.{IsPacked, ArePartsOf}
use Rattle.index_resolve.proofs.GroupFacts.{set_group, group_set}
use Rattle.index_resolve.proofs.StagedFacts.{within_of}
use Rattle.index_resolve.proofs.ResolveLemmas as resolved
use Rattle.domino_compile.specs.GroupsAgree.{CanShard}
use Rattle.domino_compile.proofs.MeaningGroups.{group_has}

no_way : {A : Type 0} {n : ℕ} → None ≡ Some n → A
no_way e = absurd cc

some_is : {m n : ℕ} → Some m ≡ Some n → m ≡ n
some_is e = cc

-- some member passes a test that some item of a list passes
pub passing_member : (f : ℕ → Bool) (xs : List ℕ) → list_any f xs ≡ true → (a : ℕ) × Member a xs × (f a ≡ true)
passing_member f [] e = absurd cc
passing_member f (x ∷ xs) e = by (f x) refl e (passing_member f xs) where
  by : (b : Bool) → f x ≡ b → (b || list_any f xs) ≡ true → (list_any f xs ≡ true → (a : ℕ) × Member a xs × (f a ≡ true)) → (a : ℕ) × Member a (x ∷ xs) × (f a ≡ true)
  by true is e next = (x, inl refl, is)
  by false is e next = let r = next e in (r.0, inr r.1, r.2)

-- the number of a group is below their count
number_below : (T : ℕ → Type 0) (Q : ℕ → ℕ → Type 0) (count : ℕ) (of : List (Option ℕ)) → AreGroups T Q count of → (a g : ℕ) → group_of of a ≡ Some g → g < count
number_below T Q count of groups a g e = elim (below_or_past g count) [
  | inl less ↦ less
  | inr past ↦ no_way (sym (groups.untouched a (within_of of a g e) (λ t.
      let r = groups.touched a (within_of of a g e) t in
      let same : r.0 ≡ g = some_is (sym r.2 ∙ e) in
      omega (arith, r.1, past, same))) ∙ e)
]

module _ (f : FlatCode) (l : Layout) (packed : IsPacked f l) (parts : StagedParts) (are : ArePartsOf f l parts) (staged : IsStaged (in_parts f parts)) where
  abbrev c : Staged
  c = in_parts f parts

  abbrev of : List (Option ℕ)
  of = packed.layout.of

  -- what a group lists has its number, and what has its number is listed
  pub member_number : (g a : ℕ) → g < length c.groups → Member a (group_at c g).arrays → group_of of a ≡ Some g
  member_number g a less m = set_group g of a (subst (Member a) (resolved.arrays_are f l packed parts are g less) m)

  pub number_member : (g a : ℕ) → g < length c.groups → group_of of a ≡ Some g → Member a (group_at c g).arrays
  number_member g a less e = subst (Member a) (sym (resolved.arrays_are f l packed parts are g less)) (group_set g of a e)

  -- the first of its arrays
  pub first_listed : (g : ℕ) → g < length c.groups → Member (first_array (group_at c g)) (group_at c g).arrays
  first_listed g less = first_member (group_at c g).arrays (staged.groups g less).some

  -- each array has the same group in both
  pub same_number : (a : ℕ) → group_of of a ≡ listed_in c a
  same_number a = by (group_of of a) refl (listed_in c a) refl where
    by : (o : Option ℕ) → group_of of a ≡ o → (s : Option ℕ) → listed_in c a ≡ s → o ≡ s
    by None e None is = refl
    by None e (Some g) is = let has = group_has c a g is in no_way (sym e ∙ member_number g a has.0 has.1)
    by (Some g) e s is =
        let less : g < length c.groups = number_below _ _ (length c.groups) of (resolved.groups f l packed parts are) a g e in
        sym ((staged.groups g less).there a (number_member g a less e)).1 ∙ is

  -- whether a group can be sharded, by its list and by the number of its arrays
  pub can_by_number : (g : ℕ) → g < length c.groups → ListCanShard c.fields c.arrays c.instrs (group_at c g).arrays → CanShard f of g
  can_by_number g less can = record {
    clean = λ a e. can.clean a (number_member g a less e);
    same = λ a b ea eb. can.same a b (number_member g a less ea) (number_member g b less eb);
    even = λ a b ea eb. can.even a b (number_member g a less ea) (number_member g b less eb);
  }

  pub can_by_list : (g : ℕ) → g < length c.groups → CanShard f of g → ListCanShard c.fields c.arrays c.instrs (group_at c g).arrays
  can_by_list g less can = record {
    clean = λ a m. can.clean a (member_number g a less m);
    same = λ a b m n. can.same a b (member_number g a less m) (member_number g b less n);
    even = λ a b m n. can.even a b (member_number g a less m) (member_number g b less n);
  }
