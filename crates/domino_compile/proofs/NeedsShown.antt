-- The arrays behind the value of an instruction are its own array alone, or those behind what it takes.
use Rattle.std.proofs.Common.{◌≡◌, ℕ, ◌+◌, ◌-◌, ◌<◌, ◌≤◌, ◌⊎◌, inl, inr, Bool, true, false, nat_lt, if◌then◌else◌, List, [], ◌∷◌, ◌++◌, map, None, refl, sym, subst, append-nil, arith}
use Rattle.std.proofs.lemmas.Bool.Decides.{nat_tests}
use Rattle.mp5_words.specs.Domain.{sources}
use Rattle.mp5_words.specs.Copies.{at}
use Rattle.domino_check.specs.SourceGroups.{all_sources}
use Rattle.code_forms.specs.declared.flat.FlatArray.{FlatArray}
use Rattle.code_forms.specs.declared.flat.Operand.{Operand}
use Rattle.code_forms.specs.declared.flat.Operand.TheVariants as operand
use Rattle.code_forms.specs.declared.flat.Instr.{Instr}
use Rattle.code_forms.specs.declared.flat.Instr.TheVariants as instr
use Rattle.code_forms.specs.FlatMeaning.{Slots, operand_value, instr_value}
use Rattle.dependence.specs.Uses.{Member}
use Rattle.flat_graph.specs.Nodes.{writer, writers, used_by, owner}
use Rattle.domino_compile.proofs.NeedsSteps.{Among}

pub member_left : (x : ℕ) (xs ys : List ℕ) → Member x xs → Member x (xs ++ ys)
member_left x [] ys m = elim m [ ]
member_left x (y ∷ xs) ys (inl e) = inl e
member_left x (y ∷ xs) ys (inr m) = inr (member_left x xs ys m)

pub member_right : (x : ℕ) (xs ys : List ℕ) → Member x ys → Member x (xs ++ ys)
member_right x [] ys m = m
member_right x (y ∷ xs) ys m = inr (member_right x xs ys m)

pub member_cases : (x : ℕ) (xs ys : List ℕ) → Member x (xs ++ ys) → Member x xs ⊎ Member x ys
member_cases x [] ys m = inr m
member_cases x (y ∷ xs) ys (inl e) = inl (inl e)
member_cases x (y ∷ xs) ys (inr m) = elim (member_cases x xs ys m) [ inl l ↦ inl (inr l) | inr r ↦ inr r ]

-- a writer of operands writes one of them
pub writer_of : (fields j : ℕ) (xs : List Operand) → Member j (writers fields xs) → (x : Operand) × Among x xs × Member j (writer fields x)
writer_of fields j [] m = elim m [ ]
writer_of fields j (x ∷ xs) m = elim (member_cases j (writer fields x) (writers fields xs) m) [
  | inl l ↦ (x, inl refl, l)
  | inr r ↦ let h = writer_of fields j xs r in (h.0, inr h.1, h.2)
]

pub writer_in : (fields j : ℕ) (x : Operand) (xs : List Operand) → Among x xs → Member j (writer fields x) → Member j (writers fields xs)
writer_in fields j x [] m w = elim m [ ]
writer_in fields j x (y ∷ xs) (inl e) w = member_left j (writer fields y) (writers fields xs) (subst (λ z. Member j (writer fields z)) e w)
writer_in fields j x (y ∷ xs) (inr m) w = member_right j (writer fields y) (writers fields xs) (writer_in fields j x xs m w)

-- an array behind one of the values of operands
pub behind_in : (value : Operand → List ℕ) (b : ℕ) (x : Operand) (xs : List Operand) → Among x xs → Member b (value x) → Member b (all_sources (map value xs))
behind_in value b x [] m h = elim m [ ]
behind_in value b x (y ∷ xs) (inl e) h = member_left b (value y) (all_sources (map value xs)) (subst (λ z. Member b (value z)) e h)
behind_in value b x (y ∷ xs) (inr m) h = member_right b (value y) (all_sources (map value xs)) (behind_in value b x xs m h)

pub behind_of : (value : Operand → List ℕ) (b : ℕ) (xs : List Operand) → Member b (all_sources (map value xs)) → (x : Operand) × Among x xs × Member b (value x)
behind_of value b [] m = elim m [ ]
behind_of value b (x ∷ xs) m = elim (member_cases b (value x) (all_sources (map value xs)) m) [
  | inl l ↦ (x, inl refl, l)
  | inr r ↦ let h = behind_of value b xs r in (h.0, inr h.1, h.2)
]

module _ (fields : ℕ) (env : List (List ℕ)) (empty : (k : ℕ) → k < fields → at (List ℕ) sources.ops env k ≡ []) where
  -- the arrays that an instruction shows
  abbrev pub up : ℕ → List ℕ
  up j = at (List ℕ) sources.ops env (fields + j)

  -- the members of a list are those of what these show
  pub record Shows (arrays uses : List ℕ) : Type 0 where
    pub gathered : (b : ℕ) → Member b arrays → (j : ℕ) × Member j uses × Member b (up j)
    pub gathers : (j b : ℕ) → Member j uses → Member b (up j) → Member b arrays

  nothing : Shows [] []
  nothing = record { gathered = λ b m. elim m [ ]; gathers = λ j b m k. elim m [ ] }

  both : (xs us ys vs : List ℕ) → Shows xs us → Shows ys vs → Shows (xs ++ ys) (us ++ vs)
  both xs us ys vs one two = record {
    gathered = λ b m. elim (member_cases b xs ys m) [
      | inl l ↦ let g = one.gathered b l in (g.0, member_left g.0 us vs g.1, g.2)
      | inr r ↦ let g = two.gathered b r in (g.0, member_right g.0 us vs g.1, g.2)
    ];
    gathers = λ j b m k. elim (member_cases j us vs m) [
      | inl l ↦ member_left b xs ys (one.gathers j b l k)
      | inr r ↦ member_right b xs ys (two.gathers j b r k)
    ];
  }

  slot_shows : (k : ℕ) (below : Bool) → nat_lt k fields ≡ below → Shows (at (List ℕ) sources.ops env k) (if below then [] else (k - fields) ∷ [])
  slot_shows k false is =
      let same : fields + (k - fields) ≡ k = omega (arith, at_least) in
      record {
        gathered = λ b m. (k - fields, inl refl, subst (λ n. Member b (at (List ℕ) sources.ops env n)) (sym same) m);
        gathers = λ j b m e. subst (λ n. Member b (at (List ℕ) sources.ops env n)) same (subst (λ n. Member b (up n)) (only j m) e);
      } where
        at_least : fields ≤ k
        at_least = grind (arith, nat_tests, is)

        only : (j : ℕ) → Member j ((k - fields) ∷ []) → j ≡ k - fields
        only j (inl e) = e
        only j (inr m) = elim m [ ]
  slot_shows k true is = subst (λ l. Shows l []) (sym (empty k below)) nothing where
    below : k < fields
    below = grind (arith, nat_tests, is)

  pub operand_shows : (x : Operand) → Shows (operand_value (List ℕ) sources env x) (writer fields x)
  operand_shows (operand.Slot k) = slot_shows k (nat_lt k fields) refl
  operand_shows (operand.Number n) = nothing

  last : (x : Operand) → Shows (operand_value (List ℕ) sources env x) (writer fields x ++ [])
  last x = subst (Shows (operand_value (List ℕ) sources env x)) (sym (append-nil (writer fields x))) (operand_shows x)

  -- the value of an instruction of no array is what its uses show
  pub instr_shows : (slots : Slots) (arrays : List FlatArray) (instrs : List Instr) (i : Instr) → owner i None ≡ None → Shows (instr_value (List ℕ) sources slots env i) (used_by fields arrays instrs i)
  instr_shows slots arrays instrs (instr.One op a) none = last a
  instr_shows slots arrays instrs (instr.Two op a b) none = both _ _ _ _ (operand_shows a) (last b)
  instr_shows slots arrays instrs (instr.Pick c a b) none = both _ _ _ _ (operand_shows c) (both _ _ _ _ (operand_shows a) (last b))
  instr_shows slots arrays instrs (instr.Hash kind a b c) none = both _ _ _ _ (operand_shows a) (both _ _ _ _ (operand_shows b) (last c))
  instr_shows slots arrays instrs (instr.Move a) none = last a
  instr_shows slots arrays instrs (instr.Yes g c) none = both _ _ _ _ (operand_shows g) (last c)
  instr_shows slots arrays instrs (instr.No g c) none = both _ _ _ _ (operand_shows g) (last c)
  instr_shows slots arrays instrs (instr.Index n a) none = last a
  instr_shows slots arrays instrs (instr.Load n) none = absurd cc
  instr_shows slots arrays instrs (instr.Store n a) none = absurd cc
