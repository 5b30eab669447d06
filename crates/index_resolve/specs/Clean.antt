-- Whether a value is clean: no copy of an array is behind it, so a header alone tells it.
use Rattle.std.specs.Prelude.{◌≡◌, ℕ, Bool, true, false, ◌&&◌, List, [], ◌∷◌, replicate, Option}
use Rattle.mp5_words.specs.Domain.{Domain, sources}
use Rattle.mp5_words.specs.Copies.{at}
use Rattle.code_forms.specs.declared.flat.FlatArray.{FlatArray}
use Rattle.code_forms.specs.declared.flat.Instr.{Instr}
use Rattle.code_forms.specs.FlatMeaning.{Slots, step_value, flat_values}
use Rattle.flat_graph.specs.Nodes.{owner}

-- whether there are none
abbrev pub is_none : List ℕ → Bool
is_none [] = true
is_none (a ∷ arrays) = false

-- the arrays behind the values of all slots; none behind those of a header
abbrev pub code_sources : ℕ → List FlatArray → List Instr → List (List ℕ)
code_sources fields arrays instrs = flat_values (List ℕ) sources fields arrays instrs (replicate fields [])

-- no array is behind the value of a slot
abbrev pub IsClean : ℕ → List FlatArray → List Instr → ℕ → Type 0
IsClean fields arrays instrs slot = at (List ℕ) sources.ops (code_sources fields arrays instrs) slot ≡ []

-- ---- by tests

-- a value is clean where all that it is made of is, and a copy never is
abbrev pub cleans : Domain Bool
cleans = record {
  ops = record { number = λ z. true; one = λ op a. a; two = λ op a b. a && b; pick = λ c a b. c && (a && b); hash = λ kind a b c. a && (b && c) };
  yes = λ g c. g && c;
  no = λ g c. g && c;
  index = λ n a. a;
  load = λ n a. false;
  cover = λ n a. false;
}

-- whether the values of all slots are clean
abbrev pub clean_slots : ℕ → List FlatArray → List Instr → List Bool
clean_slots fields arrays instrs = flat_values Bool cleans fields arrays instrs (replicate fields true)

-- the value of an instruction that loads, makes or stores a copy of this array is clean or not, whichever copy it makes
abbrev pub IsCleanStep : List Bool → Instr → Option ℕ → Bool → Type 0
IsCleanStep clean i array result = (slots : Slots) (copy : Option ℕ) → array ≡ owner i copy
    → result ≡ step_value Bool cleans slots clean (record { instr = i; copy = copy })
