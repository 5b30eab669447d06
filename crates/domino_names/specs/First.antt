-- The first place in text order at which something is amiss.
use Rattle.std.specs.Prelude.{◌≡◌, ◌≢◌, List, ◌∷◌, ◌++◌, Result, IfErr}
use Rattle.domino_names.specs.declared.fault.CheckFault.{CheckFault}
use Rattle.domino_names.specs.declared.fault.CheckFault.TheVariants.{NoMemory}

-- Something is amiss at one of these places, and nothing at those before it. `Amiss before x f` says that
-- something is amiss at the place x, which stands behind the places `before`, and that f tells it.
pub record FirstFault {A : Type 0} (Amiss : List A → A → CheckFault → Type 0) (places : List A) (f : CheckFault) : Type 0 where
  pub front : List A
  pub at : A
  pub back : List A
  pub is : places ≡ front ++ at ∷ back
  pub amiss : Amiss front at f
  pub fine : (before : List A) (x : A) (after : List A) (g : CheckFault) → front ≡ before ++ x ∷ after → ¬ Amiss before x g

-- nothing is amiss at any place
abbrev pub NoFault : {A : Type 0} → (List A → A → CheckFault → Type 0) → List A → Type 0
NoFault {A = A} Amiss places = (before : List A) (x : A) (after : List A) (g : CheckFault) → places ≡ before ++ x ∷ after → ¬ Amiss before x g

-- what is so of the fault that refuses, unless memory ran out
abbrev pub IfRefused : {T : Type 0} → Result T CheckFault → (CheckFault → Type 0) → Type 0
IfRefused result P = IfErr result (λ f. f ≢ NoMemory → P f)
