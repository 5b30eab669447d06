-- The units of a run, arrival by arrival: an arrival changes the unit of its place alone.
use Rattle.std.proofs.Common.{◌≡◌, ℕ, zero, suc, ◌+◌, ◌<◌, ◌≤◌, ◌==◌, ℤ, Bool, true, false, if◌then◌else◌, List, [], ◌∷◌, ◌++◌, length, take, Option, Some, None, refl, sym, ap, subst, ◌∙◌, inl, inr, arith}
use Rattle.std.specs.List.{fold}
use Rattle.std.proofs.lemmas.Bool.Decides.{eqb_tells}
use Rattle.std.proofs.lemmas.List.Sums.{fold-append}
use Rattle.std.proofs.Math.Seq.{take-suc}
use Rattle.code_forms.specs.Staged.{Staged, group_at}
use Rattle.code_forms.specs.StagedMeaning.{Units, place, is_place, staged_values, cells_after, units_after}
use Rattle.code_forms.specs.OverHeaders.{start_units}
use Rattle.run_laws.specs.Run.{Run, arrivals, header_at, units_before, place_of, values_of}

-- the units after one arrival more
pub units_step : (run : Run) (t : ℕ) → t < arrivals run → units_before run (suc t) ≡ units_after run.code (units_before run t) (header_at run t)
units_step run t less =
    ap (fold (units_after run.code) (start_units run.code)) (take-suc run.headers t [] less)
    ∙ fold-append (units_after run.code) (start_units run.code) (take t run.headers) (header_at run t ∷ [])

-- a place in another unit isn't this one
not_place : (o : Option ℕ) (u : ℕ) → (o ≡ Some u → ⊥) → is_place o u ≡ false
not_place None u other = refl
not_place (Some v) u other = elim (eqb_tells v u) [ inl t ↦ absurd (other (ap Some t.1)) | inr t ↦ t.0 ]

-- a place is in its own unit
is_own : (u : ℕ) → is_place (Some u) u ≡ true
is_own u = elim (eqb_tells u u) [ inl t ↦ t.0 | inr t ↦ absurd (t.1 refl) ]

-- a unit stays where an arrival has no place in it
pub unit_stays : (run : Run) (t g u : ℕ) → t < arrivals run → (place_of run t g ≡ Some u → ⊥) → units_before run (suc t) g u ≡ units_before run t g u
unit_stays run t g u less other =
    (λ i. units_step run t less i g u)
    ∙ ap (λ (b : Bool). if b then cells_after run.code (values_of run t) (group_at run.code g) (units_before run t g u) else units_before run t g u)
    (not_place (place_of run t g) u other)

-- and becomes what the arrival leaves where it has
pub unit_served : (run : Run) (t g u : ℕ) → t < arrivals run → place_of run t g ≡ Some u
    → units_before run (suc t) g u ≡ cells_after run.code (values_of run t) (group_at run.code g) (units_before run t g u)
unit_served run t g u less here =
    (λ i. units_step run t less i g u)
    ∙ ap (λ (b : Bool). if b then cells_after run.code (values_of run t) (group_at run.code g) (units_before run t g u) else units_before run t g u)
    (ap (λ o. is_place o u) here ∙ is_own u)

-- a unit stays over all arrivals that have no place in it
pub unit_rests : (run : Run) (g u from more : ℕ) → from + more ≤ arrivals run
    → ((t : ℕ) → from ≤ t → t < from + more → place_of run t g ≡ Some u → ⊥)
    → units_before run (from + more) g u ≡ units_before run from g u
unit_rests run g u from zero within none = ap (λ n. units_before run n g u) (omega arith)
unit_rests run g u from (suc more) within none =
    let less : from + more < arrivals run = omega (arith, within) in
    let next : from + suc more ≡ suc (from + more) = omega arith in
    ap (λ n. units_before run n g u) next
    ∙ unit_stays run (from + more) g u less (none (from + more) (omega arith) (omega arith))
    ∙ unit_rests run g u from more (omega (arith, within)) (λ t low high. none t low (omega (arith, high)))
