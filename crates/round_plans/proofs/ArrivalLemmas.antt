-- The places of the next arrival: they can be counted, and with them the loads are those of one arrival more.
use Rattle.std.proofs.Common.{◌≡◌, ℕ, suc, ◌+◌, ◌<◌, ◌≤◌, ℤ, Bool, true, false, nat_lt, List, [], length, map, slice_get, slice_index, sum, Option, Some, None, refl, sym, ap, subst, ◌∙◌, arith, add-one}
use Rattle.std.proofs.lemmas.Bool.{ltb-true, ltb-false}
use Rattle.std.proofs.lemmas.List.{length-map, get_or-map}
use Rattle.std.proofs.lemmas.Option.{get_or_from_slice_get}
use Rattle.code_forms.specs.Staged.{Staged, HasSizes, no_group, group_at, unit_count}
use Rattle.code_forms.specs.StagedMeaning.{HasUnits, place, place_code}
use Rattle.shard_rounds.specs.Rounds.{AreUnits}
use Rattle.shard_rounds.specs.Holding.{row_at}
use Rattle.run_laws.specs.Run.{Run, arrivals, load_below, place_of, unit_counts}
use Rattle.run_laws.specs.LawfulPlans.{row_below, loads_below}
use Rattle.round_plans.specs.Counting.{loads_with, IsPlace, ArePlaces}
use Rattle.round_plans.proofs.ChoicePlans.{loads_long, load_row, row_long}
use Rattle.round_plans.proofs.CountLemmas.{few_places, loads_next}

-- the counts of units are such as they may be
pub units_sized : (c : Staged) → length c.groups ≤ 16 → HasSizes c → AreUnits (map (unit_count c) c.groups)
units_sized c few sizes = record {
  groups = let long = length-map c.groups (unit_count c) in omega (arith, long, few);
  sizes = λ g d lt.
      let long = length-map c.groups (unit_count c) in
      let less : g < length c.groups = omega (arith, long, lt) in
      subst (λ n. (1 ≤ n) × (n ≤ 65536)) (sym (get_or-map (unit_count c) c.groups g no_group d less)) (sizes g less);
}

-- a place as a number tells its unit
coded : (p : Option ℕ) (u : ℕ) → place_code p ≡ suc u → p ≡ Some u
coded None u e = absurd (omega (arith, e))
coded (Some v) u e = ap (λ n. Some n) (omega (arith, e))

module _ (run : Run) (t : ℕ) (header : List ℤ) (loads : List (List ℕ)) (places : List ℕ) (few : arrivals run ≤ 262144) (there : t < arrivals run)
    (is : loads ≡ loads_below run t) (read : slice_get run.headers t ≡ Some header) (long : length places ≡ 16) (groups : length run.code.groups ≤ 16)
    (are : (g : ℕ) → g < 16 → slice_index places g ≡ place_code (place run.code header g))
    (rest : (g : ℕ) → length run.code.groups ≤ g → g < 16 → slice_index places g ≡ 0) (units : HasUnits run.code header) where
  placed : (g : ℕ) → place_of run t g ≡ place run.code header g
  placed g = ap (λ (h : List ℤ). place run.code h g) (get_or_from_slice_get run.headers t header [] read)

  from_none : (k : ℕ) → place_of run t k ≡ place_of run t (0 + k)
  from_none k = ap (place_of run t) (omega arith)

  counts_long : length (unit_counts run) ≡ length run.code.groups
  counts_long = length-map run.code.groups (unit_count run.code)

  count_at : (g : ℕ) → g < length run.code.groups → slice_index (unit_counts run) g ≡ unit_count run.code (group_at run.code g)
  count_at g lt = get_or-map (unit_count run.code) run.code.groups g no_group 0 lt

  in_group : (g u : ℕ) → g < 16 → slice_index places g ≡ suc u → g < length run.code.groups
  in_group g u lt e = by (nat_lt g (length run.code.groups)) refl
    where
      by : (b : Bool) → nat_lt g (length run.code.groups) ≡ b → g < length run.code.groups
      by true f = ltb-true g (length run.code.groups) f
      by false f = let none = rest g (ltb-false g (length run.code.groups) f) lt in absurd (omega (arith, none, e))

  place_there : (g u : ℕ) → g < length run.code.groups → slice_index places g ≡ suc u → IsPlace loads g u
  place_there g u lt e =
      let known : g < length (unit_counts run) = omega (arith, lt, counts_long) in
      let row : row_at loads g ≡ row_below (λ v. load_below run (0 + g) v t) (slice_index (unit_counts run) g) =
      ap (λ (rows : List (List ℕ)). row_at rows g) is ∙ load_row run t 0 (unit_counts run) g known in
      let wide : length (row_at loads g) ≡ slice_index (unit_counts run) g = ap length row ∙ row_long (λ v. load_below run (0 + g) v t) (slice_index (unit_counts run) g) in
      let unit = units g u lt (coded (place run.code header g) u (sym (are g (omega (arith, lt, groups))) ∙ e)) in
      let count = count_at g lt in
      let all : length loads ≡ length (unit_counts run) = ap length is ∙ loads_long run t 0 (unit_counts run) in
      let most = few_places run (0 + g) (slice_index (unit_counts run) g) t in
      record {
        group = omega (arith, known, all);
        unit = omega (arith, unit, count, wide);
        few = subst (λ (xs : List ℕ). sum xs < 262144) (sym row) (omega (arith, most, there, few));
      }

  -- the places can be counted
  pub arrival_places : ArePlaces loads places
  arrival_places g u lt e = place_there g u (in_group g u (omega (arith, lt, long)) e) e

  -- and then the arrival is
  pub arrival_counted : (after : List (List ℕ)) → after ≡ loads_with loads places → after ≡ loads_below run (t + 1)
  arrival_counted after e =
      e ∙ ap (λ (rows : List (List ℕ)). loads_with rows places) is
      ∙ loads_next run t 0 (unit_counts run) places (omega (arith, counts_long, groups, long))
      (λ k lt. are k (omega (arith, lt, counts_long, groups)) ∙ ap place_code (sym (placed k) ∙ from_none k))
      (λ k u lt at.
      let less : k < length run.code.groups = omega (arith, lt, counts_long) in
      let unit = units k u less (sym (placed k) ∙ from_none k ∙ at) in
      let count = count_at k less in
      omega (arith, unit, count))
      ∙ ap (loads_below run) (sym (add-one t))
