-- The stations before anything happened.
use Rattle.std.proofs.Common.{◌≡◌, ℕ, zero, suc, ◌+◌, ◌<◌, ◌≤◌, List, [], ◌∷◌, ◌++◌, length, slice_index_or, refl, sym, ap, subst, ◌∙◌, inl, inr, arith}
use Rattle.std.proofs.lemmas.List.{length_push, get_or_push, get_or_append_left}
use Rattle.std.proofs.lemmas.Bool.Decides.{eqb_tells}
use Rattle.run_laws.specs.Run.{Run}
use Rattle.group_station.specs.Station.{Station, site}
use Rattle.group_station.specs.Steps.{first_station}
use Rattle.pipe_stations.specs.Row.{IsRow, group_count, first_stations}

pub first_long : (run : Run) (pipe n : ℕ) → length (first_stations run pipe n) ≡ n
first_long run pipe zero = refl
first_long run pipe (suc n) = let rest = first_long run pipe n in let more = length_push (first_stations run pipe n) (first_station run pipe n) in omega arith

-- the station of each group is its first one
pub first_at : (run : Run) (pipe n g : ℕ) (d : Station) → g < n → slice_index_or (first_stations run pipe n) g d ≡ first_station run pipe g
first_at run pipe zero g d lt = absurd (omega arith)
first_at run pipe (suc n) g d lt = elim (eqb_tells g n) [
  | inl e ↦ subst (λ k. slice_index_or (first_stations run pipe n ++ first_station run pipe n ∷ []) k d ≡ first_station run pipe k) (sym e.1)
      (get_or_push (first_stations run pipe n) (first_station run pipe n) d n (first_long run pipe n))
  | inr e ↦ (let less : g < n = (let other = e.1 in omega arith) in
      get_or_append_left (first_stations run pipe n) (first_station run pipe n ∷ []) d g (let long = first_long run pipe n in omega (arith, less)) ∙ first_at run pipe n g d less)
]

-- one group more
pub first_more : (run : Run) (pipe n : ℕ) (old new : List Station) (s : Station) → new ≡ old ++ s ∷ [] → old ≡ first_stations run pipe n → s ≡ first_station run pipe n → new ≡ first_stations run pipe (n + 1)
first_more run pipe n old new s is e at =
    let next : suc n ≡ n + 1 = omega arith in
    is ∙ ap (λ (xs : List Station). xs ++ s ∷ []) e ∙ ap (λ (x : Station). first_stations run pipe n ++ x ∷ []) at ∙ ap (first_stations run pipe) next

pub first_there : (run : Run) (pipe : ℕ) (stations : List Station) → stations ≡ first_stations run pipe (group_count run) → (g : ℕ) → g < group_count run → slice_index_or stations g (first_station run pipe g) ≡ first_station run pipe g
first_there run pipe stations is g lt = ap (λ (xs : List Station). slice_index_or xs g (first_station run pipe g)) is ∙ first_at run pipe (group_count run) g (first_station run pipe g) lt

pub first_lawful : (run : Run) (pipe : ℕ) (stations : List Station) → stations ≡ first_stations run pipe (group_count run) → group_count run ≤ 16 → IsRow (record { run = run; pipe = pipe; stations = stations })
first_lawful run pipe stations is few =
    let long : length stations ≡ group_count run = ap length is ∙ first_long run pipe (group_count run) in
    record {
      all = long;
      few = omega (arith, long, few);
      sites = λ g lt. ap site (first_there run pipe stations is g (omega (arith, long, lt)));
    }
