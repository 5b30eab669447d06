-- One station of a row.
use Rattle.std.proofs.Common.{◌≡◌, ℕ, ◌+◌, ◌<◌, ℤ, List, length, slice_index_or, sym, ap, subst, ◌∙◌}
use Rattle.std.proofs.lemmas.List.{get_or_default}
use Rattle.code_forms.specs.Staged.{Fits, group_start, block_start}
use Rattle.run_laws.specs.Run.{Run, values_of, touched_of}
use Rattle.group_station.specs.Station.{Station, Site}
use Rattle.group_station.specs.Steps.{first_station}
use Rattle.pipe_stations.specs.Row.{Row, IsRow, station_at}

-- ---- where a station stands

pub run_there : (r : Row) (g : ℕ) → IsRow r → g < length r.stations → (station_at r g).run ≡ r.run
run_there r g row there = ap (λ (a : Site). a.run) (row.sites g there)

pub group_there : (r : Row) (g : ℕ) → IsRow r → g < length r.stations → (station_at r g).group ≡ g
group_there r g row there = ap (λ (a : Site). a.group) (row.sites g there)

-- ---- from what the fields hold

module _ (r now : Row) (e : r ≡ now) (g : ℕ) (q : Station) (at : q ≡ slice_index_or r.stations g q) (there : g < length now.stations) where
  pub here : g < length r.stations
  here = subst (λ (x : Row). g < length x.stations) (sym e) there

  found_here : q ≡ station_at r g
  found_here = at ∙ get_or_default r.stations g q (first_station r.run r.pipe g) here

  -- the station that was read is that of the group
  pub found : q ≡ station_at now g
  found = found_here ∙ ap (λ (x : Row). station_at x g) e

  pub row_now : IsRow r → IsRow now
  row_now row = subst IsRow e row

  -- its run, its group and its owners
  pub run_found : IsRow r → q.run ≡ now.run
  run_found row = ap (λ (s : Station). s.run) found ∙ run_there now g (row_now row) there

  pub group_found : IsRow r → q.group ≡ g
  group_found row = ap (λ (s : Station). s.group) found ∙ group_there now g (row_now row) there

  -- what an environment fits at the station, it fits at the group
  pub fits_there : IsRow r → (t : ℕ) (env : List ℤ) → Fits now.run.code (values_of now.run t) (group_start now.run.code g) env → Fits q.run.code (values_of q.run t) (group_start q.run.code q.group) env
  fits_there row t env h =
      subst (λ (run : Run). Fits run.code (values_of run t) (group_start run.code q.group) env) (sym (run_found row))
      (subst (λ n. Fits now.run.code (values_of now.run t) (group_start now.run.code n) env) (sym (group_found row)) h)

  pub fits_after : IsRow r → (t : ℕ) (env : List ℤ) → Fits q.run.code (values_of q.run t) (block_start q.run.code (q.group + 1)) env → Fits now.run.code (values_of now.run t) (block_start now.run.code (g + 1)) env
  fits_after row t env h =
      subst (λ n. Fits now.run.code (values_of now.run t) (block_start now.run.code (n + 1)) env) (group_found row)
      (subst (λ (run : Run). Fits run.code (values_of run t) (block_start run.code (q.group + 1)) env) (run_found row) h)

  pub touched_there : IsRow r → (t : ℕ) → touched_of q.run t q.group ≡ touched_of now.run t g
  touched_there row t = ap (λ (run : Run). touched_of run t q.group) (run_found row) ∙ ap (touched_of now.run t) (group_found row)

-- the same of a station that a loop reads
module _ (r now : Row) (e : r ≡ now) (items : List Station) (i : ℕ) (q : Station) (is : items ≡ r.stations) (at : q ≡ slice_index_or items i q) (lt : i < length items) where
  pub read_there : (i < length now.stations) × (q ≡ slice_index_or now.stations i q)
  read_there = subst (λ (xs : List Station). (i < length xs) × (q ≡ slice_index_or xs i q)) (is ∙ ap (λ (x : Row). x.stations) e) (lt, at)

  pub run_read : IsRow r → r.run ≡ q.run
  run_read row =
      let here : q ≡ slice_index_or r.stations i q = at ∙ ap (λ (xs : List Station). slice_index_or xs i q) is in
      ap (λ (x : Row). x.run) e ∙ sym (run_found r now e i q here read_there.0 row)
