-- An arrival that is announced at all stations of a row.
use Rattle.std.proofs.Common.{◌≡◌, ℕ, ◌+◌, ◌<◌, ◌≤◌, false, nat_lt, List, length, slice_index_or, Option, Some, None, IfSome, refl, sym, ap, subst, ◌∙◌, inl, inr, arith}
use Rattle.std.proofs.lemmas.List.{get_or_default}
use Rattle.std.proofs.lemmas.Bool.Decides.{eqb_tells}
use Rattle.std.proofs.lemmas.Bool.{ltb-false}
use Rattle.place_queue.specs.PlaceList.{PlaceList, count_of}
use Rattle.run_laws.specs.Run.{Run, arrivals}
use Rattle.group_station.specs.Station.{Station, site, Given, IsOfRun}
use Rattle.group_station.specs.Steps.{first_station, IsGivenUnit}
use Rattle.pipe_stations.specs.Row.{Row, IsRow, station_at}
use Rattle.pipe_stations.specs.RowSteps.{IsTurn, AreGivenUnits, after_announcing, CanAnnounce, HaveHeard, HasRoomAt, IsAnnounced, HasRoom}
use Rattle.pipe_stations.proofs.RowLemmas.{run_there}

-- ---- room

-- a source that may not announce a given unit has all that the window allows
pub full_read : (s : Station) (q : PlaceList) (source n window : ℕ) → q ≡ s.queue → IsOfRun (site s) s.queue → source < s.run.settings.pipelines → window ≡ s.run.settings.window
    → n ≡ count_of q.unserved source → nat_lt n window ≡ false → count_of s.queue.unserved source ≡ window
full_read s q source n window e of_run within is count full =
    let here : n ≡ count_of s.queue.unserved source = count ∙ ap (λ (p : PlaceList). count_of p.unserved source) e in
    let sources = of_run.sources in
    let limit = of_run.listed.limit source (omega arith) in
    let most = ltb-false n window full in
    let all = of_run.window in
    omega arith

-- room where a unit was found is room where it is given
given_some : (s : Station) (t u : ℕ) (o : Option ℕ) (P : Type 0) → IsGivenUnit s t o → Given s t u → IfSome o (λ _. P) → P
given_some s t u None P none here room = absurd (none u here)
given_some s t u (Some v) P given here room = room

window_there : (r : Row) (g : ℕ) → IsRow r → g < length r.stations → IsOfRun (site (station_at r g)) (station_at r g).queue → (station_at r g).queue.window ≡ r.run.settings.window
window_there r g row there of_run = of_run.window ∙ ap (λ (run : Run). run.settings.window) (run_there r g row there)

pub room_all : (r : Row) (source t : ℕ) (given : List (Option ℕ)) → IsRow r → AreGivenUnits r t given
    → ((g : ℕ) → g < length r.stations → HasRoomAt (station_at r g) source (slice_index_or given g None)) → HasRoom r source t
room_all r source t given row are room g u there here =
    let few : count_of (station_at r g).queue.unserved source < (station_at r g).queue.window =
    given_some (station_at r g) t u (slice_index_or given g None) (count_of (station_at r g).queue.unserved source < (station_at r g).queue.window) (are g there) here (room g there).room in
    subst (λ n. count_of (station_at r g).queue.unserved source < n) (window_there r g row there (room g there).of_run) few

-- ---- announcing

pub can_announce : (r : Row) (source t : ℕ) (given : List (Option ℕ)) → IsRow r → source < r.run.settings.pipelines → t < arrivals r.run → IsTurn r source t → AreGivenUnits r t given
    → ((g : ℕ) → g < length r.stations → HasRoomAt (station_at r g) source (slice_index_or given g None))
    → (g : ℕ) (d : Station) → g < length r.stations → CanAnnounce (slice_index_or r.stations g d) source t (slice_index_or given g None)
can_announce r source t given row within early turn are room g d there =
    let of_run = (room g there).of_run in
    let at : (station_at r g).run ≡ r.run = run_there r g row there in
    let sources : (station_at r g).queue.sources ≡ r.run.settings.pipelines = of_run.sources ∙ ap (λ (run : Run). run.settings.pipelines) at in
    let all : (station_at r g).queue.arrivals ≡ arrivals r.run = of_run.arrivals ∙ ap arrivals at in
    let same : station_at r g ≡ slice_index_or r.stations g d = get_or_default r.stations g (first_station r.run r.pipe g) d there in
    subst (λ (s : Station). CanAnnounce s source t (slice_index_or given g None)) same record {
      within = omega (arith, within, sources);
      turn = sym (turn g there);
      early = omega (arith, early, all);
      given = are g there;
      room = (room g there).room;
    }

-- so can the stations that the fields hold
pub each_can : (r now : Row) (stations : List Station) (source t : ℕ) (given : List (Option ℕ)) → r ≡ now → stations ≡ r.stations → IsRow r → source < now.run.settings.pipelines → t < arrivals now.run
    → IsTurn now source t → AreGivenUnits now t given → ((g : ℕ) → g < length now.stations → HasRoomAt (station_at now g) source (slice_index_or given g None))
    → (g : ℕ) (d : Station) → g < length stations → CanAnnounce (slice_index_or stations g d) source t (slice_index_or given g None)
each_can r now stations source t given e is row within early turn are room =
    subst (λ (xs : List Station). (g : ℕ) (d : Station) → g < length xs → CanAnnounce (slice_index_or xs g d) source t (slice_index_or given g None))
    (sym (is ∙ ap (λ (x : Row). x.stations) e))
    (can_announce now source t given (subst IsRow e row) within early turn are room)

-- the row after all of them heard of it
told : (r : Row) (stations : List Station) (source t : ℕ) (given : List (Option ℕ)) → length stations ≡ length r.stations → HaveHeard r.stations stations source t given → AreGivenUnits r t given
    → IsAnnounced r (record r { stations = stations }) source t
told r stations source t given long heard are = record {
  run = refl;
  pipe = refl;
  count = long;
  each = λ g there. record { unit = slice_index_or given g None; given = are g there; station = heard g (first_station r.run r.pipe g) there };
}

pub all_told : (r now : Row) (before after whole : List Station) (source t : ℕ) (given : List (Option ℕ)) → r ≡ now → before ≡ r.stations → whole ≡ after → length after ≡ length before → HaveHeard before after source t given → AreGivenUnits now t given
    → IsAnnounced now (record r { stations = whole }) source t
all_told r now before after whole source t given e is put long heard are =
    subst (λ (x : Row). AreGivenUnits x t given → IsAnnounced x (record r { stations = whole }) source t) e
    (told r whole source t given (ap length put ∙ long ∙ ap length is)
    (subst (λ (xs : List Station). HaveHeard r.stations xs source t given) (sym put) (subst (λ (xs : List Station). HaveHeard xs after source t given) is heard)))
    are

-- ---- turn by turn

-- the units that are given at the first groups
abbrev pub GivenBelow : Row → ℕ → List (Option ℕ) → ℕ → Type 0
GivenBelow r t given g = (k : ℕ) → k < g → IsGivenUnit (station_at r k) t (slice_index_or given k None)

-- there is room at the first groups
abbrev pub RoomBelow : Row → ℕ → List (Option ℕ) → ℕ → Type 0
RoomBelow r source given g = (k : ℕ) → k < g → HasRoomAt (station_at r k) source (slice_index_or given k None)

pub room_more : (r : Row) (source : ℕ) (given : List (Option ℕ)) (g : ℕ) → RoomBelow r source given g → HasRoomAt (station_at r g) source (slice_index_or given g None) → RoomBelow r source given (g + 1)
room_more r source given g below here k lt = elim (eqb_tells k g) [
  | inl e ↦ subst (λ n. HasRoomAt (station_at r n) source (slice_index_or given n None)) (sym e.1) here
  | inr e ↦ below k (let other = e.1 in omega arith)
]

-- the first stations heard of the arrival, and the others are as they were
pub record HeardBelow (old now : List Station) (source t : ℕ) (given : List (Option ℕ)) (g : ℕ) : Type 0 where
  pub done : (k : ℕ) (d : Station) → k < g → slice_index_or now k d ≡ after_announcing (slice_index_or old k d) source t (slice_index_or given k None)
  pub rest : (k : ℕ) (d : Station) → g ≤ k → slice_index_or now k d ≡ slice_index_or old k d
