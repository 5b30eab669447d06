-- The phantom of an arrival that is the first of its home, at a pipe to which nothing has happened.
use Rattle.std.proofs.Common.{◌≡◌, ℕ, ◌<◌, ◌≤◌, ℤ, List, length, slice_index, slice_get, min, Some, refl, sym, ap, subst, ◌∙◌, arith}
use Rattle.std.proofs.Math.Nat.{mod-eq_of_lt}
use Rattle.code_forms.specs.StagedMeaning.{place, place_code, HasUnits}
use Rattle.place_queue.proofs.Floors.{first_floor}
use Rattle.run_laws.specs.Run.{Run, arrivals, home_of}
use Rattle.group_station.specs.Station.{Station}
use Rattle.group_station.specs.Steps.{first_station}
use Rattle.packet_steps.proofs.WayLemmas.{numbered}
use Rattle.pipe_stations.specs.Row.{group_count, station_at, first_row}
use Rattle.pipe_stations.specs.RowSteps.{IsTurn}
use Rattle.pipe_stations.proofs.StartLemmas.{first_long, first_at}
use Rattle.pipe_messages.specs.Messages.{IsPhantom}
use Rattle.pipe_worker.specs.Pipe.{Pipe, first_pipe}

-- with the places that are written for its header it is lawful
pub phantom_law : (run : Run) (pipe t : ℕ) (s : Pipe) (header : List ℤ) (units : List ℕ) → s ≡ first_pipe run pipe → t < arrivals run → slice_get run.headers t ≡ Some header → length run.code.groups ≤ 16
    → ((g : ℕ) → g < 16 → slice_index units g ≡ place_code (place run.code header g))
    → ((g : ℕ) → length run.code.groups ≤ g → g < 16 → slice_index units g ≡ 0) → HasUnits run.code header → IsPhantom s.run (home_of run t) t units
phantom_law run pipe t s header units new there read few places rest known =
    subst (λ (p : Pipe). IsPhantom p.run (home_of run t) t units) (sym new)
    record { arrival = there; own = refl; places = numbered run t header units read few places rest known }

-- its home is that with its own number, which announces it next
pub phantom_turn : (run : Run) (pipe t : ℕ) (s : Pipe) → s ≡ first_pipe run pipe → t < arrivals run → t < run.settings.pipelines → IsTurn s.row (home_of run t) t
phantom_turn run pipe t s new there first =
    subst (λ (p : Pipe). IsTurn p.row (home_of run t) t) (sym new) (subst (λ (home : ℕ). IsTurn (first_row run pipe) home t) (sym (mod-eq_of_lt first)) turn)
  where
    turn : IsTurn (first_row run pipe) t t
    turn g lt =
        let below : g < group_count run = (let long = first_long run pipe (group_count run) in omega (arith, long, lt)) in
        let at : station_at (first_row run pipe) g ≡ first_station run pipe g = first_at run pipe (group_count run) g (first_station run pipe g) below in
        let own : min t (arrivals run) ≡ t = omega (arith, there) in
        ap (λ (s : Station). slice_index s.queue.floors t) at ∙ first_floor run.settings.pipelines (arrivals run) t first ∙ own
