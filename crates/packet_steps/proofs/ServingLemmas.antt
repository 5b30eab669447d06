-- A packet that was served at a station of its group.
use Rattle.std.proofs.Common.{◌≡◌, ℕ, ◌+◌, ◌<◌, ℤ, List, length, slice_index, slice_set, Option, sym, ap, subst, ◌∙◌, arith, get_or-set_same, get_or-set_other}
use Rattle.code_forms.specs.Staged.{Fits, block_start, group_start}
use Rattle.code_forms.specs.StagedMeaning.{Leads, Always}
use Rattle.pipe_parts.specs.declared.packet.Packet.{Packet}
use Rattle.place_queue.specs.declared.place.Place.{Place}
use Rattle.run_laws.specs.Run.{Run, values_of, touched_of}
use Rattle.run_laws.specs.Trace.{touched_at}
use Rattle.group_station.specs.Station.{Station, site, IsGiven, IsStation}
use Rattle.group_station.specs.Steps.{IsReady}
use Rattle.group_station.proofs.ServeLemmas.{given_there}
use Rattle.packet_steps.specs.Packet.{IsServer, HasEntry, IsPacket}
use Rattle.packet_steps.proofs.WayLemmas.{AreWide, block_on, further}

-- the packet stands at the station, where its place is ready
pub record IsAt (run : Run) (p : Packet) (s : Station) (place : Place) : Type 0 where
  pub run_is : s.run ≡ run
  pub group : s.group ≡ p.g
  pub arrival : place.t ≡ p.t

-- what is true at the station's run, group and arrival is true at the packet's
pub at_packet : (P : Run → ℕ → ℕ → Type 0) (run : Run) (p : Packet) (s : Station) (place : Place) → IsAt run p s place → P s.run place.t s.group → P run p.t p.g
at_packet P run p s place there x =
    subst (λ (g : ℕ). P run p.t g) there.group (subst (λ (t : ℕ). P run t s.group) there.arrival (subst (λ (r : Run). P r place.t s.group) there.run_is x))

-- and the other way round
pub at_station : (P : Run → ℕ → ℕ → Type 0) (run : Run) (p : Packet) (s : Station) (place : Place) → IsAt run p s place → P run p.t p.g → P s.run place.t s.group
at_station P run p s place there x =
    subst (λ (r : Run). P r place.t s.group) (sym there.run_is) (subst (λ (t : ℕ). P run t s.group) (sym there.arrival) (subst (λ (g : ℕ). P run p.t g) (sym there.group) x))

-- the environment fits at the station as it does at the packet
pub fits_there : (run : Run) (p : Packet) (s : Station) (place : Place) → IsAt run p s place → IsPacket run p
    → Fits s.run.code (values_of s.run place.t) (group_start s.run.code s.group) p.env
fits_there run p s place there is = at_station (λ r t g. Fits r.code (values_of r t) (group_start r.code g) p.env) run p s place there is.way.fits

-- the entry: the station's pipe serves the arrival at its group
entry_of : (s : Station) (place : Place) (set : ℕ) → IsStation s → IsReady s place → set ≡ touched_of s.run place.t s.group → HasEntry s.run place.t s.group s.pipe set
entry_of s place set station ready is =
    let given : IsGiven (site s) place.t place.unit = given_there s station.front place station.of_run station.is_front station.laws ready in
    record {
      served = subst (λ (o : Option ℕ). IsServer s.run place.t s.group o s.pipe) (sym given.place) given.owned;
      touched = is ∙ sym (ap (touched_at s.run place.t s.group) given.place);
    }

-- the packet behind the group
pub passes : (run : Run) (p : Packet) (s : Station) (place : Place) (pipe set : ℕ) (middle new : List ℤ) → AreWide run → IsPacket run p → IsStation s → IsReady s place → IsAt run p s place
    → length p.by ≡ 16 → length p.touched ≡ 16 → pipe ≡ s.pipe → set ≡ touched_of s.run place.t s.group → Fits s.run.code (values_of s.run place.t) (block_start s.run.code (s.group + 1)) middle
    → Leads run.code Always (block_start run.code (p.g + 1)) (group_start run.code (p.g + 1)) middle new
    → IsPacket run record p { g = p.g + 1; env = new; by = slice_set p.by p.g pipe; touched = slice_set p.touched p.g set }
passes run p s place pipe set middle new wide is station ready there wide_by wide_touched pipe_is set_is fits block = record {
  way = further run p.t p.g p.env new p.by p.touched (slice_set p.by p.g pipe) (slice_set p.touched p.g set) is.way below
      (λ k other. get_or-set_other p.by p.g k pipe 0 other) (λ k other. get_or-set_other p.touched p.g k set 0 other) entry
      (block_on run p.t (p.g + 1) middle new wide is.way.arrival block fits_here);
  units = is.units;
}
  where
    below : p.g < length run.code.groups
    below = at_packet (λ r t g. g < length r.code.groups) run p s place there station.of_run.group

    small : p.g < 16
    small = let few = is.units.few in let less = below in omega (arith, few, less)

    fits_here : Fits run.code (values_of run p.t) (block_start run.code (p.g + 1)) middle
    fits_here = at_packet (λ r t g. Fits r.code (values_of r t) (block_start r.code (g + 1)) middle) run p s place there fits

    entry : HasEntry run p.t p.g (slice_index (slice_set p.by p.g pipe) p.g) (slice_index (slice_set p.touched p.g set) p.g)
    entry =
        let was : HasEntry run p.t p.g s.pipe set = at_packet (λ r t g. HasEntry r t g s.pipe set) run p s place there (entry_of s place set station ready set_is) in
        subst (λ (n : ℕ). HasEntry run p.t p.g n (slice_index (slice_set p.touched p.g set) p.g)) (sym pipe_is ∙ sym (get_or-set_same p.by p.g pipe 0 (omega (arith, small, wide_by))))
        (subst (λ (n : ℕ). HasEntry run p.t p.g s.pipe n) (sym (get_or-set_same p.touched p.g set 0 (omega (arith, small, wide_touched)))) was)
