-- Lanes where a pipe changes otherwise.
use Rattle.std.proofs.Common.{◌≡◌, ℕ, ◌+◌, ◌*◌, ◌<◌, min, length, Option, refl, sym, ap, subst, ◌∙◌, arith}
use Rattle.std.specs.List.{All}
use Rattle.run_laws.specs.Run.{Run, arrivals}
use Rattle.pipe_messages.specs.declared.message.Message.{Message}
use Rattle.pipe_messages.specs.Messages.{phantoms_in, own_arrivals}
use Rattle.pipe_worker.specs.Pipe.{Pipe, waiting}
use Rattle.switch_worker.specs.Worker.{LaneEnd, IsLane}
use Rattle.pipe_driver.specs.Driver.{IsSender, IsReceiver, HasFloors, IsSamePipe}
use Rattle.pipe_driver.specs.Turning.{FloorsStay}

-- the same lane, where the run and the pipe are the same
lane_kept : (run run' : Run) (from from' to to' : ℕ) (end : LaneEnd) → run' ≡ run → from' ≡ from → to' ≡ to → IsLane run from to end → IsLane run' from' to' end
lane_kept run run' from from' to to' end e f g h = record { of_run = h.of_run ∙ sym e; sender = h.sender ∙ sym f; receiver = h.receiver ∙ sym g }

-- for a pipe as many phantoms came to wait as arrivals entered
abbrev pub ToldStays : Pipe → Pipe → ℕ → Type 0
ToldStays old new q = length (phantoms_in (waiting new q)) + old.door.exit.entered ≡ length (phantoms_in (waiting old q)) + new.door.exit.entered

pub sender_kept : (s new : Pipe) (q : ℕ) (end : LaneEnd) (unsent : Option Message) → IsSamePipe s new → ToldStays s new q → IsSender s q end unsent → IsSender new q end unsent
sender_kept s new q end unsent same told h = record {
  lane = lane_kept s.run new.run s.pipe new.pipe q q end same.run same.pipe refl h.lane;
  next = h.next;
  told = (let was = h.told in omega arith);
}

floors_kept : (s new : Pipe) (p n : ℕ) → new.run ≡ s.run → length new.row.stations ≡ length s.row.stations → FloorsStay s new p → HasFloors s p n → HasFloors new p n
floors_kept s new p n run count stay h g there =
    stay g there
    ∙ h g (omega arith)
    ∙ ap (λ (r : Run). min (p + n * r.settings.pipelines) (arrivals r)) (sym run)

-- with floors for all that it took in
pub receiver_with : (s new : Pipe) (p : ℕ) (end : LaneEnd) (held : Option Message) (h : IsReceiver s p end held) → IsSamePipe s new → HasFloors new p (length (phantoms_in h.taken)) → IsReceiver new p end held
receiver_with s new p end held h same floors = record {
  lane = lane_kept s.run new.run p p s.pipe new.pipe end same.run refl same.pipe h.lane;
  taken = h.taken;
  items = h.items;
  next = h.next;
  order = h.order ∙ ap (λ (r : Run). own_arrivals r p 0 (length (phantoms_in end.items))) (sym same.run);
  early = subst (λ (r : Run). All (λ t. t < arrivals r) (phantoms_in end.items)) (sym same.run) h.early;
  floors = floors;
}

pub receiver_kept : (s new : Pipe) (p : ℕ) (end : LaneEnd) (held : Option Message) → IsSamePipe s new → length new.row.stations ≡ length s.row.stations → FloorsStay s new p → IsReceiver s p end held → IsReceiver new p end held
receiver_kept s new p end held same count stay h = receiver_with s new p end held h same (floors_kept s new p (length (phantoms_in h.taken)) same.run count stay h.floors)
