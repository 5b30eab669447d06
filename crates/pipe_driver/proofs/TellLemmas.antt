-- Messages that are sent.
use Rattle.std.proofs.Common.{◌≡◌, ℕ, ◌+◌, ◌*◌, ◌<◌, List, [], ◌∷◌, ◌++◌, length, length-append, drop, Option, Some, None, IfSome, refl, sym, ap, subst, ◌∙◌, arith, get_or-set_same, get_or-set_other}
use Rattle.std.proofs.lemmas.List.{append-nil}
use Rattle.pair_lane.specs.Lane.{after}
use Rattle.run_laws.specs.Run.{Run}
use Rattle.pipe_messages.specs.declared.message.Message.{Message}
use Rattle.pipe_messages.specs.declared.message.Message.TheVariants.{Phantom, Packet, Cell, Home}
use Rattle.pipe_messages.specs.Messages.{IsMessage, IsNextPhantom, Fits, announced_by, phantoms_in, own_arrivals}
use Rattle.pipe_worker.specs.Pipe.{Pipe, waiting}
use Rattle.pipe_worker.specs.Laws.{AreLatest}
use Rattle.switch_worker.specs.Worker.{LaneEnd, IsLane}
use Rattle.pipe_driver.specs.Driver.{IsSender, IsSamePipe}
use Rattle.pipe_driver.specs.Turning.{Tells, IsForLane, was_unsent, was_waiting, IsTakenOut}
use Rattle.pipe_driver.proofs.MessageLemmas.{phantom_count}

-- ---- the first message is taken out

module _ (s new : Pipe) (to : ℕ) (within : to < s.run.settings.pipelines) (out : IsTakenOut s new to) where
  pub out_same : IsSamePipe s new
  out_same = record { run = ap (λ (x : Pipe). x.run) out.rest; pipe = ap (λ (x : Pipe). x.pipe) out.rest; owners = ap (λ (x : Pipe). x.owners) out.rest }

  pub out_waiting : waiting new to ≡ drop 1 (waiting s to)
  out_waiting = let boxes = out.laws.whole.boxes in ap (λ (x : Pipe). waiting x to) out.rest ∙ get_or-set_same s.outbox.lines to (drop 1 (waiting s to)) [] (omega arith)

  pub out_tells : Tells to s new
  out_tells = record {
    same = out_same;
    row = ap (λ (x : Pipe). x.row) out.rest;
    door = ap (λ (x : Pipe). x.door) out.rest;
    others = λ q other. ap (λ (x : Pipe). waiting x q) out.rest ∙ get_or-set_other s.outbox.lines to q (drop 1 (waiting s to)) [] other;
  }

-- the first phantom that waits is that of the own arrival behind those that were sent
first_turn : (s : Pipe) (end : LaneEnd) (to : ℕ) (m : Message) (rest : List Message) → IsSender s to end None → AreLatest s (phantoms_in (waiting s to)) → waiting s to ≡ m ∷ rest → IsNextPhantom s.run s.pipe end.items m
first_turn s end to (Phantom t units) rest h latest is =
    let sent : length (phantoms_in (end.items ++ [])) ≡ length (phantoms_in end.items) = ap (λ ms. length (phantoms_in ms)) (append-nil end.items) in
    let told = h.told in
    let all = latest.all in
    let from : latest.from ≡ length (phantoms_in end.items) = omega arith in
    let own : phantoms_in (Phantom t units ∷ rest) ≡ own_arrivals s.run s.pipe latest.from (length (phantoms_in (Phantom t units ∷ rest))) =
    subst (λ (ms : List Message). phantoms_in ms ≡ own_arrivals s.run s.pipe latest.from (length (phantoms_in ms))) is latest.own in
    let own' : t ∷ phantoms_in rest ≡ (s.pipe + latest.from * s.run.settings.pipelines) ∷ own_arrivals s.run s.pipe (latest.from + 1) (length (phantoms_in rest)) = own in
    let first : t ≡ s.pipe + latest.from * s.run.settings.pipelines = cc in
    first ∙ ap (λ n. s.pipe + n * s.run.settings.pipelines) from
first_turn s end to (Packet t g env by touched) rest h latest is = tt
first_turn s end to (Cell g u round unit) rest h latest is = tt
first_turn s end to (Home t env by touched) rest h latest is = tt

first_fits : (s : Pipe) (end : LaneEnd) (to : ℕ) (m : Message) → IsLane s.run s.pipe to end → IsMessage s.run s.pipe to m → IsNextPhantom s.run s.pipe end.items m → Fits end.key end.items m
first_fits s end to m lane law turn = record {
  law = subst (λ (x : Run × ℕ × ℕ). IsMessage x.0 x.1 x.2 m) (λ i. (sym lane.of_run i, sym lane.sender i, sym lane.receiver i)) law;
  turn = subst (λ (x : Run × ℕ). IsNextPhantom x.0 x.1 end.items m) (λ i. (sym lane.of_run i, sym lane.sender i)) turn;
}

-- a message more is in hand
taken_hand : (s new : Pipe) (to : ℕ) (end : LaneEnd) (m : Message) → to < s.run.settings.pipelines → IsSender s to end None → IsTakenOut s new to → waiting s to ≡ m ∷ waiting new to → IsMessage s.run s.pipe to m → IsSender new to end (Some m)
taken_hand s new to end m within h out is law =
    let same = out_same s new to within out in
    let turn : IsNextPhantom s.run s.pipe end.items m = first_turn s end to m (waiting new to) h (out.laws.messages to within).phantoms is in
    let waited : length (phantoms_in (waiting s to)) ≡ length (announced_by m) + length (phantoms_in (waiting new to)) =
    ap (λ ms. length (phantoms_in ms)) is ∙ length-append (announced_by m) (phantoms_in (waiting new to)) in
    let sent : length (phantoms_in (end.items ++ [])) ≡ length (phantoms_in end.items) = ap (λ ms. length (phantoms_in ms)) (append-nil end.items) in
    let more = phantom_count end.items m in
    let entered : new.door.exit.entered ≡ s.door.exit.entered = ap (λ (x : Pipe). x.door.exit.entered) out.rest in
    let told = h.told in
    record {
      lane = record { of_run = h.lane.of_run ∙ sym same.run; sender = h.lane.sender ∙ sym same.pipe; receiver = h.lane.receiver };
      next = first_fits s end to m h.lane law turn;
      told = omega arith;
    }

-- the message that is in hand, and what the pipe told
pub record InHand (s new : Pipe) (to : ℕ) (end : LaneEnd) (m : Message) : Type 0 where
  pub lane : IsSender new to end (Some m)
  pub tells : Tells to s new

pub tells_none : (to : ℕ) (s : Pipe) → Tells to s s
tells_none to s = record { same = record { run = refl; pipe = refl; owners = refl }; row = refl; door = refl; others = λ q other. refl }

pub in_hand : (s new : Pipe) (to : ℕ) (end : LaneEnd) (unsent : Option Message) (m : Message) → to < s.run.settings.pipelines → IsSender s to end unsent → IsForLane s new to m unsent → InHand s new to end m
in_hand s new to end _ m within h (was_unsent same) = subst (λ (x : Pipe). InHand s x to end m) (sym same) record { lane = h; tells = tells_none to s }
in_hand s new to end _ m within h (was_waiting out is law) = record { lane = taken_hand s new to end m within h out is law; tells = out_tells s new to within out }

-- ---- it was sent

pub sent : (s : Pipe) (to : ℕ) (end : LaneEnd) (m : Message) → IsSender s to end (Some m) → IsSender s to (after end m) None
sent s to end m h =
    let all : length (phantoms_in ((end.items ++ m ∷ []) ++ [])) ≡ length (phantoms_in (end.items ++ m ∷ [])) = ap (λ ms. length (phantoms_in ms)) (append-nil (end.items ++ m ∷ [])) in
    let told = h.told in
    record {
      lane = record { of_run = h.lane.of_run; sender = h.lane.sender; receiver = h.lane.receiver };
      next = tt;
      told = omega arith;
    }

pub first_for : (o : Option Message) (s new : Pipe) (to : ℕ) → IsTakenOut s new to → IfSome o (λ m. waiting s to ≡ m ∷ waiting new to) → IfSome o (λ m. IsMessage s.run s.pipe to m) → IfSome o (λ m. IsForLane s new to m None)
first_for None s new to out first law = tt
first_for (Some m) s new to out first law = was_waiting out first law
