-- A pipe whose messages or plans alone change.
use Rattle.std.proofs.Common.{◌≡◌, ℕ, ◌/◌, ◌<◌, ◌≤◌, true, List, [], ◌∷◌, ◌++◌, length, length-append, drop, take, slice_index, slice_index_or, Option, Some, None, IfSome, refl, sym, ap, subst, ◌∙◌, arith}
use Rattle.std.proofs.lemmas.List.{length-set, take-append-le, take_all, get_or_push}
use Rattle.mp5_words.specs.Cells.{word_at}
use Rattle.code_forms.specs.StagedMeaning.{last_words}
use Rattle.pipe_parts.specs.declared.entries.Entry.{Entry}
use Rattle.pipe_parts.specs.EntryList.{entry_of}
use Rattle.pipe_parts.specs.Waiting.{Waiting, with_waiting}
use Rattle.egress_order.specs.OwnPackets.{OwnPackets, word_of, own_arrival}
use Rattle.shard_rounds.specs.declared.plan.Move.{Move}
use Rattle.shard_rounds.specs.Rounds.{OwnerTable, IsPlan}
use Rattle.run_laws.specs.Run.{Run, round_of, values_of, unit_counts, last_round}
use Rattle.run_laws.specs.LawfulPlans.{AreLawful, owners_after}
use Rattle.group_station.proofs.MoveLemmas.{lawful_plan}
use Rattle.packet_steps.specs.Packet.{HasEntry}
use Rattle.pipe_messages.specs.declared.message.Message.{Message}
use Rattle.pipe_messages.specs.Messages.{IsMessage}
use Rattle.pipe_worker.specs.Pipe.{Pipe, waiting}
use Rattle.pipe_worker.specs.Laws.{IsWhole, IsPipe, CameHome, HasArrivals}
use Rattle.pipe_worker.proofs.PacketLemmas.{kept}
use Rattle.pipe_worker.proofs.MessageLemmas.{messages_kept, first_out, first_law}

-- ---- own arrivals

-- what an arrival left stays
pub came_home_kept : (s s' : Pipe) (t : ℕ) → s'.run ≡ s.run → s'.door.exit ≡ s.door.exit → s'.door.entries ≡ s.door.entries → CameHome s t → CameHome s' t
came_home_kept s s' t run exit entries h = record {
  fields = λ f lt.
      subst (λ (x : Run × OwnPackets). word_of x.1 t f ≡ word_at (last_words x.0.code (values_of x.0 t)) f) (λ i. (sym run i, sym exit i))
      (h.fields f (subst (λ (r : Run). f < r.code.fields) run lt));
  entries = λ g lt.
      subst (λ (x : Run × List Entry). HasEntry x.0 t g (slice_index (entry_of x.1 (t / x.0.settings.pipelines)).by g) (slice_index (entry_of x.1 (t / x.0.settings.pipelines)).touched g)) (λ i. (sym run i, sym entries i))
      (h.entries g (subst (λ (r : Run). g < length r.code.groups) run lt));
}

-- the arrivals' law goes from a pipe to one with the same run, number, exit and entries, and at least as many plans
pub arrivals_kept : (s s' : Pipe) → s'.run ≡ s.run → s'.pipe ≡ s.pipe → s'.door.exit ≡ s.door.exit → s'.door.entries ≡ s.door.entries → length s.owners.plans ≤ length s'.owners.plans → HasArrivals s → HasArrivals s'
arrivals_kept s s' run pipe exit entries plans h = record {
  known = λ k lt.
      let was = h.known k (subst (λ (e : OwnPackets). k < e.entered) exit lt) in
      let same : round_of s'.run (own_arrival s'.door.exit k) ≡ round_of s.run (own_arrival s.door.exit k) = (λ i. round_of (run i) (own_arrival (exit i) k)) in
      omega (arith, was, same, plans);
  home = λ t lt own here.
      came_home_kept s s' t run exit entries
      (subst (λ (x : Run × ℕ × OwnPackets). (t < length x.0.headers) → (Rattle.run_laws.specs.Run.home_of x.0 t ≡ x.1) → (Rattle.egress_order.specs.OwnPackets.is_home x.2 (t / x.0.settings.pipelines) ≡ true) → CameHome s t) (λ i. (sym run i, sym pipe i, sym exit i)) (h.home t) lt own here);
}

-- ---- messages alone

-- a pipe is as whole with other messages
pub whole_told : (s : Pipe) (o : Waiting Message) → length o.lines ≡ length s.outbox.lines → o.room ≡ s.outbox.room → IsWhole s → IsWhole (record s { outbox = o })
whole_told s o lines room w = record {
  pipe = w.pipe;
  wide = w.wide;
  run = w.run;
  number = w.number;
  owners = w.owners;
  plans = w.plans;
  door = record { pipe = w.door.pipe; pipelines = w.door.pipelines; arrivals = w.door.arrivals; window = w.door.window; fields = w.door.fields; slots = w.door.slots };
  pipes = w.pipes;
  window = w.window;
  packets = w.packets;
  boxes = lines ∙ w.boxes;
  room = room ∙ w.room;
}

-- the first message that waits for a pipe goes
pub taken_out : (s : Pipe) (to : ℕ) → IsPipe s → IsPipe (record s { outbox = with_waiting s.outbox to (drop 1 (waiting s to)) })
taken_out s to h = record {
  whole = whole_told s (with_waiting s.outbox to (drop 1 (waiting s to))) (length-set s.outbox.lines to (drop 1 (waiting s to))) refl h.whole;
  packets = kept s (record s { outbox = with_waiting s.outbox to (drop 1 (waiting s to)) }) refl refl refl (omega arith) (λ t away. away) h.packets;
  arrivals = arrivals_kept s (record s { outbox = with_waiting s.outbox to (drop 1 (waiting s to)) }) refl refl refl refl (omega arith) h.arrivals;
  messages = first_out s h.messages h.whole.boxes to;
}

-- and keeps its law
pub out_law : (s now : Pipe) (to : ℕ) (o : Option Message) (after : List Message) → s ≡ now → IsPipe s → to < now.run.settings.pipelines → IfSome o (λ m. waiting s to ≡ m ∷ after) → IfSome o (λ m. IsMessage now.run now.pipe to m)
out_law s now to None after same h lt first = _
out_law s now to (Some m) after same h lt first =
    subst (λ (x : Pipe). IsMessage x.run x.pipe to m) same
    (first_law s to m after (h.messages to (subst (λ (x : Pipe). to < x.run.settings.pipelines) (sym same) lt)) first)

-- ---- plans alone

-- the owners with one plan more
abbrev pub with_plan : OwnerTable → List Move → OwnerTable
with_plan o moves = record o { plans = o.plans ++ moves ∷ [] }

-- the owners are those of the run
owners_are : (s : Pipe) → IsWhole s → owners_after s.run s.owners.plans ≡ s.owners
owners_are s w = let row = w.run in
    (λ i. record { units = sym (w.owners.units ∙ ap unit_counts row) i; pipelines = sym (w.owners.pipelines ∙ ap (λ (r : Run). r.settings.pipelines) row) i; room = sym w.plans i; plans = s.owners.plans })

-- a plan that makes one more lawful list is one that the owners can have, and there is room for it
pub next_plan : (s : Pipe) (moves : List Move) → IsWhole s → AreLawful s.run (s.owners.plans ++ moves ∷ []) → IsPlan s.owners moves
next_plan s moves w lawful =
    let long = length-append s.owners.plans (moves ∷ []) in
    let plan = lawful_plan s.run (s.owners.plans ++ moves ∷ []) (length s.owners.plans) lawful (omega arith) in
    let before : take (length s.owners.plans) (s.owners.plans ++ moves ∷ []) ≡ s.owners.plans =
    take-append-le (length s.owners.plans) s.owners.plans (moves ∷ []) (omega arith) ∙ take_all (length s.owners.plans) s.owners.plans (omega arith) in
    let here : slice_index_or (s.owners.plans ++ moves ∷ []) (length s.owners.plans) [] ≡ moves = get_or_push s.owners.plans moves [] (length s.owners.plans) refl in
    subst (λ (x : OwnerTable × List Move). IsPlan x.0 x.1) (λ i. ((ap (owners_after s.run) before ∙ owners_are s w) i, here i)) plan

pub plan_room : (s : Pipe) (moves : List Move) → IsWhole s → AreLawful s.run (s.owners.plans ++ moves ∷ []) → length s.owners.plans < s.owners.room
plan_room s moves w lawful =
    let long = length-append s.owners.plans (moves ∷ []) in
    let few = lawful.few in
    let room = w.plans in
    omega arith

-- the next plan is known
pub learned : (s : Pipe) (moves : List Move) → IsPipe s → AreLawful s.run (s.owners.plans ++ moves ∷ []) → IsPipe (record s { owners = with_plan s.owners moves })
learned s moves h lawful = record {
  whole = record {
    pipe = w.pipe;
    wide = w.wide;
    run = w.run;
    number = w.number;
    owners = record {
      units = w.owners.units;
      pipelines = w.owners.pipelines;
      lawful = subst (λ (r : Run). AreLawful r (s.owners.plans ++ moves ∷ [])) (sym w.run) lawful;
      known = λ g lt. let was = w.owners.known g lt in omega (arith, was, more);
    };
    plans = w.plans;
    door = record { pipe = w.door.pipe; pipelines = w.door.pipelines; arrivals = w.door.arrivals; window = w.door.window; fields = w.door.fields; slots = w.door.slots };
    pipes = w.pipes;
    window = w.window;
    packets = w.packets;
    boxes = w.boxes;
    room = w.room;
  };
  packets = kept s (record s { owners = with_plan s.owners moves }) refl refl refl more (λ t away. away) h.packets;
  arrivals = arrivals_kept s (record s { owners = with_plan s.owners moves }) refl refl refl refl more h.arrivals;
  messages = messages_kept s (record s { owners = with_plan s.owners moves }) refl refl refl refl h.messages;
}
  where
    w : IsWhole s
    w = h.whole

    more : length s.owners.plans ≤ length (s.owners.plans ++ moves ∷ [])
    more = let long = length-append s.owners.plans (moves ∷ []) in omega arith

-- the same of the pipe that contracts see
pub plan_fits : (s now : Pipe) (moves : List Move) → s ≡ now → IsPipe s → AreLawful now.run (now.owners.plans ++ moves ∷ []) → IsPlan s.owners moves
plan_fits s now moves same h lawful = next_plan s moves h.whole (subst (λ (x : Pipe). AreLawful x.run (x.owners.plans ++ moves ∷ [])) (sym same) lawful)

pub plan_learned : (s now : Pipe) (moves : List Move) (after : OwnerTable) → s ≡ now → IsPipe s → AreLawful now.run (now.owners.plans ++ moves ∷ []) → after ≡ with_plan s.owners moves → IsPipe (record s { owners = after })
plan_learned s now moves after same h lawful applied =
    subst (λ (o : OwnerTable). IsPipe (record s { owners = o })) (sym applied)
    (learned s moves h (subst (λ (x : Pipe). AreLawful x.run (x.owners.plans ++ moves ∷ [])) (sym same) lawful))
