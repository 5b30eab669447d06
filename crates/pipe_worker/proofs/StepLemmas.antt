-- Packets that take a step: past a group, to another pipe, or home.
use Rattle.std.proofs.Common.{◌≡◌, ◌≢◌, ℕ, ◌+◌, ◌*◌, ◌/◌, ◌%◌, ◌<◌, ◌≤◌, ◌==◌, ℤ, Bool, true, false, cond, List, [], ◌∷◌, ◌++◌, length, eq-eqb, slice_index, slice_set, refl, ap, ◌∙◌, sym, subst, arith, Option, Some, None, is_some, IfSome, IfNone}
use Rattle.std.proofs.lemmas.List.{get_or-set_same, get_or-set_other, length-set}
use Rattle.mp5_words.specs.Cells.{word_at}
use Rattle.code_forms.specs.StagedMeaning.{last_words}
use Rattle.pipe_parts.specs.declared.packet.Packet.{Packet as PacketHere}
use Rattle.pipe_parts.specs.declared.entries.Entry.{Entry}
use Rattle.pipe_parts.specs.EntryList.{no_entry, entry_of}
use Rattle.pipe_parts.specs.FreeEnvs.{with_free}
use Rattle.pipe_parts.specs.Waiting.{Waiting}
use Rattle.egress_order.specs.OwnPackets.{OwnPackets, is_home, word_of, came_home, IsAway, IsExit}
use Rattle.egress_order.proofs.Exits.{own_of, row_fits}
use Rattle.egress_order.proofs.Pieces.{row_written}
use Rattle.run_laws.specs.Run.{Run, arrivals, round_of, home_of, values_of}
use Rattle.packet_lines.specs.Lined.{Lined, lined_packet, line_of, first_of, home_count, with_lined, without_first, AreLined}
use Rattle.packet_lines.proofs.Leaving.{first_lawful}
use Rattle.home_door.specs.Door.{Door, IsDoor}
use Rattle.packet_steps.specs.declared.heading.Heading.{Heading}
use Rattle.packet_steps.specs.declared.heading.Heading.TheVariants.{Serve, Skip, Pass, GoHome, TakeHome}
use Rattle.packet_steps.specs.Packet.{HasEntry, IsPacket, IsOnWay}
use Rattle.packet_steps.specs.Heading.{IsHeading, HasNoPlace}
use Rattle.pipe_messages.specs.declared.message.Message.{Message}
use Rattle.pipe_messages.specs.declared.message.Message.TheVariants.{Packet, Home}
use Rattle.pipe_messages.specs.Messages.{IsMessage, phantoms_in}
use Rattle.pipe_worker.specs.Pipe.{Pipe, waiting, told, line_for, StandsIn, IsStanding}
use Rattle.pipe_worker.specs.Laws.{IsWhole, IsHere, HasPackets, CameHome, HasArrivals, IsPipe}
use Rattle.pipe_worker.specs.Events.{CanStep, CanSend, departing_as, IsOneEvent}
use Rattle.pipe_worker.specs.Events.IsOneEvent.{skip, pass, send, home}
use Rattle.pipe_worker.proofs.PacketLemmas.{kept, comes, first_goes, first_within, first_absent, first_fewer, still_here, line_of_first, one_heading, line_there}
use Rattle.pipe_worker.proofs.MessageLemmas.{messages_kept, told_keeps}
use Rattle.pipe_worker.proofs.KeepLemmas.{arrivals_kept, whole_told}

-- ---- the first packet of a line

-- the first packet of a line, and where it goes
pub record IsFirst (s : Pipe) (line : ℕ) (p : PacketHere) : Type 0 where
  pub arrival : p.t ≡ first_of s.packets line
  pub here : lined_packet s.packets p.t ≡ Some p
  pub law : IsHere s p
  pub heading : Heading
  pub next : IsHeading s.run s.pipe p heading
  pub leads : line_for s.pipe heading ≡ Some line

pub first_is : (s : Pipe) (line : ℕ) (p : PacketHere) → IsPipe s → AreLined s.packets → 0 < length (line_of s.packets line) → lined_packet s.packets (first_of s.packets line) ≡ Some p → IsFirst s line p
first_is s line p laws lined some is =
    let own : p.t ≡ first_of s.packets line = subst (λ o. IfSome o (λ (r : PacketHere). r.t ≡ first_of s.packets line)) is (lined.own (first_of s.packets line)) in
    let leads = line_of_first s laws.packets lined line p is some in
    record {
      arrival = own;
      here = ap (lined_packet s.packets) own ∙ is;
      law = laws.packets (first_of s.packets line) p is;
      heading = leads.0;
      next = leads.1;
      leads = leads.2;
    }

-- a packet that has passed all groups and stands in its own pipe's line is home
home_heading : (run : Run) (pipe : ℕ) (p : PacketHere) (h : Heading) → p.g ≡ length run.code.groups → IsHeading run pipe p h → line_for pipe h ≡ Some pipe → IsHeading run pipe p TakeHome
home_heading run pipe p Serve past x leads = absurd cc
home_heading run pipe p Skip past x leads = let group = x.group in absurd (omega arith)
home_heading run pipe p (Pass q) past x leads = let group = x.0.group in absurd (omega arith)
home_heading run pipe p (GoHome q) past x leads = let same : q ≡ pipe = cc in absurd (x.1.other same)
home_heading run pipe p TakeHome past x leads = x

-- one that hasn't skips its group
skip_heading : (run : Run) (pipe : ℕ) (p : PacketHere) (h : Heading) → p.g ≢ length run.code.groups → IsHeading run pipe p h → line_for pipe h ≡ Some pipe → IsHeading run pipe p Skip
skip_heading run pipe p Serve before x leads = absurd cc
skip_heading run pipe p Skip before x leads = x
skip_heading run pipe p (Pass q) before x leads = let same : q ≡ pipe = cc in absurd (x.1.other same)
skip_heading run pipe p (GoHome q) before x leads = absurd (before x.0.group)
skip_heading run pipe p TakeHome before x leads = absurd (before x.group)

-- one that has, and stands in another pipe's line, goes home to it
away_heading : (run : Run) (pipe to : ℕ) (p : PacketHere) (h : Heading) → to ≢ pipe → p.g ≡ length run.code.groups → IsHeading run pipe p h → line_for pipe h ≡ Some to → IsHeading run pipe p (GoHome to)
away_heading run pipe to p Serve other past x leads = absurd cc
away_heading run pipe to p Skip other past x leads = let same : to ≡ pipe = cc in absurd (other same)
away_heading run pipe to p (Pass q) other past x leads = let group = x.0.group in absurd (omega arith)
away_heading run pipe to p (GoHome q) other past x leads = let same : q ≡ to = cc in subst (λ n. IsHeading run pipe p (GoHome n)) same x
away_heading run pipe to p TakeHome other past x leads = let same : to ≡ pipe = cc in absurd (other same)

-- and one that hasn't goes to it to be served
pass_heading : (run : Run) (pipe to : ℕ) (p : PacketHere) (h : Heading) → to ≢ pipe → p.g ≢ length run.code.groups → IsHeading run pipe p h → line_for pipe h ≡ Some to → IsHeading run pipe p (Pass to)
pass_heading run pipe to p Serve other before x leads = absurd cc
pass_heading run pipe to p Skip other before x leads = let same : to ≡ pipe = cc in absurd (other same)
pass_heading run pipe to p (Pass q) other before x leads = let same : q ≡ to = cc in subst (λ n. IsHeading run pipe p (Pass n)) same x
pass_heading run pipe to p (GoHome q) other before x leads = absurd (before x.0.group)
pass_heading run pipe to p TakeHome other before x leads = absurd (before x.group)

-- ---- a pipe whose packets alone change

whole_lined : (s : Pipe) (l : Lined) → l.pipes ≡ s.packets.pipes → l.window ≡ s.packets.window → length l.packets ≡ length s.packets.packets → IsWhole s → IsWhole (record s { packets = l })
whole_lined s l pipes window long w = record {
  pipe = w.pipe;
  wide = w.wide;
  run = w.run;
  number = w.number;
  owners = w.owners;
  plans = w.plans;
  door = record { pipe = w.door.pipe; pipelines = w.door.pipelines; arrivals = w.door.arrivals; window = w.door.window; fields = w.door.fields; slots = w.door.slots };
  pipes = pipes ∙ w.pipes;
  window = window ∙ w.window;
  packets = long ∙ w.packets;
  boxes = w.boxes;
  room = w.room;
}

-- the first packet of a line went
first_gone : (s : Pipe) (line : ℕ) → IsPipe s → AreLined s.packets → 0 < length (line_of s.packets line) → IsPipe (record s { packets = without_first s.packets line })
first_gone s line laws lined some = record {
  whole = whole_lined s (without_first s.packets line) refl refl (length-set s.packets.packets (first_of s.packets line) None) laws.whole;
  packets = first_goes s lined laws.packets line some;
  arrivals = arrivals_kept s (record s { packets = without_first s.packets line }) refl refl refl refl (omega arith) laws.arrivals;
  messages = messages_kept s (record s { packets = without_first s.packets line }) refl refl refl refl laws.messages;
}

-- ---- past a group

module _ (s : Pipe) (laws : IsPipe s) (lined : AreLined s.packets) (some : 0 < length (line_of s.packets s.pipe)) (p q : PacketHere) (f : IsFirst s s.pipe p) (arrival : q.t ≡ p.t) where
  -- without its first packet none of the arrival is here
  skipper_absent : lined_packet (without_first s.packets s.pipe) q.t ≡ None
  skipper_absent = ap (lined_packet (without_first s.packets s.pipe)) (arrival ∙ f.arrival) ∙ first_absent s.packets lined s.pipe some

  -- and fewer of its home than the window
  skipper_room : home_count (without_first s.packets s.pipe) (q.t % s.packets.pipes) < s.packets.window
  skipper_room =
      let same : q.t ≡ first_of s.packets s.pipe = arrival ∙ f.arrival in
      let fewer = first_fewer s.packets lined s.pipe some in
      let pipes = lined.some in
      let few = lined.few (first_of s.packets s.pipe % s.packets.pipes) (omega arith) in
      subst (λ t. home_count (without_first s.packets s.pipe) (t % s.packets.pipes) < s.packets.window) (sym same) (omega arith)

  skipper_within : q.t < length (without_first s.packets s.pipe).packets
  skipper_within =
      let long = length-set s.packets.packets (first_of s.packets s.pipe) None in
      let within = first_within s.packets lined s.pipe some in
      let same : q.t ≡ first_of s.packets s.pipe = arrival ∙ f.arrival in
      omega arith

  skipper_known : round_of s.run q.t ≤ length s.owners.plans
  skipper_known = subst (λ t. round_of s.run t ≤ length s.owners.plans) (sym arrival) f.law.known

  skipped_keeps : IsPacket s.run q → (k : Heading) → IsHeading s.run s.pipe q k → IsPipe (record s { packets = with_lined (without_first s.packets s.pipe) q (line_for s.pipe k) })
  skipped_keeps packet k next =
      let gone = first_gone s s.pipe laws lined some in
      let less = record s { packets = without_first s.packets s.pipe } in
      let now = record s { packets = with_lined (without_first s.packets s.pipe) q (line_for s.pipe k) } in
      record {
        whole = whole_lined less (with_lined (without_first s.packets s.pipe) q (line_for s.pipe k)) refl refl (length-set (without_first s.packets s.pipe).packets q.t (Some q)) gone.whole;
        packets = comes less gone.whole.pipe gone.whole.pipes (first_lawful s.packets s.pipe lined some) gone.packets q k skipper_within skipper_absent packet skipper_known
            (subst (λ t. home_of s.run t ≡ s.pipe → IsAway s.door.exit t) (sym arrival) f.law.out) next;
        arrivals = arrivals_kept less now refl refl refl refl (omega arith) gone.arrivals;
        messages = messages_kept less now refl refl refl refl gone.messages;
      }

-- ---- home

module _ (e : OwnPackets) (laws : IsExit e) (u : ℕ) (away : IsAway e u) (fields : List ℤ) (long : length fields ≡ e.fields) where
  came_within : u / e.pipelines < length e.home
  came_within = let now = away.entered in let most = laws.entered in omega arith

  -- the words of the one that came home are its fields
  word_came : (f : ℕ) → f < e.fields → word_of (came_home e u fields) u f ≡ word_at fields f
  word_came f lt =
      row_written e.words (u / e.pipelines) fields e.fields (u / e.pipelines) f long (row_fits e (u / e.pipelines) laws came_within) lt
      ∙ ap (λ b. cond b (word_at fields f) (word_at e.words (u / e.pipelines * e.fields + f))) (eq-eqb (u / e.pipelines) (u / e.pipelines) refl)

  -- and those of others stay
  word_stays : (t f : ℕ) → f < e.fields → (t / e.pipelines == u / e.pipelines) ≡ false → word_of (came_home e u fields) t f ≡ word_of e t f
  word_stays t f lt other =
      row_written e.words (u / e.pipelines) fields e.fields (t / e.pipelines) f long (row_fits e (u / e.pipelines) laws came_within) lt
      ∙ ap (λ b. cond b (word_at fields f) (word_at e.words (t / e.pipelines * e.fields + f))) other

  -- who else was out is out
  others_away : (t : ℕ) → t ≢ u → IsAway e t → IsAway (came_home e u fields) t
  others_away t ne old =
      let apart : t / e.pipelines ≢ u / e.pipelines = λ same. ne (own_of t e.pipe e.pipelines old.own ∙ ap (λ k. e.pipe + k * e.pipelines) same ∙ sym (own_of u e.pipe e.pipelines away.own)) in
      record { own = old.own; entered = old.entered; away = get_or-set_other e.home (u / e.pipelines) (t / e.pipelines) true false apart ∙ old.away }

-- the entry of a packet
abbrev entry_for : PacketHere → Entry
entry_for p = record { by = p.by; touched = p.touched }

-- the door after a packet came home
abbrev door_after : Pipe → PacketHere → List ℤ → Door
door_after s p fields = record {
  exit = came_home s.door.exit p.t fields;
  free = with_free s.door.free p.env;
  entries = slice_set s.door.entries (p.t / s.run.settings.pipelines) (entry_for p);
}

module _ (s : Pipe) (laws : IsPipe s) (lined : AreLined s.packets) (some : 0 < length (line_of s.packets s.pipe)) (p : PacketHere) (f : IsFirst s s.pipe p) (past : p.g ≡ length s.run.code.groups) where
  -- it is home
  pub home_next : IsHeading s.run s.pipe p TakeHome
  home_next = home_heading s.run s.pipe p f.heading past f.next f.leads

  -- it is out
  pub home_away : IsAway s.door.exit p.t
  home_away = f.law.out home_next.home

  -- its environment has a word for each slot
  pub home_env : length p.env ≡ s.door.free.slots
  home_env = f.law.packet.way.fits.long ∙ sym laws.whole.door.slots

  module _ (fields : List ℤ) (words : fields ≡ last_words s.run.code (values_of s.run p.t)) (long : length fields ≡ s.door.exit.fields) (door : IsDoor s.door) where
    -- the pipe afterwards
    abbrev home_pipe : Pipe
    home_pipe = record s { packets = without_first s.packets s.pipe; door = door_after s p fields }

    home_whole : IsWhole home_pipe
    home_whole =
        let w = laws.whole in
        record {
          pipe = w.pipe;
          wide = w.wide;
          run = w.run;
          number = w.number;
          owners = w.owners;
          plans = w.plans;
          door = record { pipe = w.door.pipe; pipelines = w.door.pipelines; arrivals = w.door.arrivals; window = w.door.window; fields = w.door.fields; slots = w.door.slots };
          pipes = w.pipes;
          window = w.window;
          packets = length-set s.packets.packets (first_of s.packets s.pipe) None ∙ w.packets;
          boxes = w.boxes;
          room = w.room;
        }

    home_packets : HasPackets home_pipe
    home_packets t q e =
        let old = first_goes s lined laws.packets s.pipe some t q e in
        let was = still_here s.packets (first_of s.packets s.pipe) t q (first_within s.packets lined s.pipe some) e in
        let own : q.t ≡ t = subst (λ o. IfSome o (λ (r : PacketHere). r.t ≡ t)) was.0 (lined.own t) in
        record {
          packet = old.packet;
          known = old.known;
          out = λ mine. others_away s.door.exit door.exit p.t home_away fields long q.t (λ same. was.1 (sym own ∙ same ∙ f.arrival)) (old.out mine);
          heading = old.heading;
          next = old.next;
          line = old.line;
        }

    pipes : s.door.exit.pipelines ≡ s.run.settings.pipelines
    pipes = laws.whole.door.pipelines

    -- its entry is kept, and that of no other changes
    entry_within : p.t / s.run.settings.pipelines < length s.door.entries
    entry_within = subst (λ n. p.t / n < length s.door.entries) pipes (let within = came_within s.door.exit door.exit p.t home_away fields long in let count = door.entries in omega arith)

    home_mine : CameHome home_pipe p.t
    home_mine = record {
      fields = λ n lt. word_came s.door.exit door.exit p.t home_away fields long n (let wide = laws.whole.door.fields in omega arith) ∙ ap (λ ws. word_at ws n) words;
      entries = λ g lt. (
          let entry : entry_of (slice_set s.door.entries (p.t / s.run.settings.pipelines) (entry_for p)) (p.t / s.run.settings.pipelines) ≡ entry_for p =
          get_or-set_same s.door.entries (p.t / s.run.settings.pipelines) (entry_for p) no_entry entry_within in
          subst (λ (x : Entry). HasEntry s.run p.t g (slice_index x.by g) (slice_index x.touched g)) (sym entry) (f.law.packet.way.passed g (omega arith)));
    }

    home_other : (t : ℕ) → (t / s.run.settings.pipelines == p.t / s.run.settings.pipelines) ≡ false → CameHome s t → CameHome home_pipe t
    home_other t apart old = record {
      fields = λ n lt. word_stays s.door.exit door.exit p.t home_away fields long t n (let wide = laws.whole.door.fields in omega arith)
          (subst (λ k. (t / k == p.t / k) ≡ false) (sym pipes) apart) ∙ old.fields n lt;
      entries = λ g lt. (
          let ne : t / s.run.settings.pipelines ≢ p.t / s.run.settings.pipelines = grind arith in
          let entry : entry_of (slice_set s.door.entries (p.t / s.run.settings.pipelines) (entry_for p)) (t / s.run.settings.pipelines) ≡ entry_of s.door.entries (t / s.run.settings.pipelines) =
          get_or-set_other s.door.entries (p.t / s.run.settings.pipelines) (t / s.run.settings.pipelines) (entry_for p) no_entry ne in
          subst (λ (x : Entry). HasEntry s.run t g (slice_index x.by g) (slice_index x.touched g)) (sym entry) (old.entries g lt));
    }

    home_arrivals : HasArrivals home_pipe
    home_arrivals = record {
      known = laws.arrivals.known;
      home = λ t lt own is. by t lt own is (t / s.run.settings.pipelines == p.t / s.run.settings.pipelines) refl;
    }
      where
        by : (t : ℕ) → t < arrivals s.run → home_of s.run t ≡ s.pipe → is_home (came_home s.door.exit p.t fields) (t / s.run.settings.pipelines) ≡ true
            → (b : Bool) → (t / s.run.settings.pipelines == p.t / s.run.settings.pipelines) ≡ b → CameHome home_pipe t
        by t lt own is true e =
            let at : t / s.run.settings.pipelines ≡ p.t / s.run.settings.pipelines = grind arith in
            let same : t ≡ p.t = own_of t s.pipe s.run.settings.pipelines own ∙ ap (λ k. s.pipe + k * s.run.settings.pipelines) at ∙ sym (own_of p.t s.pipe s.run.settings.pipelines home_next.home) in
            subst (CameHome home_pipe) (sym same) home_mine
        by t lt own is false e =
            let ne : t / s.run.settings.pipelines ≢ p.t / s.run.settings.pipelines = grind arith in
            let apart : t / s.run.settings.pipelines ≢ p.t / s.door.exit.pipelines = subst (λ k. t / s.run.settings.pipelines ≢ p.t / k) (sym pipes) ne in
            let was : is_home s.door.exit (t / s.run.settings.pipelines) ≡ true =
            sym (get_or-set_other s.door.exit.home (p.t / s.door.exit.pipelines) (t / s.run.settings.pipelines) true false apart) ∙ is in
            home_other t e (laws.arrivals.home t lt own was)

    home_keeps : IsPipe home_pipe
    home_keeps = record {
      whole = home_whole;
      packets = home_packets;
      arrivals = home_arrivals;
      messages = messages_kept s home_pipe refl refl refl refl laws.messages;
    }

-- ---- to another pipe

module _ (s : Pipe) (laws : IsPipe s) (lined : AreLined s.packets) (to : ℕ) (can : CanSend s to) (p : PacketHere) (f : IsFirst s to p) where
  -- its message, by whether it has passed all groups
  abbrev message : Bool → Message
  message b = cond b (Home p.t p.env p.by p.touched) (Packet p.t p.g p.env p.by p.touched)

  message_law : (b : Bool) → (p.g == length s.run.code.groups) ≡ b → IsMessage s.run s.pipe to (message b)
  message_law true e =
      let past : p.g ≡ length s.run.code.groups = grind arith in
      let next = away_heading s.run s.pipe to p f.heading can.other past f.next f.leads in
      record { way = subst (λ g. IsOnWay s.run p.t g p.env p.by p.touched) past f.law.packet.way; home = next.0.home }
  message_law false e =
      let before : p.g ≢ length s.run.code.groups = grind arith in
      let next = pass_heading s.run s.pipe to p f.heading can.other before f.next f.leads in
      record { way = f.law.packet.way; group = next.0.group; unit = next.0.unit; place = next.0.place; owned = next.0.owned }

  no_phantom : (b : Bool) → phantoms_in (message b ∷ []) ≡ []
  no_phantom true = refl
  no_phantom false = refl

  -- the pipe afterwards
  abbrev sent_pipe : Message → Pipe
  sent_pipe m = record s { packets = without_first s.packets to; outbox = told s.outbox to m }

  sent_keeps : IsPipe (sent_pipe (departing_as (length s.run.code.groups) p))
  sent_keeps =
      let m = departing_as (length s.run.code.groups) p in
      let gone = first_gone s to laws lined can.some in
      let less = record s { packets = without_first s.packets to } in
      let law = message_law (p.g == length s.run.code.groups) refl in
      record {
        whole = whole_told less (told s.outbox to m) (length-set s.outbox.lines to (waiting s to ++ m ∷ [])) refl gone.whole;
        packets = kept less (sent_pipe m) refl refl refl (omega arith) (λ t away. away) gone.packets;
        arrivals = arrivals_kept less (sent_pipe m) refl refl refl refl (omega arith) gone.arrivals;
        messages = told_keeps less gone.messages gone.whole.boxes to m law (no_phantom (p.g == length s.run.code.groups));
      }

  sent_event : (b : Bool) → (p.g == length s.run.code.groups) ≡ b → IsOneEvent s (sent_pipe (message b))
  sent_event true e =
      let past : p.g ≡ length s.run.code.groups = grind arith in
      let next = away_heading s.run s.pipe to p f.heading can.other past f.next f.leads in
      send p to record { ready = record { here = f.here; next = next; stands = refl; room = λ other. can.room }; pipe = refl }
  sent_event false e =
      let before : p.g ≢ length s.run.code.groups = grind arith in
      let next = pass_heading s.run s.pipe to p f.heading can.other before f.next f.leads in
      pass p to record { ready = record { here = f.here; next = next; stands = refl; room = λ other. can.room }; pipe = refl }

-- ---- the pipe that contracts see

-- this pipe's line
module _ (s now : Pipe) (same : s ≡ now) (laws : IsPipe s) (lines : AreLined now.packets) (some : 0 < length (line_of now.packets now.pipe)) (p : PacketHere)
    (is : lined_packet s.packets (first_of s.packets s.pipe) ≡ Some p) where
  lined_here : AreLined s.packets
  lined_here = subst (λ (x : Pipe). AreLined x.packets) (sym same) lines

  some_here : 0 < length (line_of s.packets s.pipe)
  some_here = subst (λ (x : Pipe). 0 < length (line_of x.packets x.pipe)) (sym same) some

  first_here : IsFirst s s.pipe p
  first_here = first_is s s.pipe p laws lined_here some_here is

  pub packet_here : IsPacket s.run p
  packet_here = first_here.law.packet

  -- it is home
  module _ (past : p.g ≡ length s.run.code.groups) where
    pub away_here : IsAway s.door.exit p.t
    away_here = home_away s laws lined_here some_here p first_here past

    pub env_here : length p.env ≡ s.door.free.slots
    env_here = home_env s laws lined_here some_here p first_here past

    module _ (l : Lined) (d : Door) (fields : List ℤ) (gone : l ≡ without_first s.packets s.pipe) (words : fields ≡ last_words s.run.code (values_of s.run p.t))
        (exit : d.exit ≡ came_home s.door.exit p.t fields) (free : d.free ≡ with_free s.door.free p.env)
        (entries : d.entries ≡ slice_set s.door.entries (p.t / s.door.exit.pipelines) (entry_for p)) where
      door_is : d ≡ door_after s p fields
      door_is = let set = entries ∙ ap (λ n. slice_set s.door.entries (p.t / n) (entry_for p)) laws.whole.door.pipelines in (λ i. record { exit = exit i; free = free i; entries = set i })

      pub home_left : length fields ≡ s.door.exit.fields → IsDoor s.door → IsPipe (record s { packets = l; door = d })
      home_left long door =
          subst (λ (x : Lined × Door). IsPipe (record s { packets = x.0; door = x.1 })) (λ i. (sym gone i, sym door_is i))
          (home_keeps s laws lined_here some_here p first_here past fields words long door)

      pub home_done : IsOneEvent now (record s { packets = l; door = d })
      home_done =
          let door : d ≡ door_after s p (last_words s.run.code (values_of s.run p.t)) = door_is ∙ ap (door_after s p) words in
          subst (λ (x : Pipe). IsOneEvent x (record s { packets = l; door = d })) same
          (home p record {
            ready = record { here = first_here.here; next = home_next s laws lined_here some_here p first_here past; stands = refl; room = λ other. absurd (other refl) };
            pipe = λ i. record s { packets = gone i; door = door i };
          })

  -- it skips its group
  module _ (before : p.g ≢ length s.run.code.groups) where
    pub skip_here : HasNoPlace s.run p
    skip_here = skip_heading s.run s.pipe p first_here.heading before first_here.next first_here.leads

    module _ (q : PacketHere) (l : Lined) (arrival : q.t ≡ p.t) (gone : l ≡ without_first s.packets s.pipe) where
      pub known_here : round_of s.run q.t ≤ length s.owners.plans
      known_here = skipper_known s laws lined_here some_here p q first_here arrival

      pub absent_here : lined_packet l q.t ≡ None
      absent_here = subst (λ (x : Lined). lined_packet x q.t ≡ None) (sym gone) (skipper_absent s laws lined_here some_here p q first_here arrival)

      pub room_here : home_count l (q.t % l.pipes) < l.window
      room_here = subst (λ (x : Lined). home_count x (q.t % x.pipes) < x.window) (sym gone) (skipper_room s laws lined_here some_here p q first_here arrival)

      module _ (m : Lined) (stands : IsStanding s.run s.pipe l m q) where
        lined_is : m ≡ with_lined (without_first s.packets s.pipe) q (line_for s.pipe stands.heading)
        lined_is = stands.packets ∙ ap (λ (x : Lined). with_lined x q (line_for s.pipe stands.heading)) gone

        pub skip_left : IsPacket s.run q → IsPipe (record s { packets = m })
        skip_left packet =
            subst (λ (x : Lined). IsPipe (record s { packets = x })) (sym lined_is)
            (skipped_keeps s laws lined_here some_here p q first_here arrival packet stands.heading stands.next)

        pub skip_done : q.g ≡ p.g + 1 → q.units ≡ p.units → IsOneEvent now (record s { packets = m })
        skip_done group units =
            subst (λ (x : Pipe). IsOneEvent x (record s { packets = m })) same
            (skip p q (line_for s.pipe stands.heading) record {
              ready = record { here = first_here.here; next = skip_here; stands = refl; room = λ other. absurd (other refl) };
              passed = record { arrival = arrival; group = group; units = units };
              pipe = λ i. record s { packets = lined_is i };
            })

-- another pipe's line
module _ (s now : Pipe) (same : s ≡ now) (laws : IsPipe s) (lines : AreLined now.packets) (to : ℕ) (can : CanSend now to) (p : PacketHere) (is : lined_packet s.packets (first_of s.packets to) ≡ Some p) where
  lined_there : AreLined s.packets
  lined_there = subst (λ (x : Pipe). AreLined x.packets) (sym same) lines

  can_there : CanSend s to
  can_there = subst (λ (x : Pipe). CanSend x to) (sym same) can

  first_there : IsFirst s to p
  first_there = first_is s to p laws lined_there can_there.some is

  module _ (l : Lined) (o : Waiting Message) (n : ℕ) (m : Message) (gone : l ≡ without_first s.packets to) (groups : n ≡ length s.run.code.groups) (made : m ≡ departing_as n p) (pushed : o ≡ told s.outbox to m) where
    outbox_is : o ≡ told s.outbox to (departing_as (length s.run.code.groups) p)
    outbox_is = pushed ∙ ap (told s.outbox to) (made ∙ ap (λ k. departing_as k p) groups)

    pub send_left : IsPipe (record s { packets = l; outbox = o })
    send_left =
        subst (λ (x : Lined × Waiting Message). IsPipe (record s { packets = x.0; outbox = x.1 })) (λ i. (sym gone i, sym outbox_is i))
        (sent_keeps s laws lined_there to can_there p first_there)

    pub send_done : IsOneEvent now (record s { packets = l; outbox = o })
    send_done =
        subst (λ (x : Pipe). IsOneEvent x (record s { packets = l; outbox = o })) same
        (subst (λ (x : Lined × Waiting Message). IsOneEvent s (record s { packets = x.0; outbox = x.1 })) (λ i. (sym gone i, sym outbox_is i))
        (sent_event s laws lined_there to can_there p first_there (p.g == length s.run.code.groups) refl))

-- ---- nothing to do

-- one that stands in a line makes it a line with somebody
stands_some : (l : Lined) (t line : ℕ) → StandsIn l t (Some line) → 0 < length (line_of l line)
stands_some l t line at = let within = at.1.within in omega arith

-- where nobody stands in this pipe's line, and nobody can go to another pipe, no packet can take a step
no_step : (s : Pipe) → IsPipe s → line_of s.packets s.pipe ≡ [] → ((to : ℕ) → CanSend s to → ⊥) → (p : PacketHere) (h : Heading) (line : ℕ) → CanStep s p h line → ⊥
no_step s laws none no_send p h line can = by (line == s.pipe) refl
  where
    law : IsHere s p
    law = laws.packets p.t p can.here

    somebody : 0 < length (line_of s.packets line)
    somebody =
        let same = one_heading s.run s.pipe p law.heading h law.next can.next in
        stands_some s.packets p.t line (subst (StandsIn s.packets p.t) (ap (line_for s.pipe) same ∙ can.stands) law.line)

    by : (b : Bool) → (line == s.pipe) ≡ b → ⊥
    by true e =
        let same : line ≡ s.pipe = grind arith in
        let empty : length (line_of s.packets line) ≡ 0 = ap (λ n. length (line_of s.packets n)) same ∙ ap length none in
        let some = somebody in
        absurd (omega arith)
    by false e =
        let other : line ≢ s.pipe = grind arith in
        let there = subst (λ o. IfSome o (λ l. l < s.run.settings.pipelines)) can.stands (line_there s.run s.pipe p h laws.whole.pipe can.next) in
        no_send line record { there = there; other = other; some = somebody; room = can.room other }

-- the same of the pipe that contracts see
pub no_step_now : (s now : Pipe) (first : Option ℕ) → s ≡ now → IsPipe s → is_some first ≡ false → IfNone first (line_of s.packets s.pipe ≡ []) → ((to : ℕ) → CanSend now to → ⊥)
    → (p : PacketHere) (h : Heading) (line : ℕ) → CanStep now p h line → ⊥
no_step_now s now (Some t) same laws nobody none no_send p h line can = absurd cc
no_step_now s now None same laws nobody none no_send p h line can =
    no_step s laws none (λ to could. no_send to (subst (λ (x : Pipe). CanSend x to) same could)) p h line (subst (λ (x : Pipe). CanStep x p h line) (sym same) can)
