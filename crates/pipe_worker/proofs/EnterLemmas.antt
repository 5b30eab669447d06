-- An own arrival that enters.
use Rattle.std.proofs.Common.{◌≡◌, ℕ, zero, suc, ◌+◌, ◌*◌, ◌/◌, ◌%◌, ◌<◌, ◌≤◌, Bool, true, false, nat_lt, List, [], ◌∷◌, ◌++◌, length, map, take, slice_index_or, count_by, Option, Some, None, IfSome, IsSome, IsTrue, ◌↔◌, is_some, refl, sym, ap, subst, ◌∙◌, inl, inr, arith, add-one, zero-add, eqb-true}
use Rattle.std.proofs.Math.Nat.{add-mul-mod_self_right, add-mul-div_right, mod-eq_of_lt, div-eq_of_lt, mul-le-mul_right}
use Rattle.std.proofs.lemmas.Bool.{ltb-true, ltb-false}
use Rattle.std.proofs.lemmas.Bool.Decides.{eqb_tells}
use Rattle.std.proofs.lemmas.List.{get_or-map, length-set, length-map, ext_get_or, take_all}
use Rattle.std.proofs.lemmas.List.Sums.{count_by_more_yes, count_by_more_no}
use Rattle.pipe_parts.specs.declared.packet.Packet.{Packet as PacketHere}
use Rattle.pipe_parts.specs.FreeEnvs.{FreeEnvs}
use Rattle.pipe_parts.specs.Waiting.{Waiting, waits_for}
use Rattle.egress_order.specs.OwnPackets.{own_arrival, left_count, IsAway}
use Rattle.egress_order.proofs.Leading.{leading_stop}
use Rattle.egress_order.proofs.Exits.{own_of}
use Rattle.run_laws.specs.Run.{round_of, home_of}
use Rattle.packet_lines.specs.Lined.{Lined, lined_packet, is_of_home, home_count, with_lined, AreLined}
use Rattle.home_door.specs.Door.{Door, IsDoor}
use Rattle.packet_steps.specs.declared.heading.Heading.{Heading}
use Rattle.packet_steps.specs.Packet.{IsPacket}
use Rattle.packet_steps.specs.Heading.{IsHeading}
use Rattle.pipe_messages.specs.declared.message.Message.{Message}
use Rattle.pipe_messages.specs.declared.message.Message.TheVariants.{Phantom}
use Rattle.pipe_worker.specs.Pipe.{Pipe, line_for, told_all, IsStanding}
use Rattle.pipe_worker.specs.Laws.{IsWhole, HasPackets, IsPipe}
use Rattle.pipe_worker.specs.Entering.{door_with}
use Rattle.pipe_worker.specs.Events.{next_arrival, CanEnter, IsOneEvent}
use Rattle.pipe_worker.specs.Events.IsOneEvent.{enter}
use Rattle.pipe_worker.proofs.PacketLemmas.{kept, comes}
use Rattle.pipe_worker.proofs.MessageLemmas.{told_all_keeps}

-- ---- telling all pipes

-- the first pipes were told of a message, and the others not yet
pub record ToldBelow (old now : Waiting Message) (m : Message) (n : ℕ) : Type 0 where
  pub room : now.room ≡ old.room
  pub lines : length now.lines ≡ length old.lines
  pub done : (k : ℕ) → k < n → k < length old.lines → waits_for now k ≡ waits_for old k ++ m ∷ []
  pub rest : (k : ℕ) → n ≤ k → waits_for now k ≡ waits_for old k

-- all pipes were told
pub told_whole : (old now : Waiting Message) (m : Message) (n : ℕ) → length old.lines ≤ n → ToldBelow old now m n → now ≡ told_all old m
told_whole old now m n le h = (λ i. record { room = h.room i; lines = lines i })
  where
    lines : now.lines ≡ map (λ line. line ++ m ∷ []) old.lines
    lines =
        ext_get_or [] now.lines (map (λ line. line ++ m ∷ []) old.lines) (h.lines ∙ sym (length-map old.lines (λ line. line ++ m ∷ [])))
        (λ k lt.
        let long = h.lines in
        let there : k < length old.lines = omega (arith, lt, long) in
        h.done k (omega (arith, there, le)) there ∙ sym (get_or-map (λ line. line ++ m ∷ []) old.lines k [] [] there))

-- ---- the next own arrival

module _ (s : Pipe) (w : IsWhole s) (k : ℕ) where
  -- the own arrival with a number, by the pipe
  pub own_at : own_arrival s.door.exit k ≡ s.pipe + k * s.run.settings.pipelines
  own_at = (λ i. w.door.pipe i + k * w.door.pipelines i)

  -- it is the pipe's
  pub own_home : home_of s.run (own_arrival s.door.exit k) ≡ s.pipe
  own_home = ap (home_of s.run) own_at ∙ add-mul-mod_self_right s.pipe k s.run.settings.pipelines ∙ mod-eq_of_lt w.pipe

  -- and has the number
  pub own_number : own_arrival s.door.exit k / s.door.exit.pipelines ≡ k
  own_number =
      let some = w.pipe in
      (λ i. own_at i / w.door.pipelines i) ∙ add-mul-div_right s.pipe k (omega arith) ∙ ap (λ n. n + k) (div-eq_of_lt w.pipe) ∙ zero-add k

-- a packet that is here is of its arrival
of_arrival : (s : Pipe) (t : ℕ) (p : PacketHere) → AreLined s.packets → lined_packet s.packets t ≡ Some p → p.t ≡ t
of_arrival s t p lined e = subst (λ o. IfSome o (λ (packet : PacketHere). packet.t ≡ t)) e (lined.own t)

-- the packet of the next arrival isn't here
pub next_absent : (s : Pipe) → IsPipe s → AreLined s.packets → lined_packet s.packets (next_arrival s) ≡ None
next_absent s h lined = by (lined_packet s.packets (next_arrival s)) refl
  where
    by : (o : Option PacketHere) → lined_packet s.packets (next_arrival s) ≡ o → lined_packet s.packets (next_arrival s) ≡ None
    by None e = e
    by (Some p) e =
        let own = of_arrival s (next_arrival s) p lined e in
        let here = h.packets (next_arrival s) p e in
        let away = here.out (ap (home_of s.run) own ∙ own_home s h.whole s.door.exit.entered) in
        let number : p.t / s.door.exit.pipelines ≡ s.door.exit.entered = ap (λ t. t / s.door.exit.pipelines) own ∙ own_number s h.whole s.door.exit.entered in
        let early = away.entered in
        absurd (omega (arith, number, early))

-- so it isn't found here
pub not_found : (s : Pipe) (t : ℕ) (b : Bool) → IsPipe s → AreLined s.packets → t ≡ next_arrival s → IsTrue b ↔ IsSome (lined_packet s.packets t) → b ≡ false
not_found s t true h lined at found =
    let none : lined_packet s.packets t ≡ None = ap (lined_packet s.packets) at ∙ next_absent s h lined in
    let some = found.0 refl in
    let no : is_some (lined_packet s.packets t) ≡ false = ap is_some none in
    absurd (cc)
not_found s t false h lined at found = refl

-- ---- how many own packets are here

-- arrivals of one pipe are as far apart as their numbers
numbers_rise : (pipe pipes a b : ℕ) → pipe + a * pipes < pipe + b * pipes → a < b
numbers_rise pipe pipes a b lt = by (nat_lt a b) refl
  where
    by : (c : Bool) → nat_lt a b ≡ c → a < b
    by true e = ltb-true a b e
    by false e = let more : b * pipes ≤ a * pipes = mul-le-mul_right pipes (ltb-false a b e) in absurd (omega (arith, lt, more))

-- where those that are counted are arrivals of one pipe with numbers from one on, there are no more of them than numbers
counted_few : {X : Type 0} (p : X → Bool) (xs : List X) (d : X) (pipe pipes left : ℕ) → ((t : ℕ) → p (slice_index_or xs t d) ≡ true → (t % pipes ≡ pipe) × (left ≤ t / pipes))
    → (n : ℕ) → n ≤ length xs → (k : ℕ) → left ≤ k → ((t : ℕ) → t < n → p (slice_index_or xs t d) ≡ true → t / pipes < k) → count_by p (take n xs) + left ≤ k
counted_few p xs d pipe pipes left each zero within k le below = omega (arith, le)
counted_few p xs d pipe pipes left each (suc n) within k le below = by (counted_few p xs d pipe pipes left each n (omega (arith, within))) (p (slice_index_or xs n d)) refl
  where
    next : count_by p (take (suc n) xs) ≡ count_by p (take (n + 1) xs)
    next = ap (λ m. count_by p (take m xs)) (sym (add-one n))

    by : ((j : ℕ) → left ≤ j → ((t : ℕ) → t < n → p (slice_index_or xs t d) ≡ true → t / pipes < j) → count_by p (take n xs) + left ≤ j) → (b : Bool) → p (slice_index_or xs n d) ≡ b → count_by p (take (suc n) xs) + left ≤ k
    by before true e =
        let own = own_of n pipe pipes (each n e).0 in
        let one = count_by_more_yes p xs n d (omega (arith, within)) e in
        let few = before (n / pipes) (each n e).1
        (λ t lt counted.
        let at = own_of t pipe pipes (each t counted).0 in
        numbers_rise pipe pipes (t / pipes) (n / pipes) (omega (arith, lt, at, own))) in
        let last = below n (omega arith) e in
        omega (arith, few, last, one, next)
    by before false e =
        let none = count_by_more_no p xs n d (omega (arith, within)) e in
        let few = before k le (λ t lt counted. below t (omega (arith, lt)) counted) in
        omega (arith, few, none, next)

-- an own packet that is here is out
own_out : (s : Pipe) → IsPipe s → AreLined s.packets → (t : ℕ) (o : Option PacketHere) → lined_packet s.packets t ≡ o → is_of_home s.packets.pipes s.pipe o ≡ true
    → (t % s.packets.pipes ≡ s.pipe) × (left_count s.door.exit ≤ t / s.packets.pipes) × (t / s.packets.pipes < s.door.exit.entered)
own_out s h lined t None e counted = absurd (cc)
own_out s h lined t (Some p) e counted =
    let own = of_arrival s t p lined e in
    let mine : p.t % s.packets.pipes ≡ s.pipe = eqb-true (p.t % s.packets.pipes) s.pipe counted in
    let here = h.packets t p e in
    let away = here.out (ap (λ n. p.t % n) (sym h.whole.pipes) ∙ mine) in
    let same : p.t / s.door.exit.pipelines ≡ t / s.packets.pipes = (λ i. own i / (h.whole.door.pipelines ∙ sym h.whole.pipes) i) in
    let left = leading_stop s.door.exit.home (p.t / s.door.exit.pipelines) away.away in
    let early = away.entered in
    (ap (λ u. u % s.packets.pipes) (sym own) ∙ mine, omega (arith, left, same), omega (arith, early, same))

-- where fewer than the window are out, fewer than the window of the own home are here
pub own_fewer : (s : Pipe) → IsPipe s → IsDoor s.door → AreLined s.packets → s.door.exit.entered < left_count s.door.exit + s.run.settings.window → home_count s.packets s.pipe < s.run.settings.window
own_fewer s h door lined out =
    let few = counted_few (is_of_home s.packets.pipes s.pipe) s.packets.packets None s.pipe s.packets.pipes (left_count s.door.exit)
    (λ t counted. let o = own_out s h lined t (lined_packet s.packets t) refl counted in (o.0, o.1))
    (length s.packets.packets) (omega arith) s.door.exit.entered door.exit.left
    (λ t lt counted. (own_out s h lined t (lined_packet s.packets t) refl counted).2) in
    let all : count_by (is_of_home s.packets.pipes s.pipe) (take (length s.packets.packets) s.packets.packets) ≡ home_count s.packets s.pipe =
    ap (count_by (is_of_home s.packets.pipes s.pipe)) (take_all (length s.packets.packets) s.packets.packets (omega arith)) in
    omega (arith, few, all, out)

-- ---- the pipe after an arrival entered

-- its packet stands in a line or in none, and its phantom waits for every pipe
abbrev pub after_entering : Pipe → FreeEnvs → PacketHere → Option ℕ → Pipe
after_entering s free p line = record s { door = door_with s.door free; packets = with_lined s.packets p line; outbox = told_all s.outbox (Phantom p.t p.units) }

-- ready to enter is what the door, the owners and the outbox say
pub entered_keeps : (s : Pipe) (free : FreeEnvs) (p : PacketHere) (h : Heading) → IsPipe s → IsDoor s.door → AreLined s.packets → CanEnter s → free.slots ≡ s.door.free.slots → p.t ≡ next_arrival s
    → IsPacket s.run p → IsHeading s.run s.pipe p h → IsPipe (after_entering s free p (line_for s.pipe h))
entered_keeps s free p h pipe door lined can slots at packet next = record {
  whole = record {
    pipe = w.pipe;
    wide = w.wide;
    run = w.run;
    number = w.number;
    owners = w.owners;
    plans = w.plans;
    door = record { pipe = w.door.pipe; pipelines = w.door.pipelines; arrivals = w.door.arrivals; window = w.door.window; fields = w.door.fields; slots = slots ∙ w.door.slots };
    pipes = w.pipes;
    window = w.window;
    packets = length-set s.packets.packets p.t (Some p) ∙ w.packets;
    boxes = length-map s.outbox.lines (λ line. line ++ Phantom p.t p.units ∷ []) ∙ w.boxes;
    room = w.room;
  };
  packets = kept standing after refl refl refl (omega arith) (λ t away. away) stands;
  arrivals = record {
    known = λ k lt. elim (eqb_tells k s.door.exit.entered) [
      | inl e ↦ subst (λ n. round_of s.run (own_arrival s.door.exit n) ≤ length s.owners.plans) (sym e.1) can.known
      | inr e ↦ pipe.arrivals.known k (let other = e.1 in omega (arith, lt, other))
    ];
    home = λ t lt own here. let was = pipe.arrivals.home t lt own here in record { fields = was.fields; entries = was.entries };
  };
  messages =
      told_all_keeps s after p.t p.units pipe.messages w.boxes record { arrival = packet.way.arrival; own = mine; places = packet.units }
      (at ∙ own_at s w s.door.exit.entered) refl refl refl refl;
}
  where
    w : IsWhole s
    w = pipe.whole

    after : Pipe
    after = after_entering s free p (line_for s.pipe h)

    opened : Pipe
    opened = record s { door = door_with s.door free }

    standing : Pipe
    standing = record s { door = door_with s.door free; packets = with_lined s.packets p (line_for s.pipe h) }

    mine : home_of s.run p.t ≡ s.pipe
    mine = ap (home_of s.run) at ∙ own_home s w s.door.exit.entered

    number : p.t / s.door.exit.pipelines ≡ s.door.exit.entered
    number = ap (λ t. t / s.door.exit.pipelines) at ∙ own_number s w s.door.exit.entered

    away : IsAway opened.door.exit p.t
    away = record {
      own = (λ i. p.t % w.door.pipelines i) ∙ mine ∙ sym w.door.pipe;
      entered = omega (arith, number);
      away = door.exit.away (p.t / s.door.exit.pipelines) (omega (arith, number));
    }

    there : p.t < length s.packets.packets
    there = let long = w.packets in let early = packet.way.arrival in omega (arith, long, early)

    stands : HasPackets standing
    stands =
        comes opened w.pipe w.pipes lined
        (kept s opened refl refl refl (omega arith) (λ t was. let early = was.entered in record { own = was.own; entered = omega (arith, early); away = was.away }) pipe.packets)
        p h there (ap (lined_packet s.packets) at ∙ next_absent s pipe lined) packet
        (subst (λ t. round_of s.run t ≤ length s.owners.plans) (sym at) can.known) (λ own. away) next

-- the same of the pipe that contracts see, where the door gave its next arrival, and a packet was made of it
module _ (s now : Pipe) (same : s ≡ now) (pipe : IsPipe s) (seen_door : IsDoor now.door) (seen_lined : AreLined now.packets) (seen_can : CanEnter now) (t : ℕ) (p : PacketHere) (next : t ≡ next_arrival s) (made : p.t ≡ t) where
  door : IsDoor s.door
  door = subst (λ (x : Pipe). IsDoor x.door) (sym same) seen_door

  lined : AreLined s.packets
  lined = subst (λ (x : Pipe). AreLined x.packets) (sym same) seen_lined

  can : CanEnter s
  can = subst CanEnter (sym same) seen_can

  at : p.t ≡ next_arrival s
  at = made ∙ next

  pub enter_absent : lined_packet s.packets p.t ≡ None
  enter_absent = ap (lined_packet s.packets) at ∙ next_absent s pipe lined

  pub enter_room : home_count s.packets (p.t % s.packets.pipes) < s.packets.window
  enter_room =
      let few = own_fewer s pipe door lined can.window in
      let mine : p.t % s.packets.pipes ≡ s.pipe = ap (λ n. p.t % n) pipe.whole.pipes ∙ ap (home_of s.run) at ∙ own_home s pipe.whole s.door.exit.entered in
      let window = pipe.whole.window in
      let count : home_count s.packets (p.t % s.packets.pipes) ≡ home_count s.packets s.pipe = ap (home_count s.packets) mine in
      omega (arith, few, count, window)

  module _ (d : Door) (l : Lined) (o : Waiting Message) (opened : d ≡ door_with s.door d.free) (slots : d.free.slots ≡ s.door.free.slots) (packet : IsPacket s.run p) (stood : IsStanding s.run s.pipe s.packets l p) (all : o ≡ told_all s.outbox (Phantom t p.units)) where
    whole : o ≡ told_all s.outbox (Phantom p.t p.units)
    whole = all ∙ ap (λ n. told_all s.outbox (Phantom n p.units)) (sym made)

    is : after_entering s d.free p (line_for s.pipe stood.heading) ≡ record s { door = d; packets = l; outbox = o }
    is = (λ i. record s { door = sym opened i; packets = sym stood.packets i; outbox = sym whole i })

    pub enter_keeps : IsPipe (record s { door = d; packets = l; outbox = o })
    enter_keeps = subst IsPipe is (entered_keeps s d.free p stood.heading pipe door lined can slots at packet stood.next)

    pub enter_did : p.g ≡ 0 → IsOneEvent now (record s { door = d; packets = l; outbox = o })
    enter_did start =
        subst (λ (x : Pipe). IsOneEvent x (record s { door = d; packets = l; outbox = o })) same
        (subst (IsOneEvent s) is
        (enter p (line_for s.pipe stood.heading) record {
          ready = can;
          arrival = at;
          start = start;
          exit = refl;
          entries = refl;
          packets = refl;
          outbox = refl;
          owners = refl;
          row = refl;
        }))
