-- Packets that come and go, and where the others stand then.
use Rattle.std.proofs.Common.{◌≡◌, ◌≢◌, ℕ, ◌+◌, ◌-◌, ◌%◌, ◌<◌, ◌≤◌, ◌==◌, Bool, true, false, nat_lt, [], ◌∷◌, ◌++◌, drop, length, length-append, length-drop, eq-eqb, slice_index, slice_index_or, slice_set, refl, ap, ◌∙◌, sym, subst, arith, Option, Some, None, is_some, IsSome, IfSome, unwrap_or}
use Rattle.std.proofs.Math.ListN.{get_or-append}
use Rattle.std.proofs.lemmas.Bool.{ltb-true, ltb-false}
use Rattle.std.proofs.lemmas.List.{get_or-set_same, get_or-set_other, get_or_push, get_or-drop}
use Rattle.pipe_parts.specs.declared.packet.Packet.{Packet as PacketHere}
use Rattle.egress_order.specs.OwnPackets.{IsAway}
use Rattle.run_laws.specs.Run.{Run, round_of, home_of}
use Rattle.run_laws.specs.LawfulPlans.{Owns}
use Rattle.run_laws.proofs.PlanLemmas.{owns_once}
use Rattle.packet_lines.specs.Lined.{Lined, lined_packet, line_of, first_of, home_count, with_lined, without_first, without_waiting, StandsAt, AreLined}
use Rattle.packet_lines.proofs.Counts.{tick}
use Rattle.packet_lines.proofs.Leaving.{some_within, home_less, first_here, line_within}
use Rattle.packet_steps.specs.declared.heading.Heading.{Heading}
use Rattle.packet_steps.specs.declared.heading.Heading.TheVariants.{Serve, Skip, Pass, GoHome, TakeHome}
use Rattle.packet_steps.specs.Packet.{IsPacket}
use Rattle.packet_steps.specs.Heading.{IsForPipe, HasNoPlace, IsForHome, IsHeading}
use Rattle.pipe_worker.specs.Pipe.{Pipe, line_for, StandsIn}
use Rattle.pipe_worker.specs.Laws.{IsHere, HasPackets}

-- ---- headings

-- there is only one owner of a packet's unit, by its heading there
one_owner : (run : Run) (p : PacketHere) (a b : ℕ) → IsForPipe run p a → IsForPipe run p b → a ≡ b
one_owner run p a b f h =
    let same : Some f.unit ≡ Some h.unit = sym f.place ∙ h.place in
    let unit : f.unit ≡ h.unit = ap (λ o. unwrap_or o 0) same in
    owns_once run (round_of run p.t) p.g h.unit a b (subst (λ u. Owns run (round_of run p.t) p.g u a) unit f.owned) h.owned

placed_or_not : (run : Run) (p : PacketHere) (a : ℕ) → IsForPipe run p a → HasNoPlace run p → ⊥
placed_or_not run p a f h = let no : Some f.unit ≡ None = sym f.place ∙ h.place in absurd cc

served_or_home : (run : Run) (p : PacketHere) (a b : ℕ) → IsForPipe run p a → IsForHome run p b → ⊥
served_or_home run p a b f h = let here = f.group in let past = h.group in absurd (omega arith)

skipped_or_home : (run : Run) (p : PacketHere) (b : ℕ) → HasNoPlace run p → IsForHome run p b → ⊥
skipped_or_home run p b f h = let here = f.group in let past = h.group in absurd (omega arith)

-- the heading of a packet is one
pub one_heading : (run : Run) (pipe : ℕ) (p : PacketHere) (h k : Heading) → IsHeading run pipe p h → IsHeading run pipe p k → h ≡ k
one_heading run pipe p Serve Serve x y = refl
one_heading run pipe p Serve Skip x y = absurd (placed_or_not run p pipe x y)
one_heading run pipe p Serve (Pass q) x y = absurd (y.1.other (one_owner run p q pipe y.0 x))
one_heading run pipe p Serve (GoHome q) x y = absurd (served_or_home run p pipe q x y.0)
one_heading run pipe p Serve TakeHome x y = absurd (served_or_home run p pipe pipe x y)
one_heading run pipe p Skip Serve x y = absurd (placed_or_not run p pipe y x)
one_heading run pipe p Skip Skip x y = refl
one_heading run pipe p Skip (Pass q) x y = absurd (placed_or_not run p q y.0 x)
one_heading run pipe p Skip (GoHome q) x y = absurd (skipped_or_home run p q x y.0)
one_heading run pipe p Skip TakeHome x y = absurd (skipped_or_home run p pipe x y)
one_heading run pipe p (Pass q) Serve x y = absurd (x.1.other (one_owner run p q pipe x.0 y))
one_heading run pipe p (Pass q) Skip x y = absurd (placed_or_not run p q x.0 y)
one_heading run pipe p (Pass q) (Pass r) x y = ap Pass (one_owner run p q r x.0 y.0)
one_heading run pipe p (Pass q) (GoHome r) x y = absurd (served_or_home run p q r x.0 y.0)
one_heading run pipe p (Pass q) TakeHome x y = absurd (served_or_home run p q pipe x.0 y)
one_heading run pipe p (GoHome q) Serve x y = absurd (served_or_home run p pipe q y x.0)
one_heading run pipe p (GoHome q) Skip x y = absurd (skipped_or_home run p q y x.0)
one_heading run pipe p (GoHome q) (Pass r) x y = absurd (served_or_home run p r q y.0 x.0)
one_heading run pipe p (GoHome q) (GoHome r) x y = ap GoHome (sym x.0.home ∙ y.0.home)
one_heading run pipe p (GoHome q) TakeHome x y = absurd (x.1.other (sym x.0.home ∙ y.home))
one_heading run pipe p TakeHome Serve x y = absurd (served_or_home run p pipe pipe y x)
one_heading run pipe p TakeHome Skip x y = absurd (skipped_or_home run p pipe y x)
one_heading run pipe p TakeHome (Pass r) x y = absurd (served_or_home run p r pipe y.0 x)
one_heading run pipe p TakeHome (GoHome r) x y = absurd (y.1.other (sym y.0.home ∙ x.home))
one_heading run pipe p TakeHome TakeHome x y = refl

-- the line of a heading is that of a pipe
pub line_there : (run : Run) (pipe : ℕ) (p : PacketHere) (h : Heading) → pipe < run.settings.pipelines → IsHeading run pipe p h → IfSome (line_for pipe h) (λ l. l < run.settings.pipelines)
line_there run pipe p Serve lt x = _
line_there run pipe p Skip lt x = lt
line_there run pipe p (Pass q) lt x = x.1.there
line_there run pipe p (GoHome q) lt x = x.1.there
line_there run pipe p TakeHome lt x = lt

-- ---- the law of packets where other parts change

pub kept : (s s' : Pipe) → s'.run ≡ s.run → s'.pipe ≡ s.pipe → s'.packets ≡ s.packets → length s.owners.plans ≤ length s'.owners.plans
    → ((t : ℕ) → IsAway s.door.exit t → IsAway s'.door.exit t) → HasPackets s → HasPackets s'
kept s s' run pipe packets plans away has t p e =
    let old = has t p (ap (λ (l : Lined). lined_packet l t) (sym packets) ∙ e) in
    let round : round_of s'.run p.t ≡ round_of s.run p.t = ap (λ (r : Run). round_of r p.t) run in
    let home : home_of s'.run p.t ≡ home_of s.run p.t = ap (λ (r : Run). home_of r p.t) run in
    let known = old.known in
    record {
      packet = subst (λ (r : Run). IsPacket r p) (sym run) old.packet;
      known = omega arith;
      out = λ own. away p.t (old.out (sym home ∙ own ∙ pipe));
      heading = old.heading;
      next = subst (λ (r : Run). IsHeading r s'.pipe p old.heading) (sym run) (subst (λ n. IsHeading s.run n p old.heading) (sym pipe) old.next);
      line = subst (λ (l : Lined). StandsIn l p.t (line_for s'.pipe old.heading)) (sym packets) (subst (λ n. StandsIn s.packets p.t (line_for n old.heading)) (sym pipe) old.line);
    }

-- ---- a packet that comes

module _ (l : Lined) (p : PacketHere) where
  -- where others stand they stand when an arrival came behind
  stands_on : (line : Option ℕ) → IfSome line (λ n. n < length l.lines) → (other i u : ℕ) → StandsAt l other i u → StandsAt (with_lined l p line) other i u
  stands_on None there other i u at = record { within = at.within; number = at.number }
  stands_on (Some line) there other i u at = by (other == line) refl
    where
      here : StandsAt l line i u → (line_of (with_lined l p (Some line)) line ≡ line_of l line ++ p.t ∷ []) → StandsAt (with_lined l p (Some line)) line i u
      here mine now =
          let less = mine.within in
          let long = length-append (line_of l line) (p.t ∷ []) in
          let within : i < length (line_of l line ++ p.t ∷ []) = omega arith in
          record { within = subst (λ xs. i < length xs) (sym now) within; number = ap (λ xs. slice_index xs i) now ∙ get_or-append (line_of l line) (p.t ∷ []) 0 i mine.within ∙ mine.number }

      by : (b : Bool) → (other == line) ≡ b → StandsAt (with_lined l p (Some line)) other i u
      by true e =
          let same : other ≡ line = grind arith in
          let now : line_of (with_lined l p (Some line)) line ≡ line_of l line ++ p.t ∷ [] = get_or-set_same l.lines line (line_of l line ++ p.t ∷ []) [] there in
          subst (λ n. StandsAt (with_lined l p (Some line)) n i u) (sym same) (here (subst (λ n. StandsAt l n i u) same at) now)
      by false e =
          let apart : other ≢ line = grind arith in
          let now : line_of (with_lined l p (Some line)) other ≡ line_of l other = get_or-set_other l.lines line other (line_of l line ++ p.t ∷ []) [] apart in
          record { within = subst (λ xs. i < length xs) (sym now) at.within; number = ap (λ xs. slice_index xs i) now ∙ at.number }

  -- and where they stand then they stood
  stood_there : (line : Option ℕ) → IfSome line (λ n. n < length l.lines) → (other i u : ℕ) → u ≢ p.t → StandsAt (with_lined l p line) other i u → StandsAt l other i u
  stood_there None there other i u ne at = record { within = at.within; number = at.number }
  stood_there (Some line) there other i u ne at = by (other == line) refl
    where
      here : StandsAt (with_lined l p (Some line)) line i u → (line_of (with_lined l p (Some line)) line ≡ line_of l line ++ p.t ∷ []) → (b : Bool) → nat_lt i (length (line_of l line)) ≡ b → StandsAt l line i u
      here mine now true e =
          let less = ltb-true i (length (line_of l line)) e in
          record { within = less; number = sym (get_or-append (line_of l line) (p.t ∷ []) 0 i less) ∙ ap (λ xs. slice_index xs i) (sym now) ∙ mine.number }
      here mine now false e =
          let past = ltb-false i (length (line_of l line)) e in
          let long = length-append (line_of l line) (p.t ∷ []) in
          let within : i < length (line_of l line ++ p.t ∷ []) = subst (λ xs. i < length xs) now mine.within in
          let last : i ≡ length (line_of l line) = omega arith in
          absurd (ne (sym mine.number ∙ ap (λ xs. slice_index xs i) now ∙ get_or_push (line_of l line) p.t 0 i (sym last)))

      by : (b : Bool) → (other == line) ≡ b → StandsAt l other i u
      by true e =
          let same : other ≡ line = grind arith in
          let now : line_of (with_lined l p (Some line)) line ≡ line_of l line ++ p.t ∷ [] = get_or-set_same l.lines line (line_of l line ++ p.t ∷ []) [] there in
          subst (λ n. StandsAt l n i u) (sym same) (here (subst (λ n. StandsAt (with_lined l p (Some line)) n i u) same at) now (nat_lt i (length (line_of l line))) refl)
      by false e =
          let apart : other ≢ line = grind arith in
          let now : line_of (with_lined l p (Some line)) other ≡ line_of l other = get_or-set_other l.lines line other (line_of l line ++ p.t ∷ []) [] apart in
          record { within = subst (λ xs. i < length xs) now at.within; number = ap (λ xs. slice_index xs i) (sym now) ∙ at.number }

  -- the same of a line or none
  stand_on : (line : Option ℕ) → IfSome line (λ n. n < length l.lines) → (u : ℕ) → u ≢ p.t → (o : Option ℕ) → StandsIn l u o → StandsIn (with_lined l p line) u o
  stand_on line there u ne None nowhere = λ other i at. nowhere other i (stood_there line there other i u ne at)
  stand_on line there u ne (Some other) at = (at.0, stands_on line there other at.0 u at.1)

  -- the arrival stands where it came
  stands_new : AreLined l → lined_packet l p.t ≡ None → (line : Option ℕ) → IfSome line (λ n. n < length l.lines) → StandsIn (with_lined l p line) p.t line
  stands_new laws absent None there = λ other i at. (
      let some : IsSome (lined_packet l p.t) = laws.here other i p.t (record { within = at.within; number = at.number }) in
      let none : is_some (lined_packet l p.t) ≡ false = ap is_some absent in
      absurd cc)
  stands_new laws absent (Some line) there =
      let now : line_of (with_lined l p (Some line)) line ≡ line_of l line ++ p.t ∷ [] = get_or-set_same l.lines line (line_of l line ++ p.t ∷ []) [] there in
      let long = length-append (line_of l line) (p.t ∷ []) in
      let within : length (line_of l line) < length (line_of l line ++ p.t ∷ []) = omega arith in
      (length (line_of l line), record { within = subst (λ xs. length (line_of l line) < length xs) (sym now) within; number = ap (λ xs. slice_index xs (length (line_of l line))) now ∙ get_or_push (line_of l line) p.t 0 (length (line_of l line)) refl })

-- a packet comes and stands where its heading says
pub comes : (s : Pipe) → s.pipe < s.run.settings.pipelines → s.packets.pipes ≡ s.run.settings.pipelines → AreLined s.packets → HasPackets s → (p : PacketHere) (h : Heading) → p.t < length s.packets.packets
    → lined_packet s.packets p.t ≡ None → IsPacket s.run p → round_of s.run p.t ≤ length s.owners.plans → (home_of s.run p.t ≡ s.pipe → IsAway s.door.exit p.t) → IsHeading s.run s.pipe p h
    → HasPackets (record s { packets = with_lined s.packets p (line_for s.pipe h) })
comes s pipe pipes laws has p h lt absent packet known out next t q e = by (t == p.t) refl
  where
    there : IfSome (line_for s.pipe h) (λ n. n < length s.packets.lines)
    there = subst (λ n. IfSome (line_for s.pipe h) (λ l. l < n)) (sym (laws.lines ∙ pipes)) (line_there s.run s.pipe p h pipe next)

    mine : IsHere (record s { packets = with_lined s.packets p (line_for s.pipe h) }) p
    mine = record { packet = packet; known = known; out = out; heading = h; next = next; line = stands_new s.packets p laws absent (line_for s.pipe h) there }

    other : IsHere s q → q.t ≢ p.t → IsHere (record s { packets = with_lined s.packets p (line_for s.pipe h) }) q
    other old ne = record {
      packet = old.packet;
      known = old.known;
      out = old.out;
      heading = old.heading;
      next = old.next;
      line = stand_on s.packets p (line_for s.pipe h) there q.t ne (line_for s.pipe old.heading) old.line;
    }

    by : (b : Bool) → (t == p.t) ≡ b → IsHere (record s { packets = with_lined s.packets p (line_for s.pipe h) }) q
    by true f =
        let same : t ≡ p.t = grind arith in
        let now : Some q ≡ Some p = sym e ∙ ap (λ n. slice_index_or (slice_set s.packets.packets p.t (Some p)) n None) same ∙ get_or-set_same s.packets.packets p.t (Some p) None lt in
        let is : q ≡ p = ap (λ o. unwrap_or o p) now in
        subst (λ (r : PacketHere). IsHere (record s { packets = with_lined s.packets p (line_for s.pipe h) }) r) (sym is) mine
    by false f =
        let ne : t ≢ p.t = grind arith in
        let was : lined_packet s.packets t ≡ Some q = sym (get_or-set_other s.packets.packets p.t t (Some p) None ne) ∙ e in
        let own : q.t ≡ t = subst (λ o. IfSome o (λ (r : PacketHere). r.t ≡ t)) was (laws.own t) in
        other (has t q was) (λ same. ne (sym own ∙ same))

-- ---- a packet that goes

-- one that is here when an arrival's packet went was here, and is another
pub still_here : (l : Lined) (t u : ℕ) (q : PacketHere) → t < length l.packets → slice_index_or (slice_set l.packets t None) u None ≡ Some q → (lined_packet l u ≡ Some q) × (u ≢ t)
still_here l t u q lt e = by (u == t) refl
  where
    by : (b : Bool) → (u == t) ≡ b → (lined_packet l u ≡ Some q) × (u ≢ t)
    by true f =
        let same : u ≡ t = grind arith in
        let none : None ≡ Some q = sym (ap (λ n. slice_index_or (slice_set l.packets t None) n None) same ∙ get_or-set_same l.packets t None None lt) ∙ e in
        absurd cc
    by false f =
        let ne : u ≢ t = grind arith in
        (sym (get_or-set_other l.packets t u None None ne) ∙ e, ne)

module _ (l : Lined) (laws : AreLined l) (line : ℕ) (some : 0 < length (line_of l line)) where
  first_line : line_of (without_first l line) line ≡ drop 1 (line_of l line)
  first_line = get_or-set_same l.lines line (drop 1 (line_of l line)) [] (line_within l line laws some)

  other_line : (other : ℕ) → other ≢ line → line_of (without_first l line) other ≡ line_of l other
  other_line other ne = get_or-set_other l.lines line other (drop 1 (line_of l line)) [] ne

  -- where one stands now it stood, one place further back in the line
  stood_before : (other i u : ℕ) → StandsAt (without_first l line) other i u → (j : ℕ) × StandsAt l other j u
  stood_before other i u at = by (other == line) refl
    where
      by : (b : Bool) → (other == line) ≡ b → (j : ℕ) × StandsAt l other j u
      by true e =
          let same : other ≡ line = grind arith in
          let mine : StandsAt (without_first l line) line i u = subst (λ n. StandsAt (without_first l line) n i u) same at in
          let less : i < length (drop 1 (line_of l line)) = subst (λ xs. i < length xs) first_line mine.within in
          let fewer = length-drop 1 (line_of l line) in
          let within : 1 + i < length (line_of l line) = omega arith in
          subst (λ n. (j : ℕ) × StandsAt l n j u) (sym same)
          (1 + i, record { within = within; number = sym (get_or-drop 1 (line_of l line) i 0) ∙ ap (λ xs. slice_index xs i) (sym first_line) ∙ mine.number })
      by false e =
          let apart : other ≢ line = grind arith in
          (i, record { within = subst (λ xs. i < length xs) (other_line other apart) at.within; number = ap (λ xs. slice_index xs i) (sym (other_line other apart)) ∙ at.number })

  -- one that stood, and wasn't the first, still stands
  stands_after : (other i u : ℕ) → u ≢ first_of l line → StandsAt l other i u → (j : ℕ) × StandsAt (without_first l line) other j u
  stands_after other i u ne at = by (other == line) refl
    where
      by : (b : Bool) → (other == line) ≡ b → (j : ℕ) × StandsAt (without_first l line) other j u
      by true e =
          let same : other ≡ line = grind arith in
          let mine : StandsAt l line i u = subst (λ n. StandsAt l n i u) same at in
          let later : i ≢ 0 = λ zero'. ne (sym mine.number ∙ ap (slice_index (line_of l line)) zero') in
          let fewer = length-drop 1 (line_of l line) in
          let less = mine.within in
          let back : 1 + (i - 1) ≡ i = omega arith in
          let within : i - 1 < length (drop 1 (line_of l line)) = omega arith in
          subst (λ n. (j : ℕ) × StandsAt (without_first l line) n j u) (sym same)
          (i - 1, record { within = subst (λ xs. i - 1 < length xs) (sym first_line) within; number = ap (λ xs. slice_index xs (i - 1)) first_line ∙ get_or-drop 1 (line_of l line) (i - 1) 0 ∙ ap (slice_index (line_of l line)) back ∙ mine.number })
      by false e =
          let apart : other ≢ line = grind arith in
          (i, record { within = subst (λ xs. i < length xs) (sym (other_line other apart)) at.within; number = ap (λ xs. slice_index xs i) (other_line other apart) ∙ at.number })

  stand_after : (u : ℕ) → u ≢ first_of l line → (o : Option ℕ) → StandsIn l u o → StandsIn (without_first l line) u o
  stand_after u ne None nowhere = λ other i at. (let was = stood_before other i u at in nowhere other was.0 was.1)
  stand_after u ne (Some other) at = stands_after other at.0 u ne at.1

  pub first_within : first_of l line < length l.packets
  first_within = some_within l.packets (first_of l line) (first_here l line laws some)

  -- after the first of a line went its packet isn't here
  pub first_absent : lined_packet (without_first l line) (first_of l line) ≡ None
  first_absent = get_or-set_same l.packets (first_of l line) None None first_within

  -- and one fewer of its home is
  pub first_fewer : home_count (without_first l line) (first_of l line % l.pipes) + 1 ≡ home_count l (first_of l line % l.pipes)
  first_fewer =
      let less = home_less l (first_of l line) (slice_set l.lines line (drop 1 (line_of l line))) laws (first_here l line laws some) (first_of l line % l.pipes) in
      let one : tick (first_of l line % l.pipes == first_of l line % l.pipes) ≡ tick true = ap tick (eq-eqb (first_of l line % l.pipes) (first_of l line % l.pipes) refl) in
      omega arith

-- the first packet of a line goes
pub first_goes : (s : Pipe) → AreLined s.packets → HasPackets s → (line : ℕ) → 0 < length (line_of s.packets line) → HasPackets (record s { packets = without_first s.packets line })
first_goes s laws has line some t q e =
    let was = still_here s.packets (first_of s.packets line) t q (first_within s.packets laws line some) e in
    let own : q.t ≡ t = subst (λ o. IfSome o (λ (r : PacketHere). r.t ≡ t)) was.0 (laws.own t) in
    let old = has t q was.0 in
    record {
      packet = old.packet;
      known = old.known;
      out = old.out;
      heading = old.heading;
      next = old.next;
      line = stand_after s.packets laws line some q.t (λ same. was.1 (sym own ∙ same)) (line_for s.pipe old.heading) old.line;
    }

-- nobody moves where a packet goes that stands in no line
stand_still : (l : Lined) (t u : ℕ) (o : Option ℕ) → StandsIn l u o → StandsIn (without_waiting l t) u o
stand_still l t u None nowhere = λ other i at. nowhere other i (record { within = at.within; number = at.number })
stand_still l t u (Some other) at = (at.0, record { within = at.1.within; number = at.1.number })

-- a packet that stands in no line goes
pub waiter_goes : (s : Pipe) → AreLined s.packets → HasPackets s → (t : ℕ) → t < length s.packets.packets → HasPackets (record s { packets = without_waiting s.packets t })
waiter_goes s laws has t lt u q e =
    let was = still_here s.packets t u q lt e in
    let old = has u q was.0 in
    record {
      packet = old.packet;
      known = old.known;
      out = old.out;
      heading = old.heading;
      next = old.next;
      line = stand_still s.packets t q.t (line_for s.pipe old.heading) old.line;
    }

-- after it went its packet isn't here
pub waiter_absent : (l : Lined) (t : ℕ) → t < length l.packets → lined_packet (without_waiting l t) t ≡ None
waiter_absent l t lt = get_or-set_same l.packets t None None lt

-- and one fewer of its home is
pub waiter_fewer : (l : Lined) (t : ℕ) → AreLined l → IsSome (lined_packet l t) → home_count (without_waiting l t) (t % l.pipes) + 1 ≡ home_count l (t % l.pipes)
waiter_fewer l t laws some =
    let less = home_less l t l.lines laws some (t % l.pipes) in
    let one : tick (t % l.pipes == t % l.pipes) ≡ tick true = ap tick (eq-eqb (t % l.pipes) (t % l.pipes) refl) in
    omega arith

-- ---- where a packet stands by its heading

-- one that stands first in a line stands in no other, so its heading leads there
line_is : (l : Lined) → AreLined l → (line : ℕ) → 0 < length (line_of l line) → (o : Option ℕ) → StandsIn l (first_of l line) o → o ≡ Some line
line_is l laws line some None nowhere = absurd (nowhere line 0 (record { within = some; number = refl }))
line_is l laws line some (Some other) at =
    let one = laws.once other at.0 line 0 (first_of l line) at.1 (record { within = some; number = refl }) in
    ap Some one.one_line

pub line_of_first : (s : Pipe) → HasPackets s → AreLined s.packets → (line : ℕ) (p : PacketHere) → lined_packet s.packets (first_of s.packets line) ≡ Some p → 0 < length (line_of s.packets line)
    → (h : Heading) × IsHeading s.run s.pipe p h × (line_for s.pipe h ≡ Some line)
line_of_first s has laws line p e some =
    let here = has (first_of s.packets line) p e in
    let own : p.t ≡ first_of s.packets line = subst (λ o. IfSome o (λ (r : PacketHere). r.t ≡ first_of s.packets line)) e (laws.own (first_of s.packets line)) in
    let stands : StandsIn s.packets (first_of s.packets line) (line_for s.pipe here.heading) = subst (λ t. StandsIn s.packets t (line_for s.pipe here.heading)) own here.line in
    (here.heading, here.next, line_is s.packets laws line some (line_for s.pipe here.heading) stands)
