-- A place that is served: its packet stands in no line, since its heading is to be served here, and afterwards it stands where
-- its new heading says.
use Rattle.std.proofs.Common.{◌≡◌, ℕ, ◌+◌, ◌%◌, ◌<◌, ◌≤◌, length, length-set, Some, None, IsSome, IfSome, is_some, unwrap_or, refl, sym, ap, subst, ◌∙◌, arith}
use Rattle.place_queue.specs.declared.place.Place.{Place}
use Rattle.pipe_parts.specs.declared.packet.Packet.{Packet as PacketHere}
use Rattle.egress_order.specs.OwnPackets.{IsAway}
use Rattle.run_laws.specs.Run.{Run, arrivals, round_of, home_of}
use Rattle.group_station.specs.Station.{Station, Site, site, Given, IsGiven, IsStation}
use Rattle.group_station.specs.Steps.{IsReady, after_serving}
use Rattle.group_station.proofs.ServeLemmas.{given_there}
use Rattle.packet_lines.specs.Lined.{Lined, lined_packet, home_count, without_waiting, StandsNowhere, AreLined}
use Rattle.packet_lines.proofs.Leaving.{some_within, waiting_lawful}
use Rattle.packet_steps.specs.declared.heading.Heading.TheVariants.{Serve}
use Rattle.packet_steps.specs.Packet.{IsPacket}
use Rattle.packet_steps.specs.Heading.{IsForPipe}
use Rattle.pipe_stations.specs.Row.{Row, IsRow, station_at, with_station}
use Rattle.pipe_worker.specs.Pipe.{Pipe, station, line_for, StandsIn, IsStanding}
use Rattle.pipe_worker.specs.Laws.{IsHere, HasPackets, IsPipe}
use Rattle.pipe_worker.specs.Events.{CanServe, HasPassed, IsOneEvent, serve}
use Rattle.pipe_worker.proofs.PacketLemmas.{one_heading, comes, waiter_goes, waiter_absent, waiter_fewer}
use Rattle.pipe_worker.proofs.RowLemmas.{row_owners, group_here, run_here, Changes, changed}

-- ---- a place that is ready

-- the place that a station is ready for is given there
pub ready_given : (s : Station) (place : Place) → IsStation s → IsReady s place → Given s place.t place.unit
ready_given s place ok ready = given_there s ok.front place ok.of_run ok.is_front ok.laws ready

-- so at the station that was read its arrival is one of the run
pub ready_early : (s now : Pipe) (g : ℕ) (q : Station) (place : Place) → s ≡ now → IsPipe s → IsRow s.row → g < length now.row.stations → q ≡ station_at s.row g → IsStation q → IsReady q place
    → place.t < length s.packets.packets
ready_early s now g q place e ok row there at laws ready =
    let here : g < length s.row.stations = subst (λ (x : Pipe). g < length x.row.stations) (sym e) there in
    let early : place.t < arrivals q.run = (ready_given q place laws ready).there in
    let same : arrivals q.run ≡ arrivals s.run = ap (λ (x : Station). arrivals x.run) at ∙ ap arrivals (run_here s g ok.whole row here) in
    let long = ok.whole.packets in
    omega (arith, early, same, long)

pub given_now : (s now : Pipe) (g : ℕ) (q : Station) (place : Place) → s ≡ now → q ≡ station_at s.row g → IsStation q → IsReady q place → Given (station now g) place.t place.unit
given_now s now g q place e at laws ready =
    subst (λ (x : Station). Given x place.t place.unit) (at ∙ ap (λ (x : Pipe). station x g) e) (ready_given q place laws ready)

-- ---- its packet

module _ (s : Pipe) (ok : IsPipe s) (row : IsRow s.row) (lined : AreLined s.packets) (g : ℕ) (place : Place) (p : PacketHere) (can : CanServe s g place p) (given : Given (station s g) place.t place.unit) where
  there : g < length s.row.stations
  there = group_here s g ok.whole row can.there

  -- the packet keeps its law
  here : IsHere s p
  here = ok.packets place.t p can.here

  own : p.t ≡ place.t
  own = subst (λ o. IfSome o (λ (q : PacketHere). q.t ≡ place.t)) can.here (lined.own place.t)

  some : IsSome (lined_packet s.packets place.t)
  some = ap is_some can.here

  within : place.t < length s.packets.packets
  within = some_within s.packets.packets place.t some

  -- its place is given at this pipe
  given_here : IsGiven (record { run = s.run; pipe = s.pipe; group = g }) place.t place.unit
  given_here =
      let at : site (station s g) ≡ record { run = s.run; pipe = s.pipe; group = g } = row.sites g there ∙ (λ i. record { run = ok.whole.run i; pipe = ok.whole.number i; group = g }) in
      subst (λ (a : Site). IsGiven a place.t place.unit) at given

  serves : IsForPipe s.run p s.pipe
  serves =
      let at : IsForPipe s.run (record p { t = place.t; g = g }) s.pipe = record { group = can.there; unit = place.unit; place = given_here.place; owned = given_here.owned } in
      let is : p ≡ record p { t = place.t; g = g } = λ i. record p { t = own i; g = can.group i } in
      subst (λ (q : PacketHere). IsForPipe s.run q s.pipe) (sym is) at

  -- so it stands in no line
  nowhere : StandsNowhere s.packets place.t
  nowhere =
      let is : here.heading ≡ Serve = one_heading s.run s.pipe p here.heading Serve here.next serves in
      subst (λ t. StandsNowhere s.packets t) own (subst (λ h. StandsIn s.packets p.t (line_for s.pipe h)) is here.line)

  -- ---- after it was served

  abbrev rest : Lined
  rest = without_waiting s.packets place.t

  room_left : home_count rest (place.t % s.packets.pipes) < s.packets.window
  room_left =
      let fewer = waiter_fewer s.packets place.t lined some in
      let few = lined.few (place.t % s.packets.pipes) (let some' = lined.some in omega arith) in
      omega (arith, fewer, few)

  module _ (q : PacketHere) (passed : HasPassed p q) (law : IsPacket s.run q) (packets : Lined) (stands : IsStanding s.run s.pipe rest packets q) where
    at : q.t ≡ place.t
    at = passed.arrival ∙ own

    early : q.t < length rest.packets
    early = let long = length-set s.packets.packets place.t None in omega (arith, at, within, long)

    absent : lined_packet rest q.t ≡ None
    absent = subst (λ t. lined_packet rest t ≡ None) (sym at) (waiter_absent s.packets place.t within)

    known : round_of s.run q.t ≤ length s.owners.plans
    known = subst (λ t. round_of s.run t ≤ length s.owners.plans) (sym passed.arrival) here.known

    out : home_of s.run q.t ≡ s.pipe → IsAway s.door.exit q.t
    out = subst (λ t. home_of s.run t ≡ s.pipe → IsAway s.door.exit t) (sym passed.arrival) here.out

    stand_there : HasPackets (record s { packets = packets })
    stand_there =
        subst (λ (l : Lined). HasPackets (record s { packets = l })) (sym stands.packets)
        (comes (record s { packets = rest }) ok.whole.pipe ok.whole.pipes (waiting_lawful s.packets place.t lined some nowhere) (waiter_goes s lined ok.packets place.t within) q stands.heading early absent law known out stands.next)

    count : length packets.packets ≡ length s.packets.packets
    count =
        let first = length-set s.packets.packets place.t None in
        let then' = length-set rest.packets q.t (Some q) in
        ap (λ (l : Lined). length l.packets) stands.packets ∙ omega (arith, first, then')

    served_changes : Changes s packets (with_station s.row g (after_serving (station s g) place)) s.outbox
    served_changes = record {
      run = refl;
      number = refl;
      owners = row_owners s.row s.owners g (after_serving (station s g) place) (ok.whole.owners.known g there) ok.whole.owners;
      pipes = ap (λ (l : Lined). l.pipes) stands.packets;
      window = ap (λ (l : Lined). l.window) stands.packets;
      count = count;
      here = stand_there;
      boxes = refl;
      room = refl;
      messages = ok.messages;
    }

    served_laws : IsPipe (record s { packets = packets; row = with_station s.row g (after_serving (station s g) place) })
    served_laws = changed s packets (with_station s.row g (after_serving (station s g) place)) s.outbox served_changes ok

    served_event : IsOneEvent s (record s { packets = packets; row = with_station s.row g (after_serving (station s g) place) })
    served_event = serve g place p q (line_for s.pipe stands.heading) (record {
      ready = can;
      passed = passed;
      pipe = λ i. record s { packets = stands.packets i; row = with_station s.row g (after_serving (station s g) place) };
    })

-- ---- from what the fields hold

-- what was served, and that it is one event
pub record Serves (s now : Pipe) (packets : Lined) (r : Row) : Type 0 where
  pub laws : IsPipe (record s { packets = packets; row = r })
  pub event : IsOneEvent now (record s { packets = packets; row = r })

module _ (s now : Pipe) (e : s ≡ now) (ok : IsPipe s) (g : ℕ) (place : Place) (ready : (p : PacketHere) × CanServe now g place p) (given : Given (station now g) place.t place.unit)
    (lined : AreLined now.packets) (row : IsRow now.row) where
  can_s : CanServe s g place ready.0
  can_s = subst (λ (x : Pipe). CanServe x g place ready.0) (sym e) ready.1

  given_s : Given (station s g) place.t place.unit
  given_s = subst (λ (x : Pipe). Given (station x g) place.t place.unit) (sym e) given

  lined_s : AreLined s.packets
  lined_s = subst (λ (x : Pipe). AreLined x.packets) (sym e) lined

  row_s : IsRow s.row
  row_s = subst (λ (x : Pipe). IsRow x.row) (sym e) row

  pub waits_nowhere : StandsNowhere s.packets place.t
  waits_nowhere = nowhere s ok row_s lined_s g place ready.0 can_s given_s

  module _ (p : PacketHere) (taken : lined_packet s.packets place.t ≡ Some p) where
    -- the packet that was taken is the one that was found
    can_p : CanServe s g place p
    can_p =
        let is : ready.0 ≡ p = ap (λ o. unwrap_or o p) (sym can_s.here ∙ taken) in
        subst (λ (q : PacketHere). CanServe s g place q) is can_s

    pub taken_packet : IsPacket s.row.run p
    taken_packet = subst (λ (run : Run). IsPacket run p) (sym ok.whole.run) (here s ok row_s lined_s g place p can_p given_s).packet

    module _ (q : PacketHere) (rest' : Lined) (gone : rest' ≡ without_waiting s.packets place.t) (group : q.g ≡ g + 1) (arrival : q.t ≡ p.t) where
      pub room_there : home_count rest' (q.t % rest'.pipes) < rest'.window
      room_there =
          let at : q.t ≡ place.t = arrival ∙ own s ok row_s lined_s g place p can_p given_s in
          subst (λ (l : Lined). home_count l (q.t % l.pipes) < l.window) (sym gone)
          (subst (λ t. home_count (without_waiting s.packets place.t) (t % s.packets.pipes) < s.packets.window) (sym at) (room_left s ok row_s lined_s g place p can_p given_s))

      pub serves_it : (packets : Lined) (r : Row) → q.units ≡ p.units → IsPacket s.row.run q → IsStanding s.run s.pipe rest' packets q → r ≡ with_station s.row g (after_serving (station s g) place) → Serves s now packets r
      serves_it packets r units law stands is =
          let passed : HasPassed p q = record { arrival = arrival; group = group ∙ ap (λ n. n + 1) (sym can_p.group); units = units } in
          let known : IsPacket s.run q = subst (λ (run : Run). IsPacket run q) ok.whole.run law in
          let standing : IsStanding s.run s.pipe (without_waiting s.packets place.t) packets q = subst (λ (l : Lined). IsStanding s.run s.pipe l packets q) gone stands in
          subst (λ (x : Row). Serves s now packets x) (sym is) record {
            laws = served_laws s ok row_s lined_s g place p can_p given_s q passed known packets standing;
            event = subst (λ (x : Pipe). IsOneEvent x (record s { packets = packets; row = with_station s.row g (after_serving (station s g) place) })) e
                (served_event s ok row_s lined_s g place p can_p given_s q passed known packets standing);
          }
