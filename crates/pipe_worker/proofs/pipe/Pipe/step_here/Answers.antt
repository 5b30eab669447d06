use Rattle.std.proofs.Common.{◌≡◌, length, ap, sym, ◌∙◌, arith}
use Rattle.std.proofs.lemmas.List.{with_items_is}
use Rattle.pipe_worker.proofs.StepLemmas.{packet_here, away_here, env_here, home_left, home_done, skip_here, known_here, room_here, skip_left, skip_done}
use Rattle.pipe_worker.proofs.pipe.Pipe.step_here.Goals as goal

pub prove-unreachable-requires : goal.prove-unreachable-requires
prove-unreachable-requires c =
    let away = away_here _ _ c.self.view_is c.self.invariant.0 c.requires.lines c.requires.some c.take_first-packet.result c.take_first-packet.ensures.packet (c.if-packet-groups.true ∙ c.groups.ensures) in
    let is = c.is_away.ensures.away.1 away in
    let not = c.if-prove.true in
    absurd cc

pub finish-requires-clause-packet : goal.finish-requires-clause-packet
finish-requires-clause-packet c = packet_here _ _ c.self.view_is c.self.invariant.0 c.requires.lines c.requires.some c.take_first-packet.result c.take_first-packet.ensures.packet

pub home-requires-clause-env : goal.home-requires-clause-env
home-requires-clause-env c =
    env_here _ _ c.self.view_is c.self.invariant.0 c.requires.lines c.requires.some c.take_first-packet.result c.take_first-packet.ensures.packet (c.if-packet-groups.true ∙ c.groups.ensures)

pub skip-requires-clause-packet : goal.skip-requires-clause-packet
skip-requires-clause-packet c = packet_here _ _ c.self.view_is c.self.invariant.0 c.requires.lines c.requires.some c.take_first-packet.result c.take_first-packet.ensures.packet

pub skip-requires-clause-group : goal.skip-requires-clause-group
skip-requires-clause-group c =
    skip_here _ _ c.self.view_is c.self.invariant.0 c.requires.lines c.requires.some c.take_first-packet.result c.take_first-packet.ensures.packet (λ past. c.if-packet-groups.false (past ∙ sym c.groups.ensures))

pub stand-requires-clause-known : goal.stand-requires-clause-known
stand-requires-clause-known c =
    known_here _ _ c.self.view_is c.self.invariant.0 c.requires.lines c.requires.some c.take_first-packet.result c.take_first-packet.ensures.packet (λ past. c.if-packet-groups.false (past ∙ sym c.groups.ensures))
    c.skip.new.packet _ c.skip.ensures.arrival c.take_first-packet.ensures.gone

pub stand-requires-clause-room : goal.stand-requires-clause-room
stand-requires-clause-room c =
    room_here _ _ c.self.view_is c.self.invariant.0 c.requires.lines c.requires.some c.take_first-packet.result c.take_first-packet.ensures.packet (λ past. c.if-packet-groups.false (past ∙ sym c.groups.ensures))
    c.skip.new.packet _ c.skip.ensures.arrival c.take_first-packet.ensures.gone

pub invariant_of-self : goal.invariant_of-self
invariant_of-self c =
    let long : length c.finish.new.fields ≡ c.self.inside.fields.len = omega (arith, c.deref_mut.ensures.len) in
    let same = with_items_is c.self.inside.fields c.finish.new.fields long in
    let shown = c.deref.ensures.value ∙ same in
    let all : length c.finish.new.fields ≡ c.self.inside.run.code.fields = (let items = c.self.invariant.2 in omega (arith, long, items, c.self.inside.fields.ok.0)) in
    let words : length c.deref.result.now ≡ c.self.inside.door.exit.fields = ap length shown ∙ all ∙ sym c.self.invariant.0.whole.door.fields in (
      home_left _ _ c.self.view_is c.self.invariant.0 c.requires.lines c.requires.some c.take_first-packet.result c.take_first-packet.ensures.packet (c.if-packet-groups.true ∙ c.groups.ensures)
          _ _ _ c.take_first-packet.ensures.gone (shown ∙ c.finish.ensures) c.home.ensures.exit c.home.ensures.free c.home.ensures.entries words c.is_away.ensures.laws,
      c.self.invariant.1,
      ap length same ∙ all,
    )

pub invariant_of-self-else-packet-groups : goal.invariant_of-self-else-packet-groups
invariant_of-self-else-packet-groups c = (
  skip_left _ _ c.self.view_is c.self.invariant.0 c.requires.lines c.requires.some c.take_first-packet.result c.take_first-packet.ensures.packet (λ past. c.if-packet-groups.false (past ∙ sym c.groups.ensures))
      c.skip.new.packet _ c.skip.ensures.arrival c.take_first-packet.ensures.gone _ c.stand.ensures c.skip.ensures.packet,
  c.self.invariant.1,
  c.self.invariant.2,
)

pub returns-then-packet-groups : goal.returns-then-packet-groups
returns-then-packet-groups c =
    let long : length c.finish.new.fields ≡ c.self.inside.fields.len = omega (arith, c.deref_mut.ensures.len) in
    let same = with_items_is c.self.inside.fields c.finish.new.fields long in
    home_done _ _ c.self.view_is c.self.invariant.0 c.requires.lines c.requires.some c.take_first-packet.result c.take_first-packet.ensures.packet (c.if-packet-groups.true ∙ c.groups.ensures)
    _ _ _ c.take_first-packet.ensures.gone (c.deref.ensures.value ∙ same ∙ c.finish.ensures) c.home.ensures.exit c.home.ensures.free c.home.ensures.entries

pub returns-else-packet-groups : goal.returns-else-packet-groups
returns-else-packet-groups c =
    skip_done _ _ c.self.view_is c.self.invariant.0 c.requires.lines c.requires.some c.take_first-packet.result c.take_first-packet.ensures.packet (λ past. c.if-packet-groups.false (past ∙ sym c.groups.ensures))
    c.skip.new.packet _ c.skip.ensures.arrival c.take_first-packet.ensures.gone _ c.stand.ensures c.skip.ensures.group c.skip.ensures.units
