use Rattle.std.proofs.Common.{◌∙◌, sym, ap}
use Rattle.group_station.specs.Station.{Station}
use Rattle.pipe_worker.proofs.LeaveLemmas.{leaves_here, leaves_to, leaves_still, leaves_alone, leaves_with}
use Rattle.pipe_worker.proofs.pipe.Pipe.leave.Goals as goal

pub leave-requires-clause-group : goal.leave-requires-clause-group
leave-requires-clause-group c = leaves_here _ c.args.self.now c.self.view_is c.self.invariant.0 c.requires.row c.args.g c.requires.can

pub get-requires : goal.get-requires
get-requires c = leaves_still _ c.args.self.now c.self.view_is c.self.invariant.0 c.requires.row c.args.g c.requires.can c.leave.new.self c.leave.ensures.station

pub push-requires-clause-pipe : goal.push-requires-clause-pipe
push-requires-clause-pipe c =
    leaves_to _ c.args.self.now c.self.view_is c.self.invariant.0 c.requires.row c.args.g c.requires.can c.in-Some.to c.in-Some.unit c.in-Some.ensures.gone

pub invariant_of-self : goal.invariant_of-self
invariant_of-self c =
    let leaves = leaves_with _ c.args.self.now c.self.view_is c.self.invariant.0 c.requires.row c.args.g c.requires.can c.leave.new.self c.push.new.self c.round-from.result c.in-Some.to c.in-Some.unit
    c.leave.ensures.station c.in-Some.ensures.gone (c.round-from.ensures.round ∙ ap (λ (s : Station). s.round) c.get.ensures.station) c.push.ensures in
    (leaves.laws, c.self.invariant.1, c.self.invariant.2)

pub returns-in-Some : goal.returns-in-Some
returns-in-Some c =
    (leaves_with _ c.args.self.now c.self.view_is c.self.invariant.0 c.requires.row c.args.g c.requires.can c.leave.new.self c.push.new.self c.round-from.result c.in-Some.to c.in-Some.unit
    c.leave.ensures.station c.in-Some.ensures.gone (c.round-from.ensures.round ∙ ap (λ (s : Station). s.round) c.get.ensures.station) c.push.ensures).event

pub invariant_of-self-in_default : goal.invariant_of-self-in_default
invariant_of-self-in_default c =
    let leaves = leaves_alone _ c.args.self.now c.self.view_is c.self.invariant.0 c.requires.row c.args.g c.requires.can c.leave.new.self c.leave.ensures.station (sym c.leave.ensures.gone ∙ c.in_default.is) in
    (leaves.laws, c.self.invariant.1, c.self.invariant.2)

pub returns-in_default : goal.returns-in_default
returns-in_default c =
    (leaves_alone _ c.args.self.now c.self.view_is c.self.invariant.0 c.requires.row c.args.g c.requires.can c.leave.new.self c.leave.ensures.station (sym c.leave.ensures.gone ∙ c.in_default.is)).event
