use Rattle.std.proofs.Common.{◌∙◌, sym, ap, subst}
use Rattle.pipe_worker.specs.declared.pipe.Pipe.TheInside.{Inside}
use Rattle.pipe_worker.specs.Pipe.{Pipe}
use Rattle.pipe_worker.specs.Laws.{IsPipe}
use Rattle.pipe_worker.proofs.ServeLemmas.{ready_early, given_now}
use Rattle.pipe_worker.proofs.pipe.Pipe.ready_at.Goals as goal

-- what the fields are seen as
abbrev seen : Inside → Pipe
seen x = record { run = x.run; pipe = x.pipe; owners = x.owners; door = x.door; packets = x.packets; row = x.row; outbox = x.outbox }

pub get-requires : goal.get-requires
get-requires c =
    let e = ap seen c.self-inside.view_is in
    ready_early _ c.args.self.now c.args.g c.get-station.result.now c.in_ok-place.place (e ∙ c.self.view_is) (subst IsPipe (sym e) c.self.invariant.0) c.get-station.ensures.laws c.requires c.get-station.ensures.station
    c.round-present.ensures.laws c.in_ok-place.ensures.some

pub returns-in-Some-clause-given : goal.returns-in-Some-clause-given
returns-in-Some-clause-given c =
    given_now _ c.args.self.now c.args.g c.get-station.result.now c.in_ok-place.place (ap seen c.self-inside.view_is ∙ c.self.view_is) c.get-station.ensures.station c.round-present.ensures.laws c.in_ok-place.ensures.some
