use Rattle.std.proofs.Common.{sym, ◌∙◌}
use Rattle.pipe_worker.proofs.OfferLemmas.{places_told, heard_lawful, heard_open}
use Rattle.pipe_worker.proofs.pipe.Pipe.hear.Goals as goal

pub announce-requires-clause-units : goal.announce-requires-clause-units
announce-requires-clause-units c = places_told _ _ c.self.view_is c.self.invariant.0 c.args.from c.args.t c.args.units.now c.requires.law

pub invariant_of-self : goal.invariant_of-self
invariant_of-self c = (heard_lawful c.announce.result _ c.announce.new.self c.args.from c.args.t c.self.invariant.0 c.announce.ensures.ok c.announce.ensures.kept, c.self.invariant.1, c.self.invariant.2)

pub returns-then-is_planned-clause-room : goal.returns-then-is_planned-clause-room
returns-then-is_planned-clause-room c yes' =
    heard_open c.announce.result _ c.args.self.now c.args.from c.args.t c.self.view_is (sym c.is_ok.ensures.value ∙ yes') c.announce.ensures.room (c.is_planned.ensures.0 c.if-is_planned.true)
