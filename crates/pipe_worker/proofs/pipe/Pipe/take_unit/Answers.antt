use Rattle.pipe_worker.proofs.OfferLemmas.{group_there, unit_fits, taken_lawful}
use Rattle.pipe_worker.proofs.pipe.Pipe.take_unit.Goals as goal

pub take-requires-clause-group : goal.take-requires-clause-group
take-requires-clause-group c = group_there _ _ c.args.unit.group c.self.view_is c.self.invariant.0 c.len.ensures.laws c.requires.there

pub take-requires-clause-fits : goal.take-requires-clause-fits
take-requires-clause-fits c =
    let there = group_there _ _ c.args.unit.group c.self.view_is c.self.invariant.0 c.len.ensures.laws c.requires.there in
    unit_fits _ _ c.args.from c.args.unit c.self.view_is c.self.invariant.0 c.len.ensures.laws there c.requires

pub invariant_of-self : goal.invariant_of-self
invariant_of-self c = (taken_lawful c.take.result _ c.take.new.self c.args.unit c.self.invariant.0 c.take.ensures.ok c.take.ensures.kept, c.self.invariant.1, c.self.invariant.2)
