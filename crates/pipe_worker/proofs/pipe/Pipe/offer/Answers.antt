use Rattle.pipe_worker.proofs.OfferLemmas.{home_known}
use Rattle.pipe_worker.proofs.pipe.Pipe.offer.Goals as goal

pub take_in-requires-else-is_crowded-clause-known : goal.take_in-requires-else-is_crowded-clause-known
take_in-requires-else-is_crowded-clause-known c =
    home_known _ c.args.self.now c.args.from c.in-Home.t c.args.message c.in-Home.env c.in-Home.by c.in-Home.touched c.self.view_is c.self.invariant.0 c.in-Home.is c.requires.law
    (λ crowd. (let yes' = c.is_crowded-in-Home.ensures.1 crowd in let no = c.if-is_crowded.false in absurd (cc)))
