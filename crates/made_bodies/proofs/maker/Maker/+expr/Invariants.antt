use Rattle.made_bodies.proofs.maker.Maker.+expr.Given as goal

abbrev pub decreases-expr : goal.decreases-expr
decreases-expr l = l.depth
