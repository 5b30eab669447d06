use Rattle.std.proofs.Common.{[], drop}
use Rattle.std.specs.List.{flat_map}
use Rattle.switch_runner.specs.Writing.{at}
use Rattle.switch_runner.proofs.WritingLemmas.{Goes}
use Rattle.switch_runner.proofs.line.write_pieces.Given as goal

-- the pieces before this one are written
abbrev pub invariant-loop-piece : goal.invariant-loop-piece
invariant-loop-piece g l =
    Goes (flat_map (λ piece. piece.now) l.pieces) (flat_map (λ piece. piece.now) (drop l.piece-index l.pieces))
    (at [] (g.K.Sink.seen l.initial.err))
    (at [] (g.K.Sink.seen l.err))
