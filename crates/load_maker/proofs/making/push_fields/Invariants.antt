use Rattle.std.proofs.Common.{◌≡◌, ◌++◌, pos, map, take}
use Rattle.load_maker.specs.Made.{value}
use Rattle.load_maker.proofs.making.push_fields.Given as goal

abbrev pub invariant-loop-source : goal.invariant-loop-source
invariant-loop-source l = l.words.items ≡ l.fn.words.items ++ map (λ s. pos (value l.packet s)) (take l.source-index l.sources)
