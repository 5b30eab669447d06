use Rattle.std.proofs.Common.{◌≡◌, ◌≤◌, ◌*◌}
use Rattle.std.specs.List.{flat_map, range_with_len}
use Rattle.load_maker.specs.Made.{before, fields}
use Rattle.load_maker.proofs.MadeLaws.{reached}
use Rattle.load_maker.proofs.making.words_of.Given as goal

abbrev pub invariant-loop-t : goal.invariant-loop-t
invariant-loop-t l = record {
  generator : l.generator ≡ before l.seed l.t;
  comes : l.arrival ≡ reached l.seed l.t;
  early : l.arrival ≤ 15 * l.t;
  words : l.words.items ≡ flat_map (fields l.seed l.sources) (range_with_len 0 l.t);
}
