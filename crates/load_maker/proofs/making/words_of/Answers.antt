use Rattle.std.proofs.Common.{◌≡◌, ◌+◌, ◌++◌, ◌==◌, ◌%◌, ℕ, map, pos, sym, ap, ap₂, ◌∙◌, arith, if◌then◌else◌}
use Rattle.std.specs.List.{flat_map, range_with_len}
use Rattle.capture_io.specs.declared.source.Source.{Source}
use Rattle.load_maker.specs.declared.packet.Draw.{Draw}
use Rattle.load_maker.specs.declared.packet.Packet.{Packet}
use Rattle.load_maker.specs.Made.{arrival, draw, drawn, fields, packet, packet_of, value}
use Rattle.load_maker.proofs.MadeLaws.{before_next, reached_next, reached-arrival, flat_map_more}
use Rattle.load_maker.proofs.making.words_of.Goals as goal

pub loop-t-preserved : goal.loop-t-preserved
loop-t-preserved c =
    let seed = c.args.seed in
    let sources = c.args.sources.now in
    let t = c.loop-t.t in
    let words : c.next_words-drawn.result ≡ drawn seed t = c.next_words-drawn.ensures.words ∙ ap draw c.loop-t.invariant.generator in
    let waits : c.wait-arrival.result ≡ (if t == 0 then 0 else (drawn seed t).wait % 16) = c.wait-arrival.ensures.value ∙ ap (λ (d : Draw). if t == 0 then 0 else d.wait % 16) words in
    let comes : c.loop-t.arrival + c.wait-arrival.result ≡ arrival seed t = ap₂ ◌+◌ c.loop-t.invariant.comes waits ∙ reached_next seed t in
    let made : c.of.result ≡ packet seed t = c.of.ensures ∙ ap₂ packet_of words comes in
    let row = ap (λ (p : Packet). map (λ (s : Source). pos (value p s)) sources) made in
    record {
      generator = c.next_words-drawn.ensures.moved ∙ rw c.loop-t.invariant.generator (before_next seed t);
      comes = comes ∙ sym (reached-arrival seed t);
      early = omega (arith, c.loop-t.invariant.early, c.wait-arrival.ensures.limit);
      words = c.in_ok-push_fields.ensures ∙ (ap₂ ◌++◌ c.loop-t.invariant.words row ∙ sym (flat_map_more (fields seed sources) t));
    }

pub returns : goal.returns
returns c =
    let all : c.loop-t.t ≡ c.args.n = omega arith in
    c.loop-t.invariant.words ∙ ap (λ (k : ℕ). flat_map (fields c.args.seed c.args.sources.now) (range_with_len 0 k)) all
