use Rattle.std.proofs.Common.{◌≡◌, ℕ, ◌<◌, ◌+◌, ◌%◌, true, ap, subst, ◌∙◌, arith}
use Rattle.mp5_words.specs.Cells.{word_at}
use Rattle.code_forms.specs.FlatMeaning.{flat_length}
use Rattle.code_forms.specs.Staged.{Staged, group_at, share, cells_before, IsGroup}
use Rattle.run_laws.specs.Run.{Run, arrivals, units_before}
use Rattle.run_answer.specs.Cells.{has_array}
use Rattle.run_answer.proofs.CellsLemmas.{IsSpot, spot_is, word_is, words_more}
use Rattle.run_answer.proofs.cells.push_placed.Goals as goal

-- what is known of the code that is read is known of the run's
read_laws : (run : Run) (c : Staged) (g : ℕ) → c ≡ run.code → IsGroup c g → IsGroup run.code g
read_laws run c g e = subst (λ (k : Staged). IsGroup k g) e

read_spot : (run : Run) (c : Staged) (g a i part n : ℕ) → c ≡ run.code → IsGroup c g → part ≡ share c (group_at c g) a → has_array (group_at run.code g) a ≡ true → n ≡ flat_length run.code.arrays a → i < n
    → IsSpot run.code (group_at run.code g) i part
read_spot run c g a i part n e laws is has long lt =
    spot_is run.code g a i part (read_laws run c g e laws) has (is ∙ ap (λ (k : Staged). share k (group_at k g) a) e) (omega (arith, long, lt))

pub owner-worker-requires-clause-unit : goal.owner-worker-requires-clause-unit
owner-worker-requires-clause-unit c =
    (read_spot c.args.run.now c.run.inside.code.now c.args.g c.args.a c.loop-i.i c.share_of-share.result c.array_length-i-end.result (ap (λ (r : Run). r.code) c.run.view_is) c.share_of-share.ensures.laws c.share_of-share.ensures.share
    c.requires.has c.array_length-i-end.ensures c.loop-i-test.true).within

pub unit_of-unit-requires-clause-unit : goal.unit_of-unit-requires-clause-unit
unit_of-unit-requires-clause-unit c =
    (read_spot c.args.run.now c.run.inside.code.now c.args.g c.args.a c.loop-i.i c.share_of-share.result c.array_length-i-end.result (ap (λ (r : Run). r.code) c.run.view_is) c.share_of-share.ensures.laws c.share_of-share.ensures.share
    c.requires.has c.array_length-i-end.ensures c.loop-i-test.true).within

pub loop-i-preserved : goal.loop-i-preserved
loop-i-preserved c =
    let code : c.run.inside.code.now ≡ c.args.run.now.code = ap (λ (r : Run). r.code) c.run.view_is in
    let spot =
    read_spot c.args.run.now c.run.inside.code.now c.args.g c.args.a c.loop-i.i c.share_of-share.result c.array_length-i-end.result code c.share_of-share.ensures.laws c.share_of-share.ensures.share c.requires.has
    c.array_length-i-end.ensures c.loop-i-test.true in
    let before : c.offset_of-offset.result ≡ cells_before (share c.args.run.now.code (group_at c.args.run.now.code c.args.g)) (group_at c.args.run.now.code c.args.g).arrays c.args.a =
    c.offset_of-offset.ensures.offset ∙ ap (λ (k : Staged). cells_before (share k (group_at k c.args.g)) (group_at k c.args.g).arrays c.args.a) code in
    let word =
    word_is c.args.run.now.code (units_before c.args.run.now (arrivals c.args.run.now)) c.args.g c.args.a c.loop-i.i c.share_of-share.result c.offset_of-offset.result c.as_slice.result.now
    (read_laws c.args.run.now c.run.inside.code.now c.args.g code c.share_of-share.ensures.laws) c.requires.has spot before (c.as_slice.ensures ∙ c.unit_of-unit.ensures) in
    record {
      items =
          words_more c.args.run.now.code (units_before c.args.run.now (arrivals c.args.run.now)) c.args.a c.loop-i.i (word_at c.as_slice.result.now (c.offset_of-offset.result + c.loop-i.i % c.share_of-share.result))
          c.args.cells.now.items c.loop-i.cells.items c.push_word.new.cells.items c.loop-i.invariant.items word c.push_word.ensures.items;
      len = omega (arith, c.push_word.ensures.len, c.loop-i.invariant.len);
      capacity = c.push_word.ensures.capacity ∙ c.loop-i.invariant.capacity;
    }
