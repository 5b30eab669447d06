use Rattle.std.proofs.Common.{◌≡◌, ◌≢◌, false, ◌≤◌, ◌+◌, ◌∙◌, length, sym, ap, subst, arith}
use Rattle.std.specs.Ordering.{int_eq}
use Rattle.mp5_words.specs.Cells.{word_at}
use Rattle.report_text.specs.declared.cells.CellPlace.{CellPlace}
use Rattle.report_text.specs.Told.{IsAtCell, cells_told}
use Rattle.report_text.proofs.CellLemmas.{at-start, next-array, next-cell, next-line, line-here, all-passed, is-false, is-true}
use Rattle.report_text.proofs.cells.CellPlace.put_line.Goals as goal
use Rattle.report_text.proofs.cells.CellPlace.put_line.Goals.{then-k-self, else-k-self, then-differs+else-k-self-2, else-differs}

pub loop-self-init : goal.loop-self-init
loop-self-init c = elim c.if-k-self.branch [
  | then-k-self w ↦ (
      let start : c.if-k-self.self ≡ record { array = 0; cell = 0; at = 0; before = 0 } = w.self-is ∙ w.start.ensures in
      record {
        place = subst (λ (s : CellPlace). IsAtCell c.args.infos.now c.args.words.now s.array s.cell s.at s.before) (sym start) (at-start c.args.infos.now c.args.words.now c.requires.cells);
        before = let none : c.if-k-self.self.before ≡ 0 = ap (λ (s : CellPlace). s.before) start in omega (arith, none);
        empty = c.requires.empty;
        room = omega arith;
      })
  | else-k-self w ↦ record {
    place = subst (λ (s : CellPlace). IsAtCell c.args.infos.now c.args.words.now s.array s.cell s.at s.before) (sym w.self-is) c.requires.place;
    before = let same : c.if-k-self.self.before ≡ c.args.self.now.before = ap (λ (s : CellPlace). s.before) w.self-is in let le : c.args.self.now.before ≤ c.args.k = w.if-k-self.false in omega (arith, same, le);
    empty = c.requires.empty;
    room = omega arith;
  }
]

pub loop-self-preserved-then-self-info : goal.loop-self-preserved-then-self-info
loop-self-preserved-then-self-info c = record {
  place = next-array c.args.infos.now c.args.words.now c.loop-self.self.array c.loop-self.self.cell c.loop-self.self.at c.loop-self.self.before c.index-infos-self.result c.loop-self.invariant.place c.loop-self-test.true c.index-infos-self.is c.if-self-info.true;
  before = c.loop-self.invariant.before;
  empty = c.loop-self.invariant.empty;
  room = c.loop-self.invariant.room;
}

pub returns-then-k-self-2-clause-line : goal.returns-then-k-self-2-clause-line
returns-then-k-self-2-clause-line c =
    let told : int_eq (word_at c.args.words.now c.loop-self.self.at) c.index-infos-self.result.start ≡ false = is-false _ _ c.differs.ensures c.if-differs.true in
    line-here c.args.infos.now c.args.words.now c.loop-self.self.array c.loop-self.self.cell c.loop-self.self.at c.loop-self.self.before c.index-infos-self.result c.loop-self.invariant.place c.loop-self-test.true c.index-infos-self.is
    c.if-self-info.false c.args.k c.put_cell.new.into.text told c.if-k-self-2.true c.put_cell.ensures.text

pub loop-self-preserved : goal.loop-self-preserved
loop-self-preserved c = elim c.if-differs.branch [
  | then-differs+else-k-self-2 w ↦ record {
    place =
        subst (λ (s : CellPlace). IsAtCell c.args.infos.now c.args.words.now s.array (s.cell + 1) (s.at + 1) s.before) (sym w.self-is)
        (next-line c.args.infos.now c.args.words.now c.loop-self.self.array c.loop-self.self.cell c.loop-self.self.at c.loop-self.self.before c.index-infos-self.result c.loop-self.invariant.place c.loop-self-test.true c.index-infos-self.is
        c.if-self-info.false (is-false _ _ c.differs.ensures w.if-differs.true));
    before =
        let same : c.if-differs.self.before ≡ c.loop-self.self.before + 1 = ap (λ (s : CellPlace). s.before) w.self-is in
        let le : c.loop-self.self.before ≤ c.args.k = c.loop-self.invariant.before in
        let other : c.args.k ≢ c.loop-self.self.before = w.if-k-self-2.false in
        omega (arith, same, le, other);
    empty = c.loop-self.invariant.empty;
    room = c.loop-self.invariant.room;
  }
  | else-differs w ↦ record {
    place =
        subst (λ (s : CellPlace). IsAtCell c.args.infos.now c.args.words.now s.array (s.cell + 1) (s.at + 1) s.before) (sym w.self-is)
        (next-cell c.args.infos.now c.args.words.now c.loop-self.self.array c.loop-self.self.cell c.loop-self.self.at c.loop-self.self.before c.index-infos-self.result c.loop-self.invariant.place c.loop-self-test.true c.index-infos-self.is
        c.if-self-info.false (is-true _ _ c.differs.ensures w.if-differs.false));
    before =
        let same : c.if-differs.self.before ≡ c.loop-self.self.before = ap (λ (s : CellPlace). s.before) w.self-is in
        let le : c.loop-self.self.before ≤ c.args.k = c.loop-self.invariant.before in
        omega (arith, same, le);
    empty = c.loop-self.invariant.empty;
    room = c.loop-self.invariant.room;
  }
]

pub returns-clause-line : goal.returns-clause-line
returns-clause-line c =
    let all : c.loop-self.self.before ≡ length (cells_told c.args.infos.now c.args.words.now) = all-passed c.args.infos.now c.args.words.now c.loop-self.self.array c.loop-self.self.cell c.loop-self.self.at c.loop-self.self.before c.loop-self.invariant.place c.loop-self-test.false in
    let le : c.loop-self.self.before ≤ c.args.k = c.loop-self.invariant.before in
    (omega (arith, all, le), c.loop-self.invariant.empty)
