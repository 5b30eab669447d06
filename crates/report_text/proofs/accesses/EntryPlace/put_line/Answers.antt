use Rattle.std.proofs.Common.{◌≡◌, ◌≢◌, ◌∙◌, ◌≤◌, ◌<◌, ◌+◌, ◌-◌, suc, length, get_or, sym, ap, subst, arith}
use Rattle.std.proofs.lemmas.List.{get_or_read}
use Rattle.report_text.specs.declared.accesses.EntryPlace.{EntryPlace}
use Rattle.report_text.specs.AnswerLines.{entry_lines, lines_below}
use Rattle.report_text.specs.Told.{IsAtEntry}
use Rattle.report_text.proofs.PartLemmas.{below-found, below-passed}
use Rattle.report_text.proofs.EntryLemmas.{no-entry, one-entry}
use Rattle.report_text.proofs.accesses.EntryPlace.put_line.Goals as goal
use Rattle.report_text.proofs.accesses.EntryPlace.put_line.Goals.{then-index+else-k-self-2, else-index}

pub returns-then-k-self-2-clause-line : goal.returns-then-k-self-2-clause-line
returns-then-k-self-2-clause-line c =
    let f = entry_lines c.args.checked.now c.args.code.now c.args.answer.now in
    let n = length c.args.answer.now.by.items in
    let e = c.loop-self.self.entry in
    let less : e < n = omega (arith, c.loop-self-test.true, c.len.ensures, c.args.answer.now.by.ok.0) in
    below-found f (n - suc e) e n c.args.k c.put_access.new.into.text (omega (arith, less)) c.put_access.ensures.text (c.if-k-self-2.true ∙ c.loop-self.invariant.place.counted)

pub loop-self-preserved : goal.loop-self-preserved
loop-self-preserved c =
    let a = c.args.answer.now in
    let f = entry_lines c.args.checked.now c.args.code.now a in
    let n = length a.by.items in
    let e = c.loop-self.self.entry in
    let less : e < n = omega (arith, c.loop-self-test.true, c.len.ensures, a.by.ok.0) in
    let by : c.index.result.now ≡ get_or a.by.items e 0 = get_or_read a.by.items e _ less c.index.ensures 0 in
    let le : c.loop-self.self.before ≤ c.args.k = c.loop-self.invariant.before in
    elim c.if-index.branch [
      | then-index+else-k-self-2 w ↦ record {
        place =
            subst (λ (s : EntryPlace). IsAtEntry f n (s.entry + 1) s.before) (sym w.self-is) (record {
              inside = omega (arith, less);
              counted = below-passed f e c.loop-self.self.before 1 c.loop-self.invariant.place.counted (one-entry c.args.checked.now c.args.code.now a e (λ q. w.if-index.true (by ∙ q)));
            });
        before =
            let same : c.if-index.self.before ≡ c.loop-self.self.before + 1 = ap (λ (s : EntryPlace). s.before) w.self-is in
            let other : c.args.k ≢ c.loop-self.self.before = w.if-k-self-2.false in
            omega (arith, same, le, other);
        empty = c.loop-self.invariant.empty;
        room = c.loop-self.invariant.room;
      }
      | else-index w ↦ record {
        place =
            subst (λ (s : EntryPlace). IsAtEntry f n (s.entry + 1) s.before) (sym w.self-is) (record {
              inside = omega (arith, less);
              counted =
                  let passed : c.loop-self.self.before + 0 ≡ length (lines_below f (e + 1)) = below-passed f e c.loop-self.self.before 0 c.loop-self.invariant.place.counted (no-entry c.args.checked.now c.args.code.now a e (sym by ∙ w.if-index.false)) in
                  omega (arith, passed);
            });
        before = let same : c.if-index.self.before ≡ c.loop-self.self.before = ap (λ (s : EntryPlace). s.before) w.self-is in omega (arith, same, le);
        empty = c.loop-self.invariant.empty;
        room = c.loop-self.invariant.room;
      }
    ]
