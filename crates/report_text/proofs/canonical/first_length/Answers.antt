use Rattle.std.proofs.Common.{eq-eqb, ne_eqb}
use Rattle.report_text.proofs.LineLemmas.{line-ends, line-more, line-whole}
use Rattle.report_text.proofs.canonical.first_length.Goals as goal

pub returns-then-byte-eq10-clause-first : goal.returns-then-byte-eq10-clause-first
returns-then-byte-eq10-clause-first c = line-ends c.args.text.now c.loop-i.i c.loop-i-test.true (eq-eqb _ 10 c.if-byte-eq10.true) c.loop-i.invariant

pub loop-i-preserved : goal.loop-i-preserved
loop-i-preserved c = line-more c.args.text.now c.loop-i.i c.loop-i-test.true (ne_eqb _ 10 c.if-byte-eq10.false) c.loop-i.invariant

pub returns-clause-first : goal.returns-clause-first
returns-clause-first c = line-whole c.args.text.now c.loop-i.i c.requires c.loop-i.auto.i-end c.loop-i-test.false c.loop-i.invariant
