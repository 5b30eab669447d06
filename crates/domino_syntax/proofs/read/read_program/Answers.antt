use Rattle.domino_syntax.proofs.Deciding as deciding
use Rattle.domino_syntax.proofs.Texts as texts
use Rattle.domino_syntax.proofs.read.read_program.Goals as goal

pub returns-then-text-gt-MAX_TEXT-clause-decides : goal.returns-then-text-gt-MAX_TEXT-clause-decides
returns-then-text-gt-MAX_TEXT-clause-decides c = texts.decides

pub returns-then-text-gt-MAX_TEXT-clause-one_answer : goal.returns-then-text-gt-MAX_TEXT-clause-one_answer
returns-then-text-gt-MAX_TEXT-clause-one_answer c = texts.read_or_refused

pub returns-then-text-gt-MAX_TEXT-clause-one_program : goal.returns-then-text-gt-MAX_TEXT-clause-one_program
returns-then-text-gt-MAX_TEXT-clause-one_program c = texts.one_program

pub returns-then-text-gt-MAX_TEXT-clause-one_refusal : goal.returns-then-text-gt-MAX_TEXT-clause-one_refusal
returns-then-text-gt-MAX_TEXT-clause-one_refusal c = texts.one_refusal

pub returns-then-text-gt-MAX_TEXT-clause-one_tree : goal.returns-then-text-gt-MAX_TEXT-clause-one_tree
returns-then-text-gt-MAX_TEXT-clause-one_tree c = deciding.one_tree

pub returns-clause-decides : goal.returns-clause-decides
returns-clause-decides c = texts.decides

pub returns-clause-one_answer : goal.returns-clause-one_answer
returns-clause-one_answer c = texts.read_or_refused

pub returns-clause-one_program : goal.returns-clause-one_program
returns-clause-one_program c = texts.one_program

pub returns-clause-one_refusal : goal.returns-clause-one_refusal
returns-clause-one_refusal c = texts.one_refusal

pub returns-clause-one_tree : goal.returns-clause-one_tree
returns-clause-one_tree c = deciding.one_tree

pub returns-clause-accepts : goal.returns-clause-accepts
returns-clause-accepts c = texts.accepts c.args.text.now c.read_short.result (c.read_short.ensures.read, c.read_short.ensures.refused)

pub returns-clause-refuses : goal.returns-clause-refuses
returns-clause-refuses c = texts.refuses c.args.text.now c.read_short.result (c.read_short.ensures.read, c.read_short.ensures.refused)

pub returns-clause-printed : goal.returns-clause-printed
returns-clause-printed c = texts.prints c.args.text.now c.read_short.result (c.read_short.ensures.read, c.read_short.ensures.refused)

pub returns-clause-counted : goal.returns-clause-counted
returns-clause-counted c = texts.counted c.args.text.now c.read_short.result c.read_short.ensures.read
