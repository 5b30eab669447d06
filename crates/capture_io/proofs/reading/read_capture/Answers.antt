use Rattle.capture_io.proofs.WholeCapture as whole
use Rattle.capture_io.proofs.reading.read_capture.Goals as goal

pub returns-clause-read : goal.returns-clause-read
returns-clause-read c = whole.is_read c.read.result c.args.names.now c.args.bytes.now c.read.ensures

pub returns-clause-refused : goal.returns-clause-refused
returns-clause-refused c = whole.is_refused c.read.result c.args.names.now c.args.bytes.now c.read.ensures

pub returns-clause-accepts : goal.returns-clause-accepts
returns-clause-accepts c = whole.accepts c.read.result c.args.names.now c.args.bytes.now c.read.ensures

pub returns-clause-refuses : goal.returns-clause-refuses
returns-clause-refuses c = whole.refuses c.read.result c.args.names.now c.args.bytes.now c.read.ensures

pub returns-clause-decides : goal.returns-clause-decides
returns-clause-decides c = whole.decides

pub returns-clause-one_answer : goal.returns-clause-one_answer
returns-clause-one_answer c = whole.one_answer

pub returns-clause-one_capture : goal.returns-clause-one_capture
returns-clause-one_capture c = whole.one_capture

pub returns-clause-one_refusal : goal.returns-clause-one_refusal
returns-clause-one_refusal c = whole.one_refusal
