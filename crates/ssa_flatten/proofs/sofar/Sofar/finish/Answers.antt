-- a test is what the definition says, whatever the numbers of its guards
use Rattle.ssa_flatten.proofs.sofar.Sofar.finish.Goals as goal

pub returns-in_ok-test-in-Test : goal.returns-in_ok-test-in-Test
returns-in_ok-test-in-Test c s is = rw c.in-Test.is (c.in_ok-test-in-Test.ensures.line c.args.header c.in-Test.yes c.in-Test.no s is)
