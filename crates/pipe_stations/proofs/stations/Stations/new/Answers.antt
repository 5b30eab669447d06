use Rattle.std.proofs.Common.{arith}
use Rattle.run_laws.specs.Run.{run_of}
use Rattle.pipe_stations.proofs.StartLemmas.{first_lawful, first_there}
use Rattle.pipe_stations.proofs.stations.Stations.new.Goals as goal

pub invariant_of-result : goal.invariant_of-result
invariant_of-result c =
    first_lawful (run_of c.args.code.now c.args.capture.now c.args.settings.now) c.args.pipe c.in_ok-first_stations.field-0.items c.in_ok-first_stations.ensures.items c.first_stations.ensures.few

pub returns-clause-each : goal.returns-clause-each
returns-clause-each c g lt =
    first_there (run_of c.args.code.now c.args.capture.now c.args.settings.now) c.args.pipe c.in_ok-first_stations.field-0.items c.in_ok-first_stations.ensures.items g lt
