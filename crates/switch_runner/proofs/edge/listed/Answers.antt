use Rattle.std.proofs.Common.{◌≡◌, ◌∙◌, length, Some, None, ap, rules}
use Rattle.std.specs.List.{position}
use Rattle.switch_runner.specs.Memory.{named}
use Rattle.switch_runner.proofs.MemoryLemmas.{listed_last}
use Rattle.switch_runner.proofs.edge.listed.Goals as goal

pub returns-in_ok-push-in-None-clause-place : goal.returns-in_ok-push-in-None-clause-place
returns-in_ok-push-in-None-clause-place c =
    let none : position (named c.args.name.now) c.args.names.now.items ≡ None = search rules in
    let same : c.new-file.result.name ≡ c.args.name.now = search rules in
    let last = listed_last c.args.names.now.items c.args.name.now c.new-file.result none same in
    let place : length c.args.names.now.items ≡ c.len-place.result = search rules in
    rw c.in_ok-push-in-None.ensures.items (last ∙ ap Some place)
