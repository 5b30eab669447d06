use Rattle.std.proofs.Common.{◌≡◌, ◌≤◌, ◌-◌, take, vec_len, IfSome}
use Rattle.switch_runner.specs.Outside.{ChangesOnly}
use Rattle.switch_runner.proofs.transfer.read_by.Given as goal

-- the text is a front of what is told, and only the count of the name has changed
abbrev pub invariant-loop-text : goal.invariant-loop-text
invariant-loop-text g l = record {
  only : ChangesOnly l.name (g.S.Store.seen l.initial.store) (g.S.Store.seen l.store);
  front : IfSome ((g.S.Store.seen l.initial.store).told l.name) (λ bytes. l.text.items ≡ take (vec_len l.text) bytes);
  within : vec_len l.text ≤ l.most;
}

abbrev pub decreases-loop-text : goal.decreases-loop-text
decreases-loop-text g l = l.most - vec_len l.text
