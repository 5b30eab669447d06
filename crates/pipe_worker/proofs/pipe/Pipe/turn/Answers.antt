use Rattle.pipe_worker.specs.Pipe.{Pipe}
use Rattle.pipe_worker.proofs.TurnLemmas.{NoService, NoStep, NoEntry, NoLeave, Tried, stays, goes_on, none_ready}
use Rattle.pipe_worker.proofs.pipe.Pipe.turn.Goals as goal
use Rattle.pipe_worker.proofs.pipe.Pipe.turn.Goals.{then-serve_one, else-serve_one, then-step_one, else-step_one, then-enter_one, else-enter_one}

-- nothing is ready of the first two kinds, and of the first three
abbrev NoTwo : Pipe → Type 0
NoTwo s = NoService s × NoStep s

abbrev NoThree : Pipe → Type 0
NoThree s = NoTwo s × NoEntry s

pub returns-then-leave_one-clause-did : goal.returns-then-leave_one-clause-did
returns-then-leave_one-clause-did c _ =
    let served : Tried c.args.self.now c.serve_one.new.self c.serve_one.result NoService = record { did = c.serve_one.ensures.did; not = c.serve_one.ensures.not; kept = c.serve_one.ensures.kept } in
    let stepped : Tried c.args.self.now c.if-serve_one.self c.if-serve_one.value NoTwo = elim c.if-serve_one.branch [
      | then-serve_one w ↦ stays _ _ _ _ _ NoService NoStep served w.if-serve_one.true w.self-is w.value-is
      | else-serve_one w ↦ goes_on _ _ _ _ _ _ _ NoService NoStep served w.if-serve_one.false record { did = w.step_one.ensures.did; not = w.step_one.ensures.not; kept = w.step_one.ensures.kept } w.self-is w.value-is
    ] in
    let entered : Tried c.args.self.now c.if-step_one.self c.if-step_one.value NoThree = elim c.if-step_one.branch [
      | then-step_one w ↦ stays _ _ _ _ _ NoTwo NoEntry stepped w.if-step_one.true w.self-is w.value-is
      | else-step_one w ↦ goes_on _ _ _ _ _ _ _ NoTwo NoEntry stepped w.if-step_one.false record { did = w.enter_one.ensures.did; not = w.enter_one.ensures.not; kept = w.enter_one.ensures.kept } w.self-is w.value-is
    ] in
    let left : Tried c.args.self.now c.if-enter_one.self c.if-enter_one.value (λ x. NoThree x × NoLeave x) = elim c.if-enter_one.branch [
      | then-enter_one w ↦ stays _ _ _ _ _ NoThree NoLeave entered w.if-enter_one.true w.self-is w.value-is
      | else-enter_one w ↦ goes_on _ _ _ _ _ _ _ NoThree NoLeave entered w.if-enter_one.false record { did = w.leave_one.ensures.did; not = w.leave_one.ensures.not; kept = w.leave_one.ensures.kept } w.self-is w.value-is
    ] in
    left.did c.if-leave_one.true

pub returns-else-leave_one-clause-idle : goal.returns-else-leave_one-clause-idle
returns-else-leave_one-clause-idle c _ =
    let served : Tried c.args.self.now c.serve_one.new.self c.serve_one.result NoService = record { did = c.serve_one.ensures.did; not = c.serve_one.ensures.not; kept = c.serve_one.ensures.kept } in
    let stepped : Tried c.args.self.now c.if-serve_one.self c.if-serve_one.value NoTwo = elim c.if-serve_one.branch [
      | then-serve_one w ↦ stays _ _ _ _ _ NoService NoStep served w.if-serve_one.true w.self-is w.value-is
      | else-serve_one w ↦ goes_on _ _ _ _ _ _ _ NoService NoStep served w.if-serve_one.false record { did = w.step_one.ensures.did; not = w.step_one.ensures.not; kept = w.step_one.ensures.kept } w.self-is w.value-is
    ] in
    let entered : Tried c.args.self.now c.if-step_one.self c.if-step_one.value NoThree = elim c.if-step_one.branch [
      | then-step_one w ↦ stays _ _ _ _ _ NoTwo NoEntry stepped w.if-step_one.true w.self-is w.value-is
      | else-step_one w ↦ goes_on _ _ _ _ _ _ _ NoTwo NoEntry stepped w.if-step_one.false record { did = w.enter_one.ensures.did; not = w.enter_one.ensures.not; kept = w.enter_one.ensures.kept } w.self-is w.value-is
    ] in
    let left : Tried c.args.self.now c.if-enter_one.self c.if-enter_one.value (λ x. NoThree x × NoLeave x) = elim c.if-enter_one.branch [
      | then-enter_one w ↦ stays _ _ _ _ _ NoThree NoLeave entered w.if-enter_one.true w.self-is w.value-is
      | else-enter_one w ↦ goes_on _ _ _ _ _ _ _ NoThree NoLeave entered w.if-enter_one.false record { did = w.leave_one.ensures.did; not = w.leave_one.ensures.not; kept = w.leave_one.ensures.kept } w.self-is w.value-is
    ] in
    let none = left.not c.if-leave_one.false in
    none_ready c.args.self.now none.0.0.0 none.0.0.1 none.0.1 none.1
