use Rattle.std.proofs.Common.{◌+◌}
use Rattle.std.proofs.lemmas.Result.{on_ok_weaker}
use Rattle.switch_net.proofs.LaneLemmas.{sender_laid, receiver_laid}
use Rattle.switch_net.proofs.building.lay.Goals as goal

pub returns : goal.returns
returns g c =
    let sent = sender_laid c.args.run.now c.args.from c.args.to c.args.to c.args.workers.now _ _ c.in_ok-sender.sender c.requires.from c.requires.laid
    c.in_ok-give_sender.ensures c.in_ok-sender.ensures.sender in
    on_ok_weaker c.give_receiver.result (λ is. receiver_laid c.args.run.now c.args.from (c.args.to + 1) c.args.to _ _ _ c.in_ok-sender.receiver c.requires.to sent
    is c.in_ok-sender.ensures.receiver) c.give_receiver.ensures
