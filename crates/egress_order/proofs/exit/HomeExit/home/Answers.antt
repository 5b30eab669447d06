use Rattle.std.proofs.Common.{◌≡◌, ◌*◌, ◌/◌, ◌∙◌, true, length, ap, arith}
use Rattle.std.proofs.Math.ListN.{length-set}
use Rattle.std.proofs.lemmas.List.{with_items_is}
use Rattle.egress_order.specs.OwnPackets.{leading}
use Rattle.egress_order.proofs.Leading.{leading_set}
use Rattle.egress_order.proofs.Pieces.{length_written}
use Rattle.egress_order.proofs.Exits.{few_home, home_fits, home_counts}
use Rattle.egress_order.proofs.exit.HomeExit.home.Goals as goal

pub leading_from-self-inside-requires-clause-known : goal.leading_from-self-inside-requires-clause-known
leading_from-self-inside-requires-clause-known c =
    rw c.deref.ensures.value (let more = leading_set c.self.inside.home.items (c.args.t / c.self.inside.pipelines) in let count = c.self.invariant.count in omega arith)

pub leading_from-self-inside-requires-clause-size : goal.leading_from-self-inside-requires-clause-size
leading_from-self-inside-requires-clause-size c =
    rw c.deref.ensures.value
    (let few = few_home _ c.self.invariant.laws in
    let laws = c.self.invariant.laws in
    let kept = length-set c.self.inside.home.items (c.args.t / c.self.inside.pipelines) true in
    omega arith)

pub invariant_of-self : goal.invariant_of-self
invariant_of-self c =
    let fits = home_fits _ _ _ c.args.t c.args.fields.now c.self.view_is c.self.invariant c.requires.away c.requires.fields in
    let kept = length_written c.self.inside.words.items (c.args.t / c.self.inside.pipelines * c.self.inside.fields) c.args.fields.now fits in
    let long : length c.write.new.words ≡ c.self.inside.words.len = rw (c.write.ensures, c.deref_mut.ensures.value) (kept ∙ omega arith) in
    let whole = with_items_is c.self.inside.words c.write.new.words long in
    rw (whole, c.write.ensures, c.deref_mut.ensures.value)
    (home_counts _ _ _ c.leading_from-self-inside.result c.args.t c.args.fields.now c.self.view_is c.self.invariant c.requires.away c.requires.fields (c.leading_from-self-inside.ensures ∙ ap leading c.deref.ensures.value))
