use Rattle.std.proofs.Common.{◌≡◌, ◌*◌, false, replicate, pos, sym, rules}
use Rattle.egress_order.specs.OwnPackets.{own_count}
use Rattle.egress_order.proofs.Exits.{new_lawful}
use Rattle.egress_order.proofs.Leading.{leading_none}
use Rattle.egress_order.proofs.exit.HomeExit.new.Goals as goal

pub invariant_of-result : goal.invariant_of-result
invariant_of-result c =
    let own = own_count c.args.pipe c.args.pipelines c.args.arrivals in
    let home : c.in_ok-vec.field-0.items ≡ replicate own false = search rules in
    let words : c.in_ok-vec-2.field-0.items ≡ replicate (own * c.args.fields) (pos 0) = search rules in
    rw (home, words) record {
      laws = new_lawful c.args.pipe c.args.pipelines c.args.arrivals c.args.window c.args.fields c.requires.pipe c.requires.pipelines c.requires.arrivals c.requires.window c.requires.fields;
      count = sym (leading_none own);
    }
