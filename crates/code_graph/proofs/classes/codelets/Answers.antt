-- the numbers of keys are those of classes
use Rattle.std.proofs.Common.{◌≡◌, ◌∙◌, All, List, Option, ℕ, length, sym, ap, subst, arith}
use Rattle.dependence.specs.Reach.{AreClasses}
use Rattle.dependence.specs.Classes.{IsKey, AreNumbers}
use Rattle.dependence.specs.Uses.{Depends}
use Rattle.code_forms.specs.LayoutValid.{are_codelets}
use Rattle.flat_graph.specs.Nodes.{nodes}
use Rattle.flat_graph.proofs.Ordered.{node_length, ordered, few_instrs}
use Rattle.code_graph.specs.Keys.{AreKeysIn}
use Rattle.code_graph.proofs.KeyLemmas.{all_keys, numbers_valid, classes}
use Rattle.code_graph.proofs.classes.codelets.Goals as goal

pub keys_of-requires-clause-to : goal.keys_of-requires-clause-to
keys_of-requires-clause-to c =
    let g = c.args.code.now in
    let long = node_length g.fields g.arrays g.instrs in
    omega (arith, c.in_ok-to.ensures.long, c.len.ensures, long)

pub keys_of-requires-clause-from : goal.keys_of-requires-clause-from
keys_of-requires-clause-from c =
    let g = c.args.code.now in
    let long = node_length g.fields g.arrays g.instrs in
    omega (arith, c.in_ok-from.ensures.long, c.len.ensures, long)

pub number_classes-requires-clause-keys : goal.number_classes-requires-clause-keys
number_classes-requires-clause-keys c =
    subst (All IsKey) (sym c.deref.ensures.value) (all_keys c.in_ok-to.to.rows c.in_ok-from.from.rows c.len.result c.in_ok-keys.keys.items c.in_ok-keys.ensures)

pub invariant_of-result : goal.invariant_of-result
invariant_of-result c =
    let g = c.args.code.now in
    let numbers = c.in_ok-numbers.ensures in
    let few = few_instrs g.fields g.arrays g.instrs g.last g.valid in
    let long : length c.in_ok-numbers.numbers.items ≡ length g.instrs = numbers.long ∙ ap length c.deref.ensures.value ∙ c.in_ok-keys.ensures.long ∙ c.len.ensures in
    record { valid = ap are_codelets c.from_vec.ensures ∙ numbers_valid c.in_ok-numbers.numbers.items (omega (arith, long, few)) numbers.ordered }

pub returns : goal.returns
returns c =
    let g = c.args.code.now in
    let long = node_length g.fields g.arrays g.instrs in
    let to = c.in_ok-to.to.rows in
    let from = c.in_ok-from.from.rows in
    let keys : List (Option ℕ) = c.in_ok-keys.keys.items in
    let are : AreKeysIn to from (length (nodes g)) keys = subst (λ n. AreKeysIn to from n keys) (c.len.ensures ∙ sym long) c.in_ok-keys.ensures in
    let numbers : AreNumbers keys c.in_ok-numbers.numbers.items = subst (λ l. AreNumbers l c.in_ok-numbers.numbers.items) c.deref.ensures.value c.in_ok-numbers.ensures in
    subst (AreClasses (Depends (nodes g)) (length g.instrs)) (sym c.from_vec.ensures)
    (subst (λ n. AreClasses (Depends (nodes g)) n c.in_ok-numbers.numbers.items) long
    (classes (nodes g) (ordered g.fields g.arrays g.instrs g.last g.valid) to from c.in_ok-to.ensures c.in_ok-from.ensures keys are c.in_ok-numbers.numbers.items numbers))
