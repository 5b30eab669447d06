-- One step more of the pass that tells which values are clean.
use Rattle.std.proofs.Common.{◌≡◌, ℕ, zero, suc, ◌+◌, ◌<◌, ◌≤◌, Bool, List, [], ◌∷◌, ◌++◌, length, drop, get_or, refl, sym, ap, ◌∙◌, arith, drop-cons}
use Rattle.std.proofs.lemmas.List.{length-map}
use Rattle.code_forms.specs.declared.flat.FlatArray.{FlatArray}
use Rattle.code_forms.specs.declared.flat.Instr.{Instr}
use Rattle.code_forms.specs.declared.flat.Instr.TheVariants as instr
use Rattle.code_forms.specs.FlatMeaning.{Slots, copy_in, steps_in, step_value, run_from}
use Rattle.code_forms.specs.FlatValid.{instr_at}
use Rattle.dependence.specs.Uses.{Node, node_at}
use Rattle.flat_graph.specs.declared.node.Node.{Node as CodeNode}
use Rattle.flat_graph.specs.Nodes.{nodes_in, owner}
use Rattle.flat_graph.specs.Orders.{as_node, as_nodes, copies_in}
use Rattle.flat_graph.proofs.Ordered.{node_length, node_there}
use Rattle.index_resolve.specs.Clean.{cleans}

pub node_count : (fields : ℕ) (arrays : List FlatArray) (instrs : List Instr) (ns : List CodeNode) → as_nodes ns ≡ nodes_in fields arrays instrs → length ns ≡ length instrs
node_count fields arrays instrs ns e = sym (length-map ns as_node) ∙ ap (λ (l : List Node). length l) e ∙ node_length fields arrays instrs

node_is : (ns : List CodeNode) (k : ℕ) (d : CodeNode) → k < length ns → as_node (get_or ns k d) ≡ node_at (as_nodes ns) k
node_is [] k d less = absurd (omega arith)
node_is (n ∷ ns) zero d less = refl
node_is (n ∷ ns) (suc k) d less = node_is ns k d (omega (arith, less))

pub node_array : (fields : ℕ) (arrays : List FlatArray) (instrs : List Instr) (ns : List CodeNode) (k : ℕ) (d : CodeNode) (i : Instr) → as_nodes ns ≡ nodes_in fields arrays instrs → k < length instrs
    → i ≡ instr_at instrs k → (get_or ns k d).array ≡ owner i (copy_in (copies_in arrays) 0 k)
node_array fields arrays instrs ns k d i e less here =
    ap (λ (n : Node). n.array) (node_is ns k d (omega (arith, less, node_count fields arrays instrs ns e)) ∙ ap (λ l. node_at l k) e ∙ node_there fields arrays instrs k less)
    ∙ ap (λ j. owner j (copy_in (copies_in arrays) 0 k)) (sym here)

pub clean_more : (slots : Slots) (later : List (List ℕ)) (instrs : List Instr) (k : ℕ) (clean all : List Bool) (value : Bool) → k < length instrs
    → value ≡ step_value Bool cleans slots clean (record { instr = instr_at instrs k; copy = copy_in later 0 k })
    → run_from Bool cleans slots (steps_in later k (drop k instrs)) clean ≡ all
    → run_from Bool cleans slots (steps_in later (k + 1) (drop (k + 1) instrs)) (clean ++ value ∷ []) ≡ all
clean_more slots later instrs k clean all value less is old =
    let next : k + 1 ≡ suc k = omega arith in
    (λ j. run_from Bool cleans slots (steps_in later (next j) (drop (next j) instrs)) (clean ++ is j ∷ []))
    ∙ sym (ap (λ l. run_from Bool cleans slots (steps_in later k l) clean) (drop-cons instrs k (instr.Load 0) less)) ∙ old

pub none_left : {A : Type 0} (l : List A) (k : ℕ) → length l ≤ k → drop k l ≡ []
none_left [] zero le = refl
none_left [] (suc k) le = refl
none_left (x ∷ l) zero le = absurd (omega arith)
none_left (x ∷ l) (suc k) le = none_left l k (omega (arith, le))
