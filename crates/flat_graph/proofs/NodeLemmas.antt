-- One node more of the graph.
use Rattle.std.proofs.Common.{◌≡◌, ℕ, zero, suc, ◌+◌, ◌<◌, ◌≤◌, List, [], ◌∷◌, ◌++◌, length, map, drop, get_or, Option, refl, sym, ap, subst, ◌∙◌, arith, append_assoc, append-nil, drop-cons}
use Rattle.code_forms.specs.declared.flat.FlatArray.{FlatArray}
use Rattle.code_forms.specs.declared.flat.Instr.{Instr}
use Rattle.code_forms.specs.declared.flat.Instr.TheVariants as instr
use Rattle.code_forms.specs.FlatMeaning.{copy_in, steps_in}
use Rattle.code_forms.specs.FlatValid.{instr_at}
use Rattle.dependence.specs.Uses.{Node}
use Rattle.flat_graph.specs.declared.node.Node.{Node as CodeNode}
use Rattle.flat_graph.specs.Nodes.{node_of, nodes_in}
use Rattle.flat_graph.specs.Orders.{HasArray, HaveArrays, as_node, as_nodes, copies_in}

has_more : (m n : ℕ) (i : Instr) → m ≤ n → HasArray m i → HasArray n i
has_more m n (instr.One op a) le h = tt
has_more m n (instr.Two op a b) le h = tt
has_more m n (instr.Pick c a b) le h = tt
has_more m n (instr.Hash kind a b c) le h = tt
has_more m n (instr.Move a) le h = tt
has_more m n (instr.Yes guard c) le h = tt
has_more m n (instr.No guard c) le h = tt
has_more m n (instr.Index array a) le h = omega (arith, le, h)
has_more m n (instr.Load array) le h = omega (arith, le, h)
has_more m n (instr.Store array a) le h = omega (arith, le, h)

pub have_more : (m n : ℕ) (instrs : List Instr) → m ≤ n → HaveArrays m instrs → HaveArrays n instrs
have_more m n instrs le have i less = has_more m n (instr_at instrs i) le (have i less)

-- a place within has one item, whatever stands for none
pub any_default : {X : Type 0} (l : List X) (i : ℕ) (d e : X) → i < length l → get_or l i d ≡ get_or l i e
any_default [] i d e less = absurd (omega arith)
any_default (x ∷ l) zero d e less = refl
any_default (x ∷ l) (suc i) d e less = any_default l i d e (omega (arith, less))

pub array_here : (n : ℕ) (instrs : List Instr) (i : ℕ) (d : Instr) → i < length instrs → HaveArrays n instrs → HasArray n (get_or instrs i d)
array_here n instrs i d less have = subst (HasArray n) (any_default instrs i (instr.Load 0) d less) (have i less)

-- the next instruction
pub instr_here : (seen instrs : List Instr) (k : ℕ) (d : Instr) → seen ≡ instrs → k < length seen → get_or seen k d ≡ instr_at instrs k
instr_here seen instrs k d same less = any_default seen k d (instr.Load 0) less ∙ ap (λ l. instr_at l k) same

-- the node of the next instruction
pub made_more : (fields : ℕ) (arrays : List FlatArray) (instrs : List Instr) (k : ℕ) (x : Instr) (copy : Option ℕ) (made : List CodeNode) (n : CodeNode) → k < length instrs → x ≡ instr_at instrs k
    → copy ≡ copy_in (copies_in arrays) 0 k → as_node n ≡ node_of fields arrays instrs (record { instr = x; copy = copy })
    → as_nodes made ++ map (node_of fields arrays instrs) (steps_in (copies_in arrays) k (drop k instrs)) ≡ nodes_in fields arrays instrs
    → as_nodes (made ++ n ∷ []) ++ map (node_of fields arrays instrs) (steps_in (copies_in arrays) (k + 1) (drop (k + 1) instrs)) ≡ nodes_in fields arrays instrs
made_more fields arrays instrs k x copy made n less here copy_is is old =
    let later : List Node = map (node_of fields arrays instrs) (steps_in (copies_in arrays) (k + 1) (drop (k + 1) instrs)) in
    let next : suc k ≡ k + 1 = omega arith in
    let front : map (node_of fields arrays instrs) (steps_in (copies_in arrays) k (drop k instrs)) ≡ as_node n ∷ later =
    ap (λ l. map (node_of fields arrays instrs) (steps_in (copies_in arrays) k l)) (drop-cons instrs k (instr.Load 0) less)
    ∙ (λ j. node_of fields arrays instrs (record { instr = sym here j; copy = sym copy_is j }) ∷ map (node_of fields arrays instrs) (steps_in (copies_in arrays) (next j) (drop (next j) instrs)))
    ∙ ap (λ x. x ∷ later) (sym is) in
    ap (λ l. l ++ later) (apart made) ∙ append_assoc (as_nodes made) (as_node n ∷ []) later ∙ ap (λ l. as_nodes made ++ l) (sym front) ∙ old where
      apart : (made : List CodeNode) → as_nodes (made ++ n ∷ []) ≡ as_nodes made ++ as_node n ∷ []
      apart [] = refl
      apart (x ∷ made) = ap (λ l. as_node x ∷ l) (apart made)

-- behind the last instruction all are made
pub all_made : (fields : ℕ) (arrays : List FlatArray) (instrs : List Instr) (k : ℕ) (made : List CodeNode) → length instrs ≤ k
    → as_nodes made ++ map (node_of fields arrays instrs) (steps_in (copies_in arrays) k (drop k instrs)) ≡ nodes_in fields arrays instrs
    → as_nodes made ≡ nodes_in fields arrays instrs
all_made fields arrays instrs k made le old = sym (append-nil (as_nodes made)) ∙ ap (λ l. as_nodes made ++ map (node_of fields arrays instrs) (steps_in (copies_in arrays) k l)) (sym (none instrs k le)) ∙ old where
  none : (l : List Instr) (k : ℕ) → length l ≤ k → drop k l ≡ []
  none [] zero le = refl
  none [] (suc k) le = refl
  none (x ∷ l) zero le = absurd (omega arith)
  none (x ∷ l) (suc k) le = none l k (omega (arith, le))
