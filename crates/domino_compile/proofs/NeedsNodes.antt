-- The nodes of flat code and the arrays behind their values: touched arrays, and which array needs which.
use Rattle.std.proofs.Common.{◌≡◌, ℕ, zero, suc, ◌+◌, ◌<◌, inl, inr, List, [], ◌∷◌, length, get_or, replicate, Option, None, Some, refl, sym, ap, subst, ◌∙◌, arith}
use Rattle.std.proofs.lemmas.List.{get_or_append_left}
use Rattle.mp5_words.specs.Domain.{sources}
use Rattle.mp5_words.specs.Copies.{Copy, at}
use Rattle.domino_tree.specs.declared.program.Program.{Program}
use Rattle.domino_check.specs.SourceGroups as source_groups
use Rattle.domino_check.specs.SourceGroups.{no_sources, source_copy, all_sources, HasCopy, StandsBehind}
use Rattle.code_forms.specs.declared.guard.GuardCode.{GuardCode}
use Rattle.code_forms.specs.declared.flat.FlatCode.{FlatCode}
use Rattle.code_forms.specs.declared.flat.Operand.{Operand}
use Rattle.code_forms.specs.declared.flat.Instr.{Instr}
use Rattle.code_forms.specs.declared.flat.Instr.TheVariants as instr
use Rattle.code_forms.specs.FlatMeaning.{Step, Slots, operand_value, instr_value, covered, step_value, copy_in, index_slot, steps_of}
use Rattle.code_forms.specs.FlatValid.{instr_at}
use Rattle.code_forms.proofs.FlatLemmas.{prefix}
use Rattle.dependence.specs.Uses.{Member, Node, node_at}
use Rattle.flat_graph.specs.Layouts as layouts
use Rattle.flat_graph.specs.Nodes.{used_by, owner, array_of, node_of, nodes}
use Rattle.flat_graph.specs.Orders.{copies_in}
use Rattle.flat_graph.proofs.Ordered.{node_length, node_there}
use Rattle.ssa_flatten.proofs.FlatLines.{stood}
use Rattle.ssa_flatten.proofs.Outcome.{length_replicate}
use Rattle.domino_compile.specs.GroupsCode.{IsCodeOf}
use Rattle.domino_compile.proofs.GroupsStand.{done, known, copy_stands, env}
use Rattle.domino_compile.proofs.GroupsIndex.{load_there}
use Rattle.domino_compile.proofs.GroupsOwners.{step_there, steps_long}
use Rattle.domino_compile.proofs.GroupsSteps.{steps, steps_are, life_is, value_at}
use Rattle.domino_compile.proofs.NeedsSteps.{no_step}
use Rattle.domino_compile.proofs.NeedsEnd.{EndFine, end_fine}
use Rattle.domino_compile.proofs.NeedsShown.{Shows, instr_shows}

-- an instruction of no array makes no later copy
none_copy : (i : Instr) (o : Option ℕ) → owner i o ≡ None → o ≡ None
none_copy (instr.Load a) o e = absurd cc
none_copy (instr.Store a x) o e = absurd cc
none_copy (instr.Move v) o e = e
none_copy (instr.Pick g v old) o e = e
none_copy (instr.One op y) o e = e
none_copy (instr.Two op y z) o e = e
none_copy (instr.Hash kind y z w) o e = e
none_copy (instr.Yes g y) o e = e
none_copy (instr.No g y) o e = e
none_copy (instr.Index b y) o e = e

no_list : (n k : ℕ) → get_or {A = List ℕ} (replicate n []) k [] ≡ []
no_list zero k = refl
no_list (suc n) zero = refl
no_list (suc n) (suc k) = no_list n k

pub one_of : (b a : ℕ) → Member b (a ∷ []) → b ≡ a
one_of b a (inl e) = e
one_of b a (inr m) = elim m [ ]

some_same : {X : Type 0} {x y : X} → Some x ≡ Some y → x ≡ y
some_same e = cc

module _ (p : Program) (g : GuardCode) (f : FlatCode) (is : IsCodeOf p g f) where
  abbrev pub all : List Step
  all = steps p g f is

  abbrev pub copies : List (Option (Copy Operand))
  copies = (done p g f is).copies

  pub long : length (no_sources p) ≡ length p.packet.fields
  long = length_replicate (length p.packet.fields) []

  -- the arrays behind the values of all slots, and of operands
  abbrev pub vals : List (List ℕ)
  vals = env p g f is (List ℕ) sources (no_sources p) long

  abbrev pub value : Operand → List ℕ
  value = operand_value (List ℕ) sources vals

  abbrev slots : Slots
  slots = index_slot f.instrs f.fields

  -- none behind the header's
  pub empty : (k : ℕ) → k < f.fields → at (List ℕ) sources.ops vals k ≡ []
  empty k less =
      let more = prefix (List ℕ) sources slots (steps_of f.arrays f.instrs) (no_sources p) in
      ap (λ l. at (List ℕ) sources.ops l k) more.1
      ∙ get_or_append_left (no_sources p) more.0 [] k (omega (arith, less, long, is.fields, is.width))
      ∙ no_list (length p.packet.fields) k

  -- the arrays that an instruction shows
  abbrev pub up : ℕ → List ℕ
  up i = at (List ℕ) sources.ops vals (f.fields + i)

  -- ---- nodes

  pub inside : (i : ℕ) → i < length (nodes f) → i < length f.instrs
  inside i less = subst (λ n. i < n) (node_length f.fields f.arrays f.instrs) less

  pub node_inside : (i : ℕ) → i < length f.instrs → i < length (nodes f)
  node_inside i less = subst (λ n. i < n) (sym (node_length f.fields f.arrays f.instrs)) less

  pub many : length all ≡ length f.instrs
  many = ap length (sym (steps_are p g f is)) ∙ steps_long f.arrays f.instrs

  step_inside : (i : ℕ) → i < length f.instrs → i < length all
  step_inside i less = subst (λ n. i < n) (sym many) less

  step_is : (i : ℕ) → i < length f.instrs → get_or all i no_step ≡ record { instr = instr_at f.instrs i; copy = copy_in (copies_in f.arrays) 0 i }
  step_is i less = ap (λ l. get_or l i no_step) (sym (steps_are p g f is)) ∙ step_there f.arrays f.instrs i no_step less

  pub node_is : (i : ℕ) → i < length f.instrs → node_at (nodes f) i ≡ node_of f.fields f.arrays f.instrs (get_or all i no_step)
  node_is i less = node_there f.fields f.arrays f.instrs i less ∙ ap (node_of f.fields f.arrays f.instrs) (sym (step_is i less))

  pub owner_is : (i : ℕ) (o : Option ℕ) → i < length f.instrs → (node_at (nodes f) i).array ≡ o → array_of (get_or all i no_step) ≡ o
  owner_is i o less e = ap (λ (n : Node). n.array) (sym (node_is i less)) ∙ e

  up_is : (i : ℕ) → i < length f.instrs → up i ≡ step_value (List ℕ) sources slots vals (get_or all i no_step)
  up_is i less = value_at p g f is (List ℕ) sources (no_sources p) long i no_step (step_inside i less)

  pub fine : (i : ℕ) → i < length f.instrs → EndFine g.fields all copies (get_or all i no_step).copy (get_or all i no_step).instr
  fine i less = end_fine p g f is i (step_inside i less)

  -- ---- what a node of an array shows, and what one of no array

  own_value : (o : Option ℕ) (i : Instr) (a : ℕ) → EndFine g.fields all copies o i → owner i o ≡ Some a → step_value (List ℕ) sources slots vals (record { instr = i; copy = o }) ≡ a ∷ []
  own_value None (instr.Load m) a h e = ap (λ n. n ∷ []) (some_same e)
  own_value None (instr.Store m x) a h e = ap (λ n. n ∷ []) (some_same e)
  own_value None (instr.Move v) a h e = absurd cc
  own_value None (instr.Pick c v old) a h e = absurd cc
  own_value None (instr.One op y) a h e = absurd cc
  own_value None (instr.Two op y z) a h e = absurd cc
  own_value None (instr.Hash kind y z w) a h e = absurd cc
  own_value None (instr.Yes c y) a h e = absurd cc
  own_value None (instr.No c y) a h e = absurd cc
  own_value None (instr.Index b y) a h e = absurd cc
  own_value (Some m) (instr.Move v) a h e = ap (λ n. n ∷ []) (some_same e)
  own_value (Some m) (instr.Pick c v old) a h e = ap (λ n. n ∷ []) (some_same e)
  own_value (Some m) (instr.Load b) a h e = elim h.2 [ ]
  own_value (Some m) (instr.Store b x) a h e = elim h.2 [ ]
  own_value (Some m) (instr.One op y) a h e = elim h.2 [ ]
  own_value (Some m) (instr.Two op y z) a h e = elim h.2 [ ]
  own_value (Some m) (instr.Hash kind y z w) a h e = elim h.2 [ ]
  own_value (Some m) (instr.Yes c y) a h e = elim h.2 [ ]
  own_value (Some m) (instr.No c y) a h e = elim h.2 [ ]
  own_value (Some m) (instr.Index b y) a h e = elim h.2 [ ]

  pub own_up : (i a : ℕ) → i < length f.instrs → array_of (get_or all i no_step) ≡ Some a → up i ≡ a ∷ []
  own_up i a less e = up_is i less ∙ own_value (get_or all i no_step).copy (get_or all i no_step).instr a (fine i less) e

  pub owned : (i a : ℕ) → i < length (nodes f) → (node_at (nodes f) i).array ≡ Some a → (b : ℕ) → Member b (up i) → b ≡ a
  owned i a less e b m = one_of b a (subst (Member b) (own_up i a (inside i less) (owner_is i (Some a) (inside i less) e)) m)

  pub own : (i a : ℕ) → i < length (nodes f) → (node_at (nodes f) i).array ≡ Some a → Member a (up i)
  own i a less e = subst (Member a) (sym (own_up i a (inside i less) (owner_is i (Some a) (inside i less) e))) (inl refl)

  plain_shows : (i : ℕ) → i < length (nodes f) → (node_at (nodes f) i).array ≡ None → Shows f.fields vals empty (up i) (node_at (nodes f) i).uses
  plain_shows i less e =
      let s : Step = get_or all i no_step in
      let within : i < length f.instrs = inside i less in
      let none : owner s.instr s.copy ≡ None = owner_is i None within e in
      let plain : s.copy ≡ None = none_copy s.instr s.copy none in
      let h : Shows f.fields vals empty (instr_value (List ℕ) sources slots vals s.instr) (used_by f.fields f.arrays f.instrs s.instr) = instr_shows f.fields vals empty slots f.arrays f.instrs s.instr (ap (owner s.instr) (sym plain) ∙ none) in
      let value_is : up i ≡ instr_value (List ℕ) sources slots vals s.instr = up_is i within ∙ ap (λ c. covered (List ℕ) sources c (instr_value (List ℕ) sources slots vals s.instr)) plain in
      let uses_are : (node_at (nodes f) i).uses ≡ used_by f.fields f.arrays f.instrs s.instr = ap (λ (n : Node). n.uses) (node_is i within) in
      subst (λ l. Shows f.fields vals empty l (node_at (nodes f) i).uses) (sym value_is) (subst (Shows f.fields vals empty (instr_value (List ℕ) sources slots vals s.instr)) (sym uses_are) h)

  pub gathered : (i a : ℕ) → i < length (nodes f) → (node_at (nodes f) i).array ≡ None → Member a (up i) → (j : ℕ) × Member j (node_at (nodes f) i).uses × Member a (up j)
  gathered i a less e m = (plain_shows i less e).gathered a m

  pub gathers : (i j a : ℕ) → i < length (nodes f) → (node_at (nodes f) i).array ≡ None → Member j (node_at (nodes f) i).uses → Member a (up j) → Member a (up i)
  gathers i j a less e u m = (plain_shows i less e).gathers j a u m

  -- ---- touched arrays

  known_step : (o : Option ℕ) (i : Instr) (a : ℕ) → EndFine g.fields all copies o i → owner i o ≡ Some a → (c : Copy Operand) × (known p g f is a ≡ Some c)
  known_step None (instr.Load m) a h e = subst (λ n. (c : Copy Operand) × (known p g f is n ≡ Some c)) (some_same e) (h.0, h.1)
  known_step None (instr.Store m x) a h e = subst (λ n. (c : Copy Operand) × (known p g f is n ≡ Some c)) (some_same e) (h.0, h.1)
  known_step None (instr.Move v) a h e = absurd cc
  known_step None (instr.Pick c v old) a h e = absurd cc
  known_step None (instr.One op y) a h e = absurd cc
  known_step None (instr.Two op y z) a h e = absurd cc
  known_step None (instr.Hash kind y z w) a h e = absurd cc
  known_step None (instr.Yes c y) a h e = absurd cc
  known_step None (instr.No c y) a h e = absurd cc
  known_step None (instr.Index b y) a h e = absurd cc
  known_step (Some m) (instr.Move v) a h e = subst (λ n. (c : Copy Operand) × (known p g f is n ≡ Some c)) (some_same e) (h.0, h.1)
  known_step (Some m) (instr.Pick c v old) a h e = subst (λ n. (c : Copy Operand) × (known p g f is n ≡ Some c)) (some_same e) (h.0, h.1)
  known_step (Some m) (instr.Load b) a h e = elim h.2 [ ]
  known_step (Some m) (instr.Store b x) a h e = elim h.2 [ ]
  known_step (Some m) (instr.One op y) a h e = elim h.2 [ ]
  known_step (Some m) (instr.Two op y z) a h e = elim h.2 [ ]
  known_step (Some m) (instr.Hash kind y z w) a h e = elim h.2 [ ]
  known_step (Some m) (instr.Yes c y) a h e = elim h.2 [ ]
  known_step (Some m) (instr.No c y) a h e = elim h.2 [ ]
  known_step (Some m) (instr.Index b y) a h e = elim h.2 [ ]

  -- an array with an instruction is known
  pub known_of : (a : ℕ) → layouts.IsTouched (nodes f) a → (c : Copy Operand) × (known p g f is a ≡ Some c)
  known_of a t = known_step (get_or all t.0 no_step).copy (get_or all t.0 no_step).instr a (fine t.0 (inside t.0 t.1)) (owner_is t.0 (Some a) (inside t.0 t.1) t.2)

  -- what a node of such an instruction is
  pub node_of_instr : (i : ℕ) (x : Instr) → i < length f.instrs → instr_at f.instrs i ≡ x → ((node_at (nodes f) i).array ≡ owner x (copy_in (copies_in f.arrays) 0 i)) × ((node_at (nodes f) i).uses ≡ used_by f.fields f.arrays f.instrs x)
  node_of_instr i x less e = (
    ap (λ (n : Node). n.array) (node_there f.fields f.arrays f.instrs i less) ∙ ap (λ y. owner y (copy_in (copies_in f.arrays) 0 i)) e,
    ap (λ (n : Node). n.uses) (node_there f.fields f.arrays f.instrs i less) ∙ ap (used_by f.fields f.arrays f.instrs) e,
  )

  -- and one that is known is touched on the code
  pub touched_known : (a : ℕ) (c : Copy Operand) → known p g f is a ≡ Some c → layouts.IsTouched (nodes f) a
  touched_known a c e =
      let l = load_there f.instrs a (life_is p g f is a c e) in
      (l.0, node_inside l.0 l.1, (node_of_instr l.0 (instr.Load a) l.1 l.2).0)

  pub source_stands : (a : ℕ) → source_copy p a ≡ stood value (known p g f is a)
  source_stands a = sym (copy_stands p g f is (List ℕ) sources (no_sources p) long a)

  -- so are exactly the arrays that the source touches
  pub touched_source : (a : ℕ) → layouts.IsTouched (nodes f) a → source_groups.IsTouched p a
  touched_source a t = let k = known_of a t in subst HasCopy (sym (source_stands a ∙ ap (stood value) k.1)) tt

  pub known_source : (a : ℕ) → source_groups.IsTouched p a → (c : Copy Operand) × (known p g f is a ≡ Some c)
  known_source a t = by_copy (known p g f is a) refl where
    by_copy : (o : Option (Copy Operand)) → known p g f is a ≡ o → (c : Copy Operand) × (known p g f is a ≡ Some c)
    by_copy (Some c) e = (c, e)
    by_copy None e = elim (subst HasCopy (source_stands a ∙ ap (stood value) e) t) [ ]

  pub source_touched : (a : ℕ) → source_groups.IsTouched p a → layouts.IsTouched (nodes f) a
  source_touched a t = let k = known_source a t in touched_known a k.0 k.1
