-- An array reaches another on flat code exactly where the source needs it, directly or through others.
use Rattle.std.proofs.Common.{◌≡◌, ℕ, ◌+◌, ◌<◌, ◌⊎◌, inl, inr, List, [], ◌∷◌, length, map, get_or, Option, None, Some, refl, sym, ap, subst, ◌∙◌, arith}
use Rattle.mp5_words.specs.Domain.{sources}
use Rattle.mp5_words.specs.Copies.{Copy, at}
use Rattle.domino_tree.specs.declared.program.Program.{Program}
use Rattle.domino_check.specs.SourceGroups as source_groups
use Rattle.domino_check.specs.SourceGroups.{no_sources, source_copy, all_sources, StandsBehind}
use Rattle.code_forms.specs.declared.guard.GuardCode.{GuardCode}
use Rattle.code_forms.specs.declared.flat.FlatCode.{FlatCode}
use Rattle.code_forms.specs.declared.flat.Operand.{Operand}
use Rattle.code_forms.specs.declared.flat.Instr.{Instr}
use Rattle.code_forms.specs.declared.flat.Instr.TheVariants as instr
use Rattle.code_forms.specs.FlatMeaning.{Step, index_slot}
use Rattle.code_forms.specs.FlatValid.{Loads, Stores}
use Rattle.dependence.specs.Reach.{Reaches, here, step}
use Rattle.dependence.specs.Uses.{Member, Node, node_at}
use Rattle.dependence.proofs.UseLemmas as use_lemmas
use Rattle.flat_graph.specs.Layouts as layouts
use Rattle.flat_graph.specs.Nodes.{guards_of, writer, writers, used_by, owner, nodes}
use Rattle.flat_graph.proofs.Ordered.{ordered}
use Rattle.ssa_flatten.specs.Flattened.{under_of}
use Rattle.ssa_flatten.proofs.FlatLines.{stood}
use Rattle.domino_compile.specs.GroupsCode.{IsCodeOf}
use Rattle.domino_compile.proofs.GroupsStand.{known, guards_are}
use Rattle.domino_compile.proofs.GroupsIndex.{IndexAt, index_there, load_there, store_there}
use Rattle.domino_compile.proofs.GroupsSteps.{life_is, index_value_is}
use Rattle.domino_compile.proofs.NeedsSteps.{Among, no_step, OfArray, StoredBy, Takes}
use Rattle.domino_compile.proofs.NeedsEnd.{EndFine, end_known}
use Rattle.domino_compile.proofs.NeedsShown.{writer_of, writer_in, behind_in, behind_of, operand_shows}
use Rattle.domino_compile.proofs.NeedsNodes as code

some_same : {X : Type 0} {x y : X} → Some x ≡ Some y → x ≡ y
some_same e = cc

module _ (p : Program) (g : GuardCode) (f : FlatCode) (is : IsCodeOf p g f) where
  abbrev up : ℕ → List ℕ
  up = code.up p g f is

  abbrev value : Operand → List ℕ
  value = code.value p g f is

  -- an instruction of one array uses one that shows the other
  abbrev CodeNeeds : ℕ → ℕ → Type 0
  CodeNeeds a b = (i : ℕ) × (j : ℕ) × (i < length (nodes f)) × ((node_at (nodes f) i).array ≡ Some a) × Member j (node_at (nodes f) i).uses × Member b (up j)

  abbrev Behind : ℕ → ℕ → Type 0
  Behind a b = StandsBehind b (source_copy p a)

  copy_is : (a : ℕ) (c : Copy Operand) → known p g f is a ≡ Some c → source_copy p a ≡ stood value (Some c)
  copy_is a c e = code.source_stands p g f is a ∙ ap (stood value) e

  -- ---- from the code to the source

  -- the slot of an array's instruction has that array alone behind it
  of_value : (a : ℕ) (x : Operand) (b : ℕ) → OfArray g.fields (code.all p g f is) a x → Member b (value x) → b ≡ a
  of_value a x b h m =
      let less : h.0 < length f.instrs = subst (λ n. h.0 < n) (code.many p g f is) h.1 in
      code.one_of b a (subst (Member b) (ap value h.2 ∙ (λ i. at (List ℕ) sources.ops (code.vals p g f is) (sym is.width i + h.0)) ∙ code.own_up p g f is h.0 a less h.3) m)

  written_behind : (b j : ℕ) (x : Operand) → Member j (writer f.fields x) → Member b (up j) → Member b (value x)
  written_behind b j x w m = (operand_shows f.fields (code.vals p g f is) (code.empty p g f is) x).gathers j b w m

  index_up : (a : ℕ) (c : Copy Operand) → known p g f is a ≡ Some c → up (index_slot f.instrs 0 a) ≡ value c.index
  index_up a c e =
      let here : IndexAt f.instrs a = index_there f.instrs a (Loads ∷ Stores ∷ []) (life_is p g f is a c e) in
      let same : f.fields + index_slot f.instrs 0 a ≡ index_slot f.instrs f.fields a = omega (arith, here.slot_is 0, here.slot_is f.fields) in
      ap (at (List ℕ) sources.ops (code.vals p g f is)) same ∙ index_value_is p g f is (List ℕ) sources (no_sources p) (code.long p g f is) a c e

  index_behind : (a b j : ℕ) (c : Copy Operand) → known p g f is a ≡ Some c → j ≡ index_slot f.instrs 0 a → Member b (up j) → Behind a b
  index_behind a b j c e same m = subst (StandsBehind b) (sym (copy_is a c e)) (inl (subst (Member b) (ap up same ∙ index_up a c e) m))

  under_behind : (a b : ℕ) (c : Copy Operand) (y : Operand) → known p g f is a ≡ Some c → Among y c.under → Member b (value y) → Behind a b
  under_behind a b c y e among m = subst (StandsBehind b) (sym (copy_is a c e)) (inr (inl (behind_in value b y c.under among m)))

  stored_behind : (a b : ℕ) (c : Copy Operand) (y : Operand) → known p g f is a ≡ Some c → Among y c.stored → Member b (value y) → Behind a b
  stored_behind a b c y e among m = subst (StandsBehind b) (sym (copy_is a c e)) (inr (inr (behind_in value b y c.stored among m)))

  abbrev Found : ℕ → ℕ → Type 0
  Found a b = (b ≡ a) ⊎ Behind a b

  store_found : (a b j : ℕ) (x : Operand) (c : Copy Operand) → known p g f is a ≡ Some c → x ≡ c.latest → Member j (writers f.fields (x ∷ guards_of f.arrays a)) → Member b (up j) → Found a b
  store_found a b j x c e latest u m =
      let w = writer_of f.fields j (x ∷ guards_of f.arrays a) u in
      let h : Member b (value w.0) = written_behind b j w.0 w.2 m in
      elim w.1 [
        | inl same ↦ inl (of_value a c.latest b (end_known p g f is a c e).latest (subst (λ y. Member b (value y)) (same ∙ latest) h))
        | inr guard ↦ inr (under_behind a b c w.0 e (subst (Among w.0) (guards_are p g f is a ∙ ap under_of e) guard) h)
      ]

  move_found : (a b j : ℕ) (v : Operand) (c : Copy Operand) → known p g f is a ≡ Some c → Among v c.stored → Member j (writers f.fields (v ∷ [])) → Member b (up j) → Found a b
  move_found a b j v c e stored u m =
      let w = writer_of f.fields j (v ∷ []) u in
      let h : Member b (value w.0) = written_behind b j w.0 w.2 m in
      elim w.1 [
        | inl same ↦ inr (stored_behind a b c v e stored (subst (λ y. Member b (value y)) same h))
        | inr none ↦ elim none [ ]
      ]

  pick_found : (a b j : ℕ) (x v old : Operand) (c : Copy Operand) → known p g f is a ≡ Some c → Among x c.under → Among v c.stored → OfArray g.fields (code.all p g f is) a old
      → Member j (writers f.fields (x ∷ v ∷ old ∷ [])) → Member b (up j) → Found a b
  pick_found a b j x v old c e under stored of u m =
      let w = writer_of f.fields j (x ∷ v ∷ old ∷ []) u in
      let h : Member b (value w.0) = written_behind b j w.0 w.2 m in
      elim w.1 [
        | inl same ↦ inr (under_behind a b c x e under (subst (λ y. Member b (value y)) same h))
        | inr rest ↦ elim rest [
          | inl same ↦ inr (stored_behind a b c v e stored (subst (λ y. Member b (value y)) same h))
          | inr more ↦ elim more [
            | inl same ↦ inl (of_value a old b of (subst (λ y. Member b (value y)) same h))
            | inr none ↦ elim none [ ]
          ]
        ]
      ]

  step_found : (o : Option ℕ) (i : Instr) (a b j : ℕ) → EndFine g.fields (code.all p g f is) (code.copies p g f is) o i → owner i o ≡ Some a → Member j (used_by f.fields f.arrays f.instrs i) → Member b (up j) → Found a b
  step_found None (instr.Load n) a b j h e (inl same) m = subst (λ k. Found k b) (some_same e) (inr (index_behind n b j h.0 h.1 same m))
  step_found None (instr.Load n) a b j h e (inr none) m = elim none [ ]
  step_found None (instr.Store n x) a b j h e (inl same) m = subst (λ k. Found k b) (some_same e) (inr (index_behind n b j h.0 h.1 same m))
  step_found None (instr.Store n x) a b j h e (inr u) m = subst (λ k. Found k b) (some_same e) (store_found n b j x h.0 h.1 h.2 u m)
  step_found None (instr.Move v) a b j h e u m = absurd cc
  step_found None (instr.Pick c v old) a b j h e u m = absurd cc
  step_found None (instr.One op y) a b j h e u m = absurd cc
  step_found None (instr.Two op y z) a b j h e u m = absurd cc
  step_found None (instr.Hash kind y z w) a b j h e u m = absurd cc
  step_found None (instr.Yes c y) a b j h e u m = absurd cc
  step_found None (instr.No c y) a b j h e u m = absurd cc
  step_found None (instr.Index n y) a b j h e u m = absurd cc
  step_found (Some n) (instr.Move v) a b j h e u m = subst (λ k. Found k b) (some_same e) (move_found n b j v h.0 h.1 h.2 u m)
  step_found (Some n) (instr.Pick x v old) a b j h e u m = subst (λ k. Found k b) (some_same e) (pick_found n b j x v old h.0 h.1 h.2.0 h.2.1.0 h.2.1.1 u m)
  step_found (Some n) (instr.Load c) a b j h e u m = elim h.2 [ ]
  step_found (Some n) (instr.Store c x) a b j h e u m = elim h.2 [ ]
  step_found (Some n) (instr.One op y) a b j h e u m = elim h.2 [ ]
  step_found (Some n) (instr.Two op y z) a b j h e u m = elim h.2 [ ]
  step_found (Some n) (instr.Hash kind y z w) a b j h e u m = elim h.2 [ ]
  step_found (Some n) (instr.Yes c y) a b j h e u m = elim h.2 [ ]
  step_found (Some n) (instr.No c y) a b j h e u m = elim h.2 [ ]
  step_found (Some n) (instr.Index c y) a b j h e u m = elim h.2 [ ]

  needs_source : (a b : ℕ) → CodeNeeds a b → Found a b
  needs_source a b n =
      let within : n.0 < length f.instrs = code.inside p g f is n.0 n.2 in
      step_found (get_or (code.all p g f is) n.0 no_step).copy (get_or (code.all p g f is) n.0 no_step).instr a b n.1 (code.fine p g f is n.0 within) (code.owner_is p g f is n.0 (Some a) within n.3)
      (subst (Member n.1) (ap (λ (x : Node). x.uses) (code.node_is p g f is n.0 within)) n.4) n.5

  -- ---- from the source to the code

  writer_behind : (b : ℕ) (y : Operand) → Member b (value y) → (j : ℕ) × Member j (writer f.fields y) × Member b (up j)
  writer_behind b y m = (operand_shows f.fields (code.vals p g f is) (code.empty p g f is) y).gathered b m

  index_needed : (a b : ℕ) (c : Copy Operand) → known p g f is a ≡ Some c → Member b (value c.index) → CodeNeeds a b
  index_needed a b c e m =
      let l = load_there f.instrs a (life_is p g f is a c e) in
      let n = code.node_of_instr p g f is l.0 (instr.Load a) l.1 l.2 in
      (l.0, index_slot f.instrs 0 a, code.node_inside p g f is l.0 l.1, n.0, subst (Member (index_slot f.instrs 0 a)) (sym n.1) (inl refl), subst (Member b) (sym (index_up a c e)) m)

  under_needed : (a b : ℕ) (c : Copy Operand) → known p g f is a ≡ Some c → Member b (all_sources (map value c.under)) → CodeNeeds a b
  under_needed a b c e m =
      let y = behind_of value b c.under m in
      let w = writer_behind b y.0 y.2 in
      let s = store_there f.instrs a (life_is p g f is a c e) in
      let n = code.node_of_instr p g f is s.0 (instr.Store a s.2.0) s.1 s.2.1 in
      let guard : Among y.0 (guards_of f.arrays a) = subst (Among y.0) (sym (guards_are p g f is a ∙ ap under_of e)) y.1 in
      let used : Member w.0 (used_by f.fields f.arrays f.instrs (instr.Store a s.2.0)) = inr (writer_in f.fields w.0 y.0 (s.2.0 ∷ guards_of f.arrays a) (inr guard) w.1) in
      (s.0, w.0, code.node_inside p g f is s.0 s.1, n.0, subst (Member w.0) (sym n.1) used, w.2)

  -- an instruction that makes a copy of an operand uses what writes it
  takes_uses : (i : Instr) (y : Operand) (j : ℕ) → Takes g.fields i y → Member j (writer f.fields y) → Member j (used_by f.fields f.arrays f.instrs i)
  takes_uses (instr.Move v) y j t w = writer_in f.fields j y (v ∷ []) (inl t) w
  takes_uses (instr.Pick c v old) y j t w = writer_in f.fields j y (c ∷ v ∷ old ∷ []) (inr (inl t)) w
  takes_uses (instr.Load n) y j t w = elim t [ ]
  takes_uses (instr.Store n x) y j t w = elim t [ ]
  takes_uses (instr.One op x) y j t w = elim t [ ]
  takes_uses (instr.Two op x z) y j t w = elim t [ ]
  takes_uses (instr.Hash kind x z u) y j t w = elim t [ ]
  takes_uses (instr.Yes c x) y j t w = elim t [ ]
  takes_uses (instr.No c x) y j t w = elim t [ ]
  takes_uses (instr.Index n x) y j t w = elim t [ ]

  takes_owner : (i : Instr) (y : Operand) (o : Option ℕ) → Takes g.fields i y → owner i o ≡ o
  takes_owner (instr.Move v) y o t = refl
  takes_owner (instr.Pick c v old) y o t = refl
  takes_owner (instr.Load n) y o t = elim t [ ]
  takes_owner (instr.Store n x) y o t = elim t [ ]
  takes_owner (instr.One op x) y o t = elim t [ ]
  takes_owner (instr.Two op x z) y o t = elim t [ ]
  takes_owner (instr.Hash kind x z u) y o t = elim t [ ]
  takes_owner (instr.Yes c x) y o t = elim t [ ]
  takes_owner (instr.No c x) y o t = elim t [ ]
  takes_owner (instr.Index n x) y o t = elim t [ ]

  stored_needed : (a b : ℕ) (c : Copy Operand) → known p g f is a ≡ Some c → Member b (all_sources (map value c.stored)) → CodeNeeds a b
  stored_needed a b c e m =
      let y = behind_of value b c.stored m in
      let w = writer_behind b y.0 y.2 in
      let s : StoredBy g.fields (code.all p g f is) a y.0 = (end_known p g f is a c e).stored y.0 y.1 in
      let within : s.0 < length f.instrs = subst (λ n. s.0 < n) (code.many p g f is) s.1 in
      let x : Step = get_or (code.all p g f is) s.0 no_step in
      let n = code.node_is p g f is s.0 within in (
        s.0,
        w.0,
        code.node_inside p g f is s.0 within,
        ap (λ (z : Node). z.array) n ∙ takes_owner x.instr y.0 x.copy s.3 ∙ s.2,
        subst (Member w.0) (sym (ap (λ (z : Node). z.uses) n)) (takes_uses x.instr y.0 w.0 s.3 w.1),
        w.2,
      )

  source_needs : (a b : ℕ) → source_groups.Needs p a b → CodeNeeds a b
  source_needs a b n = by_copy (known p g f is a) refl where
    by_copy : (o : Option (Copy Operand)) → known p g f is a ≡ o → CodeNeeds a b
    by_copy None e = elim (subst (StandsBehind b) (code.source_stands p g f is a ∙ ap (stood value) e) n) [ ]
    by_copy (Some c) e = elim (subst (StandsBehind b) (copy_is a c e) n) [
      | inl index ↦ index_needed a b c e index
      | inr rest ↦ elim rest [ inl under ↦ under_needed a b c e under | inr stored ↦ stored_needed a b c e stored ]
    ]

  -- ---- reaching

  abbrev shows : ℕ → ℕ → Type 0
  shows i a = Member a (up i)

  within : (i j : ℕ) → i < length (nodes f) → Member j (node_at (nodes f) i).uses → j < length (nodes f)
  within i j less m = (ordered f.fields f.arrays f.instrs f.last f.valid).there i j less m

  earlier : (i j : ℕ) → i < length (nodes f) → (node_at (nodes f) i).array ≡ None → Member j (node_at (nodes f) i).uses → j < i
  earlier i j less e m = (ordered f.fields f.arrays f.instrs f.last f.valid).earlier i j less e m

  to_source : {a b : ℕ} → Reaches CodeNeeds a b → Reaches (source_groups.Needs p) a b
  to_source (here {a = a}) = here
  to_source (step {a = a} {b = b} {c = c} n rest) = add (needs_source a b n) (to_source rest) where
    add : Found a b → Reaches (source_groups.Needs p) b c → Reaches (source_groups.Needs p) a c
    add (inl same) r = subst (λ k. Reaches (source_groups.Needs p) k c) same r
    add (inr behind) r = step behind r

  to_code : {a b : ℕ} → Reaches (source_groups.Needs p) a b → Reaches CodeNeeds a b
  to_code (here {a = a}) = here
  to_code (step {a = a} {b = b} {c = c} n rest) = step (source_needs a b n) (to_code rest)

  -- what an array reaches on the code the source needs
  pub reaches_needed : (a b : ℕ) → layouts.ArrayReaches (nodes f) a b → Reaches (source_groups.Needs p) a b
  reaches_needed a b r =
      to_source (use_lemmas.arrays_reach (nodes f) shows (code.owned p g f is) (code.own p g f is) (code.gathered p g f is) (code.gathers p g f is) earlier within
      r.0 r.3.0 a b r.1 r.3.1 r.2 r.3.2 r.3.3)

  -- and what the source needs a touched array reaches
  pub needed_reaches : (a b : ℕ) → layouts.IsTouched (nodes f) a → layouts.IsTouched (nodes f) b → Reaches (source_groups.Needs p) a b → layouts.ArrayReaches (nodes f) a b
  needed_reaches a b s t r = (
    s.0,
    s.1,
    s.2,
    (
      t.0,
      t.1,
      t.2,
      use_lemmas.arrays_reached (nodes f) shows (code.owned p g f is) (code.own p g f is) (code.gathered p g f is) (code.gathers p g f is) earlier within
          (to_code r) s.0 t.0 s.1 t.1 s.2 t.2,
    ),
  )

  -- an array that needs another is touched, and so is the other
  pub needs_touched : (a b : ℕ) → source_groups.Needs p a b → layouts.IsTouched (nodes f) a × layouts.IsTouched (nodes f) b
  needs_touched a b need =
      let n = source_needs a b need in
      let t = use_lemmas.shown_reached (nodes f) shows (code.owned p g f is) (code.own p g f is) (code.gathered p g f is) (code.gathers p g f is) earlier within
      n.1 b (within n.0 n.1 n.2 n.4) n.5 in
      ((n.0, n.2, n.3), (t.0, t.1, t.2))
