-- The value of each instruction of flat code, and what a touched array's Index holds.
use Rattle.std.proofs.Common.{◌≡◌, ℕ, zero, suc, ◌+◌, ◌<◌, true, false, List, [], ◌∷◌, length, get_or, Option, None, Some, refl, sym, ap, subst, ◌∙◌, arith}
use Rattle.mp5_words.specs.Domain.{Domain}
use Rattle.mp5_words.specs.Copies.{Copy, at}
use Rattle.domino_tree.specs.declared.program.Program.{Program}
use Rattle.code_forms.specs.declared.guard.GuardCode.{GuardCode}
use Rattle.code_forms.specs.declared.flat.FlatCode.{FlatCode}
use Rattle.code_forms.specs.declared.flat.Operand.{Operand}
use Rattle.code_forms.specs.declared.flat.Instr.{Instr}
use Rattle.code_forms.specs.declared.flat.Instr.TheVariants as instr
use Rattle.code_forms.specs.FlatMeaning.{Step, plain_step, Slots, instr_value, step_value, copy_in, run_from, index_slot, index_operand, steps_of}
use Rattle.code_forms.specs.FlatValid.{Indexes, Loads, Stores, events, is_life, is_some, makes_copy, instr_at}
use Rattle.code_forms.proofs.FlatLemmas.{AllHold, InOrder, runs_hold}
use Rattle.ssa_flatten.specs.Flattening.{flat_steps, flat_instrs}
use Rattle.ssa_flatten.specs.Flattened.{under_of}
use Rattle.ssa_flatten.proofs.Meaning as meaning
use Rattle.ssa_flatten.proofs.Outcome.{steps_back}
use Rattle.ssa_flatten.proofs.Sound.{CopySound, slots}
use Rattle.ssa_flatten.proofs.Whole as whole
use Rattle.flat_graph.specs.Orders.{copies_in}
use Rattle.domino_compile.specs.GroupsCode.{IsCodeOf}
use Rattle.domino_compile.proofs.GroupsStand.{known, env, value}
use Rattle.domino_compile.proofs.GroupsIndex.{whole_life, IndexAt, index_there}
use Rattle.domino_compile.proofs.GroupsOwners.{copy_makes, step_there, steps_long}

-- one of the steps that hold
pub holds_at : (V : Type 0) (d : Domain V) (slots : Slots) (env : List V) (k : ℕ) (steps : List Step) (i : ℕ) (none : Step) → i < length steps → AllHold V d slots env k steps → at V d.ops env (k + i) ≡ step_value V d slots env (get_or steps i none)
holds_at V d slots env k [] i none less held = absurd (omega arith)
holds_at V d slots env k (s ∷ steps) zero none less held = ap (at V d.ops env) (omega arith) ∙ held.0
holds_at V d slots env k (s ∷ steps) (suc i) none less held = ap (at V d.ops env) (omega arith) ∙ holds_at V d slots env (suc k) steps i none (omega (arith, less)) held.2

module _ (p : Program) (g : GuardCode) (f : FlatCode) (is : IsCodeOf p g f) where
  -- the steps of the code
  abbrev pub steps : List Step
  steps = flat_steps g.fields g.arrays g.lines

  pub steps_are : steps_of f.arrays f.instrs ≡ steps
  steps_are =
      ap (steps_of f.arrays) is.instrs
      ∙ steps_back g.fields g.arrays g.lines (meaning.there g.fields g.arrays g.lines g.valid f.arrays is.flat_arrays) f.arrays is.flat_arrays.copies

  in_order : InOrder (index_slot f.instrs f.fields) f.fields steps
  in_order =
      subst (λ n. InOrder (index_slot f.instrs n) n steps) (sym is.width)
      (subst (λ l. InOrder (index_slot l g.fields) g.fields steps) (sym is.instrs)
      (meaning.order g.fields g.arrays g.lines g.valid f.arrays is.flat_arrays))

  -- a touched array has guards under which it is touched
  pub some_guards : (a : ℕ) (c : Copy Operand) → known p g f is a ≡ Some c → is_some (under_of (known p g f is a)) ≡ true
  some_guards a c e =
      let h = subst (CopySound g.fields (length g.arrays) (slots g.fields (length g.arrays) (whole.front g.fields g.arrays g.lines g.valid)) (events a (whole.front g.fields g.arrays g.lines g.valid)) (index_operand (whole.front g.fields g.arrays g.lines g.valid) a)) e ((whole.sound g.fields g.arrays g.lines g.valid).copies a) in
      ap (λ o. is_some (under_of o)) e ∙ h.2

  -- a touched array is indexed, loaded and stored
  pub life_is : (a : ℕ) (c : Copy Operand) → known p g f is a ≡ Some c → events a f.instrs ≡ Indexes ∷ Loads ∷ Stores ∷ []
  life_is a c e =
      ap (events a) is.instrs
      ∙ whole_life _ (sym (ap (λ b. is_life b (events a (flat_instrs g.fields g.arrays g.lines))) (some_guards a c e)) ∙ whole.life g.fields g.arrays g.lines g.valid a)

  module _ (V : Type 0) (d : Domain V) (header : List V) (long : length header ≡ length p.packet.fields) where
    abbrev pub values : List V
    values = env p g f is V d header long

    all_hold : AllHold V d (index_slot f.instrs f.fields) values f.fields steps
    all_hold =
        subst (λ l. AllHold V d (index_slot f.instrs f.fields) (run_from V d (index_slot f.instrs f.fields) l header) f.fields steps) (sym steps_are)
        (runs_hold V d (index_slot f.instrs f.fields) steps header f.fields (long ∙ sym is.fields ∙ sym is.width) in_order)

    pub value_at : (i : ℕ) (none : Step) → i < length steps → at V d.ops values (f.fields + i) ≡ step_value V d (index_slot f.instrs f.fields) values (get_or steps i none)
    value_at i none less = holds_at V d (index_slot f.instrs f.fields) values f.fields steps i none less all_hold

    -- the slot of a touched array's Index holds its place
    pub index_value_is : (a : ℕ) (k : Copy Operand) → known p g f is a ≡ Some k → at V d.ops values (index_slot f.instrs f.fields a) ≡ d.index a (value p g f is V d header long k.index)
    index_value_is a k e =
        let here : IndexAt f.instrs a = index_there f.instrs a (Loads ∷ Stores ∷ []) (life_is a k e) in
        let there : here.place < length steps = omega (arith, here.there, ap length (sym steps_are), steps_long f.arrays f.instrs) in
        let operand_is : index_operand f.instrs a ≡ k.index = ap (λ l. index_operand l a) is.instrs ∙ meaning.index_is g.fields g.arrays g.lines g.valid f.arrays is.flat_arrays a k e in
        ap (at V d.ops values) (here.slot_is f.fields)
        ∙ value_at here.place (plain_step (instr.Load 0)) there
        ∙ ap (step_value V d (index_slot f.instrs f.fields) values) (sym (ap (λ l. get_or l here.place (plain_step (instr.Load 0))) steps_are) ∙ step_there f.arrays f.instrs here.place (plain_step (instr.Load 0)) here.there)
        ∙ index_step a (copy_in (copies_in f.arrays) 0 here.place) (instr_at f.instrs here.place) k.index (copy_makes f.fields f.arrays f.instrs f.last f.valid here.place)
        (here.instr_is ∙ ap (instr.Index a) operand_is) where
          index_step : (a : ℕ) (o : Option ℕ) (i : Instr) (x : Operand) → ((b : ℕ) → o ≡ Some b → makes_copy i ≡ true) → i ≡ instr.Index a x
              → step_value V d (index_slot f.instrs f.fields) values (record { instr = i; copy = o }) ≡ d.index a (value p g f is V d header long x)
          index_step a None i x makes same = ap (instr_value V d (index_slot f.instrs f.fields) values) same
          index_step a (Some b) i x makes same = absurd (no_way (sym (ap makes_copy same) ∙ makes b refl)) where
            no_way : false ≡ true → ⊥
            no_way e = cc
