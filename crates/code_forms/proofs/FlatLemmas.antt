-- The values of slots, as equations that hold at the end.
use Rattle.std.proofs.Common.{◌≡◌, ℕ, suc, ◌+◌, ◌<◌, pos, List, [], ◌∷◌, ◌++◌, length, map, refl, sym, ap, subst, ◌∙◌, append_assoc, append-nil, length-append, arith}
use Rattle.std.proofs.lemmas.List.{get_or_append_left}
use Rattle.std.proofs.Math.Seq.{get_or-append_seam}
use Rattle.code_forms.specs.declared.flat.Operand.{Operand}
use Rattle.code_forms.specs.declared.flat.Operand.TheVariants as operand
use Rattle.code_forms.specs.declared.flat.Instr.{Instr}
use Rattle.code_forms.specs.declared.flat.Instr.TheVariants as instr
use Rattle.mp5_words.specs.Domain.{Domain}
use Rattle.mp5_words.specs.Copies.{at}
use Rattle.code_forms.specs.FlatMeaning.{Step, plain_step, Slots, operand_value, instr_value, covered, step_value, run_from}

-- an Index stands where its array's index is looked for
abbrev pub Placed : Slots → ℕ → Instr → Type 0
Placed slots at (instr.Index array a) = slots array ≡ at
Placed slots at (instr.One op a) = Unit {0}
Placed slots at (instr.Two op a b) = Unit {0}
Placed slots at (instr.Pick c a b) = Unit {0}
Placed slots at (instr.Hash kind a b c) = Unit {0}
Placed slots at (instr.Move a) = Unit {0}
Placed slots at (instr.Yes guard c) = Unit {0}
Placed slots at (instr.No guard c) = Unit {0}
Placed slots at (instr.Load array) = Unit {0}
Placed slots at (instr.Store array a) = Unit {0}

-- an operand is a number or a slot below
abbrev pub Below : ℕ → Operand → Type 0
Below n (operand.Slot k) = k < n
Below n (operand.Number z) = Unit {0}

-- what an instruction uses is below a slot
abbrev pub UsesBelow : Slots → ℕ → Instr → Type 0
UsesBelow slots n (instr.One op a) = Below n a
UsesBelow slots n (instr.Two op a b) = Below n a × Below n b
UsesBelow slots n (instr.Pick c a b) = Below n c × Below n a × Below n b
UsesBelow slots n (instr.Hash kind a b c) = Below n a × Below n b × Below n c
UsesBelow slots n (instr.Move a) = Below n a
UsesBelow slots n (instr.Yes guard c) = Below n guard × Below n c
UsesBelow slots n (instr.No guard c) = Below n guard × Below n c
UsesBelow slots n (instr.Index array a) = Below n a
UsesBelow slots n (instr.Load array) = slots array < n
UsesBelow slots n (instr.Store array a) = Below n a

abbrev pub InOrder : Slots → ℕ → List Step → Type 0
InOrder slots at [] = Unit {0}
InOrder slots at (s ∷ steps) = UsesBelow slots at s.instr × Placed slots at s.instr × InOrder slots (suc at) steps

module _ (V : Type 0) (d : Domain V) (slots : Slots) where
  -- each of these instructions, from a slot on, writes what the values of all slots say
  abbrev pub Holds : List V → ℕ → List Instr → Type 0
  Holds env k [] = Unit {0}
  Holds env k (i ∷ instrs) = (at V d.ops env k ≡ instr_value V d slots env i) × Placed slots k i × Holds env (suc k) instrs

  pub front : (env : List V) (k : ℕ) (xs ys : List Instr) → Holds env k (xs ++ ys) → Holds env k xs
  front env k [] ys held = tt
  front env k (x ∷ xs) ys held = (held.0, held.1, front env (suc k) xs ys held.2)

  pub back : (env : List V) (k next : ℕ) (xs ys : List Instr) → next ≡ k + length xs → Holds env k (xs ++ ys) → Holds env next ys
  back env k next [] ys e held = subst (λ n. Holds env n ys) (omega (arith, e)) held
  back env k next (x ∷ xs) ys e held = back env (suc k) next xs ys (omega (arith, e)) held.2

  -- each of these steps does
  abbrev pub AllHold : List V → ℕ → List Step → Type 0
  AllHold env k [] = Unit {0}
  AllHold env k (s ∷ steps) = (at V d.ops env k ≡ step_value V d slots env s) × Placed slots k s.instr × AllHold env (suc k) steps

  pub steps_front : (env : List V) (k : ℕ) (xs ys : List Step) → AllHold env k (xs ++ ys) → AllHold env k xs
  steps_front env k [] ys held = tt
  steps_front env k (x ∷ xs) ys held = (held.0, held.1, steps_front env (suc k) xs ys held.2)

  pub steps_back : (env : List V) (k next : ℕ) (xs ys : List Step) → next ≡ k + length xs → AllHold env k (xs ++ ys) → AllHold env next ys
  steps_back env k next [] ys e held = subst (λ n. AllHold env n ys) (omega (arith, e)) held
  steps_back env k next (x ∷ xs) ys e held = steps_back env (suc k) next xs ys (omega (arith, e)) held.2

  -- steps that make no later copy, and what stands behind them
  pub plain_front : (env : List V) (k : ℕ) (xs : List Instr) (ys : List Step) → AllHold env k (map plain_step xs ++ ys) → Holds env k xs
  plain_front env k [] ys held = tt
  plain_front env k (x ∷ xs) ys held = (held.0, held.1, plain_front env (suc k) xs ys held.2)

  pub plain_back : (env : List V) (k next : ℕ) (xs : List Instr) (ys : List Step) → next ≡ k + length xs → AllHold env k (map plain_step xs ++ ys) → AllHold env next ys
  plain_back env k next [] ys e held = subst (λ n. AllHold env n ys) (omega (arith, e)) held
  plain_back env k next (x ∷ xs) ys e held = plain_back env (suc k) next xs ys (omega (arith, e)) held.2

  -- ---- values don't change behind

  pub prefix : (steps : List Step) (env : List V) → (more : List V) × (run_from V d slots steps env ≡ env ++ more)
  prefix [] env = ([], sym (append-nil env))
  prefix (s ∷ steps) env =
      let rest = prefix steps (env ++ step_value V d slots env s ∷ []) in
      (step_value V d slots env s ∷ rest.0, rest.1 ∙ append_assoc env (step_value V d slots env s ∷ []) rest.0)

  pub operand_same : (env more : List V) (x : Operand) → Below (length env) x → operand_value V d (env ++ more) x ≡ operand_value V d env x
  operand_same env more (operand.Slot k) below = get_or_append_left env more (d.ops.number (pos 0)) k below
  operand_same env more (operand.Number z) below = refl

  pub value_same : (env more : List V) (i : Instr) → UsesBelow slots (length env) i → instr_value V d slots (env ++ more) i ≡ instr_value V d slots env i
  value_same env more (instr.One op a) u = ap (d.ops.one op) (operand_same env more a u)
  value_same env more (instr.Two op a b) u = λ i. d.ops.two op (operand_same env more a u.0 i) (operand_same env more b u.1 i)
  value_same env more (instr.Pick c a b) u = λ i. d.ops.pick (operand_same env more c u.0 i) (operand_same env more a u.1 i) (operand_same env more b u.2 i)
  value_same env more (instr.Hash kind a b c) u = λ i. d.ops.hash kind (operand_same env more a u.0 i) (operand_same env more b u.1 i) (operand_same env more c u.2 i)
  value_same env more (instr.Move a) u = operand_same env more a u
  value_same env more (instr.Yes guard c) u = λ i. d.yes (operand_same env more guard u.0 i) (operand_same env more c u.1 i)
  value_same env more (instr.No guard c) u = λ i. d.no (operand_same env more guard u.0 i) (operand_same env more c u.1 i)
  value_same env more (instr.Index array a) u = ap (d.index array) (operand_same env more a u)
  value_same env more (instr.Load array) u = ap (d.load array) (get_or_append_left env more (d.ops.number (pos 0)) (slots array) u)
  value_same env more (instr.Store array a) u = ap (d.cover array) (operand_same env more a u)

  -- the values that the steps give, one after another, are such that all of them hold
  pub runs_hold : (steps : List Step) (env : List V) (k : ℕ) → length env ≡ k → InOrder slots k steps → AllHold (run_from V d slots steps env) k steps
  runs_hold [] env k long order = tt
  runs_hold (s ∷ steps) env k long order =
      let v : V = step_value V d slots env s in
      let next : List V = env ++ v ∷ [] in
      let rest = prefix steps next in
      let whole : run_from V d slots steps next ≡ env ++ (v ∷ rest.0) = rest.1 ∙ append_assoc env (v ∷ []) rest.0 in (
        ap (λ e. at V d.ops e k) whole
            ∙ subst (λ n. at V d.ops (env ++ (v ∷ rest.0)) n ≡ v) long (get_or-append_seam env v rest.0 (d.ops.number (pos 0)))
            ∙ ap (covered V d s.copy) (sym (value_same env (v ∷ rest.0) s.instr (subst (λ n. UsesBelow slots n s.instr) (sym long) order.0)))
            ∙ ap (λ e. step_value V d slots e s) (sym whole),
        order.1,
        runs_hold steps next (suc k) (omega (arith, long, length-append env (v ∷ []))) order.2,
      )
