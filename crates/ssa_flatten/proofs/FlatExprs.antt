-- The instructions of an expression give its value, wherever each of them holds.
use Rattle.std.proofs.Common.{◌≡◌, ℕ, suc, ◌+◌, ℤ, pos, List, [], ◌∷◌, ◌++◌, length, map, get_or, None, refl, sym, ap, subst, ◌∙◌, length-append, arith}
use Rattle.std.proofs.Math.ListN.{get_or-map}
use Rattle.mp5_words.specs.declared.op.Op1.{Op1}
use Rattle.mp5_words.specs.declared.op.Op2.{Op2}
use Rattle.mp5_words.specs.declared.hashing.HashKind.{HashKind}
use Rattle.code_forms.proofs.EachLemmas.{Each}
use Rattle.code_forms.specs.declared.guard.GuardExpr.{GuardExpr, fold-roll-GuardExpr}
use Rattle.code_forms.specs.declared.guard.GuardExpr.TheOpen as G
use Rattle.code_forms.specs.declared.guard.GuardExpr.TheVariants as g
use Rattle.code_forms.specs.declared.flat.Operand.{Operand}
use Rattle.code_forms.specs.declared.flat.Operand.TheVariants as operand
use Rattle.code_forms.specs.declared.flat.Instr.{Instr}
use Rattle.code_forms.specs.declared.flat.Instr.TheVariants as instr
use Rattle.mp5_words.specs.Domain.{Domain}
use Rattle.mp5_words.specs.Copies.{Seen, at, hash_of}
use Rattle.code_forms.specs.GuardMeaning.{guard_value}
use Rattle.code_forms.specs.FlatMeaning.{Slots, operand_value, instr_value}
use Rattle.code_forms.proofs.GuardTrees as guarded
use Rattle.code_forms.proofs.FlatLemmas.{Holds, front, back}
use Rattle.ssa_flatten.specs.Flattening.{Latest, Code, Codes, Emits, in_turn, operand_at, copy_operand, flattening, flat}

-- ---- the instructions at each form

at_form : (latest : Latest) (at : ℕ) (x : GuardExpr) (y : G.GuardExpr-F Emits) → flat x ≡ flattening y → flat x latest at ≡ flattening y latest at
at_form latest at x y e = ap (λ (em : Emits). em latest at) e

pub flat-Number : (n : ℤ) → flat (g.Number n) ≡ flattening (G.GuardExpr-F.Number n)
flat-Number n = ap flat (sym (g.rolls-Number n)) ∙ fold-roll-GuardExpr Emits flattening (G.GuardExpr-F.Number n)

pub flat-Field : (f : ℕ) → flat (g.Field f) ≡ flattening (G.GuardExpr-F.Field f)
flat-Field f = ap flat (sym (g.rolls-Field f)) ∙ fold-roll-GuardExpr Emits flattening (G.GuardExpr-F.Field f)

pub flat-Cell : (a : ℕ) → flat (g.Cell a) ≡ flattening (G.GuardExpr-F.Cell a)
flat-Cell a = ap flat (sym (g.rolls-Cell a)) ∙ fold-roll-GuardExpr Emits flattening (G.GuardExpr-F.Cell a)

pub flat-One : (op : Op1) (a : GuardExpr) → flat (g.One op a) ≡ flattening (G.GuardExpr-F.One op (flat a))
flat-One op a = ap flat (sym (g.rolls-One op a)) ∙ fold-roll-GuardExpr Emits flattening (G.GuardExpr-F.One op a)

pub flat-Two : (op : Op2) (a b : GuardExpr) → flat (g.Two op a b) ≡ flattening (G.GuardExpr-F.Two op (flat a) (flat b))
flat-Two op a b = ap flat (sym (g.rolls-Two op a b)) ∙ fold-roll-GuardExpr Emits flattening (G.GuardExpr-F.Two op a b)

pub flat-Pick : (c a b : GuardExpr) → flat (g.Pick c a b) ≡ flattening (G.GuardExpr-F.Pick (flat c) (flat a) (flat b))
flat-Pick c a b = ap flat (sym (g.rolls-Pick c a b)) ∙ fold-roll-GuardExpr Emits flattening (G.GuardExpr-F.Pick c a b)

pub flat-Hash : (kind : HashKind) (args : List GuardExpr) → flat (g.Hash kind args) ≡ flattening (G.GuardExpr-F.Hash kind (map flat args))
flat-Hash kind args = ap flat (sym (g.rolls-Hash kind args)) ∙ fold-roll-GuardExpr Emits flattening (G.GuardExpr-F.Hash kind args)

-- ---- their meaning

module _ (V : Type 0) (d : Domain V) (slots : Slots) where
  -- what the latest operands stand for
  abbrev pub seen : List V → Latest → Seen V
  seen env latest = record { fields = map (operand_value V d env) latest.fields; array = λ a. operand_value V d env (copy_operand (get_or latest.copies a None)) }

  -- the code ends where it says, and gives this value wherever each instruction holds
  pub record Gives (latest : Latest) (base : ℕ) (code : Code) (value : Seen V → V) : Type 0 where
    pub ends : code.next ≡ base + length code.instrs
    pub gives : (env : List V) → Holds V d slots env base code.instrs → operand_value V d env code.result ≡ value (seen env latest)

  abbrev pub AllGive : Emits → (Seen V → V) → Type 0
  AllGive emits value = (latest : Latest) (base : ℕ) → Gives latest base (emits latest base) value

  -- the word of one more instruction
  last_holds : (env : List V) (base next : ℕ) (xs : List Instr) (i : Instr) → next ≡ base + length xs → Holds V d slots env base (xs ++ i ∷ []) → at V d.ops env next ≡ instr_value V d slots env i
  last_holds env base next xs i ends held = (back V d slots env base next xs (i ∷ []) ends held).0

  ended : (base next : ℕ) (xs : List Instr) (i : Instr) → next ≡ base + length xs → suc next ≡ base + length (xs ++ i ∷ [])
  ended base next xs i ends = omega (arith, ends, length-append xs (i ∷ []))

  joined : (base middle next : ℕ) (xs ys : List Instr) → middle ≡ base + length xs → next ≡ middle + length ys → next ≡ base + length (xs ++ ys)
  joined base middle next xs ys one two = omega (arith, one, two, length-append xs ys)

  one_gives : (op : Op1) (a : Emits) (x : Seen V → V) → AllGive a x → AllGive (flattening (G.GuardExpr-F.One op a)) (λ w. d.ops.one op (x w))
  one_gives op a x held latest base =
      let code : Code = a latest base in
      let part = held latest base in
      record {
        ends = ended base code.next code.instrs (instr.One op code.result) part.ends;
        gives = λ env holds.
            last_holds env base code.next code.instrs (instr.One op code.result) part.ends holds
            ∙ ap (d.ops.one op) (part.gives env (front V d slots env base code.instrs _ holds));
      }

  two_gives : (op : Op2) (a b : Emits) (x y : Seen V → V) → AllGive a x → AllGive b y → AllGive (flattening (G.GuardExpr-F.Two op a b)) (λ w. d.ops.two op (x w) (y w))
  two_gives op a b x y first second latest base =
      let left : Code = a latest base in
      let right : Code = b latest left.next in
      let one = first latest base in
      let two = second latest left.next in
      let both : right.next ≡ base + length (left.instrs ++ right.instrs) = joined base left.next right.next left.instrs right.instrs one.ends two.ends in
      record {
        ends = ended base right.next (left.instrs ++ right.instrs) (instr.Two op left.result right.result) both;
        gives = λ env holds.
            let inner = front V d slots env base (left.instrs ++ right.instrs) _ holds in
            last_holds env base right.next (left.instrs ++ right.instrs) (instr.Two op left.result right.result) both holds
            ∙ (λ i. d.ops.two op (one.gives env (front V d slots env base left.instrs right.instrs inner) i) (two.gives env (back V d slots env base left.next left.instrs right.instrs one.ends inner) i));
      }

  pick_gives : (c a b : Emits) (z x y : Seen V → V) → AllGive c z → AllGive a x → AllGive b y → AllGive (flattening (G.GuardExpr-F.Pick c a b)) (λ w. d.ops.pick (z w) (x w) (y w))
  pick_gives c a b z x y zeroth first second latest base =
      let cond : Code = c latest base in
      let left : Code = a latest cond.next in
      let right : Code = b latest left.next in
      let none = zeroth latest base in
      let one = first latest cond.next in
      let two = second latest left.next in
      let both : right.next ≡ cond.next + length (left.instrs ++ right.instrs) = joined cond.next left.next right.next left.instrs right.instrs one.ends two.ends in
      let all : right.next ≡ base + length (cond.instrs ++ (left.instrs ++ right.instrs)) = joined base cond.next right.next cond.instrs (left.instrs ++ right.instrs) none.ends both in
      record {
        ends = ended base right.next (cond.instrs ++ (left.instrs ++ right.instrs)) (instr.Pick cond.result left.result right.result) all;
        gives = λ env holds.
            let inner = front V d slots env base (cond.instrs ++ (left.instrs ++ right.instrs)) _ holds in
            let behind = back V d slots env base cond.next cond.instrs (left.instrs ++ right.instrs) none.ends inner in
            last_holds env base right.next (cond.instrs ++ (left.instrs ++ right.instrs)) (instr.Pick cond.result left.result right.result) all holds
            ∙ (λ i. d.ops.pick (none.gives env (front V d slots env base cond.instrs _ inner) i) (one.gives env (front V d slots env cond.next left.instrs right.instrs behind) i) (two.gives env (back V d slots env cond.next left.next left.instrs right.instrs one.ends behind) i));
      }

  -- arguments
  record GivesAll (latest : Latest) (base : ℕ) (codes : Codes) (values : List (Seen V → V)) : Type 0 where
    ends : codes.next ≡ base + length codes.instrs
    gives : (env : List V) → Holds V d slots env base codes.instrs → map (operand_value V d env) codes.results ≡ map (λ (v : Seen V → V). v (seen env latest)) values

  all_give : (xs : List GuardExpr) → Each (λ x. AllGive (flat x) (guard_value V d.ops x)) xs → (latest : Latest) (base : ℕ) → GivesAll latest base (in_turn (map flat xs) latest base) (map (guard_value V d.ops) xs)
  all_give [] held latest base = record { ends = omega arith; gives = λ env holds. refl }
  all_give (x ∷ xs) held latest base =
      let one : Code = flat x latest base in
      let here = held.0 latest base in
      let rest = all_give xs held.1 latest one.next in
      record {
        ends = joined base one.next (in_turn (map flat xs) latest one.next).next one.instrs (in_turn (map flat xs) latest one.next).instrs here.ends rest.ends;
        gives = λ env holds.
            let first = here.gives env (front V d slots env base one.instrs _ holds) in
            let others = rest.gives env (back V d slots env base one.next one.instrs _ here.ends holds) in
            λ i. first i ∷ others i;
      }

  argument : (env : List V) (results : List Operand) (words : List V) (k : ℕ) → map (operand_value V d env) results ≡ words → operand_value V d env (operand_at results k) ≡ at V d.ops words k
  argument env results words k are = sym (get_or-map (operand_value V d env) results k (operand.Number (pos 0))) ∙ ap (λ l. at V d.ops l k) are

  hash_gives : (kind : HashKind) (args : List GuardExpr) → Each (λ x. AllGive (flat x) (guard_value V d.ops x)) args → AllGive (flattening (G.GuardExpr-F.Hash kind (map flat args))) (λ w. hash_of V d.ops kind (map (λ (v : Seen V → V). v w) (map (guard_value V d.ops) args)))
  hash_gives kind args held latest base =
      let all : Codes = in_turn (map flat args) latest base in
      let parts = all_give args held latest base in
      let last : Instr = instr.Hash kind (operand_at all.results 0) (operand_at all.results 1) (operand_at all.results 2) in
      record {
        ends = ended base all.next all.instrs last parts.ends;
        gives = λ env holds.
            let are = parts.gives env (front V d slots env base all.instrs _ holds) in
            last_holds env base all.next all.instrs last parts.ends holds
            ∙ (λ i. d.ops.hash kind (argument env all.results _ 0 are i) (argument env all.results _ 1 are i) (argument env all.results _ 2 are i));
      }

  -- the same of other emits and values
  give_as : (a b : Emits) (x y : Seen V → V) → a ≡ b → ((w : Seen V) → x w ≡ y w) → AllGive b y → AllGive a x
  give_as a b x y same values held = subst (λ (em : Emits). AllGive em x) (sym same) (subst (AllGive b) (sym (λ i w. values w i)) held)

  -- the instructions of an expression give its value
  pub flat_gives : (x : GuardExpr) → AllGive (flat x) (guard_value V d.ops x)
  flat_gives = guarded.guard_induct (λ x. AllGive (flat x) (guard_value V d.ops x))
      (λ n. give_as _ _ _ (λ w. d.ops.number n) (flat-Number n) (guarded.value-Number V d.ops n) (λ latest base. record { ends = omega arith; gives = λ env holds. refl }))
      (λ f. give_as _ _ _ (λ w. at V d.ops w.fields f) (flat-Field f) (guarded.value-Field V d.ops f) (λ latest base. record { ends = omega arith; gives = λ env holds. sym (get_or-map (operand_value V d env) latest.fields f (operand.Number (pos 0))) }))
      (λ a. give_as _ _ _ (λ w. w.array a) (flat-Cell a) (guarded.value-Cell V d.ops a) (λ latest base. record { ends = omega arith; gives = λ env holds. refl }))
      (λ op a held. give_as _ _ _ _ (flat-One op a) (guarded.value-One V d.ops op a) (one_gives op (flat a) (guard_value V d.ops a) held))
      (λ op a b first second. give_as _ _ _ _ (flat-Two op a b) (guarded.value-Two V d.ops op a b) (two_gives op (flat a) (flat b) (guard_value V d.ops a) (guard_value V d.ops b) first second))
      (λ c a b zeroth first second. give_as _ _ _ _ (flat-Pick c a b) (guarded.value-Pick V d.ops c a b) (pick_gives (flat c) (flat a) (flat b) (guard_value V d.ops c) (guard_value V d.ops a) (guard_value V d.ops b) zeroth first second))
      (λ kind args held. give_as _ _ _ _ (flat-Hash kind args) (guarded.value-Hash V d.ops kind args) (hash_gives kind args held))
