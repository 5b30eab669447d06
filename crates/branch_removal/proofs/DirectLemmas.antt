-- Guarded lines do what the statements do.
use Rattle.std.proofs.Common.{◌≡◌, ℕ, suc, ◌<◌, ℤ, Bool, true, false, not, ◌&&◌, if◌then◌else◌, List, [], ◌∷◌, ◌++◌, length, map, flat_map, slice_set, Option, None, Some, refl, sym, ap, subst, ◌∙◌, append_assoc, append-nil, length-append, arith}
use Rattle.std.proofs.lemmas.List.{get_or_append_left}
use Rattle.std.proofs.Math.Seq.{get_or-append_seam}
use Rattle.mp5_words.specs.Words.{op1, op2, truth}
use Rattle.domino_tree.specs.Value.{Store}
use Rattle.mp5_words.specs.Cells.{picked}
use Rattle.mp5_words.specs.Cells.{touching, cell_set}
use Rattle.domino_tree.specs.Execution.{State, Does, Choice, touch, in_turn, at_last, chosen}
use Rattle.domino_tree.proofs.ExprLemmas.{Each}
use Rattle.domino_check.specs.declared.numbered.CheckedExpr.{CheckedExpr}
use Rattle.domino_check.specs.declared.numbered.CheckedStmt.{CheckedStmt}
use Rattle.domino_check.specs.declared.numbered.CheckedArm.{CheckedArm}
use Rattle.domino_check.specs.NumberedMeaning as meaning
use Rattle.domino_check.specs.NumberedMeaning.{Indexing, place, numbered_value, numbered_arrays, numbered_step, numbered_choice, numbered_exec}
use Rattle.domino_check.proofs.MeaningLemmas as source
use Rattle.code_forms.specs.declared.guard.GuardLine.{GuardLine}
use Rattle.code_forms.specs.declared.guard.GuardLine.TheVariants as line
use Rattle.code_forms.specs.GuardValid.{arrays_in}
use Rattle.mp5_words.specs.Domain.{word_ops}
use Rattle.mp5_words.specs.Copies.{hash_of}
use Rattle.code_forms.proofs.GuardTrees
use Rattle.branch_removal.specs.GuardedLines.{guarded, Made, Emits, before, block_lines, last_lines, chain_lines, stmt_lines, arm_lines, body_lines}
use Rattle.branch_removal.proofs.Direct.{Words, guard_value, Places, seen, Direct, on, direct_line, direct_lines}
use Rattle.domino_check.proofs.TreeLemmas.{expr_induct, stmt_induct}
use Rattle.branch_removal.proofs.Trees

-- ---- expressions

module _ (ix : Indexing) where
  at : Store → Words
  at st = seen (place ix) st

  abbrev SameValue : CheckedExpr → Type 0
  SameValue x = ((st : Store) → guard_value (guarded x) (seen (place ix) st) ≡ numbered_value ix x st) × (arrays_in (guarded x) ≡ numbered_arrays x)

  values : (xs : List CheckedExpr) (st : Store) → Each SameValue xs → map (λ (a : Words → ℤ). a (seen (place ix) st)) (map guard_value (map guarded xs)) ≡ map (λ (a : Store → ℤ). a st) (map (numbered_value ix) xs)
  values [] st held = refl
  values (x ∷ xs) st held = λ i. held.0.0 st i ∷ values xs st held.1 i

  arrays : (xs : List CheckedExpr) → Each SameValue xs → flat_map (λ (a : List ℕ). a) (map arrays_in (map guarded xs)) ≡ flat_map (λ (a : List ℕ). a) (map numbered_arrays xs)
  arrays [] held = refl
  arrays (x ∷ xs) held = λ i. held.0.1 i ++ arrays xs held.1 i

  pub same_value : (x : CheckedExpr) → SameValue x
  same_value = expr_induct SameValue
      (λ n. (
        (λ st. ap (λ x. guard_value x (seen (place ix) st)) (Trees.guarded-Number n) ∙ GuardTrees.value-Number ℤ word_ops n _ ∙ sym (source.value-Number ix n st)),
        ap arrays_in (Trees.guarded-Number n) ∙ GuardTrees.arrays-Number n ∙ sym (source.arrays-Number n),
      ))
      (λ f. (
        (λ st. ap (λ x. guard_value x (seen (place ix) st)) (Trees.guarded-Field f) ∙ GuardTrees.value-Field ℤ word_ops f _ ∙ sym (source.value-Field ix f st)),
        ap arrays_in (Trees.guarded-Field f) ∙ GuardTrees.arrays-Field f ∙ sym (source.arrays-Field f),
      ))
      (λ a. (
        (λ st. ap (λ x. guard_value x (seen (place ix) st)) (Trees.guarded-Cell a) ∙ GuardTrees.value-Cell ℤ word_ops a _ ∙ sym (source.value-Cell ix a st)),
        ap arrays_in (Trees.guarded-Cell a) ∙ GuardTrees.arrays-Cell a ∙ sym (source.arrays-Cell a),
      ))
      (λ op a held. (
        (λ st. ap (λ x. guard_value x (seen (place ix) st)) (Trees.guarded-One op a) ∙ GuardTrees.value-One ℤ word_ops op (guarded a) _ ∙ ap (op1 op) (held.0 st) ∙ sym (source.value-One ix op a st)),
        ap arrays_in (Trees.guarded-One op a) ∙ GuardTrees.arrays-One op (guarded a) ∙ held.1 ∙ sym (source.arrays-One op a),
      ))
      (λ op a b left right. (
        (λ st. ap (λ x. guard_value x (seen (place ix) st)) (Trees.guarded-Two op a b) ∙ GuardTrees.value-Two ℤ word_ops op (guarded a) (guarded b) _ ∙ (λ i. op2 op (left.0 st i) (right.0 st i)) ∙ sym (source.value-Two ix op a b st)),
        ap arrays_in (Trees.guarded-Two op a b) ∙ GuardTrees.arrays-Two op (guarded a) (guarded b) ∙ (λ i. left.1 i ++ right.1 i) ∙ sym (source.arrays-Two op a b),
      ))
      (λ c a b cond left right. (
        (λ st. ap (λ x. guard_value x (seen (place ix) st)) (Trees.guarded-Pick c a b) ∙ GuardTrees.value-Pick ℤ word_ops (guarded c) (guarded a) (guarded b) _ ∙ (λ i. picked (cond.0 st i) (left.0 st i) (right.0 st i)) ∙ sym (source.value-Pick ix c a b st)),
        ap arrays_in (Trees.guarded-Pick c a b) ∙ GuardTrees.arrays-Pick (guarded c) (guarded a) (guarded b) ∙ (λ i. cond.1 i ++ (left.1 i ++ right.1 i)) ∙ sym (source.arrays-Pick c a b),
      ))
      (λ kind args held. (
        (λ st. ap (λ x. guard_value x (seen (place ix) st)) (Trees.guarded-Hash kind args) ∙ GuardTrees.value-Hash ℤ word_ops kind (map guarded args) _ ∙ ap (hash_of ℤ word_ops kind) (values args st held) ∙ sym (source.value-Hash ix kind args st)),
        ap arrays_in (Trees.guarded-Hash kind args) ∙ GuardTrees.arrays-Hash kind (map guarded args) ∙ arrays args held ∙ sym (source.arrays-Hash kind args),
      ))

-- ---- lines

pub direct-append : (p : Places) (xs ys : List GuardLine) (d : Direct) → direct_lines p (xs ++ ys) d ≡ direct_lines p ys (direct_lines p xs d)
direct-append p [] ys d = refl
direct-append p (x ∷ xs) ys d = direct-append p xs ys (direct_line p x d)

-- the state where the guard is 1, and unchanged where it is 0
abbrev when : Bool → Does → State → State
when b does s = if b then does s else s

-- from so many guards on, the lines do this under the guard, and the guards grow
record Runs (p : Places) (made : Made) (does : Does) (under : ℕ) (s : State) (G : List Bool) : Type 0 where
  more : List Bool
  long : length (G ++ more) ≡ made.next
  ends : direct_lines p made.lines (record { state = s; guards = G }) ≡ record { state = when (on G under) does s; guards = G ++ more }

abbrev Emitted : Places → Emits → Does → Type 0
Emitted p emits does = (under next : ℕ) (s : State) (G : List Bool) → length G ≡ next → under < next → Runs p (emits under next) does under s G

-- ---- one after another

on-append : (G more : List Bool) (u : ℕ) → u < length G → on (G ++ more) u ≡ on G u
on-append G more u within = get_or_append_left G more false u within

twice : (b : Bool) (f h : Does) (s : State) → when b h (when b f s) ≡ when b (λ s. h (f s)) s
twice true f h s = refl
twice false f h s = refl

longer : (G more : List Bool) (m u : ℕ) → length (G ++ more) ≡ m → u < length G → u < m
longer G more m u long within = omega (arith, length-append G more)

nothing : (p : Places) (u n : ℕ) (s : State) (G : List Bool) → length G ≡ n → Runs p (record { lines = []; next = n }) (λ s. s) u s G
nothing p u n s G long = record {
  more = [];
  long = ap length (append-nil G) ∙ long;
  ends = sym (λ i. record { state = unchanged (on G u) i; guards = append-nil G i });
} where
  unchanged : (b : Bool) → when b (λ s. s) s ≡ s
  unchanged true = refl
  unchanged false = refl

sequence : (p : Places) (a b : Emits) (f h : Does) → Emitted p a f → Emitted p b h → Emitted p (λ u n. before (a u n).lines (b u (a u n).next)) (λ s. h (f s))
sequence p a b f h first second u n s G long within =
    let one = first u n s G long within in
    let two = second u (a u n).next (when (on G u) f s) (G ++ one.more) one.long (longer G one.more (a u n).next u one.long (omega arith)) in
    record {
      more = one.more ++ two.more;
      long = ap length (sym (append_assoc G one.more two.more)) ∙ two.long;
      ends =
          direct-append p (a u n).lines (b u (a u n).next).lines (record { state = s; guards = G })
          ∙ ap (direct_lines p (b u (a u n).next).lines) one.ends
          ∙ two.ends
          ∙ (λ i. record { state = when (on-append G one.more u (omega arith) i) h (when (on G u) f s); guards = append_assoc G one.more two.more i })
          ∙ (λ i. record { state = twice (on G u) f h s i; guards = G ++ (one.more ++ two.more) });
    }

nothing_runs : (p : Places) → Emitted p (λ u n. record { lines = []; next = n }) (λ s. s)
nothing_runs p u n s G long within = nothing p u n s G long

block_runs : (p : Places) (ix : Indexing) (body : List CheckedStmt) → Each (λ x. Emitted p (stmt_lines x) (numbered_step ix x)) body → Emitted p (block_lines (map stmt_lines body)) (in_turn (map (numbered_step ix) body))
block_runs p ix [] held = nothing_runs p
block_runs p ix (x ∷ body) held = sequence p (stmt_lines x) (block_lines (map stmt_lines body)) (numbered_step ix x) (in_turn (map (numbered_step ix) body)) held.0 (block_runs p ix body held.1)

-- ---- chains

-- the condition is evaluated, and the block executed where it holds
abbrev entered : Choice → Does
entered c s = if c.holds s.store then c.block (touch c.arrays s) else touch c.arrays s

record ArmRuns (p : Places) (made : Made) (c : Choice) (under next : ℕ) (s : State) (G : List Bool) : Type 0 where
  more : List Bool
  long : length (G ++ more) ≡ made.next
  within : suc next < made.next
  ends : direct_lines p made.lines (record { state = s; guards = G }) ≡ record { state = when (on G under) (entered c) s; guards = G ++ more }
  rest : on (G ++ more) (suc next) ≡ (on G under && not (c.holds s.store))

abbrev ArmEmitted : Places → Emits → Choice → Type 0
ArmEmitted p emits c = (under next : ℕ) (s : State) (G : List Bool) → length G ≡ next → under < next → ArmRuns p (emits under next) c under next s G

abbrev EachOf : (CheckedStmt → Type 0) → Option (List CheckedStmt) → Type 0
EachOf P None = Unit {0}
EachOf P (Some body) = Each P body

abbrev lines_of : Option (List CheckedStmt) → Option (List Emits)
lines_of None = None
lines_of (Some body) = Some (map stmt_lines body)

abbrev does_of : Indexing → Option (List CheckedStmt) → Option (List Does)
does_of ix None = None
does_of ix (Some body) = Some (map (numbered_step ix) body)

-- where the guard is 1 and the first condition holds, its block alone is executed
either : (b v : Bool) (blocked touched s : State) (rest : Does) → when (b && not v) rest (when b (λ s. if v then blocked else touched) s) ≡ when b (λ s. if v then blocked else rest touched) s
either true true blocked touched s rest = refl
either true false blocked touched s rest = refl
either false v blocked touched s rest = refl

at_end : (p : Places) (ix : Indexing) (last : Option (List CheckedStmt)) → EachOf (λ x. Emitted p (stmt_lines x) (numbered_step ix x)) last → Emitted p (last_lines (lines_of last)) (at_last (does_of ix last))
at_end p ix None held u n s G long within = nothing p u n s G long
at_end p ix (Some body) held u n s G long within = block_runs p ix body held u n s G long within

chain_runs : (p : Places) (ix : Indexing) (last : Option (List CheckedStmt)) → EachOf (λ x. Emitted p (stmt_lines x) (numbered_step ix x)) last
    → (arms : List CheckedArm) → Each (λ x. ArmEmitted p (arm_lines x) (numbered_choice ix x)) arms
    → Emitted p (chain_lines (map arm_lines arms) (lines_of last)) (chosen (map (numbered_choice ix) arms) (does_of ix last))
chain_runs p ix last kept [] held u n s G long within = at_end p ix last kept u n s G long within
chain_runs p ix last kept (arm ∷ arms) held u n s G long within =
    let made : Made = arm_lines arm u n in
    let c : Choice = numbered_choice ix arm in
    let one = held.0 u n s G long within in
    let two = chain_runs p ix last kept arms held.1 (suc n) made.next (when (on G u) (entered c) s) (G ++ one.more) one.long one.within in
    let behind : Made = chain_lines (map arm_lines arms) (lines_of last) (suc n) made.next in
    record {
      more = one.more ++ two.more;
      long = ap length (sym (append_assoc G one.more two.more)) ∙ two.long;
      ends =
          direct-append p made.lines behind.lines (record { state = s; guards = G })
          ∙ ap (direct_lines p behind.lines) one.ends
          ∙ two.ends
          ∙ (λ i. record { state = when (one.rest i) (chosen (map (numbered_choice ix) arms) (does_of ix last)) (when (on G u) (entered c) s); guards = append_assoc G one.more two.more i })
          ∙ (λ i. record { state = either (on G u) (c.holds s.store) (c.block (touch c.arrays s)) (touch c.arrays s) s (chosen (map (numbered_choice ix) arms) (does_of ix last)) i; guards = G ++ (one.more ++ two.more) });
    }

-- ---- an arm

guard_first : (G : List Bool) (a b : Bool) (n : ℕ) → length G ≡ n → on (G ++ (a ∷ b ∷ [])) n ≡ a
guard_first G a b n long = subst (λ k. on (G ++ (a ∷ b ∷ [])) k ≡ a) long (get_or-append_seam G a (b ∷ []) false)

guard_second : (G : List Bool) (a b : Bool) (n : ℕ) → length G ≡ n → on (G ++ (a ∷ b ∷ [])) (suc n) ≡ b
guard_second G a b n long = ap (λ l. on l (suc n)) (sym (append_assoc G (a ∷ []) (b ∷ []))) ∙ subst (λ k. on ((G ++ a ∷ []) ++ (b ∷ [])) k ≡ b) (omega (arith, length-append G (a ∷ []))) (get_or-append_seam (G ++ a ∷ []) b [] false)

entering : (b v : Bool) (block : Does) (touched s : State) → when (b && v) block (if b then touched else s) ≡ when b (λ s. if v then block touched else touched) s
entering true true block touched s = refl
entering true false block touched s = refl
entering false v block touched s = refl

arm_runs : (ix : Indexing) (cond : CheckedExpr) (body : List CheckedStmt) → Each (λ x. Emitted (place ix) (stmt_lines x) (numbered_step ix x)) body
    → ArmEmitted (place ix) (arm_lines (record { cond = cond; body = body })) (numbered_choice ix (record { cond = cond; body = body }))
arm_runs ix cond body held u n s G long within =
    subst (λ (m : Made). ArmRuns (place ix) m (numbered_choice ix (record { cond = cond; body = body })) u n s G) (sym (Trees.lines-Arm cond body u n))
    (subst (λ (c : Choice). ArmRuns (place ix) (before (line.Test (guarded cond) u n (suc n) ∷ []) (block_lines (map stmt_lines body) n (suc (suc n)))) c u n s G) (sym (source.choice-Arm ix cond body)) runs)
  where
    v : Bool
    v = truth (guard_value (guarded cond) (seen (place ix) s.store))

    is : v ≡ truth (numbered_value ix cond s.store)
    is = ap truth ((same_value ix cond).0 s.store)

    G1 : List Bool
    G1 = G ++ ((on G u && v) ∷ (on G u && not v) ∷ [])

    long1 : length G1 ≡ suc (suc n)
    long1 = omega (arith, length-append G ((on G u && v) ∷ (on G u && not v) ∷ []))

    s1 : State
    s1 = if on G u then touch (arrays_in (guarded cond)) s else s

    inner : Runs (place ix) (block_lines (map stmt_lines body) n (suc (suc n))) (in_turn (map (numbered_step ix) body)) n s1 G1
    inner = block_runs (place ix) ix body held n (suc (suc n)) s1 G1 long1 (omega arith)

    c : Choice
    c = record { holds = λ st. truth (numbered_value ix cond st); arrays = numbered_arrays cond; block = in_turn (map (numbered_step ix) body) }

    runs : ArmRuns (place ix) (before (line.Test (guarded cond) u n (suc n) ∷ []) (block_lines (map stmt_lines body) n (suc (suc n)))) c u n s G
    runs = record {
      more = ((on G u && v) ∷ (on G u && not v) ∷ []) ++ inner.more;
      long = ap length (sym (append_assoc G ((on G u && v) ∷ (on G u && not v) ∷ []) inner.more)) ∙ inner.long;
      within = longer G1 inner.more _ (suc n) inner.long (omega (arith, long1));
      ends =
          inner.ends
          ∙ (λ i. record { state = when (guard_first G (on G u && v) (on G u && not v) n long i) (in_turn (map (numbered_step ix) body)) s1; guards = append_assoc G ((on G u && v) ∷ (on G u && not v) ∷ []) inner.more i })
          ∙ (λ i. record { state = entering (on G u) v (in_turn (map (numbered_step ix) body)) (touch (arrays_in (guarded cond)) s) s i; guards = G ++ (((on G u && v) ∷ (on G u && not v) ∷ []) ++ inner.more) })
          ∙ (λ i. record { state = when (on G u) (λ t. if is i then in_turn (map (numbered_step ix) body) (touch ((same_value ix cond).1 i) s) else touch ((same_value ix cond).1 i) s) s; guards = G ++ (((on G u && v) ∷ (on G u && not v) ∷ []) ++ inner.more) });
      rest =
          ap (λ l. on l (suc n)) (sym (append_assoc G ((on G u && v) ∷ (on G u && not v) ∷ []) inner.more))
          ∙ on-append G1 inner.more (suc n) (omega (arith, long1))
          ∙ guard_second G (on G u && v) (on G u && not v) n long
          ∙ ap (λ t. on G u && not t) is;
    }

-- ---- statements

one_line : (p : Places) (l : GuardLine) (does : Does) (u n : ℕ) (s : State) (G : List Bool) → length G ≡ n → direct_line p l (record { state = s; guards = G }) ≡ record { state = when (on G u) does s; guards = G } → Runs p (record { lines = l ∷ []; next = n }) does u s G
one_line p l does u n s G long is = record { more = []; long = ap length (append-nil G) ∙ long; ends = is ∙ (λ i. record { state = when (on G u) does s; guards = sym (append-nil G) i }) }

abbrev StmtRuns : Indexing → CheckedStmt → Type 0
StmtRuns ix x = Emitted (place ix) (stmt_lines x) (numbered_step ix x)

does_as : (p : Places) (a b : Emits) (f h : Does) → ((u n : ℕ) → a u n ≡ b u n) → ((s : State) → f s ≡ h s) → Emitted p b h → Emitted p a f
does_as p a b f h same does runs u n s G long within =
    subst (λ (m : Made). Runs p m f u s G) (sym (same u n))
    (subst (λ (g : Does). Runs p (b u n) g u s G) (sym (λ i t. does t i)) (runs u n s G long within))

stmt_runs : (ix : Indexing) (x : CheckedStmt) → StmtRuns ix x
stmt_runs ix = stmt_induct (StmtRuns ix) (λ x. ArmEmitted (place ix) (arm_lines x) (numbered_choice ix x))
    (λ f x. does_as (place ix) _ (λ u n. record { lines = line.SetField f u (guarded x) ∷ []; next = n }) _ (meaning.set_field ix f x) (Trees.lines-SetField f x) (source.step-SetField ix f x)
    (λ u n s G long within. one_line (place ix) (line.SetField f u (guarded x)) (meaning.set_field ix f x) u n s G long
    (λ i. record {
      state = if on G u then record {
        store = record { fields = slice_set s.store.fields f ((same_value ix x).0 s.store i); cells = s.store.cells };
        touched = touching ((same_value ix x).1 i) s.touched;
      } else s;
      guards = G;
    })))
    (λ a x. does_as (place ix) _ (λ u n. record { lines = line.SetCell a u (guarded x) ∷ []; next = n }) _ (meaning.set_cell ix a x) (Trees.lines-SetCell a x) (source.step-SetCell ix a x)
    (λ u n s G long within. one_line (place ix) (line.SetCell a u (guarded x)) (meaning.set_cell ix a x) u n s G long
    (λ i. record {
      state = if on G u then record {
        store = record { fields = s.store.fields; cells = cell_set s.store.cells a (place ix a s.store.fields) ((same_value ix x).0 s.store i) };
        touched = touching (a ∷ (same_value ix x).1 i) s.touched;
      } else s;
      guards = G;
    })))
    (λ arms held. does_as (place ix) _ (chain_lines (map arm_lines arms) None) _ (chosen (map (numbered_choice ix) arms) None) (Trees.lines-If arms) (source.step-If ix arms) (chain_runs (place ix) ix None tt arms held))
    (λ arms body held inside. does_as (place ix) _ (chain_lines (map arm_lines arms) (Some (map stmt_lines body))) _ (chosen (map (numbered_choice ix) arms) (Some (map (numbered_step ix) body))) (Trees.lines-Else arms body) (source.step-Else ix arms body) (chain_runs (place ix) ix (Some body) inside arms held))
    (λ cond body inside. arm_runs ix cond body inside)

all_run : (ix : Indexing) (body : List CheckedStmt) → Each (StmtRuns ix) body
all_run ix [] = tt
all_run ix (x ∷ body) = (stmt_runs ix x, all_run ix body)

-- the lines of a body do what the body does
pub removal : (ix : Indexing) (body : List CheckedStmt) (s : State) → (direct_lines (place ix) (body_lines body) (record { state = s; guards = true ∷ [] })).state ≡ numbered_exec ix body s
removal ix body s = ap (λ (d : Direct). d.state) (block_runs (place ix) ix body (all_run ix body) 0 1 s (true ∷ []) refl (omega arith)).ends
