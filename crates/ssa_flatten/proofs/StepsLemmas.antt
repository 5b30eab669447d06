-- The steps are read back from the instructions and the numbers of each array's later copies.
use Rattle.std.proofs.Common.{◌≡◌, ◌≢◌, ℕ, zero, suc, ◌+◌, ◌-◌, ◌<◌, ◌≤◌, ◌==◌, Bool, true, false, ◌||◌, if◌then◌else◌, List, [], ◌∷◌, ◌++◌, length, map, get_or, slice_set, Option, None, Some, refl, sym, ap, subst, ◌∙◌, ◌⊎◌, inl, inr, length-append, arith}
use Rattle.std.specs.List.{fold, list_any}
use Rattle.std.proofs.lemmas.List.{map-append, length-set}
use Rattle.std.proofs.lemmas.Bool.Decides.{eqb_tells}
use Rattle.code_forms.proofs.EachLemmas.{Each}
use Rattle.code_forms.specs.declared.guard.GuardExpr.{GuardExpr}
use Rattle.code_forms.specs.declared.guard.GuardLine.{GuardLine}
use Rattle.code_forms.specs.declared.guard.GuardLine.TheVariants as line
use Rattle.code_forms.specs.declared.guard.ArrayShape.{ArrayShape}
use Rattle.code_forms.specs.declared.flat.Operand.{Operand}
use Rattle.code_forms.specs.declared.flat.Instr.{Instr}
use Rattle.code_forms.specs.declared.flat.Instr.TheVariants as instr
use Rattle.code_forms.specs.GuardValid.{line_arrays}
use Rattle.mp5_words.specs.Domain.{sources}
use Rattle.mp5_words.specs.Copies.{Copy}
use Rattle.code_forms.specs.GuardMeaning.{index_at, line_guard}
use Rattle.code_forms.specs.FlatMeaning.{Step, plain_step, copy_in, steps_in}
use Rattle.ssa_flatten.proofs.FlatExprs.{flat_gives}
use Rattle.ssa_flatten.specs.Flattening.{Latest, Code, Sofar, flat_index, latest_operand, latest_in, flat, touch_new, touch_array, assigning, operand_at, copy_operand, flat_done, flat_line, flat_lines}

abbrev pub instrs_of : List Step → List Instr
instrs_of steps = map (λ (s : Step). s.instr) steps

-- every number is below
abbrev pub NumbersBelow : ℕ → List (List ℕ) → Type 0
NumbersBelow n later = Each (Each (λ k. k < n)) later

any_no : (n j : ℕ) (l : List ℕ) → Each (λ k. k < n) l → n ≤ j → list_any (λ m. j == m) l ≡ false
any_no n j [] below past = refl
any_no n j (k ∷ l) below past = one (eqb_tells j k) (any_no n j l below.1 past) where
  one : (((j == k) ≡ true) × (j ≡ k)) ⊎ (((j == k) ≡ false) × (j ≢ k)) → list_any (λ m. j == m) l ≡ false → ((j == k) || list_any (λ m. j == m) l) ≡ false
  one (inl same) rest = absurd (omega (arith, below.0, past, same.1))
  one (inr other) rest = ap (λ b. b || list_any (λ m. j == m) l) other.0 ∙ rest

none_past : (n j : ℕ) (later : List (List ℕ)) (a : ℕ) → NumbersBelow n later → n ≤ j → copy_in later a j ≡ None
none_past n j [] a below past = refl
none_past n j (l ∷ later) a below past = ap (λ (b : Bool). if b then Some a else copy_in later (suc a) j) (any_no n j l below.0 past) ∙ none_past n j later (suc a) below.1 past

plain_past : (n k : ℕ) (later : List (List ℕ)) (xs : List Instr) → NumbersBelow n later → n ≤ k → steps_in later k xs ≡ map plain_step xs
plain_past n k later [] below past = refl
plain_past n k later (x ∷ xs) below past = λ i. record { instr = x; copy = none_past n k later 0 below past i } ∷ plain_past n (suc k) later xs below (omega (arith, past)) i

steps_join : (later : List (List ℕ)) (k next : ℕ) (xs ys : List Instr) → next ≡ k + length xs → steps_in later k (xs ++ ys) ≡ steps_in later k xs ++ steps_in later next ys
steps_join later k next [] ys e = ap (λ n. steps_in later n ys) (omega (arith, e))
steps_join later k next (x ∷ xs) ys e = ap (λ l. record { instr = x; copy = copy_in later 0 k } ∷ l) (steps_join later (suc k) next xs ys (omega (arith, e)))

-- ---- one more later copy

any_other : (j n : ℕ) (l : List ℕ) → j ≢ n → list_any (λ m. j == m) (l ++ n ∷ []) ≡ list_any (λ m. j == m) l
any_other j n [] other = one (eqb_tells j n) where
  one : (((j == n) ≡ true) × (j ≡ n)) ⊎ (((j == n) ≡ false) × (j ≢ n)) → ((j == n) || false) ≡ false
  one (inl same) = absurd (other same.1)
  one (inr apart) = ap (λ b. b || false) apart.0
any_other j n (k ∷ l) other = ap (λ b. (j == k) || b) (any_other j n l other)

any_last : (n : ℕ) (l : List ℕ) → list_any (λ m. n == m) (l ++ n ∷ []) ≡ true
any_last n [] = one (eqb_tells n n) where
  one : (((n == n) ≡ true) × (n ≡ n)) ⊎ (((n == n) ≡ false) × (n ≢ n)) → ((n == n) || false) ≡ true
  one (inl same) = ap (λ b. b || false) same.0
  one (inr apart) = absurd (apart.1 refl)
any_last n (k ∷ l) = ap (λ b. (n == k) || b) (any_last n l) ∙ or_true (n == k) where
  or_true : (b : Bool) → (b || true) ≡ true
  or_true true = refl
  or_true false = refl

abbrev pub with_number : List (List ℕ) → ℕ → ℕ → List (List ℕ)
with_number later a n = slice_set later a (get_or later a [] ++ n ∷ [])

copy_other : (later : List (List ℕ)) (a n j start : ℕ) → j ≢ n → copy_in (with_number later a n) start j ≡ copy_in later start j
copy_other [] a n j start other = refl
copy_other (l ∷ later) zero n j start other = ap (λ (b : Bool). if b then Some start else copy_in later (suc start) j) (any_other j n l other)
copy_other (l ∷ later) (suc a) n j start other = ap (λ c. if list_any (λ m. j == m) l then Some start else c) (copy_other later a n j (suc start) other)

copy_last : (later : List (List ℕ)) (a n start : ℕ) → a < length later → NumbersBelow n later → copy_in (with_number later a n) start n ≡ Some (start + a)
copy_last [] a n start there below = absurd (omega arith)
copy_last (l ∷ later) zero n start there below = ap (λ (b : Bool). if b then Some start else copy_in later (suc start) n) (any_last n l) ∙ ap Some (omega arith)
copy_last (l ∷ later) (suc a) n start there below =
    ap (λ (b : Bool). if b then Some start else copy_in (with_number later a n) (suc start) n) (any_no n n l below.0 (omega arith))
    ∙ copy_last later a n (suc start) (omega (arith, there)) below.1 ∙ ap Some (omega arith)

steps_other : (later : List (List ℕ)) (a n k : ℕ) (xs : List Instr) → k + length xs ≤ n → steps_in (with_number later a n) k xs ≡ steps_in later k xs
steps_other later a n k [] before = refl
steps_other later a n k (x ∷ xs) before = λ i. record { instr = x; copy = copy_other later a n k 0 (omega (arith, before)) i } ∷ steps_other later a n (suc k) xs (omega (arith, before)) i

each_more : (n m : ℕ) (l : List ℕ) → n ≤ m → Each (λ k. k < n) l → Each (λ k. k < m) l
each_more n m [] le all = tt
each_more n m (k ∷ l) le all = (omega (arith, le, all.0), each_more n m l le all.1)

below_more : (n m : ℕ) (later : List (List ℕ)) → n ≤ m → NumbersBelow n later → NumbersBelow m later
below_more n m [] le all = tt
below_more n m (l ∷ later) le all = (each_more n m l le all.0, below_more n m later le all.1)

each_last : (n : ℕ) (l : List ℕ) → Each (λ k. k < n) l → Each (λ k. k < suc n) (l ++ n ∷ [])
each_last n [] all = (omega arith, tt)
each_last n (k ∷ l) all = (omega (arith, all.0), each_last n l all.1)

below_with : (later : List (List ℕ)) (a n : ℕ) → NumbersBelow n later → NumbersBelow (suc n) (with_number later a n)
below_with [] a n all = tt
below_with (l ∷ later) zero n all = (each_last n l all.0, below_more n (suc n) later (omega arith) all.1)
below_with (l ∷ later) (suc a) n all = (each_more n (suc n) l (omega arith) all.0, below_with later a n all.1)

-- ---- the code so far

pub record Numbered (begin arrays : ℕ) (s : Sofar) : Type 0 where
  pub steps : steps_in s.later 0 (instrs_of s.steps) ≡ s.steps
  pub below : NumbersBelow (length s.steps) s.later
  pub next : s.next ≡ begin + length s.steps
  pub later : length s.later ≡ arrays

pub length_instrs : (steps : List Step) → length (instrs_of steps) ≡ length steps
length_instrs [] = refl
length_instrs (s ∷ steps) = ap suc (length_instrs steps)

pub plain_instrs : (xs : List Instr) → instrs_of (map plain_step xs) ≡ xs
plain_instrs [] = refl
plain_instrs (x ∷ xs) = ap (λ l. x ∷ l) (plain_instrs xs)

-- steps that make no copy come behind
pub behind : (later : List (List ℕ)) (steps : List Step) (xs : List Instr) → steps_in later 0 (instrs_of steps) ≡ steps → NumbersBelow (length steps) later → steps_in later 0 (instrs_of (steps ++ map plain_step xs)) ≡ steps ++ map plain_step xs
behind later steps xs are below =
    ap (steps_in later 0) (map-append (λ (s : Step). s.instr) steps (map plain_step xs) ∙ ap (λ l. instrs_of steps ++ l) (plain_instrs xs))
    ∙ steps_join later 0 (length steps) (instrs_of steps) xs (omega (arith, length_instrs steps))
    ∙ (λ i. are i ++ plain_past (length steps) (length steps) later xs below (omega arith) i)

-- a later copy comes behind
copied : (later : List (List ℕ)) (steps : List Step) (xs : List Instr) (a : ℕ) (x : Instr) (n : ℕ) → n ≡ length steps + length xs → a < length later → steps_in later 0 (instrs_of steps) ≡ steps → NumbersBelow (length steps) later
    → steps_in (with_number later a n) 0 (instrs_of (steps ++ (map plain_step xs ++ record { instr = x; copy = Some a } ∷ []))) ≡ steps ++ (map plain_step xs ++ record { instr = x; copy = Some a } ∷ [])
copied later steps xs a x n is there are below =
    let all : List (List ℕ) = with_number later a n in
    let alone : 0 + a ≡ a = omega arith in
    let more : NumbersBelow n later = below_more (length steps) n later (omega (arith, is)) below in
    ap (steps_in all 0) (
    map-append (λ (s : Step). s.instr) steps (map plain_step xs ++ record { instr = x; copy = Some a } ∷ [])
    ∙ ap (λ l. instrs_of steps ++ l) (map-append (λ (s : Step). s.instr) (map plain_step xs) (record { instr = x; copy = Some a } ∷ []) ∙ ap (λ l. l ++ x ∷ []) (plain_instrs xs)))
    ∙ steps_join all 0 (length steps) (instrs_of steps) (xs ++ x ∷ []) (omega (arith, length_instrs steps))
    ∙ (λ i. (steps_other later a n 0 (instrs_of steps) (omega (arith, is, length_instrs steps)) ∙ are) i ++ steps_join all (length steps) n xs (x ∷ []) is i)
    ∙ (λ i. steps ++ ((steps_other later a n (length steps) xs (omega (arith, is)) ∙ plain_past (length steps) (length steps) later xs below (omega arith)) i ++ record { instr = x; copy = (copy_last later a n 0 there more ∙ ap Some alone) i } ∷ []))

ends : (e : GuardExpr) (latest : Latest) (base : ℕ) → (flat e latest base).next ≡ base + length (flat e latest base).instrs
ends e latest base = (flat_gives (List ℕ) sources (λ a. 0) e latest base).ends

index_ends : (index : Option GuardExpr) (latest : Latest) (base : ℕ) → (flat_index index latest base).next ≡ base + length (flat_index index latest base).instrs
index_ends None latest base = omega arith
index_ends (Some e) latest base = ends e latest base

pub length_plain : (xs : List Instr) → length (map plain_step xs) ≡ length xs
length_plain [] = refl
length_plain (x ∷ xs) = ap suc (length_plain xs)

-- code without a later copy, and its last instructions, come behind
module _ (begin arrays : ℕ) (s : Sofar) (h : Numbered begin arrays s) (instrs more : List Instr) (fields guards : List Operand) (copies : List (Option (Copy Operand))) (next : ℕ) (is : next ≡ s.next + (length instrs + length more)) where
  plainly : Numbered begin arrays (record { steps = s.steps ++ (map plain_step instrs ++ map plain_step more); next = next; fields = fields; copies = copies; guards = guards; later = s.later })
  plainly =
      let same : s.steps ++ (map plain_step instrs ++ map plain_step more) ≡ s.steps ++ map plain_step (instrs ++ more) = ap (λ l. s.steps ++ l) (sym (map-append plain_step instrs more)) in
      let long : length (s.steps ++ (map plain_step instrs ++ map plain_step more)) ≡ length s.steps + (length instrs + length more) = omega (arith, length-append s.steps (map plain_step instrs ++ map plain_step more), length-append (map plain_step instrs) (map plain_step more), length_plain instrs, length_plain more) in
      record {
        steps = ap (λ l. steps_in s.later 0 (instrs_of l)) same ∙ behind s.later s.steps (instrs ++ more) h.steps h.below ∙ sym same;
        below = below_more (length s.steps) _ s.later (omega (arith, long)) h.below;
        next = omega (arith, is, h.next, long);
        later = h.later;
      }

module _ (shapes : List ArrayShape) (begin arrays : ℕ) where
  touch_numbered : (s : Sofar) (x : Operand) (a : ℕ) → Numbered begin arrays s → Numbered begin arrays (touch_array shapes x s a)
  touch_numbered s x a h = by_copy (get_or s.copies a None) where
    by_copy : (c : Option (Copy Operand)) → Numbered begin arrays (touch_new shapes x s a c)
    by_copy (Some c) = record { steps = h.steps; below = h.below; next = h.next; later = h.later }
    by_copy None =
        let code : Code = flat_index (index_at shapes a) (latest_in s) s.next in
        plainly begin arrays s h code.instrs (instr.Index a code.result ∷ instr.Load a ∷ []) s.fields s.guards _ (suc (suc code.next)) (omega (arith, index_ends (index_at shapes a) (latest_in s) s.next))

  touches_numbered : (bs : List ℕ) (s : Sofar) (x : Operand) → Numbered begin arrays s → Numbered begin arrays (fold (touch_array shapes x) s bs)
  touches_numbered [] s x h = h
  touches_numbered (b ∷ bs) s x h = touches_numbered bs (touch_array shapes x s b) x (touch_numbered s x b h)

  -- the array of an assignment is there
  abbrev pub ArrayBelow : GuardLine → Type 0
  ArrayBelow (line.SetCell a guard e) = a < arrays
  ArrayBelow (line.Test cond under first second) = Unit {0}
  ArrayBelow (line.SetField f guard e) = Unit {0}

  done_numbered : (l : GuardLine) (s : Sofar) → ArrayBelow l → Numbered begin arrays s → Numbered begin arrays (flat_done begin l s)
  done_numbered (line.Test e under first second) s there h =
      let code : Code = flat e (latest_in s) s.next in
      plainly begin arrays s h code.instrs (instr.Yes (operand_at s.guards under) code.result ∷ instr.No (operand_at s.guards under) code.result ∷ []) s.fields _ s.copies (suc (suc code.next)) (omega (arith, ends e (latest_in s) s.next))
  done_numbered (line.SetField f k e) s there h =
      let code : Code = flat e (latest_in s) s.next in
      plainly begin arrays s h code.instrs (assigning k (operand_at s.guards k) code.result (operand_at s.fields f) ∷ []) _ s.guards s.copies (suc code.next) (omega (arith, ends e (latest_in s) s.next))
  done_numbered (line.SetCell a k e) s there h =
      let code : Code = flat e (latest_in s) s.next in
      let n : ℕ = code.next - begin in
      let last : Instr = assigning k (operand_at s.guards k) code.result (copy_operand (latest_operand (get_or s.copies a None))) in
      let number : n ≡ length s.steps + length code.instrs = omega (arith, ends e (latest_in s) s.next, h.next) in
      let long : length (s.steps ++ (map plain_step code.instrs ++ record { instr = last; copy = Some a } ∷ [])) ≡ suc n = omega (arith, number, length-append s.steps (map plain_step code.instrs ++ record { instr = last; copy = Some a } ∷ []), length-append (map plain_step code.instrs) (record { instr = last; copy = Some a } ∷ []), length_plain code.instrs) in
      record {
        steps = copied s.later s.steps code.instrs a last n number (omega (arith, there, h.later)) h.steps h.below;
        below = subst (λ m. NumbersBelow m (with_number s.later a n)) (sym long) (below_with s.later a n (below_more (length s.steps) n s.later (omega (arith, number)) h.below));
        next = omega (arith, ends e (latest_in s) s.next, h.next, long, number);
        later = length-set s.later a (get_or s.later a [] ++ n ∷ []) ∙ h.later;
      }

  -- the steps so far are those of their instructions and the numbers of the later copies
  pub lines_numbered : (lines : List GuardLine) (s : Sofar) → Each ArrayBelow lines → Numbered begin arrays s → Numbered begin arrays (flat_lines begin shapes lines s)
  lines_numbered [] s there h = h
  lines_numbered (l ∷ lines) s there h = lines_numbered lines (flat_line begin shapes s l) there.1 (done_numbered l _ there.0 (touches_numbered (line_arrays l) s (operand_at s.guards (line_guard l)) h))
