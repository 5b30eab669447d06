-- The code of lines that fit has as many instructions as they count.
use Rattle.std.proofs.Common.{◌≡◌, ℕ, zero, suc, ◌+◌, ◌<◌, nat_le, nat_lt, Bool, true, false, List, [], ◌∷◌, ◌++◌, length, map, sum, get_or, slice_set, Option, None, Some, refl, sym, ap, ◌∙◌, length-append, arith}
use Rattle.std.specs.List.{fold, list_all}
use Rattle.std.proofs.lemmas.List.{set-get_or}
use Rattle.std.proofs.lemmas.List.Sums.{sum_by-cons}
use Rattle.std.proofs.Math.ListN.{get_or-map}
use Rattle.code_forms.specs.declared.guard.GuardExpr.{GuardExpr}
use Rattle.code_forms.specs.declared.guard.GuardLine.{GuardLine}
use Rattle.code_forms.specs.declared.guard.GuardLine.TheVariants as line
use Rattle.code_forms.specs.declared.guard.ArrayShape.{ArrayShape}
use Rattle.code_forms.specs.declared.flat.Operand.{Operand}
use Rattle.code_forms.specs.declared.flat.Operand.TheVariants as operand
use Rattle.code_forms.specs.declared.flat.Instr.TheVariants as instr
use Rattle.mp5_words.specs.Cells.{touching}
use Rattle.mp5_words.specs.Copies.{Copy}
use Rattle.code_forms.specs.GuardValid.{fits, operators_in, line_arrays, line_count, line_fits, guard_fits, guards_fit, guards_after, index_count, shape_count, index_fits, shapes_fit}
use Rattle.code_forms.specs.GuardMeaning.{index_at, line_guard}
use Rattle.code_forms.specs.FlatMeaning.{Step, plain_step}
use Rattle.code_forms.proofs.EachLemmas.{Each}
use Rattle.code_forms.proofs.ValidLemmas.{and_front, and_back}
use Rattle.code_forms.proofs.BelowLemmas.{line_below}
use Rattle.ssa_flatten.specs.Counting.{index_operators}
use Rattle.ssa_flatten.specs.Flattening.{Code, Sofar, operand_at, copy_operand, latest_operand, latest_in, flat, flat_index, touch_new, touch_array, assigning, rewritten, flat_done, flat_line, flat_lines, stores_from}
use Rattle.ssa_flatten.proofs.FitExprs.{expr_fits}
use Rattle.ssa_flatten.proofs.StepsLemmas.{length_plain}
use Rattle.ssa_flatten.proofs.SoundLines as sound

-- ---- what loaded arrays make

-- how many instructions the loads of these arrays make
abbrev pub loaded_count : List ArrayShape → List (Option (Copy Operand)) → ℕ
loaded_count [] copies = 0
loaded_count (s ∷ shapes) [] = 0
loaded_count (s ∷ shapes) (None ∷ copies) = loaded_count shapes copies
loaded_count (s ∷ shapes) (Some c ∷ copies) = (2 + index_operators s.index) + loaded_count shapes copies

-- one array more is loaded
one_more : (shapes : List ArrayShape) (copies : List (Option (Copy Operand))) (a : ℕ) (c : Copy Operand) → length copies ≡ length shapes → a < length shapes → get_or copies a None ≡ None
    → loaded_count shapes (slice_set copies a (Some c)) ≡ (2 + index_operators (index_at shapes a)) + loaded_count shapes copies
one_more [] copies a c long there new = absurd (omega arith)
one_more (s ∷ shapes) [] a c long there new = absurd (omega arith)
one_more (s ∷ shapes) (None ∷ copies) zero c long there new = refl
one_more (s ∷ shapes) (Some x ∷ copies) zero c long there new = absurd cc
one_more (s ∷ shapes) (None ∷ copies) (suc a) c long there new = one_more shapes copies a c (omega (arith, long)) (omega (arith, there)) new
one_more (s ∷ shapes) (Some x ∷ copies) (suc a) c long there new =
    let rest : loaded_count shapes (slice_set copies a (Some c)) ≡ (2 + index_operators (index_at shapes a)) + loaded_count shapes copies = one_more shapes copies a c (omega (arith, long)) (omega (arith, there)) new in
    omega (arith, rest)

-- another copy of a loaded array
same_count : (shapes : List ArrayShape) (copies : List (Option (Copy Operand))) (a : ℕ) (c n : Copy Operand) → get_or copies a None ≡ Some c → loaded_count shapes (slice_set copies a (Some n)) ≡ loaded_count shapes copies
same_count [] copies a c n is = refl
same_count (s ∷ shapes) [] a c n is = absurd cc
same_count (s ∷ shapes) (None ∷ copies) zero c n is = absurd cc
same_count (s ∷ shapes) (Some x ∷ copies) zero c n is = refl
same_count (s ∷ shapes) (None ∷ copies) (suc a) c n is = same_count shapes copies a c n is
same_count (s ∷ shapes) (Some x ∷ copies) (suc a) c n is = ap (λ m. (2 + index_operators s.index) + m) (same_count shapes copies a c n is)

-- ---- lines

module _ (header : ℕ) (shapes : List ArrayShape)
    (indexes_fit : (a : ℕ) (index : GuardExpr) → index_at shapes a ≡ Some index → fits header 0 index ≡ true) where
  abbrev arrays : ℕ
  arrays = length shapes

  abbrev SoundCode : Sofar → Type 0
  SoundCode = sound.SoundCode header shapes arrays indexes_fit

  -- the steps so far are those of lines with such a count, and of the arrays that are loaded
  abbrev pub Counted : ℕ → Sofar → Type 0
  Counted n s = length s.steps ≡ n + loaded_count shapes s.copies

  touch_counts : (n : ℕ) (s : Sofar) (x : Operand) (a : ℕ) → a < arrays → SoundCode s → Counted n s → Counted n (touch_array shapes x s a)
  touch_counts n s x a there h e = by_copy (get_or s.copies a None) refl where
    by_copy : (c : Option (Copy Operand)) → get_or s.copies a None ≡ c → Counted n (touch_new shapes x s a c)
    by_copy (Some c) is = e ∙ ap (λ m. n + m) (sym (same_count shapes s.copies a c _ is))
    by_copy None is =
        let code : Code = flat_index (index_at shapes a) (latest_in s) s.next in
        let two : List Step = plain_step (instr.Index a code.result) ∷ plain_step (instr.Load a) ∷ [] in
        let fit = sound.index_fits header shapes arrays indexes_fit s a h (index_at shapes a) refl in
        let more = one_more shapes s.copies a (record { index = code.result; latest = operand.Slot (suc code.next); under = x ∷ []; stored = [] }) h.many there is in
        omega (arith, e, more, fit.many, length-append s.steps (map plain_step code.instrs ++ two), length-append (map plain_step code.instrs) two, length_plain code.instrs)

  touches_count : (n : ℕ) (bs : List ℕ) (s : Sofar) (x : Operand) → Each (λ a. a < arrays) bs → sound.Touched header shapes arrays indexes_fit x s → Counted n s → Counted n (fold (touch_array shapes x) s bs)
  touches_count n [] s x there h e = e
  touches_count n (b ∷ bs) s x there h e = touches_count n bs (touch_array shapes x s b) x there.1 (sound.touch_sound header shapes arrays indexes_fit s x b there.0 h) (touch_counts n s x b there.0 h.code e)

  -- code and what comes behind it
  longer : (s : Sofar) (code : Code) (m : ℕ) (more : List Step) → length code.instrs ≡ m → length (s.steps ++ (map plain_step code.instrs ++ more)) ≡ length s.steps + (m + length more)
  longer s code m more long = omega (arith, long, length-append s.steps (map plain_step code.instrs ++ more), length-append (map plain_step code.instrs) more, length_plain code.instrs)

  done_counts : (l : GuardLine) (n : ℕ) (s : Sofar) → line_fits header arrays l ≡ true → sound.TargetLoaded header shapes arrays indexes_fit l s → SoundCode s → Counted n s → Counted (n + line_count l) (flat_done header l s)
  done_counts (line.Test e under first second) n s fits target h is =
      let code : Code = flat e (latest_in s) s.next in
      let fit = expr_fits header arrays arrays e fits (sound.held header shapes arrays indexes_fit s) (latest_in s) s.next h.ends (sound.sees header shapes arrays indexes_fit s h) in
      let g : Operand = operand_at s.guards under in
      omega (arith, is, longer s code (operators_in e) (plain_step (instr.Yes g code.result) ∷ plain_step (instr.No g code.result) ∷ []) fit.many)
  done_counts (line.SetField f k e) n s fits target h is =
      let code : Code = flat e (latest_in s) s.next in
      let fit = expr_fits header arrays arrays e (and_back (nat_lt f header) _ fits) (sound.held header shapes arrays indexes_fit s) (latest_in s) s.next h.ends (sound.sees header shapes arrays indexes_fit s h) in
      omega (arith, is, longer s code (operators_in e) (plain_step (assigning k (operand_at s.guards k) code.result (operand_at s.fields f)) ∷ []) fit.many)
  done_counts (line.SetCell a k e) n s fits target h is =
      let code : Code = flat e (latest_in s) s.next in
      let fit = expr_fits header arrays arrays e (and_back (nat_lt a arrays) _ fits) (sound.held header shapes arrays indexes_fit s) (latest_in s) s.next h.ends (sound.sees header shapes arrays indexes_fit s h) in
      let old : Option (Copy Operand) = get_or s.copies a None in
      let same : loaded_count shapes (slice_set s.copies a (rewritten (operand.Slot code.next) code.result old)) ≡ loaded_count shapes s.copies =
      ap (λ o. loaded_count shapes (slice_set s.copies a (rewritten (operand.Slot code.next) code.result o))) target.1 ∙ same_count shapes s.copies a target.0 _ target.1 in
      omega (arith, is, same, longer s code (operators_in e) (record { instr = assigning k (operand_at s.guards k) code.result (copy_operand (latest_operand old)); copy = Some a } ∷ []) fit.many)

  pub line_counts : (l : GuardLine) (n : ℕ) (s : Sofar) (m : ℕ) → line_fits header arrays l ≡ true → guard_fits m l ≡ true → length s.guards ≡ m → SoundCode s → Counted n s → Counted (n + line_count l) (flat_line header shapes s l)
  line_counts l n s m fits guards long h e =
      let x : Operand = operand_at s.guards (line_guard l) in
      let touched = sound.line_touched header shapes arrays indexes_fit l s m fits guards long h in
      done_counts l n (fold (touch_array shapes x) s (line_arrays l)) fits (sound.line_target header shapes arrays indexes_fit l s h fits)
      (sound.touches_sound header shapes arrays indexes_fit (line_arrays l) s x (line_below header arrays l fits) touched).code
      (touches_count n (line_arrays l) s x (line_below header arrays l fits) touched e)

  pub lines_count : (lines : List GuardLine) (n : ℕ) (s : Sofar) (m : ℕ) → list_all (line_fits header arrays) lines ≡ true → guards_fit m lines ≡ true → length s.guards ≡ m → SoundCode s → Counted n s
      → Counted (n + sum (map line_count lines)) (flat_lines header shapes lines s)
  lines_count [] n s m fits guards long h e = omega (arith, e)
  lines_count (l ∷ lines) n s m fits guards long h e =
      let one : guard_fits m l ≡ true = and_front (guard_fits m l) _ guards in
      let fit : line_fits header arrays l ≡ true = and_front (line_fits header arrays l) _ fits in
      let rest : Counted ((n + line_count l) + sum (map line_count lines)) (flat_lines header shapes lines (flat_line header shapes s l)) =
      lines_count lines (n + line_count l) (flat_line header shapes s l) (guards_after l m) (and_back (line_fits header arrays l) _ fits) (and_back (guard_fits m l) _ guards)
      (sound.line_guards header shapes arrays indexes_fit l s m long) (sound.line_sound header shapes arrays indexes_fit l s m fit one long h) (line_counts l n s m fit one long h e) in
      let total : sum (line_count l ∷ map line_count lines) ≡ line_count l + sum (map line_count lines) = sum_by-cons (λ (n : ℕ). n) (line_count l) (map line_count lines) in
      omega (arith, rest, total)

-- ---- which arrays are touched

abbrev pub some : Option (Copy Operand) → Bool
some None = false
some (Some c) = true

map-set : {X Y : Type 0} (f : X → Y) (xs : List X) (k : ℕ) (x : X) → map f (slice_set xs k x) ≡ slice_set (map f xs) k (f x)
map-set f [] k x = refl
map-set f (y ∷ ys) zero x = refl
map-set f (y ∷ ys) (suc k) x = ap (λ l. f y ∷ l) (map-set f ys k x)

module _ (header : ℕ) (shapes : List ArrayShape) where
  touch_marks : (s : Sofar) (x : Operand) (a : ℕ) → map some (touch_array shapes x s a).copies ≡ slice_set (map some s.copies) a true
  touch_marks s x a = by_copy (get_or s.copies a None) where
    by_copy : (c : Option (Copy Operand)) → map some (touch_new shapes x s a c).copies ≡ slice_set (map some s.copies) a true
    by_copy (Some c) = map-set some s.copies a _
    by_copy None = map-set some s.copies a _

  touches_mark : (bs : List ℕ) (s : Sofar) (x : Operand) → map some (fold (touch_array shapes x) s bs).copies ≡ touching bs (map some s.copies)
  touches_mark [] s x = refl
  touches_mark (b ∷ bs) s x = touches_mark bs (touch_array shapes x s b) x ∙ ap (touching bs) (touch_marks s x b)

  done_marks : (l : GuardLine) (s : Sofar) → map some (flat_done header l s).copies ≡ map some s.copies
  done_marks (line.Test e under first second) s = refl
  done_marks (line.SetField f k e) s = refl
  done_marks (line.SetCell a k e) s =
      map-set some s.copies a _ ∙ ap (slice_set (map some s.copies) a) (same _ _ (get_or s.copies a None) ∙ sym (get_or-map some s.copies a None)) ∙ set-get_or (map some s.copies) a false where
        same : (x y : Operand) (c : Option (Copy Operand)) → some (rewritten x y c) ≡ some c
        same x y None = refl
        same x y (Some c) = refl

  -- the arrays that are touched are those that the lines touch
  pub lines_mark : (lines : List GuardLine) (s : Sofar) → map some (flat_lines header shapes lines s).copies ≡ fold (λ (marks : List Bool) (l : GuardLine). touching (line_arrays l) marks) (map some s.copies) lines
  lines_mark [] s = refl
  lines_mark (l ∷ lines) s =
      lines_mark lines (flat_line header shapes s l)
      ∙ ap (λ marks. fold (λ (marks : List Bool) (l : GuardLine). touching (line_arrays l) marks) marks lines) (done_marks l (fold (touch_array shapes (operand_at s.guards (line_guard l))) s (line_arrays l)) ∙ touches_mark (line_arrays l) s (operand_at s.guards (line_guard l)))

-- ---- the whole

none_count : (fields : ℕ) (index : Option GuardExpr) → index_fits fields false index ≡ true → index_count index ≡ 0
none_count fields None fit = refl
none_count fields (Some index) fit = absurd cc

some_count : (fields : ℕ) (index : Option GuardExpr) → index_fits fields true index ≡ true → index_count index ≡ 3 + index_operators index
some_count fields None fit = absurd cc
some_count fields (Some index) fit = refl

-- the loads and stores of arrays that have an index exactly where they are touched
pub arrays_count : (fields : ℕ) (shapes : List ArrayShape) (copies : List (Option (Copy Operand))) (a : ℕ) → length copies ≡ length shapes → shapes_fit fields (map some copies) shapes ≡ true
    → loaded_count shapes copies + length (stores_from a copies) ≡ sum (map shape_count shapes)
arrays_count fields [] [] a long fit = refl
arrays_count fields [] (c ∷ copies) a long fit = absurd (omega (arith, long))
arrays_count fields (s ∷ shapes) [] a long fit = absurd (omega (arith, long))
arrays_count fields (s ∷ shapes) (None ∷ copies) a long fit =
    let inner = and_back (nat_le s.length 65536) _ (and_back (nat_lt 0 s.length) _ fit) in
    let here : index_count s.index ≡ 0 = none_count fields s.index (and_front (index_fits fields false s.index) _ inner) in
    let rest : loaded_count shapes copies + length (stores_from (suc a) copies) ≡ sum (map shape_count shapes) = arrays_count fields shapes copies (suc a) (omega (arith, long)) (and_back (index_fits fields false s.index) _ inner) in
    let total : sum (shape_count s ∷ map shape_count shapes) ≡ shape_count s + sum (map shape_count shapes) = sum_by-cons (λ (n : ℕ). n) (shape_count s) (map shape_count shapes) in
    omega (arith, here, rest, total)
arrays_count fields (s ∷ shapes) (Some c ∷ copies) a long fit =
    let inner = and_back (nat_le s.length 65536) _ (and_back (nat_lt 0 s.length) _ fit) in
    let here : index_count s.index ≡ 3 + index_operators s.index = some_count fields s.index (and_front (index_fits fields true s.index) _ inner) in
    let rest : loaded_count shapes copies + length (stores_from (suc a) copies) ≡ sum (map shape_count shapes) = arrays_count fields shapes copies (suc a) (omega (arith, long)) (and_back (index_fits fields true s.index) _ inner) in
    let total : sum (shape_count s ∷ map shape_count shapes) ≡ shape_count s + sum (map shape_count shapes) = sum_by-cons (λ (n : ℕ). n) (shape_count s) (map shape_count shapes) in
    omega (arith, here, rest, total)
