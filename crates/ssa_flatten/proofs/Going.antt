-- The code of lines one after another: what is done, and what is left.
use Rattle.std.proofs.Common.{◌≡◌, ℕ, zero, suc, ◌+◌, ◌<◌, ◌≤◌, nat_le, true, List, [], ◌∷◌, ◌++◌, length, map, sum, drop, get_or, replicate, Option, None, Some, refl, sym, ap, ◌∙◌, arith}
use Rattle.std.specs.Prelude.{All}
use Rattle.std.specs.List.{list_all}
use Rattle.std.proofs.lemmas.List.{length-map}
use Rattle.std.proofs.lemmas.List.Sums.{sum_by-cons}
use Rattle.std.proofs.lemmas.Bool.Decides.{nat_tests}
use Rattle.code_forms.specs.declared.guard.GuardLine.{GuardLine}
use Rattle.code_forms.specs.declared.guard.ArrayShape.{ArrayShape}
use Rattle.code_forms.specs.declared.flat.Operand.{Operand}
use Rattle.mp5_words.specs.Copies.{Copy}
use Rattle.code_forms.specs.GuardValid.{line_arrays, line_count, line_fits, guard_fits, guards_fit, guards_after, guard_count, is_guard_code}
use Rattle.code_forms.proofs.ValidLemmas.{and_front, and_back}
use Rattle.code_forms.proofs.BelowLemmas.{line_below}
use Rattle.ssa_flatten.specs.Counting.{unloaded}
use Rattle.ssa_flatten.specs.Flattening.{Sofar, latest_operand, flat_start, flat_line, flat_lines, flat_instrs}
use Rattle.ssa_flatten.specs.Flattened.{flat_end, under_of, AreFlat}
use Rattle.ssa_flatten.specs.Views.{View, view, stores_of, touched_lists, copy_lists, AreArrays}
use Rattle.ssa_flatten.proofs.Sound.{each_at}
use Rattle.ssa_flatten.proofs.SoundLines as sound
use Rattle.ssa_flatten.proofs.CountLines.{loaded_count, Counted, line_counts}
use Rattle.ssa_flatten.proofs.StepsLemmas.{length_instrs}
use Rattle.ssa_flatten.specs.declared.sofar.Touches.{Touches}
use Rattle.code_forms.specs.declared.flat.FlatArray.{FlatArray}
use Rattle.ssa_flatten.proofs.Starting.{stores_are}
use Rattle.ssa_flatten.proofs.Unloaded.{unloaded_first}
use Rattle.ssa_flatten.proofs.Whole as whole

-- what is loaded and what isn't, together, is what all loads make
both_loads : (shapes : List ArrayShape) (copies : List (Option (Copy Operand))) → length copies ≡ length shapes
    → loaded_count shapes copies + unloaded shapes (map latest_operand copies) ≡ unloaded shapes (replicate (length shapes) None)
both_loads [] copies long = refl
both_loads (s ∷ shapes) [] long = absurd (omega (arith, long))
both_loads (s ∷ shapes) (None ∷ copies) long =
    let rest : loaded_count shapes copies + unloaded shapes (map latest_operand copies) ≡ unloaded shapes (replicate (length shapes) None) = both_loads shapes copies (omega (arith, long)) in
    omega (arith, rest)
both_loads (s ∷ shapes) (Some c ∷ copies) long =
    let rest : loaded_count shapes copies + unloaded shapes (map latest_operand copies) ≡ unloaded shapes (replicate (length shapes) None) = both_loads shapes copies (omega (arith, long)) in
    omega (arith, rest)

-- what is left begins with the next item
pub drop_next : {X : Type 0} (xs : List X) (i : ℕ) (x : X) → i < length xs → x ≡ get_or xs i x → drop i xs ≡ x ∷ drop (i + 1) xs
drop_next {X = X} xs i x there is = general xs i there is ∙ (λ j. x ∷ drop (by_suc j) xs) where
  by_suc : suc i ≡ i + 1
  by_suc = omega arith

  general : (xs : List X) (i : ℕ) → i < length xs → x ≡ get_or xs i x → drop i xs ≡ x ∷ drop (suc i) xs
  general [] i there is = absurd (omega arith)
  general (y ∷ xs) zero there is = λ j. sym is j ∷ xs
  general (y ∷ xs) (suc i) there is = general xs i (omega (arith, there)) is

module _ (header : ℕ) (shapes : List ArrayShape) (lines : List GuardLine) (valid : is_guard_code header shapes lines ≡ true) where
  -- the lines before these are done
  pub record Going (h : View) (rest : List GuardLine) : Type 0 where
    pub s : Sofar
    pub is : h ≡ view s
    pub code : sound.SoundCode header shapes (length shapes) (whole.indexes_fit header shapes lines valid) s
    pub guards : ℕ
    pub long : length s.guards ≡ guards
    pub ok : guards_fit guards rest ≡ true
    pub fit : list_all (line_fits header (length shapes)) rest ≡ true
    pub left : flat_lines header shapes rest s ≡ flat_end header shapes lines
    pub count : ℕ
    pub counted : Counted header shapes (whole.indexes_fit header shapes lines valid) count s
    pub total : count + sum (map line_count rest) ≡ sum (map line_count lines)

  pub begins : (h : View) → h ≡ view (flat_start header shapes) → Going h lines
  begins h is = record {
    s = flat_start header shapes;
    is = is;
    code = whole.start header shapes lines valid;
    guards = 1;
    long = refl;
    ok = whole.guards_are header shapes lines valid;
    fit = whole.lines_fit header shapes lines valid;
    left = refl;
    count = 0;
    counted = omega (arith, whole.nothing_loaded header shapes lines valid shapes);
    total = omega arith;
  }

  pub goes : (h new : View) (l : GuardLine) (rest : List GuardLine) (g : Going h (l ∷ rest)) → ((s : Sofar) → h ≡ view s → new ≡ view (flat_line header shapes s l)) → Going new rest
  goes h new l rest g does =
      let one : guard_fits g.guards l ≡ true = and_front (guard_fits g.guards l) _ g.ok in
      let fit : line_fits header (length shapes) l ≡ true = and_front (line_fits header (length shapes) l) _ g.fit in
      let sums : sum (line_count l ∷ map line_count rest) ≡ line_count l + sum (map line_count rest) = sum_by-cons (λ (n : ℕ). n) (line_count l) (map line_count rest) in
      record {
        s = flat_line header shapes g.s l;
        is = does g.s g.is;
        code = sound.line_sound header shapes (length shapes) (whole.indexes_fit header shapes lines valid) l g.s g.guards fit one g.long g.code;
        guards = guards_after l g.guards;
        long = sound.line_guards header shapes (length shapes) (whole.indexes_fit header shapes lines valid) l g.s g.guards g.long;
        ok = and_back (guard_fits g.guards l) _ g.ok;
        fit = and_back (line_fits header (length shapes) l) _ g.fit;
        left = g.left;
        count = g.count + line_count l;
        counted = line_counts header shapes (whole.indexes_fit header shapes lines valid) l g.count g.s g.guards fit one g.long g.code g.counted;
        total = omega (arith, g.total, sums);
      }

  pub ends : (h : View) → Going h [] → h ≡ view (flat_end header shapes lines)
  ends h g = g.is ∙ ap view g.left

  -- ---- what a line asks

  pub arrays_there : (h : View) (l : GuardLine) (rest : List GuardLine) → Going h (l ∷ rest) → All (λ a. a < length shapes) (line_arrays l)
  arrays_there h l rest g = λ k d less. each_at (λ a. a < length shapes) d (line_arrays l) k less (line_below header (length shapes) l (and_front (line_fits header (length shapes) l) _ g.fit))

  pub copies_long : (h : View) (rest : List GuardLine) → Going h rest → length h.copies ≡ length shapes
  copies_long h rest g = ap (λ (v : View). length v.copies) g.is ∙ length-map g.s.copies latest_operand ∙ g.code.many

  pub touched_long : (h : View) (rest : List GuardLine) → Going h rest → length h.touched ≡ length shapes
  touched_long h rest g = ap (λ (v : View). length v.touched) g.is ∙ length-map g.s.copies under_of ∙ g.code.many

  next_is : (h : View) (rest : List GuardLine) (g : Going h rest) → h.next ≡ header + length g.s.steps
  next_is h rest g = ap (λ (v : View). v.next) g.is ∙ sound.number_is header shapes (length shapes) (whole.indexes_fit header shapes lines valid) g.s g.code ∙ ap (λ n. header + n) (length_instrs g.s.steps)

  pub behind : (h : View) (rest : List GuardLine) → Going h rest → header ≤ h.next
  behind h rest g = let n = next_is h rest g in omega (arith, n)

  pub room : guard_count shapes lines ≤ 1024 → (h : View) (l : GuardLine) (rest : List GuardLine) → Going h (l ∷ rest) → h.next + unloaded shapes h.copies + line_count l ≤ 1990
  room few h l rest g =
      let n = next_is h (l ∷ rest) g in
      let copies : unloaded shapes h.copies ≡ unloaded shapes (map latest_operand g.s.copies) = ap (λ (v : View). unloaded shapes v.copies) g.is in
      let loads = both_loads shapes g.s.copies g.code.many in
      let first = unloaded_first shapes in
      let sums : sum (line_count l ∷ map line_count rest) ≡ line_count l + sum (map line_count rest) = sum_by-cons (λ (n : ℕ). n) (line_count l) (map line_count rest) in
      let limits = whole.limited header shapes lines valid in
      let width : header ≤ 32 = at_most (and_front (nat_le header 32) _ limits) in
      let number : length shapes ≤ 16 = few_arrays (and_front (nat_le (length shapes) 16) _ (and_back (nat_le header 32) _ limits)) in
      omega (arith, n, copies, loads, first, sums, width, number, g.counted, g.total, few) where
        at_most : nat_le header 32 ≡ true → header ≤ 32
        at_most e = grind (arith, nat_tests, e)

        few_arrays : nat_le (length shapes) 16 ≡ true → length shapes ≤ 16
        few_arrays e = grind (arith, nat_tests, e)

  -- ---- behind the last line

  pub few_shapes : length shapes ≤ 16
  few_shapes = few_arrays (and_front (nat_le (length shapes) 16) _ (and_back (nat_le header 32) _ (whole.limited header shapes lines valid))) where
    few_arrays : nat_le (length shapes) 16 ≡ true → length shapes ≤ 16
    few_arrays e = grind (arith, nat_tests, e)

  pub end_copies : (h : View) → h ≡ view (flat_end header shapes lines) → length h.copies ≡ length shapes
  end_copies h is = ap (λ (v : View). length v.copies) is ∙ length-map (flat_end header shapes lines).copies latest_operand ∙ (whole.sound header shapes lines valid).many

  pub end_touched : (h : View) → h ≡ view (flat_end header shapes lines) → length h.touched ≡ length shapes
  end_touched h is = ap (λ (v : View). length v.touched) is ∙ length-map (flat_end header shapes lines).copies under_of ∙ (whole.sound header shapes lines valid).many

  pub end_instrs : (h : View) → h ≡ view (flat_end header shapes lines) → h.instrs ++ stores_of 0 h.copies ≡ flat_instrs header shapes lines
  end_instrs h is =
      ap (λ (v : View). v.instrs ++ stores_of 0 v.copies) is
      ∙ ap (λ l. whole.front header shapes lines valid ++ l) (stores_are 0 (flat_end header shapes lines).copies)
      ∙ sym (whole.parts header shapes lines valid)

  pub end_arrays : (h : View) (touches : List Touches) (arrays : List FlatArray) → h ≡ view (flat_end header shapes lines) → touched_lists touches ≡ h.touched → copy_lists touches ≡ h.later
      → AreArrays shapes touches arrays → AreFlat header shapes lines arrays
  end_arrays h touches arrays is touched later are = record {
    lengths = are.lengths;
    starts = are.starts;
    touched = are.touched ∙ touched ∙ ap (λ (v : View). v.touched) is;
    copies = are.copies ∙ later ∙ ap (λ (v : View). v.later) is;
    sames = are.sames;
  }
