-- The code of lines that fit is sound, line by line.
use Rattle.std.proofs.Common.{◌≡◌, ℕ, zero, suc, ◌+◌, ◌-◌, ◌<◌, nat_lt, pos, true, false, ◌&&◌, List, [], ◌∷◌, ◌++◌, length, map, get_or, slice_set, Option, None, Some, refl, sym, ap, subst, ◌∙◌, length-append, arith}
use Rattle.std.specs.List.{fold, list_all}
use Rattle.std.proofs.lemmas.List.{map-append, get_or-set_same}
use Rattle.std.proofs.Math.ListN.{get_or-map}
use Rattle.std.proofs.lemmas.Bool.Decides.{nat_tests}
use Rattle.code_forms.specs.declared.guard.GuardExpr.{GuardExpr}
use Rattle.code_forms.specs.declared.guard.GuardLine.{GuardLine}
use Rattle.code_forms.specs.declared.guard.GuardLine.TheVariants as line
use Rattle.code_forms.specs.declared.guard.ArrayShape.{ArrayShape}
use Rattle.code_forms.specs.declared.flat.Operand.{Operand}
use Rattle.code_forms.specs.declared.flat.Operand.TheVariants as operand
use Rattle.code_forms.specs.declared.flat.Instr.{Instr}
use Rattle.code_forms.specs.declared.flat.Instr.TheVariants as instr
use Rattle.mp5_words.specs.Copies.{Copy}
use Rattle.code_forms.specs.GuardValid.{fits, operators_in, arrays_in, line_arrays, line_fits, guard_fits, guards_fit, guards_after}
use Rattle.code_forms.specs.GuardMeaning.{index_at, line_guard}
use Rattle.code_forms.specs.FlatValid.{Written, Event, header_slots, is_written, is_guard, instr_fits, instrs_fit, after, after_all, events, makes_copy}
use Rattle.code_forms.specs.FlatMeaning.{Step, plain_step}
use Rattle.code_forms.specs.FlatMeaning.{index_operand}
use Rattle.code_forms.proofs.OrderLemmas.{operand_behind, operand_here}
use Rattle.code_forms.proofs.EachLemmas.{Each}
use Rattle.code_forms.proofs.ValidLemmas.{and_front, and_back, and_both}
use Rattle.code_forms.proofs.BelowLemmas.{line_below}
use Rattle.code_forms.proofs.FitLemmas.{fit_join, after_join, after_length, events_join, kept, kept_guard, new_slot, new_guard, same_length, index_here, load_here, index_other, load_other}
use Rattle.ssa_flatten.specs.Flattening.{Code, Sofar, operand_at, copy_operand, flat, flat_index, latest_operand, latest_in, touch_new, touch_array, assigning, rewritten, flat_done, flat_line, flat_lines}
use Rattle.ssa_flatten.specs.Counting.{index_operators}
use Rattle.ssa_flatten.proofs.FitExprs.{LatestFit, Fits, expr_fits, plainly}
use Rattle.ssa_flatten.proofs.StepsLemmas.{instrs_of, plain_instrs}
use Rattle.ssa_flatten.proofs.Outcome.{length_replicate}
use Rattle.ssa_flatten.proofs.Sound.{each_at, slots, GuardSound, CopySound, Sound, guard_grows, grows, sets_field, adds_guards, touches_again, touches_first, sets_copy}

-- the instructions of steps behind others
pub instrs_more : (steps : List Step) (xs : List Instr) (more : List Step) → instrs_of (steps ++ (map plain_step xs ++ more)) ≡ instrs_of steps ++ (xs ++ instrs_of more)
instrs_more steps xs more =
    map-append (λ (s : Step). s.instr) steps (map plain_step xs ++ more)
    ∙ ap (λ l. instrs_of steps ++ l) (map-append (λ (s : Step). s.instr) (map plain_step xs) more ∙ ap (λ l. l ++ instrs_of more) (plain_instrs xs))

module _ (header : ℕ) (shapes : List ArrayShape) (arrays : ℕ)
    (indexes_fit : (a : ℕ) (index : GuardExpr) → index_at shapes a ≡ Some index → fits header 0 index ≡ true) where
  abbrev pub SoundCode : Sofar → Type 0
  SoundCode s = Sound header arrays (instrs_of s.steps) s.next s.fields s.guards s.copies s.later

  abbrev pub held : Sofar → Written
  held s = slots header arrays (instrs_of s.steps)

  -- ---- what an expression sees

  latest_sound : (w : Written) (es : List Event) (x : Operand) (c : Option (Copy Operand)) → CopySound header arrays w es x c → is_written w (copy_operand (latest_operand c)) ≡ true
  latest_sound w es x None h = refl
  latest_sound w es x (Some c) h = h.1

  pub sees : (s : Sofar) → SoundCode s → LatestFit (held s) (latest_in s)
  sees s h = record {
    fields = h.fields;
    copies = λ a. ap (λ o. is_written (held s) (copy_operand o)) (get_or-map latest_operand s.copies a None) ∙ latest_sound (held s) (events a (instrs_of s.steps)) (index_operand (instrs_of s.steps) a) (get_or s.copies a None) (h.copies a);
  }

  -- an index fits, where there is one
  pub index_fits : (s : Sofar) (a : ℕ) → SoundCode s → (index : Option GuardExpr) → index_at shapes a ≡ index → Fits header 0 arrays (held s) (index_operators index) (flat_index index (latest_in s) s.next)
  index_fits s a h None is = plainly header 0 arrays (operand.Number (pos 0)) (held s) s.next h.ends refl
  index_fits s a h (Some index) is = expr_fits header 0 arrays index (indexes_fit a index is) (held s) (latest_in s) s.next h.ends (sees s h)

  -- ---- an array is touched

  pub record Touched (x : Operand) (s : Sofar) : Type 0 where
    pub code : SoundCode s
    pub guard : GuardSound header arrays (held s) x

  pub touch_sound : (s : Sofar) (x : Operand) (a : ℕ) → a < arrays → Touched x s → Touched x (touch_array shapes x s a)
  touch_sound s x a there h = by_copy (get_or s.copies a None) refl where
    by_copy : (c : Option (Copy Operand)) → get_or s.copies a None ≡ c → Touched x (touch_new shapes x s a c)
    by_copy (Some c) is = record {
      code = touches_again header arrays (instrs_of s.steps) s.next s.fields s.guards s.copies s.later a c x h.code is h.guard;
      guard = h.guard;
    }
    by_copy None is =
        let instrs : List Instr = instrs_of s.steps in
        let w : Written = held s in
        let index = index_fits s a h.code (index_at shapes a) refl in
        let code : Code = flat_index (index_at shapes a) (latest_in s) s.next in
        let v : Written = after_all w code.instrs in
        let two : List Instr = instr.Index a code.result ∷ instr.Load a ∷ [] in
        let xs : List Instr = code.instrs ++ two in
        let new : Copy Operand = record { index = code.result; latest = operand.Slot (suc code.next); under = x ∷ []; stored = [] } in
        let under : Each (GuardSound header arrays w) (x ∷ []) = (h.guard, tt) in
        let below : nat_lt a arrays ≡ true = grind (arith, nat_tests, there) in
        let ends : code.next ≡ s.next + length code.instrs = omega (arith, index.next, h.code.ends, after_length w code.instrs) in
        let all : slots header arrays (instrs ++ xs) ≡ after (after v (instr.Index a code.result)) (instr.Load a) = after_join (header_slots header) instrs xs ∙ after_join w code.instrs two in
        let behind : length (after v (instr.Index a code.result)).words ≡ suc code.next = omega (arith, index.next, length-append v.words (true ∷ [])) in
        let same : instrs_of (s.steps ++ (map plain_step code.instrs ++ (plain_step (instr.Index a code.result) ∷ plain_step (instr.Load a) ∷ []))) ≡ instrs ++ xs = instrs_more s.steps code.instrs (plain_step (instr.Index a code.result) ∷ plain_step (instr.Load a) ∷ []) in
        record {
          code = subst (λ l. Sound header arrays l (suc (suc code.next)) s.fields s.guards (slice_set s.copies a (Some new)) s.later) (sym same)
              (touches_first header arrays instrs xs s.next (suc (suc code.next)) s.fields s.guards s.copies s.later a new h.code there is
              (fit_join arrays w code.instrs two index.fit (and_both (nat_lt a arrays && is_written v code.result) _ (and_both (nat_lt a arrays) _ below index.written) (and_both (nat_lt a arrays) true below refl)))
              (omega (arith, ends, length-append code.instrs two))
              (events_join a code.instrs two ∙ (λ i. index.quiet a i ++ (index_here a code.result i ++ (load_here a i ++ []))))
              (λ b other. events_join b code.instrs two ∙ (λ i. index.quiet b i ++ (index_other a b code.result (λ e. other (sym e)) i ++ (load_other a b (λ e. other (sym e)) i ++ []))))
              (ap (λ u. is_written u (operand.Slot (suc code.next))) all ∙ new_slot (after v (instr.Index a code.result)) (instr.Load a) (suc code.next) behind refl)
              refl under (operand_behind code.instrs two a (index.quiet a) ∙ operand_here a code.result (instr.Load a ∷ [])));
          guard = subst (λ l. GuardSound header arrays (slots header arrays l) x) (sym same) (guard_grows header arrays instrs xs x h.guard);
        }

  pub touches_sound : (bs : List ℕ) (s : Sofar) (x : Operand) → Each (λ a. a < arrays) bs → Touched x s → Touched x (fold (touch_array shapes x) s bs)
  touches_sound [] s x there h = h
  touches_sound (b ∷ bs) s x there h = touches_sound bs (touch_array shapes x s b) x there.1 (touch_sound s x b there.0 h)

  -- ---- touching leaves the guards, and an array that is touched is loaded

  touch_guards : (s : Sofar) (x : Operand) (a : ℕ) → (touch_array shapes x s a).guards ≡ s.guards
  touch_guards s x a = by_copy (get_or s.copies a None) where
    by_copy : (c : Option (Copy Operand)) → (touch_new shapes x s a c).guards ≡ s.guards
    by_copy (Some c) = refl
    by_copy None = refl

  pub touches_guards : (bs : List ℕ) (s : Sofar) (x : Operand) → (fold (touch_array shapes x) s bs).guards ≡ s.guards
  touches_guards [] s x = refl
  touches_guards (b ∷ bs) s x = touches_guards bs (touch_array shapes x s b) x ∙ touch_guards s x b

  abbrev pub Loaded : Sofar → ℕ → Type 0
  Loaded s a = (c : Copy Operand) × (get_or s.copies a None ≡ Some c)

  set_loads : (cs : List (Option (Copy Operand))) (a b : ℕ) (n : Copy Operand) → (c : Copy Operand) × (get_or cs a None ≡ Some c) → (c : Copy Operand) × (get_or (slice_set cs b (Some n)) a None ≡ Some c)
  set_loads [] a b n l = l
  set_loads (c ∷ cs) zero zero n l = (n, refl)
  set_loads (c ∷ cs) (suc a) zero n l = l
  set_loads (c ∷ cs) zero (suc b) n l = l
  set_loads (c ∷ cs) (suc a) (suc b) n l = set_loads cs a b n l

  touch_keeps : (s : Sofar) (x : Operand) (a b : ℕ) → Loaded s a → Loaded (touch_array shapes x s b) a
  touch_keeps s x a b l = by_copy (get_or s.copies b None) where
    by_copy : (c : Option (Copy Operand)) → Loaded (touch_new shapes x s b c) a
    by_copy (Some c) = set_loads s.copies a b _ l
    by_copy None = set_loads s.copies a b _ l

  touches_keep : (bs : List ℕ) (s : Sofar) (x : Operand) (a : ℕ) → Loaded s a → Loaded (fold (touch_array shapes x) s bs) a
  touches_keep [] s x a l = l
  touches_keep (b ∷ bs) s x a l = touches_keep bs (touch_array shapes x s b) x a (touch_keeps s x a b l)

  touch_loads : (s : Sofar) (x : Operand) (a : ℕ) → a < length s.copies → Loaded (touch_array shapes x s a) a
  touch_loads s x a there = by_copy (get_or s.copies a None) where
    by_copy : (c : Option (Copy Operand)) → Loaded (touch_new shapes x s a c) a
    by_copy (Some c) = (_, get_or-set_same s.copies a _ None there)
    by_copy None = (_, get_or-set_same s.copies a _ None there)

  -- ---- a line whose arrays are touched

  -- the array of an assignment is loaded
  abbrev pub TargetLoaded : GuardLine → Sofar → Type 0
  TargetLoaded (line.SetCell a guard value) s = Loaded s a
  TargetLoaded (line.Test cond under first second) s = Unit {0}
  TargetLoaded (line.SetField f guard value) s = Unit {0}

  -- an assignment's last instruction writes a word, and is no event
  assign_fits : (w : Written) (k : ℕ) (guard value old : Operand) → is_written w guard ≡ true → is_written w value ≡ true → is_written w old ≡ true → instr_fits arrays w (assigning k guard value old) ≡ true
  assign_fits w zero guard value old one two three = two
  assign_fits w (suc k) guard value old one two three = and_both (is_written w guard) _ one (and_both (is_written w value) _ two three)

  assign_silent : (k a : ℕ) (guard value old : Operand) → events a (assigning k guard value old ∷ []) ≡ []
  assign_silent zero a guard value old = refl
  assign_silent (suc k) a guard value old = refl

  assign_copies : (k : ℕ) (guard value old : Operand) → makes_copy (assigning k guard value old) ≡ true
  assign_copies zero guard value old = refl
  assign_copies (suc k) guard value old = refl

  assign_slot : (w : Written) (k at : ℕ) (guard value old : Operand) → length w.words ≡ at → is_written (after w (assigning k guard value old)) (operand.Slot at) ≡ true
  assign_slot w zero at guard value old long = new_slot w (instr.Move value) at long refl
  assign_slot w (suc k) at guard value old long = new_slot w (instr.Pick guard value old) at long refl

  -- a line's expression, and the slots behind its code
  module _ (s : Sofar) (h : SoundCode s) (m : ℕ) (code : Code) (fit : Fits header arrays arrays (held s) m code) where
    abbrev v : Written
    v = after_all (held s) code.instrs

    ends : code.next ≡ s.next + length code.instrs
    ends = omega (arith, fit.next, h.ends, after_length (held s) code.instrs)

    behind : (more : List Instr) → slots header arrays (instrs_of s.steps ++ (code.instrs ++ more)) ≡ after_all v more
    behind more = after_join (header_slots header) (instrs_of s.steps) (code.instrs ++ more) ∙ after_join (held s) code.instrs more

    stays : (x : Operand) → is_written (held s) x ≡ true → is_written v x ≡ true
    stays x e = kept (held s) code.instrs x e

    guarded : (x : Operand) → GuardSound header arrays (held s) x → GuardSound header arrays v x
    guarded x g = (kept_guard (held s) code.instrs x g.0, kept (held s) code.instrs x g.1)

    -- as many marks of guards as of words
    guards_end : length v.guards ≡ code.next
    guards_end = same_length (held s) code.instrs (same_length (header_slots header) (instrs_of s.steps) (length_replicate header false ∙ sym (length_replicate header true))) ∙ fit.next

    -- a test: two guards
    test_sound : (g : Operand) → GuardSound header arrays (held s) g
        → Sound header arrays (instrs_of s.steps ++ (code.instrs ++ (instr.Yes g code.result ∷ instr.No g code.result ∷ []))) (suc (suc code.next)) s.fields (s.guards ++ (operand.Slot code.next ∷ operand.Slot (suc code.next) ∷ [])) s.copies s.later
    test_sound g on =
        let two : List Instr = instr.Yes g code.result ∷ instr.No g code.result ∷ [] in
        let u : Written = after v (instr.Yes g code.result) in
        let here = guarded g on in
        let all : slots header arrays (instrs_of s.steps ++ (code.instrs ++ two)) ≡ after u (instr.No g code.result) = behind two in
        let words : length u.words ≡ suc code.next = omega (arith, fit.next, length-append v.words (true ∷ [])) in
        let guards : length u.guards ≡ suc code.next = omega (arith, guards_end, length-append v.guards (true ∷ [])) in
        let first : GuardSound header arrays u (operand.Slot code.next) = (new_guard v (instr.Yes g code.result) code.next guards_end refl, new_slot v (instr.Yes g code.result) code.next fit.next refl) in
        let one : GuardSound header arrays (after u (instr.No g code.result)) (operand.Slot code.next) = (kept_guard u (instr.No g code.result ∷ []) (operand.Slot code.next) first.0, kept u (instr.No g code.result ∷ []) (operand.Slot code.next) first.1) in
        let other : GuardSound header arrays (after u (instr.No g code.result)) (operand.Slot (suc code.next)) = (new_guard u (instr.No g code.result) (suc code.next) guards refl, new_slot u (instr.No g code.result) (suc code.next) words refl) in
        let fits : instrs_fit arrays (held s) (code.instrs ++ two) ≡ true = fit_join arrays (held s) code.instrs two fit.fit
        (and_both (is_guard v g && is_written v code.result) _ (and_both (is_guard v g) _ here.0 fit.written)
        (and_both (is_guard u g && is_written u code.result) true (and_both (is_guard u g) _ (kept_guard v (instr.Yes g code.result ∷ []) g here.0) (kept v (instr.Yes g code.result ∷ []) code.result fit.written)) refl)) in
        adds_guards header arrays (instrs_of s.steps ++ (code.instrs ++ two)) (suc (suc code.next)) s.fields s.guards s.copies s.later (operand.Slot code.next) (operand.Slot (suc code.next))
        (grows header arrays (instrs_of s.steps) (code.instrs ++ two) s.next (suc (suc code.next)) s.fields s.guards s.copies s.later h fits
        (omega (arith, ends, length-append code.instrs two))
        (λ a. events_join a code.instrs two ∙ (λ i. fit.quiet a i ++ [])))
        (subst (λ w. GuardSound header arrays w (operand.Slot code.next)) (sym all) one)
        (subst (λ w. GuardSound header arrays w (operand.Slot (suc code.next))) (sym all) other)

    -- an assignment's last instruction
    module _ (k : ℕ) (g old : Operand) (on : GuardSound header arrays (held s) g) (was : is_written (held s) old ≡ true) where
      abbrev last : Instr
      last = assigning k g code.result old

      last_fits : instrs_fit arrays (held s) (code.instrs ++ last ∷ []) ≡ true
      last_fits = fit_join arrays (held s) code.instrs (last ∷ []) fit.fit (and_both (instr_fits arrays v last) true (assign_fits v k g code.result old (guarded g on).1 fit.written (stays old was)) refl)

      last_slot : is_written (slots header arrays (instrs_of s.steps ++ (code.instrs ++ last ∷ []))) (operand.Slot code.next) ≡ true
      last_slot = ap (λ w. is_written w (operand.Slot code.next)) (behind (last ∷ [])) ∙ assign_slot v k code.next g code.result old fit.next

      last_ends : suc code.next ≡ s.next + length (code.instrs ++ last ∷ [])
      last_ends = omega (arith, ends, length-append code.instrs (last ∷ []))

      -- to a field
      field_sound : (f : ℕ) → Sound header arrays (instrs_of s.steps ++ (code.instrs ++ last ∷ [])) (suc code.next) (slice_set s.fields f (operand.Slot code.next)) s.guards s.copies s.later
      field_sound f = sets_field header arrays (instrs_of s.steps ++ (code.instrs ++ last ∷ [])) (suc code.next) s.fields s.guards s.copies s.later f (operand.Slot code.next)
          (grows header arrays (instrs_of s.steps) (code.instrs ++ last ∷ []) s.next (suc code.next) s.fields s.guards s.copies s.later h last_fits last_ends
          (λ a. events_join a code.instrs (last ∷ []) ∙ (λ i. fit.quiet a i ++ assign_silent k a g code.result old i)))
          last_slot

      -- to an array that is loaded
      cell_sound : (a n : ℕ) (c : Copy Operand) → a < arrays → get_or s.copies a None ≡ Some c → n ≡ length (instrs_of s.steps ++ code.instrs)
          → Sound header arrays (instrs_of s.steps ++ (code.instrs ++ last ∷ [])) (suc code.next) s.fields s.guards (slice_set s.copies a (rewritten (operand.Slot code.next) code.result (Some c))) (slice_set s.later a (get_or s.later a [] ++ n ∷ []))
      cell_sound a n c there is number = sets_copy header arrays (instrs_of s.steps) code.instrs last s.next (suc code.next) s.fields s.guards s.copies s.later a n c (operand.Slot code.next) code.result h there is last_fits last_ends fit.quiet
          (λ b. assign_silent k b g code.result old) (assign_copies k g code.result old) number last_slot

  -- ---- lines

  -- the slot behind the header's and the instructions'
  pub number_is : (s : Sofar) → SoundCode s → s.next ≡ header + length (instrs_of s.steps)
  number_is s h = omega (arith, h.ends, after_length (header_slots header) (instrs_of s.steps), length_replicate header true)

  pub done_sound : (l : GuardLine) (s : Sofar) (m : ℕ) → line_fits header arrays l ≡ true → guard_fits m l ≡ true → length s.guards ≡ m → TargetLoaded l s → SoundCode s → SoundCode (flat_done header l s)
  done_sound (line.Test e under first second) s m fits guards long target h =
      let code : Code = flat e (latest_in s) s.next in
      let fit = expr_fits header arrays arrays e fits (held s) (latest_in s) s.next h.ends (sees s h) in
      let within : under < length s.guards = under_is (and_front (nat_lt under m) _ guards) in
      let g : Operand = operand_at s.guards under in
      subst (λ l. Sound header arrays l (suc (suc code.next)) s.fields (s.guards ++ (operand.Slot code.next ∷ operand.Slot (suc code.next) ∷ [])) s.copies s.later)
      (sym (instrs_more s.steps code.instrs (plain_step (instr.Yes g code.result) ∷ plain_step (instr.No g code.result) ∷ [])))
      (test_sound s h (operators_in e) code fit g (each_at (GuardSound header arrays (held s)) (operand.Number (pos 0)) s.guards under within h.guards)) where
        under_is : nat_lt under m ≡ true → under < length s.guards
        under_is t = let n : length s.guards ≡ m = long in grind (arith, nat_tests, t, n)
  done_sound (line.SetField f k e) s m fits guards long target h =
      let code : Code = flat e (latest_in s) s.next in
      let fit = expr_fits header arrays arrays e (and_back (nat_lt f header) _ fits) (held s) (latest_in s) s.next h.ends (sees s h) in
      let within : k < length s.guards = guard_is guards in
      let g : Operand = operand_at s.guards k in
      let old : Operand = operand_at s.fields f in
      subst (λ l. Sound header arrays l (suc code.next) (slice_set s.fields f (operand.Slot code.next)) s.guards s.copies s.later)
      (sym (instrs_more s.steps code.instrs (plain_step (assigning k g code.result old) ∷ [])))
      (field_sound s h (operators_in e) code fit k g old (each_at (GuardSound header arrays (held s)) (operand.Number (pos 0)) s.guards k within h.guards) (h.fields f) f) where
        guard_is : nat_lt k m ≡ true → k < length s.guards
        guard_is t = let n : length s.guards ≡ m = long in grind (arith, nat_tests, t, n)
  done_sound (line.SetCell a k e) s m fits guards long target h =
      let code : Code = flat e (latest_in s) s.next in
      let fit = expr_fits header arrays arrays e (and_back (nat_lt a arrays) _ fits) (held s) (latest_in s) s.next h.ends (sees s h) in
      let within : k < length s.guards = guard_is guards in
      let there : a < arrays = array_is (and_front (nat_lt a arrays) _ fits) in
      let g : Operand = operand_at s.guards k in
      let c : Copy Operand = target.0 in
      let was : is_written (held s) c.latest ≡ true = (subst (CopySound header arrays (held s) (events a (instrs_of s.steps)) (index_operand (instrs_of s.steps) a)) target.1 (h.copies a)).1 in
      let number : code.next - header ≡ length (instrs_of s.steps ++ code.instrs) = omega (arith, ends s h (operators_in e) code fit, number_is s h, length-append (instrs_of s.steps) code.instrs) in
      let sound = cell_sound s h (operators_in e) code fit k g c.latest (each_at (GuardSound header arrays (held s)) (operand.Number (pos 0)) s.guards k within h.guards) was a (code.next - header) c there target.1 number in
      let behind : List Step = record { instr = assigning k g code.result c.latest; copy = Some a } ∷ [] in
      subst (λ (o : Option (Copy Operand)). Sound header arrays (instrs_of (s.steps ++ (map plain_step code.instrs ++ record { instr = assigning k g code.result (copy_operand (latest_operand o)); copy = Some a } ∷ []))) (suc code.next) s.fields s.guards (slice_set s.copies a (rewritten (operand.Slot code.next) code.result o)) (slice_set s.later a (get_or s.later a [] ++ (code.next - header) ∷ [])))
      (sym target.1)
      (subst (λ l. Sound header arrays l (suc code.next) s.fields s.guards (slice_set s.copies a (rewritten (operand.Slot code.next) code.result (Some c))) (slice_set s.later a (get_or s.later a [] ++ (code.next - header) ∷ [])))
      (sym (instrs_more s.steps code.instrs behind)) sound) where
        guard_is : nat_lt k m ≡ true → k < length s.guards
        guard_is t = let n : length s.guards ≡ m = long in grind (arith, nat_tests, t, n)

        array_is : nat_lt a arrays ≡ true → a < arrays
        array_is t = grind (arith, nat_tests, t)

  -- the arrays of a line are touched
  pub line_touched : (l : GuardLine) (s : Sofar) (m : ℕ) → line_fits header arrays l ≡ true → guard_fits m l ≡ true → length s.guards ≡ m → SoundCode s → Touched (operand_at s.guards (line_guard l)) s
  line_touched l s m fits guards long h = record { code = h; guard = each_at (GuardSound header arrays (held s)) (operand.Number (pos 0)) s.guards (line_guard l) (within l guards) h.guards } where
    below : (k : ℕ) → nat_lt k m ≡ true → k < length s.guards
    below k e = let n : length s.guards ≡ m = long in grind (arith, nat_tests, e, n)

    within : (l : GuardLine) → guard_fits m l ≡ true → line_guard l < length s.guards
    within (line.Test cond under first second) e = below under (and_front (nat_lt under m) _ e)
    within (line.SetField f k value) e = below k e
    within (line.SetCell a k value) e = below k e

  -- the array of an assignment is loaded then
  pub line_target : (l : GuardLine) (s : Sofar) → SoundCode s → line_fits header arrays l ≡ true → TargetLoaded l (fold (touch_array shapes (operand_at s.guards (line_guard l))) s (line_arrays l))
  line_target (line.Test cond under first second) s h e = tt
  line_target (line.SetField f k value) s h e = tt
  line_target (line.SetCell a k value) s h e = touches_keep (arrays_in value) (touch_array shapes (operand_at s.guards k) s a) (operand_at s.guards k) a (touch_loads s (operand_at s.guards k) a (array_is (and_front (nat_lt a arrays) _ e))) where
    array_is : nat_lt a arrays ≡ true → a < length s.copies
    array_is e = let n : length s.copies ≡ arrays = h.many in grind (arith, nat_tests, e, n)

  -- a line
  pub line_sound : (l : GuardLine) (s : Sofar) (m : ℕ) → line_fits header arrays l ≡ true → guard_fits m l ≡ true → length s.guards ≡ m → SoundCode s → SoundCode (flat_line header shapes s l)
  line_sound l s m fits guards long h =
      let x : Operand = operand_at s.guards (line_guard l) in
      let t : Sofar = fold (touch_array shapes x) s (line_arrays l) in
      let touched = touches_sound (line_arrays l) s x (line_below header arrays l fits) (line_touched l s m fits guards long h) in
      done_sound l t m fits guards (ap length (touches_guards (line_arrays l) s x) ∙ long) (line_target l s h fits) touched.code

  -- how many guards there are after a line
  pub line_guards : (l : GuardLine) (s : Sofar) (m : ℕ) → length s.guards ≡ m → length (flat_line header shapes s l).guards ≡ guards_after l m
  line_guards (line.Test cond under first second) s m long =
      let t : Sofar = fold (touch_array shapes (operand_at s.guards under)) s (line_arrays (line.Test cond under first second)) in
      omega (arith, length-append t.guards (operand.Slot (flat cond (latest_in t) t.next).next ∷ operand.Slot (suc (flat cond (latest_in t) t.next).next) ∷ []), ap length (touches_guards (line_arrays (line.Test cond under first second)) s (operand_at s.guards under)), long)
  line_guards (line.SetField f k value) s m long = ap length (touches_guards (line_arrays (line.SetField f k value)) s (operand_at s.guards k)) ∙ long
  line_guards (line.SetCell a k value) s m long = ap length (touches_guards (line_arrays (line.SetCell a k value)) s (operand_at s.guards k)) ∙ long

  -- lines, one after another
  pub lines_sound : (lines : List GuardLine) (s : Sofar) (m : ℕ) → list_all (line_fits header arrays) lines ≡ true → guards_fit m lines ≡ true → length s.guards ≡ m → SoundCode s → SoundCode (flat_lines header shapes lines s)
  lines_sound [] s m fits guards long h = h
  lines_sound (l ∷ lines) s m fits guards long h =
      let one : guard_fits m l ≡ true = and_front (guard_fits m l) _ guards in
      lines_sound lines (flat_line header shapes s l) (guards_after l m) (and_back (line_fits header arrays l) _ fits) (and_back (guard_fits m l) _ guards) (line_guards l s m long)
      (line_sound l s m (and_front (line_fits header arrays l) _ fits) one long h)
