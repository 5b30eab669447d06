-- What the code keeps, after a test and after an array is touched.
use Rattle.std.proofs.Common.{◌≡◌, ℕ, suc, List, [], ◌∷◌, ◌++◌, map, slice_set, get_or, Option, None, Some, refl, sym, ap, ◌∙◌}
use Rattle.std.proofs.lemmas.List.{set-get_or}
use Rattle.std.proofs.Math.ListN.{get_or-map}
use Rattle.code_forms.specs.declared.guard.GuardExpr.{GuardExpr}
use Rattle.code_forms.specs.declared.guard.GuardLine.TheVariants as line
use Rattle.code_forms.specs.declared.guard.ArrayShape.{ArrayShape}
use Rattle.code_forms.specs.declared.flat.Operand.{Operand}
use Rattle.code_forms.specs.declared.flat.Operand.TheVariants as operand
use Rattle.code_forms.specs.declared.flat.Instr.TheVariants as instr
use Rattle.ssa_flatten.specs.declared.sofar.Touches.{Touches}
use Rattle.mp5_words.specs.Copies.{Copy}
use Rattle.code_forms.specs.GuardMeaning.{index_at}
use Rattle.code_forms.specs.FlatMeaning.{Step, plain_step}
use Rattle.ssa_flatten.specs.Flattening.{Code, flat_index, Sofar, latest_operand, operand_at, flat_done, touch_new, touch_array}
use Rattle.ssa_flatten.specs.Flattened.{under_of}
use Rattle.ssa_flatten.specs.Views.{View, view, load_view, touched_view, no_array, with_guard, with_copy}
use Rattle.ssa_flatten.proofs.ViewLemmas.{code_of, map-set, set-same, instrs_behind}

-- ---- a test

pub test_is_held : (header u first second : ℕ) (e : GuardExpr) (s : Sofar) (h new : View) → h ≡ view s
    → new.instrs ≡ (h.instrs ++ (code_of e h).instrs) ++ instr.Yes (operand_at h.guards u) (code_of e h).result ∷ instr.No (operand_at h.guards u) (code_of e h).result ∷ []
    → new.next ≡ suc (suc (code_of e h).next)
    → new.guards ≡ h.guards ++ (operand.Slot (code_of e h).next ∷ operand.Slot (suc (code_of e h).next) ∷ [])
    → new.fields ≡ h.fields → new.copies ≡ h.copies → new.touched ≡ h.touched → new.later ≡ h.later → new ≡ view (flat_done header (line.Test e u first second) s)
test_is_held header u first second e s h new is instrs next guards fields copies touched later =
    (λ i. record { instrs = instrs i; next = next i; fields = fields i; copies = copies i; guards = guards i; touched = touched i; later = later i })
    ∙ (λ i. test_view (is i))
    ∙ (λ i. record {
      instrs = instrs_behind s.steps (code_of e (view s)).instrs (plain_step (instr.Yes (operand_at s.guards u) (code_of e (view s)).result) ∷ plain_step (instr.No (operand_at s.guards u) (code_of e (view s)).result) ∷ []) i;
      next = suc (suc (code_of e (view s)).next);
      fields = s.fields;
      copies = map latest_operand s.copies;
      guards = s.guards ++ (operand.Slot (code_of e (view s)).next ∷ operand.Slot (suc (code_of e (view s)).next) ∷ []);
      touched = map under_of s.copies;
      later = s.later;
    }) where
      test_view : View → View
      test_view h = record {
        instrs = (h.instrs ++ (code_of e h).instrs) ++ instr.Yes (operand_at h.guards u) (code_of e h).result ∷ instr.No (operand_at h.guards u) (code_of e h).result ∷ [];
        next = suc (suc (code_of e h).next);
        fields = h.fields;
        copies = h.copies;
        guards = h.guards ++ (operand.Slot (code_of e h).next ∷ operand.Slot (suc (code_of e h).next) ∷ []);
        touched = h.touched;
        later = h.later;
      }

-- ---- an array is touched

-- one that is loaded
pub touch_some : (shapes : List ArrayShape) (on x : Operand) (a : ℕ) (s : Sofar) (h : View) → h ≡ view s → get_or h.copies a None ≡ Some x
    → touched_view on a h ≡ view (touch_array shapes on s a)
touch_some shapes on x a s h is some = ap (touched_view on a) is ∙ by_copy (get_or s.copies a None) refl where
  by_copy : (c : Option (Copy Operand)) → get_or s.copies a None ≡ c → touched_view on a (view s) ≡ view (touch_new shapes on s a c)
  by_copy None e = absurd (differ (sym (ap (λ l. get_or l a None) (ap (λ (v : View). v.copies) is)) ∙ some)) where
    differ : get_or (map latest_operand s.copies) a None ≡ Some x → ⊥
    differ d = none_some (sym (get_or-map latest_operand s.copies a None ∙ ap latest_operand e) ∙ d) where
      none_some : None ≡ Some x → ⊥
      none_some n = cc
  by_copy (Some c) e = λ i. record {
    instrs = map (λ (s : Step). s.instr) s.steps;
    next = s.next;
    fields = s.fields;
    copies = (sym (set-same (map latest_operand s.copies) a (Some c.latest) (get_or-map latest_operand s.copies a None ∙ ap latest_operand e)) ∙ sym (map-set latest_operand s.copies a (Some (record { index = c.index; latest = c.latest; under = c.under ++ on ∷ []; stored = c.stored })))) i;
    guards = s.guards;
    touched = ((λ j. slice_set (map under_of s.copies) a ((get_or-map under_of s.copies a None ∙ ap under_of e) j ++ on ∷ [])) ∙ sym (map-set under_of s.copies a (Some (record { index = c.index; latest = c.latest; under = c.under ++ on ∷ []; stored = c.stored })))) i;
    later = s.later;
  }

-- one that isn't loaded yet
pub touch_none : (shapes : List ArrayShape) (on : Operand) (a : ℕ) (s : Sofar) (h : View) → h ≡ view s → get_or h.copies a None ≡ None
    → touched_view on a (load_view shapes a h) ≡ view (touch_array shapes on s a)
touch_none shapes on a s h is none = ap (λ v. touched_view on a (load_view shapes a v)) is ∙ by_copy (get_or s.copies a None) refl where
  by_copy : (c : Option (Copy Operand)) → get_or s.copies a None ≡ c → touched_view on a (load_view shapes a (view s)) ≡ view (touch_new shapes on s a c)
  by_copy (Some c) e = absurd (differ (sym (ap (λ l. get_or l a None) (ap (λ (v : View). v.copies) is)) ∙ none)) where
    differ : get_or (map latest_operand s.copies) a None ≡ None → ⊥
    differ d = some_none (sym (get_or-map latest_operand s.copies a None ∙ ap latest_operand e) ∙ d) where
      some_none : Some c.latest ≡ None → ⊥
      some_none n = cc
  by_copy None e = λ i. record {
    instrs = instrs_behind s.steps code.instrs (plain_step (instr.Index a code.result) ∷ plain_step (instr.Load a) ∷ []) i;
    next = suc (suc code.next);
    fields = s.fields;
    copies = sym (map-set latest_operand s.copies a (Some (record { index = code.result; latest = operand.Slot (suc code.next); under = on ∷ []; stored = [] }))) i;
    guards = s.guards;
    touched = ((λ j. slice_set (map under_of s.copies) a ((get_or-map under_of s.copies a None ∙ ap under_of e) j ++ on ∷ [])) ∙ sym (map-set under_of s.copies a (Some (record { index = code.result; latest = operand.Slot (suc code.next); under = on ∷ []; stored = [] })))) i;
    later = s.later;
  } where
    code : Code
    code = flat_index (index_at shapes a) (record { fields = s.fields; copies = map latest_operand s.copies }) s.next

-- ---- the arrays' lists

-- one more guard of an array
pub guard_added : (arrays new : List Touches) (a : ℕ) (on : Operand) → new ≡ slice_set arrays a (with_guard (get_or arrays a no_array) on)
    → (map (λ (f : Touches). f.touched) new ≡ slice_set (map (λ (f : Touches). f.touched) arrays) a (get_or (map (λ (f : Touches). f.touched) arrays) a [] ++ on ∷ []))
    × (map (λ (f : Touches). f.copies) new ≡ map (λ (f : Touches). f.copies) arrays)
guard_added arrays new a on is = (
  ap (map (λ (f : Touches). f.touched)) is ∙ map-set (λ (f : Touches). f.touched) arrays a (with_guard (get_or arrays a no_array) on)
      ∙ (λ i. slice_set (map (λ (f : Touches). f.touched) arrays) a (sym (get_or-map (λ (f : Touches). f.touched) arrays a no_array) i ++ on ∷ [])),
  ap (map (λ (f : Touches). f.copies)) is ∙ map-set (λ (f : Touches). f.copies) arrays a (with_guard (get_or arrays a no_array) on)
      ∙ (λ i. slice_set (map (λ (f : Touches). f.copies) arrays) a (sym (get_or-map (λ (f : Touches). f.copies) arrays a no_array) i)) ∙ set-get_or (map (λ (f : Touches). f.copies) arrays) a [],
)

-- one more later copy of an array
pub copy_added : (arrays new : List Touches) (a number : ℕ) → new ≡ slice_set arrays a (with_copy (get_or arrays a no_array) number)
    → (map (λ (f : Touches). f.copies) new ≡ slice_set (map (λ (f : Touches). f.copies) arrays) a (get_or (map (λ (f : Touches). f.copies) arrays) a [] ++ number ∷ []))
    × (map (λ (f : Touches). f.touched) new ≡ map (λ (f : Touches). f.touched) arrays)
copy_added arrays new a number is = (
  ap (map (λ (f : Touches). f.copies)) is ∙ map-set (λ (f : Touches). f.copies) arrays a (with_copy (get_or arrays a no_array) number)
      ∙ (λ i. slice_set (map (λ (f : Touches). f.copies) arrays) a (sym (get_or-map (λ (f : Touches). f.copies) arrays a no_array) i ++ number ∷ [])),
  ap (map (λ (f : Touches). f.touched)) is ∙ map-set (λ (f : Touches). f.touched) arrays a (with_copy (get_or arrays a no_array) number)
      ∙ (λ i. slice_set (map (λ (f : Touches). f.touched) arrays) a (sym (get_or-map (λ (f : Touches). f.touched) arrays a no_array) i)) ∙ set-get_or (map (λ (f : Touches). f.touched) arrays) a [],
)
