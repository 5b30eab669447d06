-- Flat code of valid guarded code is valid, has as many instructions as it counts, and ends as the lines do.
use Rattle.std.proofs.Common.{◌≡◌, ℕ, zero, suc, ◌+◌, ◌^◌, ◌<◌, nat_le, nat_lt, pos, Bool, true, false, ◌&&◌, List, [], ◌∷◌, ◌++◌, length, map, sum, get_or, replicate, Option, None, Some, refl, sym, ap, subst, ◌∙◌, length-append, arith}
use Rattle.std.specs.List.{fold, list_all}
use Rattle.std.proofs.lemmas.List.{map-append}
use Rattle.code_forms.specs.declared.guard.GuardExpr.{GuardExpr}
use Rattle.code_forms.specs.declared.guard.GuardLine.{GuardLine}
use Rattle.code_forms.specs.declared.guard.ArrayShape.{ArrayShape}
use Rattle.code_forms.specs.declared.flat.Operand.{Operand}
use Rattle.code_forms.specs.declared.flat.Operand.TheVariants as operand
use Rattle.code_forms.specs.declared.flat.Instr.{Instr}
use Rattle.mp5_words.specs.Cells.{touching}
use Rattle.mp5_words.specs.Copies.{Copy}
use Rattle.code_forms.specs.GuardValid.{fits, line_arrays, line_count, line_fits, guards_fit, touched_in, no_marks, index_fits, shapes_fit, shape_count, stay, guard_count, is_limited, is_guard_code}
use Rattle.code_forms.specs.GuardMeaning.{index_at}
use Rattle.code_forms.specs.FlatValid.{Written, header_slots, is_written, is_guard, instrs_fit, after_all, events, is_life, is_some, ascends}
use Rattle.code_forms.specs.FlatMeaning.{Step, index_operand}
use Rattle.code_forms.proofs.EachLemmas.{Each}
use Rattle.code_forms.proofs.ValidLemmas.{and_front, and_back}
use Rattle.code_forms.proofs.FitLemmas.{fit_join, events_join}
use Rattle.code_forms.proofs.OrderLemmas.{length_replicate}
use Rattle.ssa_flatten.specs.Flattening.{Sofar, operand_at, slots_from, flat_start, flat_steps, flat_instrs, stores_from}
use Rattle.ssa_flatten.specs.Flattened.{flat_end, under_of}
use Rattle.ssa_flatten.proofs.StepsLemmas.{instrs_of, plain_instrs}
use Rattle.ssa_flatten.proofs.Outcome.{store_instrs, stores_plain}
use Rattle.ssa_flatten.proofs.Sound.{CopySound, GuardSound, LaterSound, slots, guard_grows, word_grows}
use Rattle.ssa_flatten.proofs.SoundLines.{SoundCode, lines_sound}
use Rattle.ssa_flatten.proofs.CountLines.{some, loaded_count, lines_count, lines_mark, arrays_count}
use Rattle.ssa_flatten.proofs.IndexStays.{all_none}
use Rattle.ssa_flatten.proofs.Stores.{stores_fit, stored, store_events}

-- ---- lists

-- an index of shapes that fit fits
shape_index : (fields : ℕ) (marks : List Bool) (shapes : List ArrayShape) (a : ℕ) (index : GuardExpr) → shapes_fit fields marks shapes ≡ true → index_at shapes a ≡ Some index → fits fields 0 index ≡ true
shape_index fields marks [] a index fit is = absurd cc
shape_index fields [] (s ∷ shapes) a index fit is = absurd cc
shape_index fields (m ∷ marks) (s ∷ shapes) zero index fit is = by_mark m s.index is (and_front (index_fits fields m s.index) _ (and_back (nat_le s.length 65536) _ (and_back (nat_lt 0 s.length) _ fit))) where
  by_mark : (m : Bool) (o : Option GuardExpr) → o ≡ Some index → index_fits fields m o ≡ true → fits fields 0 index ≡ true
  by_mark true None e f = absurd cc
  by_mark false None e f = absurd cc
  by_mark false (Some x) e f = absurd cc
  by_mark true (Some x) e f = subst (λ o. index_fits fields true o ≡ true) e f
shape_index fields (m ∷ marks) (s ∷ shapes) (suc a) index fit is = shape_index fields marks shapes a index (and_back (index_fits fields m s.index) _ (and_back (nat_le s.length 65536) _ (and_back (nat_lt 0 s.length) _ fit))) is

-- the header's slots hold words
slots_written : (done n k : ℕ) (j : ℕ) → is_written (header_slots (done + n)) (operand_at (slots_from done n) j) ≡ true
slots_written done zero k j = refl
slots_written done (suc n) k zero = within_true (done + suc n) done (omega arith) where
  within_true : (m d : ℕ) → d < m → get_or (replicate m true) d false ≡ true
  within_true zero d less = absurd (omega arith)
  within_true (suc m) zero less = refl
  within_true (suc m) (suc d) less = within_true m d (omega (arith, less))
slots_written done (suc n) k (suc j) = subst (λ m. is_written (header_slots m) (operand_at (slots_from (suc done) n) j) ≡ true) (omega arith) (slots_written (suc done) n k j)

slots_long : (at n : ℕ) → length (slots_from at n) ≡ n
slots_long at zero = refl
slots_long at (suc n) = ap suc (slots_long (suc at) n)

no_lists : (n a : ℕ) → get_or {A = List ℕ} (replicate n []) a [] ≡ []
no_lists zero a = refl
no_lists (suc n) zero = refl
no_lists (suc n) (suc a) = no_lists n a

map_none : (n : ℕ) → map some (replicate n None) ≡ replicate n false
map_none zero = refl
map_none (suc n) = ap (λ l. false ∷ l) (map_none n)

-- ---- the code of valid lines

module _ (header : ℕ) (shapes : List ArrayShape) (lines : List GuardLine) (valid : is_guard_code header shapes lines ≡ true) where
  abbrev pub arrays : ℕ
  arrays = length shapes

  abbrev pub done : Sofar
  done = flat_end header shapes lines

  pub behind_limits : shapes_fit header (touched_in shapes lines) shapes ≡ true
  behind_limits = and_front (shapes_fit header (touched_in shapes lines) shapes) _ (and_back (is_limited header shapes) _ valid)

  rest1 : (list_all (line_fits header arrays) lines && (guards_fit 1 lines && (stay shapes (no_marks shapes) lines && nat_lt (guard_count shapes lines) (2 ^ 32)))) ≡ true
  rest1 = and_back (shapes_fit header (touched_in shapes lines) shapes) _ (and_back (is_limited header shapes) _ valid)

  pub limited : is_limited header shapes ≡ true
  limited = and_front (is_limited header shapes) _ valid

  pub lines_fit : list_all (line_fits header arrays) lines ≡ true
  lines_fit = and_front (list_all (line_fits header arrays) lines) _ rest1

  pub guards_are : guards_fit 1 lines ≡ true
  guards_are = and_front (guards_fit 1 lines) _ (and_back (list_all (line_fits header arrays) lines) _ rest1)

  pub stays : stay shapes (no_marks shapes) lines ≡ true
  stays = and_front (stay shapes (no_marks shapes) lines) _ (and_back (guards_fit 1 lines) _ (and_back (list_all (line_fits header arrays) lines) _ rest1))

  pub indexes_fit : (a : ℕ) (index : GuardExpr) → index_at shapes a ≡ Some index → fits header 0 index ≡ true
  indexes_fit a index is = shape_index header (touched_in shapes lines) shapes a index behind_limits is

  -- ---- before the first line

  pub start : SoundCode header shapes arrays indexes_fit (flat_start header shapes)
  start = record {
    fit = refl;
    ends = length_replicate header true;
    fields = λ k. subst (λ n. is_written (header_slots n) (operand_at (slots_from 0 header) k) ≡ true) (omega arith) (slots_written 0 header 0 k);
    guards = ((refl, refl), tt);
    copies = λ a. subst (CopySound header arrays (header_slots header) [] (operand.Number (pos 0))) (sym (all_none arrays a)) refl;
    later = λ a. subst (Each (LaterSound header arrays a [])) (sym (no_lists arrays a)) tt;
    ascending = λ a. ap (ascends 0) (no_lists arrays a);
    many = length_replicate arrays None;
    lists = length_replicate arrays [];
    wide = slots_long 0 header;
  }

  -- ---- behind the last line

  pub sound : SoundCode header shapes arrays indexes_fit done
  sound = lines_sound header shapes arrays indexes_fit lines (flat_start header shapes) 1 lines_fit guards_are refl start

  pub marks : map some done.copies ≡ touched_in shapes lines
  marks = lines_mark header shapes lines (flat_start header shapes) ∙ ap (λ m. fold (λ (marks : List Bool) (l : GuardLine). touching (line_arrays l) marks) m lines) (map_none arrays)

  shapes_are : shapes_fit header (map some done.copies) shapes ≡ true
  shapes_are = ap (λ m. shapes_fit header m shapes) marks ∙ behind_limits

  pub nothing_loaded : (shapes : List ArrayShape) → loaded_count shapes (replicate (length shapes) None) ≡ 0
  nothing_loaded [] = refl
  nothing_loaded (s ∷ shapes) = nothing_loaded shapes

  -- as many steps as the code counts
  pub counts : length (flat_steps header shapes lines) ≡ guard_count shapes lines
  counts =
      let steps : length done.steps ≡ (0 + sum (map line_count lines)) + loaded_count shapes done.copies = lines_count header shapes indexes_fit lines 0 (flat_start header shapes) 1 lines_fit guards_are refl start (omega (arith, nothing_loaded shapes)) in
      let rest : loaded_count shapes done.copies + length (stores_from 0 done.copies) ≡ sum (map shape_count shapes) = arrays_count header shapes done.copies 0 sound.many shapes_are in
      omega (arith, steps, rest, length-append done.steps (stores_from 0 done.copies))

  -- ---- with the stores

  abbrev pub front : List Instr
  front = instrs_of done.steps

  abbrev pub stores : List Instr
  stores = store_instrs 0 done.copies

  pub parts : flat_instrs header shapes lines ≡ front ++ stores
  parts = map-append (λ (s : Step). s.instr) done.steps (stores_from 0 done.copies) ∙ ap (λ l. front ++ l) (ap instrs_of (stores_plain 0 done.copies) ∙ plain_instrs stores)

  -- the instructions fit one after another
  pub fit : instrs_fit arrays (header_slots header) (flat_instrs header shapes lines) ≡ true
  fit = ap (instrs_fit arrays (header_slots header)) parts ∙ fit_join arrays (header_slots header) front stores sound.fit
      (stores_fit arrays (slots header arrays front) 0 done.copies
      (λ j c is. (subst (CopySound header arrays (slots header arrays front) (events j front) (index_operand front j)) is (sound.copies j)).1)
      (omega (arith, sound.many)))

  store_of : (a : ℕ) → events a stores ≡ stored (get_or done.copies a None)
  store_of a = subst (λ n. events n stores ≡ stored (get_or done.copies a None)) (omega arith) (store_events 0 a done.copies)

  -- each array has its life, by whether it is touched
  life_of : (a : ℕ) (c : Option (Copy Operand)) → get_or done.copies a None ≡ c → is_life (is_some (under_of c)) (events a (flat_instrs header shapes lines)) ≡ true
  life_of a None is =
      ap (is_life false) (ap (events a) parts ∙ events_join a front stores
      ∙ (λ i. subst (CopySound header arrays (slots header arrays front) (events a front) (index_operand front a)) is (sound.copies a) i ++ (store_of a ∙ ap stored is) i))
  life_of a (Some c) is =
      let h = subst (CopySound header arrays (slots header arrays front) (events a front) (index_operand front a)) is (sound.copies a) in
      (λ i. is_life (h.2 i) ((ap (events a) parts ∙ events_join a front stores ∙ (λ j. h.0 j ++ (store_of a ∙ ap stored is) j)) i))

  pub life : (a : ℕ) → is_life (is_some (under_of (get_or done.copies a None))) (events a (flat_instrs header shapes lines)) ≡ true
  life a = life_of a (get_or done.copies a None) refl

  abbrev pub all_slots : Written
  all_slots = after_all (header_slots header) (flat_instrs header shapes lines)

  -- words and guards behind the lines are so behind the stores
  pub word_stays : (x : Operand) → is_written (slots header arrays front) x ≡ true → is_written all_slots x ≡ true
  word_stays x e = ap (λ l. is_written (after_all (header_slots header) l) x) parts ∙ word_grows header arrays front stores x e

  pub guard_stays : (x : Operand) → GuardSound header arrays (slots header arrays front) x → is_guard all_slots x ≡ true
  guard_stays x g = ap (λ l. is_guard (after_all (header_slots header) l) x) parts ∙ (guard_grows header arrays front stores x g).0
