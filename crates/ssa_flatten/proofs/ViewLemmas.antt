-- What the code keeps, after an assignment to a field.
use Rattle.std.proofs.Common.{◌≡◌, ℕ, zero, suc, List, [], ◌∷◌, ◌++◌, ◌-◌, map, slice_set, get_or, Option, None, Some, refl, sym, ap, ◌∙◌, append_assoc}
use Rattle.std.proofs.lemmas.List.{map-append}
use Rattle.code_forms.specs.declared.guard.GuardExpr.{GuardExpr}
use Rattle.code_forms.specs.declared.guard.GuardLine.TheVariants as line
use Rattle.std.proofs.Math.ListN.{get_or-map}
use Rattle.std.proofs.lemmas.List.{set-get_or}
use Rattle.mp5_words.specs.Copies.{Copy}
use Rattle.code_forms.specs.declared.flat.Operand.{Operand}
use Rattle.code_forms.specs.declared.flat.Operand.TheVariants as operand
use Rattle.code_forms.specs.declared.flat.Instr.{Instr}
use Rattle.code_forms.specs.FlatMeaning.{Step, plain_step}
use Rattle.ssa_flatten.specs.Flattening.{Code, flat, Sofar, latest_operand, copy_operand, rewritten, operand_at, assigning, flat_done}
use Rattle.ssa_flatten.specs.Flattened.{under_of}
use Rattle.ssa_flatten.specs.Views.{View, view, renewed}

abbrev pub code_of : GuardExpr → View → Code
code_of e h = flat e (record { fields = h.fields; copies = h.copies }) h.next

abbrev pub field_view : ℕ → ℕ → GuardExpr → View → View
field_view f k e h = record {
  instrs = (h.instrs ++ (code_of e h).instrs) ++ assigning k (operand_at h.guards k) (code_of e h).result (operand_at h.fields f) ∷ [];
  next = suc (code_of e h).next;
  fields = slice_set h.fields f (operand.Slot (code_of e h).next);
  copies = h.copies;
  guards = h.guards;
  touched = h.touched;
  later = h.later;
}

plain_instrs : (xs : List Instr) → map (λ (s : Step). s.instr) (map plain_step xs) ≡ xs
plain_instrs [] = refl
plain_instrs (x ∷ xs) = ap (λ l. x ∷ l) (plain_instrs xs)

-- the instructions of steps behind others
pub instrs_behind : (steps : List Step) (xs : List Instr) (more : List Step) → (map (λ (s : Step). s.instr) steps ++ xs) ++ map (λ (s : Step). s.instr) more ≡ map (λ (s : Step). s.instr) (steps ++ (map plain_step xs ++ more))
instrs_behind steps xs more =
    append_assoc (map (λ (s : Step). s.instr) steps) xs (map (λ (s : Step). s.instr) more)
    ∙ (λ i. map (λ (s : Step). s.instr) steps ++ (sym (plain_instrs xs) i ++ map (λ (s : Step). s.instr) more))
    ∙ (λ i. map (λ (s : Step). s.instr) steps ++ sym (map-append (λ (s : Step). s.instr) (map plain_step xs) more) i)
    ∙ sym (map-append (λ (s : Step). s.instr) steps (map plain_step xs ++ more))

pub field_held : (header f k : ℕ) (e : GuardExpr) (s : Sofar) (h : View) → h ≡ view s → field_view f k e h ≡ view (flat_done header (line.SetField f k e) s)
field_held header f k e s h is =
    ap (field_view f k e) is
    ∙ (λ i. record {
      instrs = instrs_behind s.steps (code_of e (view s)).instrs (plain_step (assigning k (operand_at s.guards k) (code_of e (view s)).result (operand_at s.fields f)) ∷ []) i;
      next = suc (code_of e (view s)).next;
      fields = slice_set s.fields f (operand.Slot (code_of e (view s)).next);
      copies = map latest_operand s.copies;
      guards = s.guards;
      touched = map under_of s.copies;
      later = s.later;
    })

-- the same, list by list
pub field_is_held : (header f k : ℕ) (e : GuardExpr) (s : Sofar) (h new : View) → h ≡ view s
    → new.instrs ≡ (h.instrs ++ (code_of e h).instrs) ++ assigning k (operand_at h.guards k) (code_of e h).result (operand_at h.fields f) ∷ []
    → new.next ≡ suc (code_of e h).next → new.fields ≡ slice_set h.fields f (operand.Slot (code_of e h).next)
    → new.copies ≡ h.copies → new.guards ≡ h.guards → new.touched ≡ h.touched → new.later ≡ h.later → new ≡ view (flat_done header (line.SetField f k e) s)
field_is_held header f k e s h new is instrs next fields copies guards touched later =
    (λ i. record { instrs = instrs i; next = next i; fields = fields i; copies = copies i; guards = guards i; touched = touched i; later = later i }) ∙ field_held header f k e s h is

-- ---- an assignment to an array

pub map-set : {X Y : Type 0} (f : X → Y) (xs : List X) (k : ℕ) (x : X) → map f (slice_set xs k x) ≡ slice_set (map f xs) k (f x)
map-set f [] k x = refl
map-set f (y ∷ ys) zero x = refl
map-set f (y ∷ ys) (suc k) x = ap (λ l. f y ∷ l) (map-set f ys k x)

-- the item that is there already
pub set-same : {X : Type 0} (xs : List (Option X)) (k : ℕ) (x : Option X) → get_or xs k None ≡ x → slice_set xs k x ≡ xs
set-same xs k x e = ap (slice_set xs k) (sym e) ∙ set-get_or xs k None

abbrev pub cell_view : ℕ → ℕ → ℕ → GuardExpr → View → View
cell_view header a k e h = record {
  instrs = (h.instrs ++ (code_of e h).instrs) ++ assigning k (operand_at h.guards k) (code_of e h).result (copy_operand (get_or h.copies a None)) ∷ [];
  next = suc (code_of e h).next;
  fields = h.fields;
  copies = slice_set h.copies a (renewed (operand.Slot (code_of e h).next) (get_or h.copies a None));
  guards = h.guards;
  touched = h.touched;
  later = slice_set h.later a (get_or h.later a [] ++ ((code_of e h).next - header) ∷ []);
}

renewed_is : (slot value : Operand) (c : Option (Copy Operand)) → renewed slot (latest_operand c) ≡ latest_operand (rewritten slot value c)
renewed_is slot value None = refl
renewed_is slot value (Some c) = refl

under_is : (slot value : Operand) (c : Option (Copy Operand)) → under_of c ≡ under_of (rewritten slot value c)
under_is slot value None = refl
under_is slot value (Some c) = refl

pub cell_held : (header a k : ℕ) (e : GuardExpr) (s : Sofar) (h : View) → h ≡ view s → cell_view header a k e h ≡ view (flat_done header (line.SetCell a k e) s)
cell_held header a k e s h is =
    ap (cell_view header a k e) is
    ∙ (λ i. record {
      instrs = ((λ j. (map (λ (s : Step). s.instr) s.steps ++ code.instrs) ++ assigning k (operand_at s.guards k) code.result (copy_operand (old j)) ∷ []) ∙ instrs_behind s.steps code.instrs (record { instr = assigning k (operand_at s.guards k) code.result (copy_operand (latest_operand (get_or s.copies a None))); copy = Some a } ∷ [])) i;
      next = suc code.next;
      fields = s.fields;
      copies = ((λ j. slice_set (map latest_operand s.copies) a (renewed (operand.Slot code.next) (old j))) ∙ ap (slice_set (map latest_operand s.copies) a) (renewed_is (operand.Slot code.next) code.result (get_or s.copies a None)) ∙ sym (map-set latest_operand s.copies a (rewritten (operand.Slot code.next) code.result (get_or s.copies a None)))) i;
      guards = s.guards;
      touched = (sym (set-get_or (map under_of s.copies) a []) ∙ ap (slice_set (map under_of s.copies) a) (get_or-map under_of s.copies a None ∙ under_is (operand.Slot code.next) code.result (get_or s.copies a None)) ∙ sym (map-set under_of s.copies a (rewritten (operand.Slot code.next) code.result (get_or s.copies a None)))) i;
      later = slice_set s.later a (get_or s.later a [] ++ (code.next - header) ∷ []);
    }) where
      code : Code
      code = code_of e (view s)

      old : get_or (map latest_operand s.copies) a None ≡ latest_operand (get_or s.copies a None)
      old = get_or-map latest_operand s.copies a None

-- the same, list by list
pub cell_is_held : (header a k : ℕ) (e : GuardExpr) (s : Sofar) (h new : View) → h ≡ view s
    → new.instrs ≡ (h.instrs ++ (code_of e h).instrs) ++ assigning k (operand_at h.guards k) (code_of e h).result (copy_operand (get_or h.copies a None)) ∷ []
    → new.next ≡ suc (code_of e h).next → new.copies ≡ slice_set h.copies a (renewed (operand.Slot (code_of e h).next) (get_or h.copies a None))
    → new.later ≡ slice_set h.later a (get_or h.later a [] ++ ((code_of e h).next - header) ∷ [])
    → new.fields ≡ h.fields → new.guards ≡ h.guards → new.touched ≡ h.touched → new ≡ view (flat_done header (line.SetCell a k e) s)
cell_is_held header a k e s h new is instrs next copies later fields guards touched =
    (λ i. record { instrs = instrs i; next = next i; fields = fields i; copies = copies i; guards = guards i; touched = touched i; later = later i }) ∙ cell_held header a k e s h is
