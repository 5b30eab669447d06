-- The steps of lines do what the lines do, wherever each of them holds, over values of any kind.
use Rattle.std.proofs.Common.{◌≡◌, ℕ, zero, suc, ◌+◌, pos, List, [], ◌∷◌, ◌++◌, length, map, get_or, slice_set, Option, None, Some, refl, sym, ap, ◌∙◌, length-append, arith}
use Rattle.std.specs.List.{fold}
use Rattle.std.proofs.lemmas.List.{map-append}
use Rattle.std.proofs.Math.ListN.{get_or-map}
use Rattle.code_forms.proofs.EachLemmas.{Each}
use Rattle.code_forms.specs.declared.guard.GuardExpr.{GuardExpr}
use Rattle.code_forms.specs.declared.guard.GuardLine.{GuardLine}
use Rattle.code_forms.specs.declared.guard.GuardLine.TheVariants as line
use Rattle.code_forms.specs.declared.guard.ArrayShape.{ArrayShape}
use Rattle.code_forms.specs.declared.flat.Operand.{Operand}
use Rattle.code_forms.specs.declared.flat.Operand.TheVariants as operand
use Rattle.code_forms.specs.declared.flat.Instr.{Instr}
use Rattle.code_forms.specs.declared.flat.Instr.TheVariants as instr
use Rattle.mp5_words.specs.Domain.{Domain}
use Rattle.code_forms.specs.GuardValid.{arrays_in, line_arrays}
use Rattle.mp5_words.specs.Copies.{Seen, Copy, Indexes, at, on_fields, latest_of, touched, touch}
use Rattle.code_forms.specs.GuardMeaning.{guard_value, index_value, index_at, indexes_of, set_under, stored_under, line_guard, Guarded, seen_in, guard_at, done_line, guard_line, guard_lines}
use Rattle.code_forms.specs.FlatMeaning.{Step, plain_step, Slots, operand_value, instr_value}
use Rattle.code_forms.proofs.FlatLemmas.{AllHold, steps_front, steps_back, plain_front, plain_back}
use Rattle.code_forms.proofs.ValueLemmas.{value_agrees}
use Rattle.ssa_flatten.specs.Flattening.{Latest, Code, operand_at, copy_operand, flat, Sofar, latest_operand, latest_in, flat_index, touch_new, touch_array, assigning, rewritten, flat_done, flat_line, flat_lines}
use Rattle.ssa_flatten.proofs.FlatExprs.{seen, Gives, flat_gives}

map-set : {X Y : Type 0} (f : X → Y) (xs : List X) (k : ℕ) (x : X) → map f (slice_set xs k x) ≡ slice_set (map f xs) k (f x)
map-set f [] k x = refl
map-set f (y ∷ ys) zero x = refl
map-set f (y ∷ ys) (suc k) x = ap (λ l. f y ∷ l) (map-set f ys k x)

-- the length of steps one after another
lengthened : (base next : ℕ) (steps : List Step) (instrs : List Instr) (more : List Step) (start : ℕ) → start ≡ base + length steps → next ≡ start + length instrs → next + length more ≡ base + length (steps ++ (map plain_step instrs ++ more))
lengthened base next steps instrs more start one two = omega (arith, one, two, length-append steps (map plain_step instrs ++ more), length-append (map plain_step instrs) more, mapped instrs) where
  mapped : (xs : List Instr) → length (map plain_step xs) ≡ length xs
  mapped [] = refl
  mapped (x ∷ xs) = ap suc (mapped xs)

-- what is known of an array in operands stands for what is known of it in values
abbrev pub stood : {V : Type 0} → (Operand → V) → Option (Copy Operand) → Option (Copy V)
stood word None = None
stood word (Some c) = Some (record { index = word c.index; latest = word c.latest; under = map word c.under; stored = map word c.stored })

-- the operands so far stand for the fields, copies and guards, where each operand has such a value
pub record Stands (V : Type 0) (word : Operand → V) (s : Sofar) (g : Guarded V) : Type 0 where
  pub fields : map word s.fields ≡ g.fields
  pub copies : map (stood word) s.copies ≡ g.copies
  pub guards : map word s.guards ≡ g.guards

module _ (V : Type 0) (d : Domain V) (slots : Slots) (shapes : List ArrayShape) (begin : ℕ) (env : List V)
    (plain_indexes : (a : ℕ) (index : GuardExpr) → index_at shapes a ≡ Some index → arrays_in index ≡ []) where
  abbrev pub word : Operand → V
  word x = operand_value V d env x

  abbrev pub indexes : Indexes V
  indexes = indexes_of V d.ops shapes

  abbrev pub SoFar : Sofar → Type 0
  SoFar s = AllHold V d slots env begin s.steps

  -- they do wherever each step so far holds
  pub record Ready (s : Sofar) (g : Guarded V) : Type 0 where
    pub next : s.next ≡ begin + length s.steps
    pub stands : SoFar s → Stands V word s g

  -- ---- what an expression sees

  copy_at : (s : Sofar) (g : Guarded V) (a : ℕ) → Stands V word s g → (stood word) (get_or s.copies a None) ≡ get_or g.copies a None
  copy_at s g a stands = sym (get_or-map (stood word) s.copies a None) ∙ ap (λ l. get_or l a None) stands.copies

  latest_stands : (c : Option (Copy Operand)) → word (copy_operand (latest_operand c)) ≡ latest_of V d.ops ((stood word) c)
  latest_stands None = refl
  latest_stands (Some c) = refl

  pub seen_is : (s : Sofar) (g : Guarded V) → Stands V word s g → seen V d slots env (latest_in s) ≡ seen_in V d g
  seen_is s g stands = λ i. record {
    fields = stands.fields i;
    array = λ a. (ap (λ x. word (copy_operand x)) (get_or-map latest_operand s.copies a None) ∙ latest_stands (get_or s.copies a None) ∙ ap (latest_of V d.ops) (copy_at s g a stands)) i;
  }

  guard_is : (s : Sofar) (g : Guarded V) (k : ℕ) → Stands V word s g → word (operand_at s.guards k) ≡ guard_at V d g k
  guard_is s g k stands = sym (get_or-map word s.guards k (operand.Number (pos 0))) ∙ ap (λ l. at V d.ops l k) stands.guards

  field_is : (s : Sofar) (g : Guarded V) (k : ℕ) → Stands V word s g → word (operand_at s.fields k) ≡ at V d.ops g.fields k
  field_is s g k stands = sym (get_or-map word s.fields k (operand.Number (pos 0))) ∙ ap (λ l. at V d.ops l k) stands.fields

  -- ---- an array is touched

  no_arrays : (w v : Seen V) (l : List ℕ) → l ≡ [] → Each (λ a. w.array a ≡ v.array a) l
  no_arrays w v [] e = tt
  no_arrays w v (a ∷ l) e = absurd cc

  -- the instructions of an index give its value
  index_gives : (a : ℕ) (index : Option GuardExpr) → index_at shapes a ≡ index → (latest : Latest) (base : ℕ) → Gives V d slots latest base (flat_index index latest base) (λ w. index_value V d.ops index w.fields)
  index_gives a None is latest base = record { ends = omega arith; gives = λ env holds. refl }
  index_gives a (Some index) is latest base =
      let part = flat_gives V d slots index latest base in
      record {
        ends = part.ends;
        gives = λ env holds.
            let w : Seen V = seen V d slots env latest in
            part.gives env holds ∙ value_agrees V d.ops index w (on_fields V d.ops w.fields) refl (no_arrays w (on_fields V d.ops w.fields) (arrays_in index) (plain_indexes a index is));
      }

  -- an array is touched under a guard whose operand stands for its value
  pub record Touched (s t : Sofar) (g : Guarded V) : Type 0 where
    pub ready : Ready t g
    pub before : SoFar t → SoFar s

  touch_ready : (s : Sofar) (g : Guarded V) (x : Operand) (v : V) (a : ℕ) → (SoFar s → word x ≡ v) → Ready s g
      → Touched s (touch_array shapes x s a) (record { fields = g.fields; copies = touch V d indexes g.fields v g.copies a; guards = g.guards })
  touch_ready s g x v a guard ready = by_copy (get_or s.copies a None) refl where
    by_copy : (c : Option (Copy Operand)) → get_or s.copies a None ≡ c → Touched s (touch_new shapes x s a c) (record { fields = g.fields; copies = touch V d indexes g.fields v g.copies a; guards = g.guards })
    by_copy (Some c) is = record {
      ready = record {
        next = ready.next;
        stands = λ holds.
            let stands = ready.stands holds in
            let old : Some (record { index = word c.index; latest = word c.latest; under = map word c.under; stored = map word c.stored }) ≡ get_or g.copies a None = ap (stood word) (sym is) ∙ copy_at s g a stands in
            record {
              fields = stands.fields;
              copies =
                  map-set (stood word) s.copies a _
                  ∙ (λ i. slice_set (stands.copies i) a (Some (record { index = word c.index; latest = word c.latest; under = map-append word c.under (x ∷ []) i; stored = map word c.stored })))
                  ∙ (λ i. slice_set g.copies a (Some (record { index = word c.index; latest = word c.latest; under = map word c.under ++ (guard holds i ∷ []); stored = map word c.stored })))
                  ∙ (λ i. slice_set g.copies a (Some (touched V d a (indexes a g.fields) v (old i))));
              guards = stands.guards;
            };
      };
      before = λ holds. holds;
    }
    by_copy None is =
        let code : Code = flat_index (index_at shapes a) (latest_in s) s.next in
        let part = index_gives a (index_at shapes a) refl (latest_in s) s.next in
        let two : List Step = plain_step (instr.Index a code.result) ∷ plain_step (instr.Load a) ∷ [] in
        record {
          ready = record {
            next = omega (arith, lengthened begin code.next s.steps code.instrs two s.next ready.next part.ends);
            stands = λ holds.
                let first : SoFar s = steps_front V d slots env begin s.steps (map plain_step code.instrs ++ two) holds in
                let stands = ready.stands first in
                let behind = steps_back V d slots env begin s.next s.steps (map plain_step code.instrs ++ two) ready.next holds in
                let last = plain_back V d slots env s.next code.next code.instrs two part.ends behind in
                let value : word code.result ≡ indexes a g.fields = part.gives env (plain_front V d slots env s.next code.instrs two behind) ∙ ap (index_value V d.ops (index_at shapes a)) stands.fields in
                let place : at V d.ops env (slots a) ≡ d.index a (indexes a g.fields) = ap (at V d.ops env) last.1 ∙ last.0 ∙ ap (d.index a) value in
                let load : at V d.ops env (suc code.next) ≡ d.load a (d.index a (indexes a g.fields)) = last.2.0 ∙ ap (d.load a) place in
                let old : None ≡ get_or g.copies a None = ap (stood word) (sym is) ∙ copy_at s g a stands in
                record {
                  fields = stands.fields;
                  copies =
                      map-set (stood word) s.copies a _
                      ∙ (λ i. slice_set (stands.copies i) a (Some (record { index = value i; latest = load i; under = guard first i ∷ []; stored = [] })))
                      ∙ (λ i. slice_set g.copies a (Some (touched V d a (indexes a g.fields) v (old i))));
                  guards = stands.guards;
                };
          };
          before = λ holds. steps_front V d slots env begin s.steps (map plain_step code.instrs ++ two) holds;
        }

  pub touches_ready : (bs : List ℕ) (s : Sofar) (g : Guarded V) (x : Operand) (v : V) → (SoFar s → word x ≡ v) → Ready s g
      → Ready (fold (touch_array shapes x) s bs) (record { fields = g.fields; copies = fold (touch V d indexes g.fields v) g.copies bs; guards = g.guards })
  touches_ready [] s g x v guard ready = ready
  touches_ready (b ∷ bs) s g x v guard ready =
      let one = touch_ready s g x v b guard ready in
      touches_ready bs (touch_array shapes x s b) (record { fields = g.fields; copies = touch V d indexes g.fields v g.copies b; guards = g.guards }) x v (λ holds. guard (one.before holds)) one.ready

  -- ---- a line whose arrays are touched

  assigned : (k : ℕ) (guard value old : Operand) (g v o : V) → word guard ≡ g → word value ≡ v → word old ≡ o → instr_value V d slots env (assigning k guard value old) ≡ set_under V d k g v o
  assigned zero guard value old g v o one two three = two
  assigned (suc k) guard value old g v o one two three = λ i. d.ops.pick (one i) (two i) (three i)

  done_ready : (l : GuardLine) (s : Sofar) (g : Guarded V) → Ready s g → Ready (flat_done begin l s) (done_line V d l g)
  done_ready (line.SetField f k e) s g ready =
      let code : Code = flat e (latest_in s) s.next in
      let part = flat_gives V d slots e (latest_in s) s.next in
      let more : List Step = plain_step (assigning k (operand_at s.guards k) code.result (operand_at s.fields f)) ∷ [] in
      record {
        next = omega (arith, lengthened begin code.next s.steps code.instrs more s.next ready.next part.ends);
        stands = λ holds.
            let stands = ready.stands (steps_front V d slots env begin s.steps (map plain_step code.instrs ++ more) holds) in
            let behind = steps_back V d slots env begin s.next s.steps (map plain_step code.instrs ++ more) ready.next holds in
            let value : word code.result ≡ guard_value V d.ops e (seen_in V d g) = part.gives env (plain_front V d slots env s.next code.instrs more behind) ∙ ap (guard_value V d.ops e) (seen_is s g stands) in
            let new = (plain_back V d slots env s.next code.next code.instrs more part.ends behind).0 ∙ assigned k (operand_at s.guards k) code.result (operand_at s.fields f) _ _ _ (guard_is s g k stands) value (field_is s g f stands) in
            record {
              fields = map-set word s.fields f (operand.Slot code.next) ∙ (λ i. slice_set (stands.fields i) f (new i));
              copies = stands.copies;
              guards = stands.guards;
            };
      }
  done_ready (line.SetCell a k e) s g ready =
      let code : Code = flat e (latest_in s) s.next in
      let part = flat_gives V d slots e (latest_in s) s.next in
      let old : Option (Copy Operand) = get_or s.copies a None in
      let more : List Step = record { instr = assigning k (operand_at s.guards k) code.result (copy_operand (latest_operand old)); copy = Some a } ∷ [] in
      record {
        next = omega (arith, lengthened begin code.next s.steps code.instrs more s.next ready.next part.ends);
        stands = λ holds.
            let stands = ready.stands (steps_front V d slots env begin s.steps (map plain_step code.instrs ++ more) holds) in
            let behind = steps_back V d slots env begin s.next s.steps (map plain_step code.instrs ++ more) ready.next holds in
            let value : word code.result ≡ guard_value V d.ops e (seen_in V d g) = part.gives env (plain_front V d slots env s.next code.instrs more behind) ∙ ap (guard_value V d.ops e) (seen_is s g stands) in
            let new = (plain_back V d slots env s.next code.next code.instrs more part.ends behind).0
            ∙ ap (d.cover a) (assigned k (operand_at s.guards k) code.result (copy_operand (latest_operand old)) _ _ _ (guard_is s g k stands) value (latest_stands old)) in
            record {
              fields = stands.fields;
              copies =
                  map-set (stood word) s.copies a (rewritten (operand.Slot code.next) code.result old)
                  ∙ (λ i. slice_set (stands.copies i) a (written a k (guard_at V d g k) code.next code.result old _ value new i))
                  ∙ (λ i. slice_set g.copies a (stored_under V d a k (guard_at V d g k) (guard_value V d.ops e (seen_in V d g)) (copy_at s g a stands i)));
              guards = stands.guards;
            };
      } where
        written : (a k : ℕ) (guard : V) (next : ℕ) (result : Operand) (c : Option (Copy Operand)) (v : V) → word result ≡ v
            → at V d.ops env next ≡ d.cover a (set_under V d k guard v (latest_of V d.ops ((stood word) c)))
            → (stood word) (rewritten (operand.Slot next) result c) ≡ stored_under V d a k guard v ((stood word) c)
        written a k guard next result None v value new = refl
        written a k guard next result (Some c) v value new = λ i. Some (record {
          index = word c.index;
          latest = new i;
          under = map word c.under;
          stored = (map-append word c.stored (result ∷ []) ∙ (λ j. map word c.stored ++ (value j ∷ []))) i;
        })
  done_ready (line.Test e under first second) s g ready =
      let code : Code = flat e (latest_in s) s.next in
      let part = flat_gives V d slots e (latest_in s) s.next in
      let guard : Operand = operand_at s.guards under in
      let more : List Step = plain_step (instr.Yes guard code.result) ∷ plain_step (instr.No guard code.result) ∷ [] in
      record {
        next = omega (arith, lengthened begin code.next s.steps code.instrs more s.next ready.next part.ends);
        stands = λ holds.
            let stands = ready.stands (steps_front V d slots env begin s.steps (map plain_step code.instrs ++ more) holds) in
            let behind = steps_back V d slots env begin s.next s.steps (map plain_step code.instrs ++ more) ready.next holds in
            let last = plain_back V d slots env s.next code.next code.instrs more part.ends behind in
            let value : word code.result ≡ guard_value V d.ops e (seen_in V d g) = part.gives env (plain_front V d slots env s.next code.instrs more behind) ∙ ap (guard_value V d.ops e) (seen_is s g stands) in
            let on = guard_is s g under stands in
            record {
              fields = stands.fields;
              copies = stands.copies;
              guards =
                  map-append word s.guards (operand.Slot code.next ∷ operand.Slot (suc code.next) ∷ [])
                  ∙ (λ i. stands.guards i ++ (last.0 i ∷ last.2.0 i ∷ []))
                  ∙ (λ i. g.guards ++ (d.yes (on i) (value i) ∷ d.no (on i) (value i) ∷ []));
            };
      }

  -- ---- lines

  pub line_ready : (l : GuardLine) (s : Sofar) (g : Guarded V) → Ready s g → Ready (flat_line begin shapes s l) (guard_line V d indexes l g)
  line_ready l s g ready = done_ready l _ _ (touches_ready (line_arrays l) s g (operand_at s.guards (line_guard l)) (guard_at V d g (line_guard l)) (λ holds. guard_is s g (line_guard l) (ready.stands holds)) ready)

  -- the lines, one after another
  pub lines_ready : (lines : List GuardLine) (s : Sofar) (g : Guarded V) → Ready s g → Ready (flat_lines begin shapes lines s) (guard_lines V d indexes lines g)
  lines_ready [] s g ready = ready
  lines_ready (l ∷ lines) s g ready = lines_ready lines (flat_line begin shapes s l) (guard_line V d indexes l g) (line_ready l s g ready)
