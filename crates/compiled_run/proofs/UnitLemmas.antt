-- The unit of a place is the cell that the index of its group's first array names on the packet's last words.
use Rattle.std.proofs.Common.{◌≡◌, ◌∙◌, ℕ, zero, suc, ◌<◌, ◌==◌, ◌⊎◌, inl, inr, ℤ, Bool, true, false, if◌then◌else◌, List, [], ◌∷◌, ◌++◌, length, map, fold, flat_map, replicate, take, get_or, Option, None, Some, refl, sym, ap, subst, get_or-set_other, true≢false, arith}
use Rattle.std.specs.Prelude.{slice_set}
use Rattle.std.proofs.lemmas.Bool.Decides.{eqb_tells}
use Rattle.mp5_words.specs.declared.settings.Settings.{Settings}
use Rattle.mp5_words.specs.Cells.{cells_at}
use Rattle.mp5_words.specs.Words.{cell}
use Rattle.mp5_words.specs.Copies.{Copy, Indexes, at, touch}
use Rattle.mp5_words.specs.Domain.{Domain, Mark, marks, sources, words, word_ops, Loads}
use Rattle.domino_tree.specs.declared.program.Program.{Program}
use Rattle.domino_tree.specs.Sequential.{one}
use Rattle.domino_check.specs.declared.numbered.CheckedExpr.{CheckedExpr}
use Rattle.domino_check.specs.Numbering.{numbered_body}
use Rattle.domino_check.specs.NumberedMeaning.{indexing, plain_value, named_place as place_by, place}
use Rattle.domino_check.specs.Place.{IsUnit, IsFirstTouched, NoneOf, text_order, marked_copy, marked_place}
use Rattle.domino_check.specs.Sites.{Site, program_sites}
use Rattle.domino_names.specs.NamesRefused.{PassesNames}
use Rattle.domino_check.specs.SourceGroups.{IsSharded, HasCopy, source_copy, index_sources, no_sources, cells_of, IsTouched}
use Rattle.code_forms.specs.declared.flat.FlatCode.{FlatCode}
use Rattle.code_forms.specs.declared.flat.Operand.{Operand}
use Rattle.code_forms.specs.declared.flat.Operand.TheVariants as operand
use Rattle.code_forms.specs.declared.guard.GuardCode.{GuardCode}
use Rattle.code_forms.specs.declared.guard.GuardLine.{GuardLine}
use Rattle.code_forms.specs.declared.guard.GuardLine.TheVariants as line
use Rattle.code_forms.specs.FlatMeaning.{operand_value, flat_values, flat_length}
use Rattle.code_forms.specs.GuardMeaning.{Guarded, guard_line, guard_lines, index_value, index_at}
use Rattle.code_forms.specs.GuardValid.{line_arrays}
use Rattle.code_forms.specs.Staged.{Staged, group_at, first_array, unit_count, operand_word, IsGroup}
use Rattle.code_forms.specs.StagedMeaning.{staged_loads}
use Rattle.code_forms.specs.OverHeaders.{start_units, units_over, header_in}
use Rattle.code_forms.proofs.StagedLemmas.{first_member}
use Rattle.code_forms.proofs.UnitLemmas.{cell_below}
use Rattle.dependence.specs.Groups.{group_of as number_of}
use Rattle.branch_removal.specs.Followed.{lines_from}
use Rattle.branch_removal.specs.GuardedLines.{body_lines}
use Rattle.branch_removal.specs.Shapes.{shapes_of}
use Rattle.branch_removal.proofs.FollowLemmas.{lines_follow}
use Rattle.branch_removal.proofs.LineSites.{Part, of_line, of_site, parts_same}
use Rattle.branch_removal.proofs.Places.{all_places}
use Rattle.branch_removal.proofs.ShapeLemmas.{index_same, length_same}
use Rattle.ssa_flatten.specs.Flattening.{flat_instrs}
use Rattle.ssa_flatten.proofs.FlatLines.{stood}
use Rattle.ssa_flatten.proofs.Meaning as meaning
use Rattle.index_resolve.specs.HeaderRun.{operand_mark}
use Rattle.index_resolve.proofs.CleanLemmas.{sources_are, tell_words}
use Rattle.index_resolve.proofs.Related.{Tells, related_at, marks_tell}
use Rattle.domino_compile.specs.Compiled.{IsCompiled, IsPlaceOf}
use Rattle.domino_compile.specs.GroupsCode.{IsCodeOf}
use Rattle.domino_compile.specs.MeaningRun.{AreWide}
use Rattle.domino_compile.specs.PlacesCode.{code_marks}
use Rattle.domino_compile.proofs.GroupsStand.{known}
use Rattle.domino_compile.proofs.GroupsSteps.{some_guards}
use Rattle.domino_compile.proofs.NeedsNodes.{known_source, source_stands}
use Rattle.domino_compile.proofs.NeedsNodes as nodes
use Rattle.domino_compile.proofs.PlacesLemmas.{marked_stands}
use Rattle.run_laws.specs.Run.{run_of, place_of}
use Rattle.compiled_run.proofs.GroupLemmas.{compiled_group}

-- ---- the array of a group that is touched first in text order

module _ (of : List (Option ℕ)) (g : ℕ) where
  -- whether an array is of the group
  is_of : (a : ℕ) → (number_of of a ≡ Some g) ⊎ (¬ (number_of of a ≡ Some g))
  is_of a = by (number_of of a) refl where
    by : (o : Option ℕ) → number_of of a ≡ o → (number_of of a ≡ Some g) ⊎ (¬ (number_of of a ≡ Some g))
    by None e = inr (λ is. absurd (none (sym e ∙ is))) where
      none : None ≡ Some g → ⊥
      none k = cc
    by (Some n) e = elim (eqb_tells n g) [
      | inl same ↦ inl (e ∙ ap Some same.1)
      | inr other ↦ inr (λ is. other.1 (number (sym e ∙ is)))
    ] where
      number : Some n ≡ Some g → n ≡ g
      number k = cc

  -- the first of these arrays that is
  abbrev FirstOf : List ℕ → Type 0
  FirstOf xs = (a : ℕ) × (before : List ℕ) × (after : List ℕ) × (xs ≡ before ++ a ∷ after) × (number_of of a ≡ Some g) × NoneOf of g before

  first_or_none : (xs : List ℕ) → FirstOf xs ⊎ NoneOf of g xs
  first_or_none [] = inr tt
  first_or_none (x ∷ xs) = elim (is_of x) [
    | inl is ↦ inl (x, [], xs, refl, is, tt)
    | inr other ↦ elim (first_or_none xs) [
      | inl f ↦ inl (f.0, x ∷ f.1, f.2, ap (λ l. x ∷ l) f.3, f.4, (other, f.5))
      | inr none ↦ inr (other, none)
    ]
  ]

  none_front : (xs ys : List ℕ) → NoneOf of g (xs ++ ys) → NoneOf of g xs
  none_front [] ys none = tt
  none_front (x ∷ xs) ys none = (none.0, none_front xs ys none.1)

  none_back : (xs ys : List ℕ) → NoneOf of g (xs ++ ys) → NoneOf of g ys
  none_back [] ys none = none
  none_back (x ∷ xs) ys none = none_back xs ys none.1

  module _ (V : Type 0) (d : Domain V) (indexes : Indexes V) (a : ℕ) (has : number_of of a ≡ Some g) where
    -- nothing is known of the array
    abbrev IsUnknown : List (Option (Copy V)) → Type 0
    IsUnknown copies = get_or copies a None ≡ None

    set_away : (b : ℕ) (x : Option (Copy V)) (copies : List (Option (Copy V))) → ¬ (number_of of b ≡ Some g) → IsUnknown copies → IsUnknown (slice_set copies b x)
    set_away b x copies other un = get_or-set_other copies b a x None (λ same. other (ap (number_of of) (sym same) ∙ has)) ∙ un

    touch_away : (fields : List V) (guard : V) (arrays : List ℕ) (copies : List (Option (Copy V))) → NoneOf of g arrays → IsUnknown copies → IsUnknown (fold (touch V d indexes fields guard) copies arrays)
    touch_away fields guard [] copies none un = un
    touch_away fields guard (b ∷ arrays) copies none un = touch_away fields guard arrays (touch V d indexes fields guard copies b) none.1 (set_away b _ copies none.0 un)

    line_away : (l : GuardLine) (s : Guarded V) → NoneOf of g (line_arrays l) → IsUnknown s.copies → IsUnknown (guard_line V d indexes l s).copies
    line_away (line.Test cond under holds fails) s none un = touch_away s.fields _ (line_arrays (line.Test cond under holds fails)) s.copies none un
    line_away (line.SetField f guard e) s none un = touch_away s.fields _ (line_arrays (line.SetField f guard e)) s.copies none un
    line_away (line.SetCell b guard e) s none un = set_away b _ _ none.0 (touch_away s.fields _ (line_arrays (line.SetCell b guard e)) s.copies none un)

    -- nor behind lines that touch none of the group
    lines_away : (lines : List GuardLine) (s : Guarded V) → NoneOf of g (flat_map line_arrays lines) → IsUnknown s.copies → IsUnknown (guard_lines V d indexes lines s).copies
    lines_away [] s none un = un
    lines_away (l ∷ lines) s none un =
        lines_away lines (guard_line V d indexes l s) (none_back (line_arrays l) (flat_map line_arrays lines) none)
        (line_away l s (none_front (line_arrays l) (flat_map line_arrays lines) none) un)

unknown_start : {X : Type 0} (n a : ℕ) (x : X) → get_or (replicate n x) a x ≡ x
unknown_start zero a x = refl
unknown_start (suc n) zero x = refl
unknown_start (suc n) (suc a) x = unknown_start n a x

-- the arrays of guarded lines, one line after another, are those of the sites
line_touches : (l : GuardLine) → line_arrays l ≡ (of_line l).touches
line_touches (line.Test cond under holds fails) = refl
line_touches (line.SetField f guard e) = refl
line_touches (line.SetCell a guard e) = refl

lines_touch : (lines : List GuardLine) → flat_map line_arrays lines ≡ flat_map (λ (x : Part). x.touches) (map of_line lines)
lines_touch [] = refl
lines_touch (l ∷ lines) = λ i. line_touches l i ++ lines_touch lines i

sites_touch : (sites : List Site) → flat_map (λ (x : Part). x.touches) (map of_site sites) ≡ flat_map (λ (s : Site). s.touches) sites
sites_touch [] = refl
sites_touch (s ∷ sites) = ap (λ l. s.touches ++ l) (sites_touch sites)

text_lines : (p : Program) → flat_map line_arrays (body_lines (numbered_body p)) ≡ text_order p
text_lines p = lines_touch (body_lines (numbered_body p)) ∙ ap (flat_map (λ (x : Part). x.touches)) (parts_same (numbered_body p)) ∙ sites_touch (program_sites p)

-- a group with a touched array has one that is touched first
first_touched : (p : Program) (names : PassesNames p) (of : List (Option ℕ)) (g a : ℕ) → number_of of a ≡ Some g → IsTouched p a → (b : ℕ) × IsFirstTouched p of g b
first_touched p names of g a has touched = elim (first_or_none of g (text_order p)) [
  | inl f ↦ (f.0, (f.1, f.2, f.3, f.4, f.5))
  | inr none ↦ (
      let lines : List GuardLine = body_lines (numbered_body p) in
      let away : get_or (lines_from (List ℕ) sources (shapes_of p) lines (no_sources p)).copies a None ≡ None =
      lines_away of g (List ℕ) sources _ a has lines _ (subst (NoneOf of g) (sym (text_lines p)) none) (unknown_start (length (shapes_of p)) a None) in
      absurd (subst HasCopy (ap (λ l. get_or l a None) (sym (lines_follow p names (List ℕ) sources (no_sources p)).copies) ∙ away) touched))
]

-- ---- an index behind which no array stands

module _ (p : Program) (g : GuardCode) (f : FlatCode) (is : IsCodeOf p g f) (header : List ℤ) (long : length header ≡ length p.packet.fields) (loads : Loads) where
  abbrev domain : Domain ℤ
  domain = words (flat_length f.arrays) loads

  -- the values of all slots
  abbrev vals : List ℤ
  vals = flat_values ℤ domain f.fields f.arrays f.instrs header

  -- the last words of the fields
  abbrev last : List ℤ
  last = map (operand_word vals) f.last

  abbrev ended : Guarded ℤ
  ended = lines_from ℤ domain g.arrays g.lines header

  within : length header ≡ f.fields
  within = long ∙ sym is.fields ∙ sym is.width

  operand_same : (x : Operand) → operand_word vals x ≡ operand_value ℤ domain vals x
  operand_same (operand.Slot k) = refl
  operand_same (operand.Number n) = refl

  last_is : last ≡ ended.fields
  last_is =
      let ends = meaning.means_at g.fields g.arrays g.lines g.valid f.arrays is.flat_arrays f.instrs f.last is.instrs is.last ℤ domain header (long ∙ sym is.fields) in
      (λ i. map (λ x. operand_same x i) f.last)
      ∙ (λ i. map (operand_value ℤ domain (flat_values ℤ domain (is.width i) f.arrays f.instrs header)) f.last)
      ∙ ends.fields

  -- what the header tells of an operand
  abbrev mark_of : Operand → Mark
  mark_of x = operand_mark (code_marks f header) x

  word_tells : (x : Operand) → Tells (mark_of x) (operand_word vals x)
  word_tells (operand.Slot k) =
      related_at Mark ℤ (marks (flat_length f.arrays)) domain Tells (marks_tell (flat_length f.arrays) loads) (code_marks f header) vals k (tell_words f.fields f.arrays f.instrs header within loads)
  word_tells (operand.Number n) = (marks_tell (flat_length f.arrays) loads).number n

  mark_sources : (x : Operand) → nodes.value p g f is x ≡ (mark_of x).arrays
  mark_sources (operand.Slot k) =
      (λ i. at (List ℕ) sources.ops (flat_values (List ℕ) sources f.fields f.arrays f.instrs (replicate (sym (is.width ∙ is.fields) i) [])) k)
      ∙ sources_are f.fields f.arrays f.instrs header within k
  mark_sources (operand.Number n) = refl

  module _ (a : ℕ) (k : Copy Operand) (e : known p g f is a ≡ Some k) where
    -- its word is that of the array's index on the last words
    index_word : operand_word vals k.index ≡ index_value ℤ word_ops (index_at (shapes_of p) a) last
    index_word =
        operand_same k.index
        ∙ (λ i. operand_value ℤ domain (flat_values ℤ domain (is.width i) f.arrays (is.instrs i) header) k.index)
        ∙ ap (operand_value ℤ domain (flat_values ℤ domain g.fields f.arrays (flat_instrs g.fields g.arrays g.lines) header)) (sym (meaning.index_is g.fields g.arrays g.lines g.valid f.arrays is.flat_arrays a k e))
        ∙ meaning.index_word_is g.fields g.arrays g.lines g.valid f.arrays is.flat_arrays ℤ domain header (long ∙ sym is.fields) a (some_guards p g f is a k e)
        ∙ (λ i. index_value ℤ word_ops (index_at (is.arrays i) a) (sym last_is i))

    clean_mark : index_sources (source_copy p a) ≡ [] → (mark_of k.index).arrays ≡ []
    clean_mark clean = sym (mark_sources k.index) ∙ sym (ap index_sources (source_stands p g f is a ∙ ap (stood (nodes.value p g f is)) e)) ∙ clean

    -- so the place that the header tells is that of the index on the last words
    place_stays : index_sources (source_copy p a) ≡ [] → marked_place (cells_of p a) (marked_copy p header a) ≡ place (indexing p) a last
    place_stays clean =
        let copy : marked_copy p header a ≡ stood mark_of (Some k) = sym (marked_stands p g f is header long a) ∙ ap (stood mark_of) e in
        let word : (mark_of k.index).word ≡ index_value ℤ word_ops (index_at (shapes_of p) a) last = (word_tells k.index).clean (clean_mark clean) ∙ index_word in
        ap (marked_place (cells_of p a)) copy
        ∙ (λ i. cell (word i) (sym (length_same p a) i))
        ∙ sym (all_places (shapes_of p) loads [] (indexing p) (index_same p is.passes.names) (length_same p) a last)

-- ---- the unit of a place

-- the only cell of an array is cell 0
one_cell : (index : Option CheckedExpr) (fields : List ℤ) → place_by index 1 fields ≡ 0
one_cell None fields = refl
one_cell (Some x) fields = let less : cell (plain_value x fields) 1 < 1 = cell_below (plain_value x fields) 1 (omega arith) in omega (arith, less)

none_some : (g : ℕ) → None ≡ Some g → ⊥
none_some g e = cc

of_within : (of : List (Option ℕ)) (a g : ℕ) → number_of of a ≡ Some g → a < length of
of_within [] a g e = absurd (none_some g e)
of_within (o ∷ of) zero g e = omega arith
of_within (o ∷ of) (suc a) g e = let rest : a < length of = of_within of a g e in omega (arith, rest)

some_place : (o : Option ℕ) (u : ℕ) (p : Program) (header : List ℤ) (of : List (Option ℕ)) (g : ℕ) → o ≡ Some u → IsPlaceOf p header of g o → IsUnit p header of g u
some_place o u p header of g e is = (subst (IsPlaceOf p header of g) e is).1

module _ (p : Program) (c : Staged) (headers : List (List ℤ)) (settings : Settings) (is : IsCompiled p c) (wide : AreWide c headers) (t g u : ℕ) (early : t < length headers) (low : g < length c.groups)
    (placed : place_of (run_of c headers settings) t g ≡ Some u) where
  abbrev guarded : GuardCode
  guarded = is.made.guarded

  abbrev flat : FlatCode
  flat = is.made.flat

  abbrev of : List (Option ℕ)
  of = is.groups.of

  abbrev header : List ℤ
  header = header_in headers t

  abbrev loads : Loads
  loads = staged_loads c (units_over c (start_units c) (take t headers)) header

  -- the packet's last words
  abbrev packet : List ℤ
  packet = cells_at (one p headers).packets t

  abbrev first : ℕ
  first = first_array (group_at c g)

  long : length header ≡ c.fields
  long = wide t [] early

  as_long : length header ≡ length p.packet.fields
  as_long = long ∙ is.fields

  packet_is : last p guarded flat is.made.code header as_long loads ≡ packet
  packet_is =
      (λ i. map (operand_word (flat_values ℤ (words (flat_length (sym is.made.resolved.1 i).arrays) loads) (sym is.made.resolved.1 i).fields (sym is.made.resolved.1 i).arrays (sym is.made.resolved.1 i).instrs header)) (sym is.made.resolved.1 i).last)
      ∙ (is.runs headers wide).packets t early

  unit_is : IsUnit p header of g u
  unit_is = some_place (place_of (run_of c headers settings) t g) u p header of g placed (is.groups.places header long g low)

  group_is : IsGroup c g
  group_is = compiled_group p c is g low

  first_of : number_of of first ≡ Some g
  first_of = is.groups.numbers first ∙ (group_is.there first (first_member (group_at c g).arrays group_is.some)).1

  -- an array of the group is known to the code
  known_array : (a : ℕ) → number_of of a ≡ Some g → (k : Copy Operand) × (known p guarded flat is.made.code a ≡ Some k)
  known_array a has = by_copy (known p guarded flat is.made.code a) refl where
    by_copy : (o : Option (Copy Operand)) → known p guarded flat is.made.code a ≡ o → (k : Copy Operand) × (known p guarded flat is.made.code a ≡ Some k)
    by_copy (Some k) e = (k, e)
    by_copy None e =
        let untouched : number_of of a ≡ None = is.groups.groups.untouched a (of_within of a g has)
        (subst HasCopy (source_stands p guarded flat is.made.code a ∙ ap (stood (nodes.value p guarded flat is.made.code)) e)) in
        absurd (none_some g (sym untouched ∙ has))

  -- where the group is sharded, it is what the index of the first array names
  sharded_unit : IsSharded p of g → u ≡ place (indexing p) first packet
  sharded_unit sharded =
      let used = is.groups.groups.used g low in
      let b : (b : ℕ) × IsFirstTouched p of g b = first_touched p is.made.code.passes.names of g used.0 used.3 used.2 in
      let of_b : number_of of b.0 ≡ Some g = b.1.3 in
      let same_index = sharded.index b.0 first of_b first_of in
      let same_length = sharded.length b.0 first of_b first_of in
      let k = known_array b.0 of_b in
      unit_is.sharded sharded b.0 b.1
      ∙ place_stays p guarded flat is.made.code header as_long loads b.0 k.0 k.1 (sharded.clean b.0 of_b)
      ∙ (λ i. place_by (same_index i) (same_length i) (packet_is i))

  -- where it is the only one, it is 0
  sharded_first : IsSharded p of g → unit_count c (group_at c g) ≡ 1 → u ≡ 0
  sharded_first sharded only =
      let cells : cells_of p first ≡ 1 = sym ((is.groups.units g low).sharded sharded first first_of) ∙ only in
      sharded_unit sharded ∙ ap (λ n. place_by ((indexing p).index first) n packet) cells ∙ one_cell ((indexing p).index first) packet

  -- the unit of a place is the cell that the index of its group's first array names on the packet's last words; 0 where
  -- the group has one unit
  pub named_place : (if unit_count c (group_at c g) == 1 then 0 else place (indexing p) first packet) ≡ u
  named_place = by_sharded (group_at c g).sharded refl where
    pinned : (group_at c g).sharded ≡ false → IsSharded p of g → ⊥
    pinned e sharded = true≢false (sym ((is.groups.sharded g low).1 sharded) ∙ e)

    by_sharded : (b : Bool) → (group_at c g).sharded ≡ b → (if unit_count c (group_at c g) == 1 then 0 else place (indexing p) first packet) ≡ u
    by_sharded false e =
        let only : unit_count c (group_at c g) ≡ 1 = ap (λ (b : Bool). if b then flat_length c.arrays first else 1) e in
        ap (λ n. if n == 1 then 0 else place (indexing p) first packet) only ∙ sym (unit_is.pinned (pinned e))
    by_sharded true e =
        let sharded : IsSharded p of g = (is.groups.sharded g low).0 e in
        elim (eqb_tells (unit_count c (group_at c g)) 1) [
          | inl same ↦ ap (λ (b : Bool). if b then 0 else place (indexing p) first packet) same.0 ∙ sym (sharded_first sharded same.1)
          | inr other ↦ ap (λ (b : Bool). if b then 0 else place (indexing p) first packet) other.0 ∙ sym (sharded_unit sharded)
        ]
