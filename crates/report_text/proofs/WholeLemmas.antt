-- The lines of a whole report, part by part.
use Rattle.std.proofs.Common.{◌≡◌, ◌≤◌, ◌+◌, ◌/◌, ◌%◌, ◌==◌, ℕ, zero, suc, ℤ, List, [], ◌∷◌, ◌++◌, length, map, take, drop, slice_index, Bool, true, false, refl, ap, subst, arith}
use Rattle.std.proofs.lemmas.List.{length-append, take-append-drop}
use Rattle.std.specs.Ordering.{int_eq}
use Rattle.std.specs.Bool.{OnTrue, OnFalse}
use Rattle.capture_io.specs.Rows.{rows}
use Rattle.domino_tree.specs.declared.program.Program.{Program}
use Rattle.domino_names.specs.declared.infos.ArrayInfo.{ArrayInfo}
use Rattle.domino_names.specs.Infos.{infos_of}
use Rattle.code_forms.specs.Staged.{Staged}
use Rattle.switch_net.specs.declared.answer.Answer.{Answer}
use Rattle.switch_net.specs.Answer.{moves_of}
use Rattle.report_text.specs.declared.report.Style.{Style}
use Rattle.report_text.specs.Report.{label, packet_lines, cell_line, cell_lines, cells_in, field_lines, array_lines, done_line}
use Rattle.report_text.specs.PlanReading.{IsLine, IsBehind}
use Rattle.report_text.specs.AnswerLines.{access_lines, answer_body, answer_lines, answer_trace, entry_lines, lines_below, moves_lines, named_unit, packet_at, wanted}
use Rattle.report_text.specs.Told.{cells_told}
use Rattle.report_text.proofs.PlanLemmas.{front-line}
use Rattle.report_text.proofs.ReportLemmas.{packet-count, plan-count}
use Rattle.report_text.proofs.PartLemmas.{last-there, last-behind}
use Rattle.report_text.proofs.SumLemmas.{fields-long, arrays-few}

-- what holds in any case holds where a test is true, and where one that is true isn't
pub any-true : {P : Type 0} (b : Bool) → P → OnTrue b P
any-true true p = p
any-true false p = tt

pub not-false : (P : Type 0) (b : Bool) → b ≡ true → OnFalse b P
not-false P true e = tt
not-false P false e = absurd (cc)

module _ (p : Program) (c : Staged) (a : Answer) (style : Style) where
  -- the lines of the plans and the accesses, where they are wanted
  abbrev pub trace_part : List (List ℕ)
  trace_part = wanted style.trace (answer_trace p c a)

  -- and the last one
  abbrev pub last_part : List (List ℕ)
  last_part = done_line a.arrivals ∷ []

  pub parts : answer_body p a style.brief ++ (trace_part ++ last_part) ≡ answer_lines p c a style
  unfolding answer_lines
  parts = refl

  pub body-there : (k : ℕ) (text : List ℕ) → IsLine (answer_body p a style.brief) k text → IsLine (answer_lines p c a style) k text
  body-there k text is = subst (λ l. IsLine l k text) parts (front-line (answer_body p a style.brief) (trace_part ++ last_part) k text is)

  module _ (k left : ℕ) (passed : k ≡ length (answer_body p a style.brief) + left) where
    pub trace-there : (text : List ℕ) → IsLine trace_part left text → IsLine (answer_lines p c a style) k text
    trace-there text is = subst (λ l. IsLine l k text) parts (last-there (answer_body p a style.brief) (trace_part ++ last_part) k left text passed (front-line trace_part last_part left text is))

    module _ (rest : ℕ) (traced : left ≡ length trace_part + rest) (text : List ℕ) where
      pub end-there : IsLine last_part rest text → IsLine (answer_lines p c a style) k text
      end-there is = subst (λ l. IsLine l k text) parts (last-there (answer_body p a style.brief) (trace_part ++ last_part) k left text passed (last-there trace_part last_part left rest text traced is))

      pub end-behind : IsBehind last_part rest text → IsBehind (answer_lines p c a style) k text
      end-behind is = subst (λ l. IsBehind l k text) parts (last-behind (answer_body p a style.brief) (trace_part ++ last_part) k left text passed (last-behind trace_part last_part left rest text traced is))

-- ---- how many lines there are

one-cell : (i : ArrayInfo) (cell : ℕ) (z : ℤ) → length (cell_line i cell z) ≤ 1
one-cell i cell z = by (int_eq z i.start) refl where
  by : (b : Bool) → int_eq z i.start ≡ b → length (cell_line i cell z) ≤ 1
  by true e = rw e (omega arith)
  by false e = rw e (omega arith)

cells-few : (i : ArrayInfo) (cell : ℕ) (words : List ℤ) → length (cell_lines i cell words) ≤ length words
cells-few i cell [] = omega arith
cells-few i cell (z ∷ words) =
    let one = one-cell i cell z in
    let rest = cells-few i (cell + 1) words in
    let all = length-append (cell_line i cell z) (cell_lines i (cell + 1) words) in
    omega (arith, one, rest, all)

-- at most one for each cell
told-few : (infos : List ArrayInfo) (words : List ℤ) → length (cells_told infos words) ≤ length words
told-few [] words = omega arith
told-few (i ∷ infos) words =
    let one = cells-few i 0 (take i.length words) in
    let rest = told-few infos (drop i.length words) in
    let all = length-append (cell_lines i 0 (take i.length words)) (cells_told infos (drop i.length words)) in
    let both = ap length (take-append-drop i.length words) in
    let cut = length-append (take i.length words) (drop i.length words) in
    omega (arith, one, rest, all, both, cut)

-- at most one for each entry
below-few : (f : ℕ → List (List ℕ)) (n : ℕ) → ((e : ℕ) → length (f e) ≤ 1) → length (lines_below f n) ≤ n
below-few f zero one = omega arith
below-few f (suc n) one =
    let here = one n in
    let rest = below-few f n one in
    let all = length-append (lines_below f n) (f n) in
    omega (arith, here, rest, all)

one-line : (t g u by touched : ℕ) → length (access_lines t g u by touched) ≤ 1
one-line t g u by touched = cases (by == 255) refl where
  cases : (b : Bool) → (by == 255) ≡ b → length (access_lines t g u by touched) ≤ 1
  cases true e = rw e (omega arith)
  cases false e = rw e (omega arith)

module _ (p : Program) (c : Staged) (a : Answer) where
  trace-few : length (answer_trace p c a) ≤ length a.plans.items + length a.by.items
  trace-few =
      let plans = plan-count a.plans.items in
      let entries = below-few (entry_lines p c a) (length a.by.items) (λ e. one-line (e / length c.groups) (e % length c.groups) (named_unit p c (e % length c.groups) (packet_at (length p.packet.fields) a.packets.items (e / length c.groups))) (slice_index a.by.items e) (slice_index a.touched.items e)) in
      let all = length-append (moves_lines 1 (moves_of a.plans.items)) (lines_below (entry_lines p c a) (length a.by.items)) in
      omega (arith, plans, entries, all)

  wanted-few : (trace : Bool) → length (wanted trace (answer_trace p c a)) ≤ length a.plans.items + length a.by.items
  wanted-few true = trace-few
  wanted-few false = omega arith

  body-few : (brief : Bool) → length (answer_body p a brief) ≤ a.arrivals + length a.cells.items + (length p.packet.fields + length (infos_of p))
  body-few true =
      let packets = rows a.arrivals (length p.packet.fields) a.packets.items in
      let fields = fields-long p.packet.fields 0 packets in
      let arrays = arrays-few (infos_of p) (cells_in (infos_of p) a.cells.items) in
      let all = length-append (field_lines p.packet.fields 0 packets) (array_lines (infos_of p) (cells_in (infos_of p) a.cells.items)) in
      omega (arith, fields, arrays, all)
  body-few false =
      let packets = packet-count (map label p.packet.fields) a.arrivals (length p.packet.fields) a.packets.items in
      let cells = told-few (infos_of p) a.cells.items in
      let all = length-append (packet_lines (map label p.packet.fields) 0 (rows a.arrivals (length p.packet.fields) a.packets.items)) (cells_told (infos_of p) a.cells.items) in
      omega (arith, packets, cells, all)

  -- the report has no more lines than these
  pub all-few : (style : Style) → length (answer_lines p c a style) ≤ a.arrivals + length a.cells.items + (length p.packet.fields + length (infos_of p)) + (length a.plans.items + length a.by.items) + 1
  all-few style =
      let lines = ap length (parts p c a style) in
      let body = body-few style.brief in
      let trace = wanted-few style.trace in
      let later = length-append (trace_part p c a style) (last_part p c a style) in
      let all = length-append (answer_body p a style.brief) (trace_part p c a style ++ last_part p c a style) in
      omega (arith, lines, body, trace, later, all)
