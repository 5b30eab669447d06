-- A run on a bench, packet by packet.
use Rattle.std.proofs.Common.{◌≡◌, ◌≤◌, ◌<◌, ◌∙◌, ◌+◌, ◌*◌, ℕ, ℤ, List, [], ◌∷◌, ◌++◌, length, map, get_or, slice_index, take, drop, Some, refl, sym, ap, append_assoc, arith}
use Rattle.std.specs.Prelude.{slice_get}
use Rattle.std.specs.List.{flat_map}
use Rattle.std.proofs.lemmas.List.{append-nil, drop_all, drop_more, drop-drop, flat_map_more, get_or-map, length-append, length-drop, length-map, length-take-le, take_all, take_more}
use Rattle.std.proofs.lemmas.List.Sums.{sum_by_more, sum_by_more_le}
use Rattle.std.proofs.Math.Seq.{drop-append_seam, take-append-add, take-append_seam}
use Rattle.std.proofs.lemmas.Option.{get_or_from_slice_get, slice_get_within}
use Rattle.domino_tree.specs.declared.program.Program.{Program}
use Rattle.domino_tree.specs.Value.{HasCells, names_of, cell_counts}
use Rattle.mp5_words.specs.Cells.{cells_at}
use Rattle.domino_names.specs.declared.infos.ArrayInfo.{ArrayInfo}
use Rattle.domino_names.specs.Infos.{infos_of}
use Rattle.domino_tree.specs.Sequential.{start_cells}
use Rattle.domino_eval.specs.Parts.{Held, executed}
use Rattle.capture_io.specs.Rows.{rows}
use Rattle.capture_io.proofs.PacketRows.{length-rows, slice_get-rows}
use Rattle.report_text.specs.Report.{cell_count}
use Rattle.switch_runner.specs.Running.{IsEnd, run_bench}
use Rattle.switch_runner.specs.Top.{AreWide}
use Rattle.switch_runner.proofs.Lengths.{declared-cells}
use Rattle.switch_runner.proofs.TopLemmas.{rows_back}

-- the bench with other cells
abbrev pub with_cells : Held → List (List ℤ) → Held
with_cells bench cells = record { program = bench.program; cells = cells }

-- what is left begins with the header there
drop_here : (headers : List (List ℤ)) (t : ℕ) (header : List ℤ) → slice_get headers t ≡ Some header → drop t headers ≡ header ∷ drop (t + 1) headers
drop_here headers t header there =
    drop_more headers t header (slice_get_within headers t header there)
    ∙ ap (λ h. h ∷ drop (t + 1) headers) (get_or_from_slice_get headers t header header there)

-- one packet more: what is run so far and what is left make the whole run
pub packets_more : (bench next : Held) (headers : List (List ℤ)) (t : ℕ) (header packets whole new_packets : List ℤ)
    → slice_get headers t ≡ Some header
    → new_packets ≡ packets ++ (executed bench header).store.fields
    → next ≡ with_cells bench (executed bench header).store.cells
    → packets ++ flat_map (λ p. p) (run_bench bench (drop t headers)).packets ≡ whole
    → new_packets ++ flat_map (λ p. p) (run_bench next (drop (t + 1) headers)).packets ≡ whole
packets_more bench next headers t header packets whole new_packets there pushed written before =
    let rest = drop (t + 1) headers in
    let fields : List ℤ = (executed bench header).store.fields in
    let after : Held = with_cells bench (executed bench header).store.cells in
    ap (λ l. l ++ flat_map (λ p. p) (run_bench next rest).packets) pushed
    ∙ ap (λ (b : Held). (packets ++ fields) ++ flat_map (λ p. p) (run_bench b rest).packets) written
    ∙ append_assoc packets fields (flat_map (λ p. p) (run_bench after rest).packets)
    ∙ sym (ap (λ l. packets ++ flat_map (λ p. p) (run_bench bench l).packets) (drop_here headers t header there))
    ∙ before

-- the same for the cells
pub cells_more : (bench next : Held) (headers : List (List ℤ)) (t : ℕ) (header : List ℤ) (whole : List (List ℤ))
    → slice_get headers t ≡ Some header
    → next ≡ with_cells bench (executed bench header).store.cells
    → (run_bench bench (drop t headers)).cells ≡ whole
    → (run_bench next (drop (t + 1) headers)).cells ≡ whole
cells_more bench next headers t header whole there written before =
    ap (λ (b : Held). (run_bench b (drop (t + 1) headers)).cells) written
    ∙ sym (ap (λ l. (run_bench bench l).cells) (drop_here headers t header there))
    ∙ before

-- ---- the packets of a run, in one list of words

-- the words after one packet more: those before it, its own, and those behind it
pub record Step (words new fields : List ℤ) (start width : ℕ) : Type 0 where
  pub within : start + width ≤ length words
  pub new_is : new ≡ take start words ++ (fields ++ drop (start + width) words)
  pub wide : length fields ≡ width

step_front : (words new fields : List ℤ) (start width : ℕ) → Step words new fields start width → take (start + width) new ≡ take start words ++ fields
step_front words new fields start width s =
    let first : length (take start words) ≡ start = length-take-le start words (omega (arith, s.within)) in
    let both : start + width ≡ length (take start words) + length fields = omega (arith, first, s.wide) in
    ap (take (start + width)) s.new_is
    ∙ ap (λ (n : ℕ). take n (take start words ++ (fields ++ drop (start + width) words))) both
    ∙ take-append-add (take start words) (fields ++ drop (start + width) words) (length fields)
    ∙ ap (λ (l : List ℤ). take start words ++ l) (take-append_seam fields (drop (start + width) words))

step_back : (words new fields : List ℤ) (start width : ℕ) → Step words new fields start width → drop (start + width) new ≡ drop (start + width) words
step_back words new fields start width s =
    let first : length (take start words) ≡ start = length-take-le start words (omega (arith, s.within)) in
    let both : start + width ≡ length (take start words ++ fields) = omega (arith, first, s.wide, length-append (take start words) fields) in
    ap (drop (start + width)) (s.new_is ∙ sym (append_assoc (take start words) fields (drop (start + width) words)))
    ∙ ap (λ (n : ℕ). drop n ((take start words ++ fields) ++ drop (start + width) words)) both
    ∙ drop-append_seam (take start words ++ fields) (drop (start + width) words)

step_length : (words new fields : List ℤ) (start width : ℕ) → Step words new fields start width → length new ≡ length words
step_length words new fields start width s =
    let first : length (take start words) ≡ start = length-take-le start words (omega (arith, s.within)) in
    ap length s.new_is
    ∙ omega (arith, s.within, s.wide, first, length-append (take start words) (fields ++ drop (start + width) words), length-append fields (drop (start + width) words), length-drop (start + width) words)

-- a run has come to packet t: those before it are done, it and the others stand as they did at first, and what is
-- left ends as the whole run does
pub record Comes (first now : Held) (initial words : List ℤ) (count width t : ℕ) : Type 0 where
  pub long : length words ≡ count * width
  pub left : drop (t * width) words ≡ drop (t * width) initial
  pub program : now.program ≡ first.program
  pub packets :
      take (t * width) words ++ flat_map (λ (p : List ℤ). p) (run_bench now (drop t (rows count width initial))).packets
      ≡ flat_map (λ (p : List ℤ). p) (run_bench first (rows count width initial)).packets
  pub cells : (run_bench now (drop t (rows count width initial))).cells ≡ (run_bench first (rows count width initial)).cells

pub comes_first : (bench : Held) (words : List ℤ) (count width : ℕ) → length words ≡ count * width → Comes bench bench words words count width 0
comes_first bench words count width e =
    let none : 0 * width ≡ 0 = omega arith in
    record {
      long = e;
      left = refl;
      program = refl;
      packets = ap (λ (n : ℕ). take n words ++ flat_map (λ (p : List ℤ). p) (run_bench bench (rows count width words)).packets) none;
      cells = refl;
    }

-- the header of the next packet stands in the words
header_there : (initial words : List ℤ) (count width t : ℕ) → t < count → drop (t * width) words ≡ drop (t * width) initial → slice_get (rows count width initial) t ≡ Some (take width (drop (t * width) words))
header_there initial words count width t h left = slice_get-rows count width initial t h ∙ ap (λ (l : List ℤ). Some (take width l)) (sym left)

pub comes_next : (first now next : Held) (initial words new : List ℤ) (count width t : ℕ) → t < count
    → Step words new (executed now (take width (drop (t * width) words))).store.fields (t * width) width
    → next ≡ with_cells now (executed now (take width (drop (t * width) words))).store.cells
    → Comes first now initial words count width t → Comes first next initial new count width (t + 1)
comes_next first now next initial words new count width t h step after before =
    let header : List ℤ = take width (drop (t * width) words) in
    let there : slice_get (rows count width initial) t ≡ Some header = header_there initial words count width t h before.left in
    let more : (t + 1) * width ≡ t * width + width = omega arith in
    let whole : List ℤ = flat_map (λ (p : List ℤ). p) (run_bench first (rows count width initial)).packets in
    let pushed : take ((t + 1) * width) new ≡ take (t * width) words ++ (executed now header).store.fields =
    ap (λ (n : ℕ). take n new) more ∙ step_front words new (executed now header).store.fields (t * width) width step in
    record {
      long = step_length words new (executed now header).store.fields (t * width) width step ∙ before.long;
      left =
          ap (λ (n : ℕ). drop n new) more
          ∙ step_back words new (executed now header).store.fields (t * width) width step
          ∙ sym (drop-drop width (t * width) words)
          ∙ ap (drop width) before.left
          ∙ drop-drop width (t * width) initial
          ∙ ap (λ (n : ℕ). drop n initial) (sym more);
      program = ap (λ (b : Held). b.program) after ∙ before.program;
      packets = packets_more now next (rows count width initial) t header (take (t * width) words) whole (take ((t + 1) * width) new) there pushed after before.packets;
      cells = cells_more now next (rows count width initial) t header (run_bench first (rows count width initial)).cells there after before.cells;
    }

-- no row is left
no_rows : (count width : ℕ) (initial : List ℤ) → drop count (rows count width initial) ≡ []
no_rows count width initial = drop_all count (rows count width initial) (let e : length (rows count width initial) ≡ count = length-rows count width initial in omega arith)

pub ended_packets : (first now : Held) (initial words : List ℤ) (count width : ℕ) → Comes first now initial words count width count → words ≡ flat_map (λ (p : List ℤ). p) (run_bench first (rows count width initial)).packets
ended_packets first now initial words count width c =
    let all : take (count * width) words ≡ words = take_all (count * width) words (omega (arith, c.long)) in
    sym all
    ∙ sym (append-nil (take (count * width) words))
    ∙ ap (λ (l : List (List ℤ)). take (count * width) words ++ flat_map (λ (p : List ℤ). p) (run_bench now l).packets) (sym (no_rows count width initial))
    ∙ c.packets

pub ended_bench : (first now : Held) (initial words : List ℤ) (count width : ℕ) → Comes first now initial words count width count → now ≡ with_cells first (run_bench first (rows count width initial)).cells
ended_bench first now initial words count width c =
    let cells : now.cells ≡ (run_bench first (rows count width initial)).cells =
    ap (λ (l : List (List ℤ)). (run_bench now l).cells) (sym (no_rows count width initial)) ∙ c.cells in
    ap (λ (p : Program). record { program = p; cells = now.cells }) c.program ∙ ap (λ (l : List (List ℤ)). record { program = first.program; cells = l }) cells

-- a run over a capture's words from the start values on is the program's
pub run_end : (program : Program) (bench : Held) (headers : List (List ℤ)) (count width : ℕ) (initial words cells : List ℤ) (after : Held)
    → bench ≡ record { program = program; cells = start_cells (names_of program) }
    → AreWide width headers → count ≡ length headers
    → initial ≡ flat_map (λ (p : List ℤ). p) headers
    → words ≡ flat_map (λ (p : List ℤ). p) (run_bench bench (rows count width initial)).packets
    → after ≡ with_cells bench (run_bench bench (rows count width initial)).cells
    → cells ≡ flat_map (λ (c : List ℤ). c) after.cells
    → IsEnd program headers count words cells
run_end program bench headers count width initial words cells after begins wide e is packets ends collected =
    let back : rows count width initial ≡ headers = ap (λ (n : ℕ). rows n width initial) e ∙ ap (rows (length headers) width) is ∙ rows_back width headers wide in
    record {
      arrivals = e;
      packets =
          packets
          ∙ ap (λ (l : List (List ℤ)). flat_map (λ (p : List ℤ). p) (run_bench bench l).packets) back
          ∙ ap (λ (b : Held). flat_map (λ (p : List ℤ). p) (run_bench b headers).packets) begins;
      registers =
          collected
          ∙ ap (λ (b : Held). flat_map (λ (c : List ℤ). c) b.cells) ends
          ∙ ap (λ (l : List (List ℤ)). flat_map (λ (c : List ℤ). c) (run_bench bench l).cells) back
          ∙ ap (λ (b : Held). flat_map (λ (c : List ℤ). c) (run_bench b headers).cells) begins;
    }

-- ---- the cells of a bench, in one list of words

-- the cells of one array more
pub arrays_more : (cells : List (List ℤ)) (a : ℕ) (words new : List ℤ) → a < length cells → words ≡ flat_map (λ c. c) (take a cells) → new ≡ words ++ cells_at cells a → new ≡ flat_map (λ c. c) (take (a + 1) cells)
arrays_more cells a words new h before more =
    more
    ∙ ap (λ l. l ++ cells_at cells a) before
    ∙ flat_map_more (λ (c : List ℤ). c) [] (take a cells) (cells_at cells a)
    ∙ ap (λ l. flat_map (λ (c : List ℤ). c) l) (sym (take_more cells a [] h))

-- there is an array for each that is declared
pub arrays_there : (p : Program) (infos : List ArrayInfo) (cells : List (List ℤ)) → infos ≡ infos_of p → HasCells (names_of p) cells → length cells ≡ length infos
arrays_there p infos cells i has =
    sym (length-map cells (λ (c : List ℤ). length c))
    ∙ ap length (has ∙ declared-cells p)
    ∙ length-map (infos_of p) (λ (i : ArrayInfo). i.length)
    ∙ ap length (sym i)

-- an array has as many cells as it is declared with
pub declared_at : (p : Program) (infos : List ArrayInfo) (a : ℕ) (info : ArrayInfo) → infos ≡ infos_of p → a < length infos → info ≡ get_or infos a info → slice_index (cell_counts (names_of p)) a ≡ info.length
declared_at p infos a info i h e =
    ap (λ l. slice_index l a) (declared-cells p ∙ ap (λ (l : List ArrayInfo). map (λ (i : ArrayInfo). i.length) l) (sym i))
    ∙ get_or-map (λ (i : ArrayInfo). i.length) infos a info 0 h
    ∙ ap (λ (i : ArrayInfo). i.length) (sym e)

-- and it has them
pub cells_of_array : (p : Program) (infos : List ArrayInfo) (cells : List (List ℤ)) (a : ℕ) (info : ArrayInfo) → infos ≡ infos_of p → HasCells (names_of p) cells → a < length infos → info ≡ get_or infos a info
    → length (cells_at cells a) ≡ info.length
cells_of_array p infos cells a info i has h e =
    let there : a < length cells = omega (arith, arrays_there p infos cells i has) in
    sym (get_or-map (λ (c : List ℤ). length c) cells a [] 0 there)
    ∙ ap (λ l. slice_index l a) has
    ∙ declared_at p infos a info i h e

-- the cells of an array and of those before it are among all
pub count_within : (infos : List ArrayInfo) (a : ℕ) (info : ArrayInfo) → a < length infos → info ≡ get_or infos a info → cell_count (take a infos) + info.length ≤ cell_count infos
count_within infos a info h e =
    let f : ArrayInfo → ℕ = λ i. i.length in
    let same : info.length ≡ (get_or infos a info).length = ap (λ (i : ArrayInfo). i.length) e in
    omega (arith, sum_by_more_le f infos a info h, same)

-- and make the count of those before the next
pub count_more : (infos : List ArrayInfo) (a : ℕ) (info : ArrayInfo) → a < length infos → info ≡ get_or infos a info → cell_count (take (a + 1) infos) ≡ cell_count (take a infos) + info.length
count_more infos a info h e =
    sum_by_more (λ (i : ArrayInfo). i.length) infos a info h ∙ ap (λ (i : ArrayInfo). cell_count (take a infos) + i.length) (sym e)
