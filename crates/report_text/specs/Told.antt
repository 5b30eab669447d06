-- Reading the lines of a report one by one: what is told, where the last line stood, and what a part of the lines leaves.
use Rattle.std.specs.Prelude.{◌≡◌, ℕ, ◌+◌, ◌-◌, ◌*◌, ◌≤◌, ◌==◌, ℤ, true, List, [], ◌∷◌, ◌++◌, length, map, take, drop, All, count_by, Option, Some, None}
use Rattle.domino_tree.specs.declared.program.Program.{Program}
use Rattle.domino_names.specs.declared.infos.ArrayInfo.{ArrayInfo}
use Rattle.domino_names.specs.Infos.{infos_of}
use Rattle.code_forms.specs.declared.flat.FlatArray.{FlatArray}
use Rattle.code_forms.specs.Staged.{Staged}
use Rattle.shard_rounds.specs.declared.plan.Move.{Move}
use Rattle.shard_rounds.specs.declared.plan.Plan.{Plan}
use Rattle.switch_net.specs.declared.answer.Answer.{Answer}
use Rattle.report_text.specs.Report.{cell_lines, register_lines, cell_count, cells_in}
use Rattle.report_text.specs.declared.report.Style.{Style}
use Rattle.report_text.specs.declared.cells.CellPlace.{CellPlace}
use Rattle.report_text.specs.declared.accesses.EntryPlace.{EntryPlace}
use Rattle.report_text.specs.AnswerLines.{lines_below, entry_lines}
use Rattle.report_text.specs.PlanReading.{IsLine}

-- ---- what a report is made of

-- at most one move for each group, and none of another group
pub record AreFewMoves (groups : ℕ) (moves : List Move) : Type 0 where
  pub once : (g : ℕ) → count_by (λ (m : Move). m.group == g) moves ≤ 1
  pub below : All (λ (m : Move). m.group + 1 ≤ groups) moves

-- an answer has an entry for each arrival and group, and plans of few moves
pub record HasTrace (c : Staged) (a : Answer) : Type 0 where
  pub by : length a.by.items ≡ a.arrivals * length c.groups
  pub touched : length a.touched.items ≡ a.arrivals * length c.groups
  pub plans : All (λ (p : Plan). AreFewMoves (length c.groups) p.moves.items) a.plans.items

-- the code has the fields and arrays of the program, and the answer its words and cells
pub record IsOfProgram (p : Program) (c : Staged) (a : Answer) : Type 0 where
  pub fields : c.fields ≡ length p.packet.fields
  pub arrays : map (λ (f : FlatArray). f.length) c.arrays ≡ map (λ (i : ArrayInfo). i.length) (infos_of p)
  pub packets : length a.packets.items ≡ a.arrivals * length p.packet.fields
  pub cells : length a.cells.items ≡ cell_count (infos_of p)

-- a report: its lines, and the room that the longest of them takes
pub record Told : Type 0 where
  pub lines : List (List ℕ)
  pub room : ℕ

-- ---- reading a part of the lines

-- a text is line k of these lines; or there are fewer, so many are left to pass, and the text is empty
abbrev pub Puts : List (List ℕ) → ℕ → Option ℕ → List ℕ → Type 0
Puts lines k None text = IsLine lines k text
Puts lines k (Some left) text = (k ≡ length lines + left) × (text ≡ [])

-- the lines of the cells of all arrays
abbrev pub cells_told : List ArrayInfo → List ℤ → List (List ℕ)
cells_told infos words = register_lines infos (cells_in infos words)

-- those from a cell of the first array on
abbrev pub cells_left : List ArrayInfo → ℕ → List ℤ → List (List ℕ)
cells_left [] cell words = []
cells_left (i ∷ infos) cell words = cell_lines i cell (take (i.length - cell) words) ++ cells_told infos (drop (i.length - cell) words)

-- how many words the cells from one of the first array on have
abbrev pub words_left : List ArrayInfo → ℕ → ℕ
words_left [] cell = 0
words_left (i ∷ infos) cell = (i.length - cell) + cell_count infos

-- a cell is one of the first array, or behind its last
abbrev pub IsCell : List ArrayInfo → ℕ → Type 0
IsCell [] cell = Unit {0}
IsCell (i ∷ infos) cell = cell ≤ i.length

-- the reading of the cells stands at a cell of an array, with its word at a place of all words, behind so many lines
pub record IsAtCell (infos : List ArrayInfo) (words : List ℤ) (array cell at before : ℕ) : Type 0 where
  pub inside : array ≤ length infos
  pub within : IsCell (drop array infos) cell
  pub enough : at + words_left (drop array infos) cell ≡ length words
  pub counted : before ≤ length (cells_told infos words)
  pub left : drop before (cells_told infos words) ≡ cells_left (drop array infos) cell (drop at words)

-- the reading of the entries stands at one of so many, behind the lines of those before it
pub record IsAtEntry (lines : ℕ → List (List ℕ)) (count entry before : ℕ) : Type 0 where
  pub inside : entry ≤ count
  pub counted : before ≡ length (lines_below lines entry)

-- no array has a longer name than there is room for
abbrev pub HaveRoom : List ArrayInfo → ℕ → Type 0
HaveRoom infos room = All (λ (i : ArrayInfo). length i.name + 1024 ≤ room) infos

-- ---- the whole

-- the reading of a report: its answer is of the program, with its entries where the trace is told, and the reading of the
-- cells and of the entries stands somewhere
pub record IsReport (p : Program) (c : Staged) (a : Answer) (style : Style) (cells : CellPlace) (accesses : EntryPlace) : Type 0 where
  pub program : IsOfProgram p c a
  pub trace : style.trace ≡ true → HasTrace c a
  pub at_cell : IsAtCell (infos_of p) a.cells.items cells.array cells.cell cells.at cells.before
  pub at_entry : IsAtEntry (entry_lines p c a) (length a.by.items) accesses.entry accesses.before
