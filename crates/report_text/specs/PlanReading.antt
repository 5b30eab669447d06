-- Reading the lines of a program's code one by one: what is read, and where the last line stood.
use Rattle.std.specs.Prelude.{◌≡◌, ℕ, zero, suc, ◌-◌, ◌<◌, ◌≤◌, ◌==◌, ℤ, if◌then◌else◌, List, [], ◌∷◌, ◌++◌, length, map, take, slice_index, Some, refl}
use Rattle.std.specs.List.{slice_get, slice_index_or}
use Rattle.std.specs.Coded.{Coded, code_by, coded×, coded_list, coded_ℤ}
use Rattle.domino_tree.specs.declared.program.Program.{Program}
use Rattle.domino_tree.specs.contracts.program.Program.{the_row as program_row}
use Rattle.code_forms.specs.contracts.staged.StagedCode.{the_row as staged_row}
use Rattle.domino_names.specs.declared.infos.ArrayInfo.{ArrayInfo}
use Rattle.domino_names.specs.Infos.{infos_of}
use Rattle.code_forms.specs.declared.flat.FlatArray.{FlatArray}
use Rattle.code_forms.specs.Staged.{Staged}
use Rattle.code_forms.specs.StagedMeaning.{place, place_code}
use Rattle.report_text.specs.Report.{done_line}
use Rattle.report_text.specs.PlanLines.{place_line, arrival_lines, plan_lines}

-- a program, its code, and the headers whose places are told
pub record Planned : Type 0 where
  pub program : Program
  pub code : Staged
  pub headers : List (List ℤ)

-- they are stored as a pair of the program and the others
abbrev pub planned_code : Coded Planned
planned_code =
    code_by (Program × (Staged × List (List ℤ))) (coded× program_row.coded (coded× staged_row.coded (coded_list (coded_list coded_ℤ)))) (λ p. (p.program, (p.code, p.headers)))
    (λ p. record { program = p.0; code = p.1.0; headers = p.1.1 }) (λ _. refl)

-- the lines of the text that tells of them
abbrev pub lines_in : Planned → List (List ℕ)
lines_in p = plan_lines p.program p.code p.headers

-- each header has so many words
abbrev pub AreHeaders : ℕ → List (List ℤ) → Type 0
AreHeaders width headers = (t : ℕ) (h : List ℤ) → slice_get headers t ≡ Some h → length h ≡ width

-- the code has the fields and arrays of the program, and the headers are its own
pub record BelongTogether (p : Program) (c : Staged) (headers : List (List ℤ)) : Type 0 where
  pub fields : c.fields ≡ length p.packet.fields
  pub arrays : map (λ (f : FlatArray). f.length) c.arrays ≡ map (λ (i : ArrayInfo). i.length) (infos_of p)
  pub wide : AreHeaders c.fields headers

-- line k of some lines, and no bytes behind the last
abbrev pub line_at : List (List ℕ) → ℕ → List ℕ
line_at lines k = slice_index_or lines k []

-- such a text is line k of these lines
pub record IsLine (lines : List (List ℕ)) (k : ℕ) (text : List ℕ) : Type 0 where
  pub there : k < length lines
  pub same : text ≡ line_at lines k

-- there is no line k of these lines, and so the text is empty
pub record IsBehind (lines : List (List ℕ)) (k : ℕ) (text : List ℕ) : Type 0 where
  pub past : length lines ≤ k
  pub empty : text ≡ []

-- the line of a place that is told as a number: none for 0, and else 1 more than the unit
abbrev pub number_lines : ℕ → ℕ → ℕ → List (List ℕ)
number_lines t g n = if n == 0 then [] else place_line t g (n - 1) ∷ []

-- the lines of such places at the first n groups
abbrev pub numbers_lines : ℕ → List ℕ → ℕ → List (List ℕ)
numbers_lines t places zero = []
numbers_lines t places (suc n) = numbers_lines t places n ++ number_lines t n (slice_index places n)

-- where the reading of the places stands: at an arrival, with its places, behind so many lines
pub record Reading : Type 0 where
  pub code : Staged
  pub headers : List (List ℤ)
  pub arrival : ℕ
  pub before : ℕ
  pub places : List ℕ

-- these are the places of an arrival as numbers, where there is such an arrival
abbrev pub ArePlacesOf : Staged → List (List ℤ) → ℕ → List ℕ → Type 0
ArePlacesOf c headers t places = (h : List ℤ) → slice_get headers t ≡ Some h → (g : ℕ) → g < 16 → slice_index places g ≡ place_code (place c h g)

-- how many lines the places of the first t headers have
abbrev pub lines_before : Staged → ℕ → List (List ℤ) → ℕ
lines_before c t headers = length (arrival_lines c 0 (take t headers))

-- the places are those of the arrival, of at most sixteen groups, and the lines before it are counted
pub record IsReading (r : Reading) : Type 0 where
  pub inside : r.arrival ≤ length r.headers
  pub counted : r.before ≡ lines_before r.code r.arrival r.headers
  pub places : ArePlacesOf r.code r.headers r.arrival r.places
  pub few : r.arrival < length r.headers → length r.code.groups ≤ 16
  pub wide : AreHeaders r.code.fields r.headers

-- the lines of all places, and the last line
abbrev pub later_lines : Staged → List (List ℤ) → List (List ℕ)
later_lines c headers = arrival_lines c 0 headers ++ (done_line (length headers) ∷ [])
