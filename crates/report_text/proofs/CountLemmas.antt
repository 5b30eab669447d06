-- How many lines the text of a program's code has.
use Rattle.std.proofs.Common.{◌≡◌, ◌≤◌, ◌+◌, ◌*◌, arith, ℕ, zero, suc, ℤ, List, [], ◌∷◌, length, Option, Some, None}
use Rattle.std.proofs.Math.Nat.{mul_comm}
use Rattle.std.proofs.lemmas.List.{length-append}
use Rattle.domino_tree.specs.Text.{text_of}
use Rattle.code_forms.specs.Staged.{Staged}
use Rattle.code_forms.specs.StagedMeaning.{place}
use Rattle.report_text.specs.Report.{done_line}
use Rattle.report_text.specs.PlanLines.{lines_of, place_lines, header_lines, arrival_lines, head_lines}
use Rattle.report_text.specs.PlanReading.{Planned, lines_in, later_lines}
use Rattle.report_text.proofs.TextLemmas.{head-long}

one-place : (t g : ℕ) (p : Option ℕ) → length (place_lines t g p) ≤ 1
one-place t g None = omega arith
one-place t g (Some u) = omega arith

-- a header has at most one line for each group
header-few : (c : Staged) (t : ℕ) (h : List ℤ) (n : ℕ) → length (header_lines c t h n) ≤ n
header-few c t h zero = omega arith
header-few c t h (suc n) =
    omega (arith, length-append (header_lines c t h n) (place_lines t n (place c h n)), header-few c t h n, one-place t n (place c h n))

arrivals-few : (c : Staged) (t : ℕ) (hs : List (List ℤ)) → length (arrival_lines c t hs) ≤ length hs * length c.groups
arrivals-few c t [] = omega arith
arrivals-few c t (h ∷ hs) =
    omega (arith, length-append (header_lines c t h (length c.groups)) (arrival_lines c (t + 1) hs), header-few c t h (length c.groups), arrivals-few c (t + 1) hs)

-- so the text has no more lines than these
lines-few : (p : Planned) → length (lines_in p) ≤ length (lines_of (text_of p.program)) + length p.code.groups + length p.headers * length p.code.groups + 2
lines-few p =
    let last : List (List ℕ) = done_line (length p.headers) ∷ [] in
    omega (
      arith,
      length-append (head_lines p.program p.code) (later_lines p.code p.headers),
      length-append (arrival_lines p.code 0 p.headers) last,
      head-long p,
      arrivals-few p.code 0 p.headers,
    )

-- counted from the numbers of the parts
pub lines-within : (p : Planned) (head groups headers : ℕ) → head ≡ length (lines_of (text_of p.program)) → groups ≡ length p.code.groups → headers ≡ length p.headers
    → length (lines_in p) ≤ head + groups + groups * headers + 2
lines-within p head groups headers h g n = rw (h, g, n) (omega (arith, lines-few p, mul_comm (length p.code.groups) (length p.headers)))
